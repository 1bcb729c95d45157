-- Laws of specs/Text one character at a time, and the loop of `scan_text`. Assumes nothing.
use Prim.Native.Nat.{ℕ, zero, suc, ◌+◌, ◌-◌, ◌≤◌, ◌<◌}
use mathlib.Core.Path.{◌≡◌, refl, sym, ap, ◌∙◌}
use mathlib.Core.Bool.{Bool, true, false, cond, ◌&&◌, and-true, and-false, true≢false}
use mathlib.Core.Logic.{◌⊎◌, inl, inr, ⊎_elim}
use mathlib.Core.List.{List, [], ◌∷◌, ◌++◌}
use native.Mathlib.Omega.{arith}
use native.Mathlib.Nat.{zero-add}
use native.Mathlib.Numerals.{add-one}
use borrow.Author.Tests.{leb-true, eq-eqb, ne_eqb}
use lib.Dec.{leb, eqb}
use lib.ListN.{length, take, drop, get_or, set, length-set, length-take, get_or-append}
use lib.Seq.{sets, sets-eq}
use Rattle.lists.specs.Lists.{within}
use Rattle.lists.proofs.Tests.{both, either, within_below, within_above}
use Rattle.lists.proofs.Cuts.{drop_step, drop_end}
use Rattle.characters.specs.Cells.{is_one, pair_script, is_char, is_trail, is_lead}
use Rattle.characters.specs.declared.Char.TheVariants.{One, Bad}
use Rattle.characters.specs.Text.{all_chars, is_stop, text}
use Rattle.characters.specs.Scanning.{char_of, char_at, comma_count, commas_from}
use Rattle.scanning.specs.Scans.{Sixteen, ScanOf}
use Rattle.characters.proofs.CharLaws.{one_go}

-- ---- one character of a text, as `char_at` tells it

pub one_char : (a : ℕ) (l : List ℕ) → is_one a ≡ true → all_chars (a ∷ l) ≡ all_chars l
one_char a [] h = h
one_char a (b ∷ r) h = simp h

-- a text by what is left of it after its first n bytes
record Leaves (l r : List ℕ) (n : ℕ) : Type 0 where
  size : length (text l) ≡ n + length (text r)
  chars : all_chars (text l) ≡ all_chars (text r)

one_text : (a : ℕ) (l : List ℕ) → is_one a ≡ true → Leaves (a ∷ l) l 1
one_text a l o = record { size = simp (one_go a o) (omega arith); chars = simp (one_go a o) (one_char a (text l) o) }

-- a lead is no comma, and neither is a trail
pub lead_from_81 : (a : ℕ) → is_lead a ≡ true → 0x81 ≤ a
lead_from_81 a e =
    ⊎_elim
    (λ h. leb-true 0x81 a (both (leb 0x81 a) (leb a 0x9f) h).0)
    (λ h. omega (arith, leb-true 0xe0 a (both (leb 0xe0 a) (leb a 0xef) h).0))
    (either (within 0x81 0x9f a) (within 0xe0 0xef a) e)

pub trail_from_40 : (b : ℕ) → is_trail b ≡ true → 0x40 ≤ b
trail_from_40 b e =
    ⊎_elim
    (λ h. leb-true 0x40 b (both (leb 0x40 b) (leb b 0x7e) h).0)
    (λ h. omega (arith, leb-true 0x80 b (both (leb 0x80 b) (leb b 0xfc) h).0))
    (either (within 0x40 0x7e b) (within 0x80 0xfc b) e)

pub no_comma : (b : ℕ) → 0x40 ≤ b → eqb b 0x2c ≡ false
no_comma b h = ne_eqb b 0x2c (λ e. omega arith)

-- a lead is no character of one byte
pub lead_no_one : (a : ℕ) → is_lead a ≡ true → is_one a ≡ false
lead_no_one a e =
    ⊎_elim
    (λ h. let p = both (leb 0x81 a) (leb a 0x9f) h in outside (leb-true 0x81 a p.0) (inl (leb-true a 0x9f p.1)))
    (λ h. let p = both (leb 0xe0 a) (leb a 0xef) h in outside (omega (arith, leb-true 0xe0 a p.0)) (inr (leb-true 0xe0 a p.0)))
    (either (within 0x81 0x9f a) (within 0xe0 0xef a) e)
  where
    outside : 0x81 ≤ a → (a ≤ 0x9f) ⊎ (0xe0 ≤ a) → is_one a ≡ false
    outside h k =
        rw (within_above 0x20 0x7e a (omega arith))
        (⊎_elim (λ u. within_below 0xa1 0xdf a (omega arith)) (λ u. within_above 0xa1 0xdf a (omega arith)) k)

bad_text : (a : ℕ) (l : List ℕ) → is_stop a ≡ false → char_of (a ∷ l) ≡ Bad → all_chars (text (a ∷ l)) ≡ false
bad_text a [] s h = simp s (go (is_one a) h)
  where
    go : (b : Bool) → cond b One Bad ≡ Bad → b ≡ false
    go true e = cc
    go false e = refl
bad_text a (b ∷ r) s h = go (is_one a) refl (is_stop b) refl h
  where
    go : (x : Bool) → is_one a ≡ x → (z : Bool) → is_stop b ≡ z → cond x One (pair_script a b) ≡ Bad → all_chars (text (a ∷ b ∷ r)) ≡ false
    go true p z t e = cc
    go false p true t e = simp (s, t, p)
    go false p false t e = simp (s, t, p, ap is_char e)

-- ---- the loop of scan_text: the text's end, its goodness and its commas, as told by what is left from i on

-- the commas of the whole text from its beginning, and those that are left, into the places after the n first
abbrev pub kept : List ℕ → ℕ → List ℕ → List ℕ
kept a n w = sets a n (take (16 - n) w)

pub record Scanned (s : List ℕ) (at : ℕ) (a₀ a : List ℕ) (i : ℕ) (good : Bool) (n : ℕ) : Type 0 where
  pub ends : at + length (text (drop at s)) ≡ i + length (text (drop i s))
  pub chars : all_chars (text (drop at s)) ≡ (good && all_chars (text (drop i s)))
  pub commas : comma_count (text (drop at s)) ≡ n + comma_count (text (drop i s))
  pub few : n + at ≤ i
  pub places : kept a n (commas_from (i - at) (text (drop i s))) ≡ kept a₀ 0 (commas_from 0 (text (drop at s)))
  pub size : length a ≡ 16
  pub first : length a₀ ≡ 16

pub scan_start : (s : List ℕ) (at : ℕ) (a : List ℕ) → Sixteen a → Scanned s at a a at true 0
scan_start s at a h =
    let z : at - at ≡ 0 = omega arith in
    record {
      ends = refl;
      chars = refl;
      commas = sym (zero-add (comma_count (text (drop at s))));
      few = omega arith;
      places = ap (λ (k : ℕ). kept a 0 (commas_from k (text (drop at s)))) z;
      size = h.is;
      first = h.is;
    }

-- what was kept is read back
pub count_places : (k : ℕ) (l : List ℕ) → length (commas_from k l) ≡ comma_count l
count_places k [] = refl
count_places k (b ∷ l) = go (eqb b 0x2c) (count_places (suc k) l)
  where
    go : (x : Bool) → length (commas_from (suc k) l) ≡ comma_count l → length (cond x (k ∷ commas_from (suc k) l) (commas_from (suc k) l)) ≡ cond x 1 0 + comma_count l
    go true e = omega (arith, e)
    go false e = omega (arith, e)

take_at_index : (j m : ℕ) (w : List ℕ) → j < m → get_or (take m w) j 0 ≡ get_or w j 0
take_at_index j zero w h = absurd (omega arith)
take_at_index j (suc m) [] h = refl
take_at_index zero (suc m) (x ∷ w) h = refl
take_at_index (suc j) (suc m) (x ∷ w) h = take_at_index j m w (omega arith)

read_back : (a a₀ w : List ℕ) → a ≡ kept a₀ 0 w → length a₀ ≡ 16 → (j : ℕ) → j < length w → j < 16 → get_or a j 0 ≡ get_or w j 0
read_back a a₀ w e h j p q =
    let n : length (take 16 w) ≤ 16 = omega (arith, length-take 16 w) in
    let m : j < length (take 16 w) = omega (arith, length-take 16 w) in
    let r : sets a₀ 0 (take 16 w) ≡ take 16 w ++ drop (length (take 16 w)) a₀ = sets-eq (take 16 w) a₀ 0 (omega arith) ∙ rw zero-add in
    ap (λ (x : List ℕ). get_or x j 0) (e ∙ r) ∙ get_or-append (take 16 w) (drop (length (take 16 w)) a₀) 0 j m ∙ take_at_index j 16 w q

module _ {s : List ℕ} {at : ℕ} {a₀ a : List ℕ} {i : ℕ} {good : Bool} {n : ℕ} (v : Scanned s at a₀ a i good n) where
  take_none : kept a n [] ≡ a
  take_none = go (16 - n)
    where
      go : (m : ℕ) → sets a n (take m []) ≡ a
      go zero = refl
      go (suc m) = refl

  done : text (drop i s) ≡ [] → ScanOf s at a (record { end = i; good = good; commas = n })
  done e = record {
    ends = omega (arith, v.ends, ap length e);
    chars = sym (v.chars ∙ ap (λ (l : List ℕ). good && all_chars l) e ∙ and-true good);
    commas = omega (arith, v.commas, ap comma_count e);
    places = record {
      here = read_back a a₀ (commas_from 0 (text (drop at s))) (sym (ap (λ (l : List ℕ). kept a n (commas_from (i - at) l)) e ∙ take_none) ∙ v.places) v.first;
    };
    size = record { is = v.size };
  }

  pub scan_end : length s ≤ i → ScanOf s at a (record { end = i; good = good; commas = n })
  scan_end h = done (rw (drop_end s i h))

  module _ (h : i < length s) where
    now_at : drop i s ≡ get_or s i 0 ∷ drop (i + 1) s
    now_at = drop_step s i 0 h

    -- a byte of text, with its commas
    byte_on : is_stop (get_or s i 0) ≡ false → (length (text (drop i s)) ≡ 1 + length (text (drop (i + 1) s))) × (comma_count (text (drop i s)) ≡ cond (eqb (get_or s i 0) 0x2c) 1 0 + comma_count (text (drop (i + 1) s)))
    byte_on e = rw now_at (simp e (omega arith), simp e)

    one_on : {a' : List ℕ} → is_one (get_or s i 0) ≡ true → (m : ℕ) → cond (eqb (get_or s i 0) 0x2c) 1 0 ≡ m → m ≤ 1
        → kept a' (n + m) (commas_from (i + 1 - at) (text (drop (i + 1) s))) ≡ kept a₀ 0 (commas_from 0 (text (drop at s))) → length a' ≡ 16 → Scanned s at a₀ a' (i + 1) good (n + m)
    one_on o m e k t z =
        let w : Leaves (drop i s) (drop (i + 1) s) 1 = rw now_at (one_text (get_or s i 0) (drop (i + 1) s) o) in
        record {
          ends = omega (arith, v.ends, w.size);
          chars = v.chars ∙ ap (λ (b : Bool). good && b) w.chars;
          commas = omega (arith, v.commas, (byte_on (one_go (get_or s i 0) o)).1, e);
          few = omega (arith, v.few);
          places = t;
          size = z;
          first = v.first;
        }

    -- the commas that are left, after a byte of text
    places_on : is_stop (get_or s i 0) ≡ false
        → commas_from (i - at) (text (drop i s)) ≡ cond (eqb (get_or s i 0) 0x2c) ((i - at) ∷ commas_from (i + 1 - at) (text (drop (i + 1) s))) (commas_from (i + 1 - at) (text (drop (i + 1) s)))
    places_on e =
        let z : suc (i - at) ≡ i + 1 - at = omega (arith, v.few) in
        rw now_at (simp e (ap (λ (k : ℕ). cond (eqb (get_or s i 0) 0x2c) ((i - at) ∷ commas_from k (text (drop (i + 1) s))) (commas_from k (text (drop (i + 1) s)))) z))

    plain_on : is_stop (get_or s i 0) ≡ false → eqb (get_or s i 0) 0x2c ≡ false → kept a n (commas_from (i + 1 - at) (text (drop (i + 1) s))) ≡ kept a₀ 0 (commas_from 0 (text (drop at s)))
    plain_on e z = ap (kept a n) (sym (places_on e ∙ rw z)) ∙ v.places

    comma_one : get_or s i 0 ≡ 0x2c → is_one (get_or s i 0) ≡ true
    comma_one e = rw e

    comma_on : is_one (get_or s i 0) ≡ true → eqb (get_or s i 0) 0x2c ≡ true
        → kept a n ((i - at) ∷ commas_from (i + 1 - at) (text (drop (i + 1) s))) ≡ kept a₀ 0 (commas_from 0 (text (drop at s)))
    comma_on o z = ap (kept a n) (sym (places_on (one_go (get_or s i 0) o) ∙ rw z)) ∙ v.places

    pub scan_comma : get_or s i 0 ≡ 0x2c → n < 16 → Scanned s at a₀ (set a n (i - at)) (i + 1) good (n + 1)
    scan_comma e k =
        let w : (is_one (get_or s i 0) ≡ true) × (eqb (get_or s i 0) 0x2c ≡ true) = (comma_one e, eq-eqb (get_or s i 0) 0x2c e) in
        let x : 16 - n ≡ suc (16 - (n + 1)) = omega arith in
        let y : n + 1 ≡ suc n = add-one n in
        one_on w.0 1 (rw w.1) (omega arith)
        (ap (λ (j : ℕ). sets (set a n (i - at)) j (take (16 - (n + 1)) (commas_from (i + 1 - at) (text (drop (i + 1) s))))) y
        ∙ ap (λ (j : ℕ). sets a n (take j ((i - at) ∷ commas_from (i + 1 - at) (text (drop (i + 1) s))))) (sym x) ∙ comma_on w.0 w.1)
        (simp length-set v.size)

    pub scan_more : get_or s i 0 ≡ 0x2c → 16 ≤ n → Scanned s at a₀ a (i + 1) good (n + 1)
    scan_more e k =
        let w : (is_one (get_or s i 0) ≡ true) × (eqb (get_or s i 0) 0x2c ≡ true) = (comma_one e, eq-eqb (get_or s i 0) 0x2c e) in
        let x : 16 - n ≡ 0 = omega arith in
        let y : 16 - (n + 1) ≡ 0 = omega arith in
        one_on w.0 1 (rw w.1) (omega arith)
        (ap (λ (j : ℕ). sets a (n + 1) (take j (commas_from (i + 1 - at) (text (drop (i + 1) s))))) y
        ∙ ap (λ (j : ℕ). sets a n (take j ((i - at) ∷ commas_from (i + 1 - at) (text (drop (i + 1) s))))) (sym x) ∙ comma_on w.0 w.1)
        v.size

    -- x is what is_stop said
    pub scan_stop : {x : Bool} → x ≡ is_stop (get_or s i 0) → x ≡ true → ScanOf s at a (record { end = i; good = good; commas = n })
    scan_stop p t = done (rw now_at (simp (sym p ∙ t)))

    -- a byte that begins no character and is no comma
    bad_on : is_one (get_or s i 0) ≡ false → is_stop (get_or s i 0) ≡ false → char_at s i ≡ Bad → Scanned s at a₀ a (i + 1) false n
    unfolding char_at
    bad_on o t e =
        let f : all_chars (text (drop i s)) ≡ false = rw now_at (bad_text (get_or s i 0) (drop (i + 1) s) t (ap char_of (sym now_at) ∙ e)) in
        let z : eqb (get_or s i 0) 0x2c ≡ false = no_one_comma (get_or s i 0) o in
        let w = byte_on t in
        record {
          ends = omega (arith, v.ends, w.0);
          chars = v.chars ∙ ap (λ (b : Bool). good && b) f ∙ and-false good;
          commas = v.commas ∙ ap (λ (k : ℕ). n + k) (w.1 ∙ rw z (zero-add (comma_count (text (drop (i + 1) s)))));
          few = omega (arith, v.few);
          places = plain_on t z;
          size = v.size;
          first = v.first;
        }
      where
        no_one_comma : (a : ℕ) → is_one a ≡ false → eqb a 0x2c ≡ false
        no_one_comma a o = ne_eqb a 0x2c (λ e. true≢false (sym (rw e) ∙ o))

    -- a byte that begins no character, where the run ends
    pub scan_bad : {z : Bool} → char_at s i ≡ Bad → z ≡ is_stop (get_or s i 0) → z ≡ false → Scanned s at a₀ a (i + 1) false n
    unfolding char_at
    scan_bad e r g = bad_on (no_one (get_or s i 0) (drop (i + 1) s) (ap char_of (sym now_at) ∙ e)) (sym r ∙ g) e
      where
        no_one : (a : ℕ) (l : List ℕ) → char_of (a ∷ l) ≡ Bad → is_one a ≡ false
        no_one a [] e = one-go₁ (is_one a) e
          where
            one-go₁ : (x : Bool) → cond x One Bad ≡ Bad → x ≡ false
            one-go₁ true e = cc
            one-go₁ false e = refl
        no_one a (b ∷ r) e = one-go₂ (is_one a) e
          where
            one-go₂ : (x : Bool) → cond x One (pair_script a b) ≡ Bad → x ≡ false
            one-go₂ true e = cc
            one-go₂ false e = refl
