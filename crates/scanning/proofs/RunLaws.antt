-- Runs of characters without a comma and their scripts: one after another, the ways through `run_at` and `scripts_of`, and a scan that passes a run
-- whole. Assumes nothing.
use Prim.Native.Nat.{ℕ, suc, ◌+◌, ◌-◌, ◌^◌, ◌≤◌, ◌<◌}
use mir.Syntax.{w64}
use mir.Val.{Fits}
use mathlib.Core.Path.{◌≡◌, refl, sym, ap, ap₂, ◌∙◌, subst}
use mathlib.Core.Bool.{Bool, true, false, cond, not, ◌&&◌, beq, false≢true, true≢false, and-true, and-false}
use mathlib.Core.Logic.{inl, inr, ⊎_elim}
use mathlib.Core.List.{List, [], ◌∷◌, ◌++◌}
use native.Mathlib.Omega.{arith}
use borrow.Author.Tests.{ne_eqb, eq-eqb}
use lib.Dec.{eqb}
use lib.ListN.{length, take, drop, get_or, set, length-append, take-append-drop}
use Rattle.std.specs.Prelude.{Option, Some, None}
use Rattle.std.proofs.lemmas.List.{take_all}
use lib.Seq.{drop-drop}
use Rattle.lists.specs.Searching.{part}
use Rattle.lists.proofs.Tests.{below, below_at}
use Rattle.lists.proofs.Parts.{part_length, part_none, part_join}
use Rattle.lists.proofs.Cuts.{drop_step, two_on, last_on}
use Rattle.characters.specs.Cells.{full_row, part_row, allowed, cell_script, is_one, trail_script, pair_script, is_char, is_one_byte}
use Rattle.characters.specs.declared.Char.{Char}
use Rattle.characters.specs.declared.Char.TheVariants.{One, Hiragana, Katakana, Either, Other, Bad}
use Rattle.characters.specs.Text.{all_chars, is_stop, text}
use Rattle.characters.specs.Scanning.{is_pair, clean, char_of, char_at, bytes_of, is_own_hiragana, is_own_katakana, is_either, comma_count, commas_from}
use Rattle.scanning.specs.declared.runs.Scripts.{Scripts}
use Rattle.scanning.specs.declared.runs.Run.{Run}
use Rattle.scanning.specs.Scans.{ScanOf, RunOf, RunEnds, Bytes, SumFits, sum_of, Counted, Finished, ToldOf}
use Rattle.characters.proofs.BytesLaws.{bytes_on, bytes_most}
use Rattle.scanning.proofs.TextLaws.{one_char, no_comma, lead_from_81, trail_from_40, lead_no_one, kept, Scanned, scan_start, scan_comma, scan_more, scan_stop, scan_bad, scan_end}
use Rattle.characters.proofs.CharLaws.{chars_clean, pair_parts}
use Rattle.characters.proofs.ScriptLaws.{never_one, beq_is}

-- ---- one list after another

chars_on : (x y : List ℕ) → all_chars x ≡ true → all_chars (x ++ y) ≡ all_chars y
chars_on [] y e = refl
chars_on (a ∷ []) y e = one_char a y e
chars_on (a ∷ b ∷ r) y e = go (is_one a) refl (is_pair a b) refl (chars_on (b ∷ r) y) (chars_on r y) e
  where
    go : (o : Bool) → is_one a ≡ o → (p : Bool) → is_pair a b ≡ p → (all_chars (b ∷ r) ≡ true → all_chars (b ∷ (r ++ y)) ≡ all_chars y) → (all_chars r ≡ true → all_chars (r ++ y) ≡ all_chars y)
        → cond o (all_chars (b ∷ r)) (p && all_chars r) ≡ true → all_chars (a ∷ b ∷ (r ++ y)) ≡ all_chars y
    go true q p t f g e = rw q (f e)
    go false q true t f g e = rw (q, t) (g e)
    go false q false t f g e = absurd (false≢true e)

count_on : (x y : List ℕ) → comma_count (x ++ y) ≡ comma_count x + comma_count y
count_on [] y = omega arith
count_on (a ∷ x) y = omega (arith, count_on x y)

places_on : (k : ℕ) (x y : List ℕ) → comma_count x ≡ 0 → commas_from k (x ++ y) ≡ commas_from (k + length x) y
places_on k [] y e = let z : k ≡ k + 0 = omega arith in ap (λ (j : ℕ). commas_from j y) z
places_on k (a ∷ x) y e = go (eqb a 0x2c) (places_on (suc k) x y) e
  where
    go : (b : Bool) → (comma_count x ≡ 0 → commas_from (suc k) (x ++ y) ≡ commas_from (suc k + length x) y) → cond b 1 0 + comma_count x ≡ 0
        → cond b (k ∷ commas_from (suc k) (x ++ y)) (commas_from (suc k) (x ++ y)) ≡ commas_from (k + suc (length x)) y
    go true i e = absurd (omega arith)
    go false i e = let z : suc k + length x ≡ k + suc (length x) = omega arith in i (omega arith) ∙ ap (λ (j : ℕ). commas_from j y) z

text_on : (x y : List ℕ) → clean x ≡ true → text (x ++ y) ≡ x ++ text y
text_on [] y e = refl
text_on (a ∷ x) y e = go (is_stop a) refl (text_on x y) e
  where
    go : (b : Bool) → is_stop a ≡ b → (clean x ≡ true → text (x ++ y) ≡ x ++ text y) → (not b && clean x) ≡ true → text (a ∷ (x ++ y)) ≡ a ∷ (x ++ text y)
    go true p i e = absurd (false≢true e)
    go false p i e = rw p (ap (λ (l : List ℕ). a ∷ l) (i e))

-- ---- characters from a place to another, commas too

record CharsAt (s : List ℕ) (a e : ℕ) : Type 0 where
  low : a ≤ e
  high : e ≤ length s
  chars : all_chars (part s a e) ≡ true

chars_join : {s : List ℕ} {a b e : ℕ} → CharsAt s a b → CharsAt s b e → CharsAt s a e
chars_join {s} {a} {b} {e} v w = record {
  low = omega (arith, v.low, w.low);
  high = w.high;
  chars = ap all_chars (sym (part_join s a b e v.low w.low)) ∙ chars_on (part s a b) (part s b e) v.chars ∙ w.chars;
}

-- ---- runs

run_chars : {s : List ℕ} {a e : ℕ} → RunOf s a e → CharsAt s a e
run_chars v = record { low = v.low; high = v.high; chars = v.chars }

pub run_none : (s : List ℕ) (a : ℕ) → a ≤ length s → RunOf s a a
run_none s a h = record { low = omega arith; high = h; chars = ap all_chars (part_none s a); plain = ap comma_count (part_none s a) }

pub run_join : {s : List ℕ} {a b e : ℕ} → RunOf s a b → RunOf s b e → RunOf s a e
run_join {s} {a} {b} {e} v w =
    let c : CharsAt s a e = chars_join (run_chars v) (run_chars w) in
    record {
      low = c.low;
      high = c.high;
      chars = c.chars;
      plain = ap comma_count (sym (part_join s a b e v.low w.low)) ∙ omega (arith, count_on (part s a b) (part s b e), v.plain, w.plain);
    }

-- a character of one byte, and one of two
part_one : (s : List ℕ) (i : ℕ) → i < length s → part s i (i + 1) ≡ get_or s i 0 ∷ []
part_one s i h = let z : i + 1 - i ≡ 1 = omega arith in rw (z, drop_step s i 0 h) refl

part_two : (s : List ℕ) (i : ℕ) → i + 1 < length s → part s i (i + 2) ≡ get_or s i 0 ∷ get_or s (i + 1) 0 ∷ []
part_two s i h = let z : i + 2 - i ≡ 2 = omega arith in rw (z, drop_step s i 0 (omega arith), drop_step s (i + 1) 0 h) refl

pub run_byte : {s : List ℕ} {a i : ℕ} → RunOf s a i → i < length s → is_one (get_or s i 0) ≡ true → eqb (get_or s i 0) 0x2c ≡ false → RunOf s a (i + 1)
run_byte {s} {a} {i} v h o e = run_join v (record { low = omega arith; high = omega arith; chars = rw (part_one s i h) o; plain = rw (part_one s i h) (simp e) })

pub run_pair : {s : List ℕ} {a i : ℕ} → RunOf s a i → i + 1 < length s → is_pair (get_or s i 0) (get_or s (i + 1) 0) ≡ true → RunOf s a (i + 2)
run_pair {s} {a} {i} v h o =
    let q = pair_parts (get_or s i 0) (get_or s (i + 1) 0) o in
    run_join v (record {
      low = omega arith;
      high = omega arith;
      chars = rw (part_two s i h) (simp (lead_no_one (get_or s i 0) q.0, o));
      plain = rw (part_two s i h) (simp (no_comma (get_or s i 0) (omega (arith, lead_from_81 (get_or s i 0) q.0)), no_comma (get_or s (i + 1) 0) (trail_from_40 (get_or s (i + 1) 0) q.1)));
    })

-- ---- one character more

-- what the answers say of the bytes
one_is_lem : (a b : ℕ) → char_of (a ∷ b ∷ []) ≡ One → is_one a ≡ true
one_is_lem a b e = go (is_one a) refl e
  where
    go : (x : Bool) → is_one a ≡ x → cond x One (pair_script a b) ≡ One → is_one a ≡ true
    go true p e = p
    go false p e = absurd (never_one a b e)

two_is : (a b : ℕ) (c : Char) → (One ≡ c → ⊥) → char_of (a ∷ b ∷ []) ≡ c → (is_one a ≡ false) × (pair_script a b ≡ c)
two_is a b c n e = go (is_one a) refl e
  where
    go : (x : Bool) → is_one a ≡ x → cond x One (pair_script a b) ≡ c → (is_one a ≡ false) × (pair_script a b ≡ c)
    go true p e = absurd (n e)
    go false p e = (p, e)

-- the bytes that the characters of a script take, with those of a run or of a character more
bytes_join : (p : Char → Bool) {s : List ℕ} {a b e : ℕ} → CharsAt s a b → b ≤ e → bytes_of p (part s a e) ≡ bytes_of p (part s a b) + bytes_of p (part s b e)
bytes_join p {s} {a} {b} {e} v h = ap (bytes_of p) (sym (part_join s a b e v.low h)) ∙ bytes_on p (part s a b) (part s b e) v.chars

more_one : (p : Char → Bool) {s : List ℕ} {a i : ℕ} → CharsAt s a i → i < length s → is_one (get_or s i 0) ≡ true
    → bytes_of p (part s a (i + 1)) ≡ bytes_of p (part s a i) + cond (p One) 1 0
more_one p {s} {a} {i} v h o =
    bytes_join p v (omega arith) ∙ ap (λ (l : List ℕ). bytes_of p (part s a i) + bytes_of p l) (part_one s i h)
    ∙ ap (λ (b : Bool). bytes_of p (part s a i) + cond (p One && b) 1 0) o ∙ ap (λ (b : Bool). bytes_of p (part s a i) + cond b 1 0) (and-true (p One))

more_two : (p : Char → Bool) (c : Char) {s : List ℕ} {a i : ℕ} → CharsAt s a i → i + 1 < length s
    → (is_one (get_or s i 0) ≡ false) × (pair_script (get_or s i 0) (get_or s (i + 1) 0) ≡ c) → bytes_of p (part s a (i + 2)) ≡ bytes_of p (part s a i) + cond (p c) 2 0
more_two p c {s} {a} {i} v h o =
    let t : bytes_of p (get_or s i 0 ∷ get_or s (i + 1) 0 ∷ []) ≡ cond (p c) 2 0 = rw (o.0, o.1) (omega arith) in
    bytes_join p v (omega arith) ∙ ap (λ (l : List ℕ). bytes_of p (part s a i) + bytes_of p l) (part_two s i h) ∙ ap (λ (n : ℕ). bytes_of p (part s a i) + n) t

-- ---- counts

-- a count, after a character of n bytes that is counted or not; and the counts, after one with the answer c
abbrev pub if_counted : Bool → ℕ → ℕ → ℕ
if_counted true n x = x + n
if_counted false n x = x

abbrev pub counting : Char → ℕ → Scripts → Scripts
counting c n k = record {
  one = if_counted (is_one_byte c) n k.one;
  hiragana = if_counted (is_own_hiragana c) n k.hiragana;
  katakana = if_counted (is_own_katakana c) n k.katakana;
  either = if_counted (is_either c) n k.either;
}

counted_as : {x y z : ℕ} (b : Bool) (n : ℕ) → x ≡ y → z ≡ y + cond b n 0 → if_counted b n x ≡ z
counted_as true n e f = ap (λ (m : ℕ). m + n) e ∙ sym f
counted_as {x} {y} {z} false n e f = let w : x ≡ z = omega arith in w

module _ {s : List ℕ} {a i : ℕ} (w : CharsAt s a i) {k : Scripts} (v : Counted s a i k) where
  counted_more : (c : Char) (n j : ℕ) → ((p : Char → Bool) → bytes_of p (part s a j) ≡ bytes_of p (part s a i) + cond (p c) n 0) → Counted s a j (counting c n k)
  counted_more c n j m = record {
    one = counted_as (is_one_byte c) n v.one (m is_one_byte);
    hiragana = counted_as (is_own_hiragana c) n v.hiragana (m is_own_hiragana);
    katakana = counted_as (is_own_katakana c) n v.katakana (m is_own_katakana);
    either = counted_as (is_either c) n v.either (m is_either);
  }

  counted_one : i < length s → is_one (get_or s i 0) ≡ true → Counted s a (i + 1) (counting One 1 k)
  counted_one h o = counted_more One 1 (i + 1) (λ p. more_one p w h o)

  counted_sum : (e : ℕ) {m : Scripts} → i ≤ e → Counted s i e m → Counted s a e (sum_of k m)
  counted_sum e h c = record {
    one = omega (arith, v.one, c.one, bytes_join is_one_byte w h);
    hiragana = omega (arith, v.hiragana, c.hiragana, bytes_join is_own_hiragana w h);
    katakana = omega (arith, v.katakana, c.katakana, bytes_join is_own_katakana w h);
    either = omega (arith, v.either, c.either, bytes_join is_either w h);
  }

  -- they are no more than all bytes
  few : (p : Char → Bool) {n : ℕ} → n ≡ bytes_of p (part s a i) → n ≤ i
  few p q = omega (arith, bytes_most p (part s a i), part_length s a i w.low w.high)

  few_one : k.one ≤ i
  few_one = few is_one_byte v.one

  few_hiragana : k.hiragana ≤ i
  few_hiragana = few is_own_hiragana v.hiragana

  few_katakana : k.katakana ≤ i
  few_katakana = few is_own_katakana v.katakana

  few_either : k.either ≤ i
  few_either = few is_either v.either

bytes_none : (p : Char → Bool) (s : List ℕ) (a : ℕ) → 0 ≡ bytes_of p (part s a a)
bytes_none p s a = sym (ap (bytes_of p) (part_none s a))

counted_none : (s : List ℕ) (a : ℕ) → Counted s a a (record { one = 0; hiragana = 0; katakana = 0; either = 0 })
counted_none s a = record {
  one = bytes_none is_one_byte s a;
  hiragana = bytes_none is_own_hiragana s a;
  katakana = bytes_none is_own_katakana s a;
  either = bytes_none is_either s a;
}

-- ---- the ways through run_at

pub record Running (s : List ℕ) (from last i : ℕ) (k : Scripts) : Type 0 where
  pub run : RunOf s from i
  pub ends : last ≡ length s - 1
  pub counted : Counted s from i k

pub running_start : (s : List ℕ) (from : ℕ) → from ≤ length s → Running s from (length s - 1) from (record { one = 0; hiragana = 0; katakana = 0; either = 0 })
running_start s from h = record {
  run = run_none s from h;
  ends = refl;
  counted = counted_none s from;
}

module _ {s : List ℕ} {from last i : ℕ} {k : Scripts} (w : Running s from last i k) where
  pub running_run : RunOf s from i
  running_run = w.run

  pub running_counted : Counted s from i k
  running_counted = w.counted

  ran : CharsAt s from i
  ran = run_chars w.run

  pub running_few : k.one ≤ i
  running_few = few_one ran w.counted

  -- one more of each fits
  module _ (n : i < last) (z : length s < 2 ^ 64) where
    pub fits_one : Fits w64 (k.one + 1)
    fits_one = omega (arith, few_one ran w.counted, w.ends)

    pub fits_hiragana : Fits w64 (k.hiragana + 2)
    fits_hiragana = omega (arith, few_hiragana ran w.counted, w.ends)

    pub fits_katakana : Fits w64 (k.katakana + 2)
    fits_katakana = omega (arith, few_katakana ran w.counted, w.ends)

    pub fits_either : Fits w64 (k.either + 2)
    fits_either = omega (arith, few_either ran w.counted, w.ends)

  -- x: the character at i, before the last byte
  module _ (n : i < last) {x : Char} (q : x ≡ char_of (get_or s i 0 ∷ get_or s (i + 1) 0 ∷ [])) where
    two_left : i + 1 < length s
    two_left = omega (arith, w.ends)

    pub running_one : x ≡ One → (get_or s i 0 ≡ 0x2c → ⊥) → Running s from last (i + 1) (counting One 1 k)
    running_one c z =
        let l : i < length s = omega (arith, w.ends) in
        let a : is_one (get_or s i 0) ≡ true = one_is_lem (get_or s i 0) (get_or s (i + 1) 0) (sym q ∙ c) in
        record { run = run_byte w.run l a (ne_eqb (get_or s i 0) 0x2c z); ends = w.ends; counted = counted_one ran w.counted l a }

    -- a character of two bytes
    running_two : (c : Char) → (One ≡ c → ⊥) → is_char c ≡ true → x ≡ c → Running s from last (i + 2) (counting c 2 k)
    running_two c f g t =
        let o = two_is (get_or s i 0) (get_or s (i + 1) 0) c f (sym q ∙ t) in
        record {
          run = run_pair w.run two_left (ap is_char o.1 ∙ g);
          ends = w.ends;
          counted = counted_more ran w.counted c 2 (i + 2) (λ p. more_two p c ran two_left o);
        }

    pub running_hiragana : x ≡ Hiragana → Running s from last (i + 2) (counting Hiragana 2 k)
    running_hiragana t = running_two Hiragana (λ z. true≢false (ap is_one_byte z)) refl t

    pub running_katakana : x ≡ Katakana → Running s from last (i + 2) (counting Katakana 2 k)
    running_katakana t = running_two Katakana (λ z. true≢false (ap is_one_byte z)) refl t

    pub running_either : x ≡ Either → Running s from last (i + 2) (counting Either 2 k)
    running_either t = running_two Either (λ z. true≢false (ap is_one_byte z)) refl t

    pub running_other : x ≡ Other → Running s from last (i + 2) k
    running_other t = running_two Other (λ z. true≢false (ap is_one_byte z)) refl t

    pub running_bad : x ≡ Bad → RunEnds s i
    unfolding char_at
    running_bad t = record { holds = λ _. inr (ap char_of (two_on s i 0 two_left) ∙ sym q ∙ t) }

  pub running_comma : get_or s i 0 ≡ 0x2c → RunEnds s i
  running_comma c = record { holds = λ _. inl c }

-- ---- the ways through last_run

-- the run ends here
last_here : {s : List ℕ} {i : ℕ} {k : Scripts} → RunEnds s i → Finished s i k (record { end = i; scripts = k })
last_here e = record { holds = λ a v c. (v, e, c) }

module _ (s : List ℕ) (i : ℕ) (k : Scripts) (l : length s ≤ i + 1) where
  pub last_past : length s ≤ i → Finished s i k (record { end = i; scripts = k })
  last_past h = last_here (record { holds = λ z. absurd (omega arith) })

  module _ (h : i < length s) {b : ℕ} (r : b ≡ get_or s i 0) where
    pub last_comma : b ≡ 0x2c → Finished s i k (record { end = i; scripts = k })
    last_comma e = last_here (record { holds = λ _. inl (sym r ∙ e) })

    -- x: what char_of said of the byte with a 0 after it
    module _ {x : Char} (q : x ≡ char_of (b ∷ 0 ∷ [])) where
      pub last_one : x ≡ One → (b ≡ 0x2c → ⊥) → Finished s i k (record { end = i + 1; scripts = counting One 1 k })
      last_one t n =
          let o : is_one (get_or s i 0) ≡ true = ap is_one (sym r) ∙ one_is_lem b 0 (sym q ∙ t) in
          record {
            holds = λ a v c. (
              run_byte v h o (ne_eqb (get_or s i 0) 0x2c (λ e. n (r ∙ e))),
              record { holds = λ z. absurd (omega arith) },
              counted_one (run_chars v) c h o,
            );
          }

      -- any other answer
      pub last_none : (x ≡ One → ⊥) → Finished s i k (record { end = i; scripts = k })
      unfolding char_at
      last_none n = last_here (record { holds = λ z. inr (ap char_of (last_on s i 0 h l) ∙ rw (none (is_one b) refl) refl) })
        where
          none : (y : Bool) → is_one b ≡ y → is_one (get_or s i 0) ≡ false
          none true e = absurd (n (q ∙ rw e refl))
          none false e = ap is_one (sym r) ∙ e

pub ruleset last_laws = (last_past, last_comma, last_one, last_none)

-- the end of a run, as last_run tells it
pub running_end : {s : List ℕ} {from last i : ℕ} {k : Scripts} {r : Run} → Running s from last i k → Finished s i k r → RunOf s from r.end × (RunEnds s r.end × Counted s from r.end r.scripts)
running_end {from = from} w f = let t = f.holds from w.run w.counted in (t.0, (t.1, t.2))

pub ruleset run_laws = (running_start, running_run, running_counted, running_one, running_hiragana, running_katakana, running_either, running_other, running_bad, running_comma, running_end, running_few, fits_one, fits_hiragana, fits_katakana, fits_either)

-- ---- a scan over a run

pub run_scanned : {s : List ℕ} {at : ℕ} {a₀ a : List ℕ} {i e : ℕ} {good : Bool} {n : ℕ} → Scanned s at a₀ a i good n → RunOf s i e → Scanned s at a₀ a e good n
run_scanned {s} {at} {a₀} {a} {i} {e} {good} {n} v w =
    let x : List ℕ = part s i e in
    let t : List ℕ = text (drop e s) in
    let m : i + (e - i) ≡ e = omega (arith, w.low) in
    let c : drop i s ≡ x ++ drop e s = sym (take-append-drop (e - i) (drop i s)) ∙ ap (λ (l : List ℕ). x ++ l) (drop-drop (e - i) i s ∙ ap (λ (j : ℕ). drop j s) m) in
    let d : text (drop i s) ≡ x ++ t = ap text c ∙ text_on x (drop e s) (chars_clean x w.chars) in
    let l : length x ≡ e - i = part_length s i e w.low w.high in
    let k : (i - at) + length x ≡ e - at = omega (arith, l, w.low, v.few) in
    record {
      ends = omega (arith, v.ends, ap length d, length-append x t, l, w.low);
      chars = v.chars ∙ ap (λ (y : List ℕ). good && all_chars y) d ∙ ap (λ (b : Bool). good && b) (chars_on x t w.chars);
      commas = omega (arith, v.commas, ap comma_count d, count_on x t, w.plain);
      few = omega (arith, v.few, w.low);
      places = ap (kept a n) (sym (ap (commas_from (i - at)) d ∙ places_on (i - at) x t w.plain ∙ ap (λ (j : ℕ). commas_from j t) k)) ∙ v.places;
      size = v.size;
      first = v.first;
    }

-- ---- the ways through scripts_of

bad_chars : (a : ℕ) (l : List ℕ) → char_of (a ∷ l) ≡ Bad → all_chars (a ∷ l) ≡ false
bad_chars a [] e = go (is_one a) e
  where
    go : (x : Bool) → cond x One Bad ≡ Bad → x ≡ false
    go true e = cc
    go false e = refl
bad_chars a (b ∷ r) e = go (is_one a) e
  where
    go : (x : Bool) → cond x One (pair_script a b) ≡ Bad → cond x (all_chars (b ∷ r)) (is_pair a b && all_chars r) ≡ false
    go true e = cc
    go false e = ap (λ (c : Char). is_char c && all_chars r) e

-- what is before i is characters, and counted
pub record Telling (s : List ℕ) (i : ℕ) (k : Scripts) : Type 0 where
  pub high : i ≤ length s
  pub chars : all_chars (part s 0 i) ≡ true
  pub counted : Counted s 0 i k

pub telling_start : (s : List ℕ) → Telling s 0 (record { one = 0; hiragana = 0; katakana = 0; either = 0 })
telling_start s = record { high = omega arith; chars = refl; counted = counted_none s 0 }

-- after a run, with the sums l
module _ {s : List ℕ} {i : ℕ} {k : Scripts} (v : Telling s i k) {e : ℕ} (w : RunOf s i e) {m : Scripts} (c : Counted s i e m) where
  joined : CharsAt s 0 e
  joined = chars_join (record { low = omega arith; high = v.high; chars = v.chars }) (run_chars w)

  summed : Counted s 0 e (sum_of k m)
  summed = counted_sum (record { low = omega arith; high = v.high; chars = v.chars }) v.counted e w.low c

  pub telling_fits : length s < 2 ^ 64 → SumFits k m
  telling_fits z = record {
    one = omega (arith, few_one joined summed, w.high);
    hiragana = omega (arith, few_hiragana joined summed, w.high);
    katakana = omega (arith, few_katakana joined summed, w.high);
    either = omega (arith, few_either joined summed, w.high);
  }

  -- b: the byte where the run ends, as `get` tells it
  pub telling_stuck : {b : ℕ} → e < length s → ((d : ℕ) → b ≡ get_or s e d) → (b ≡ 0x2c → ⊥) → RunEnds s e → ToldOf s None
  unfolding char_at
  telling_stuck z r n x =
      let step : drop e s ≡ get_or s e 0 ∷ drop (e + 1) s = drop_step s e 0 z in
      let j : e - 0 ≡ e = omega arith in
      let whole : part s 0 e ++ drop e s ≡ s = ap (λ (y : ℕ). take y s ++ drop e s) j ∙ take-append-drop e s in
      let left : all_chars s ≡ all_chars (get_or s e 0 ∷ drop (e + 1) s) = ap all_chars (sym whole) ∙ chars_on (part s 0 e) (drop e s) joined.chars ∙ ap all_chars step in
      record {
        chars = ⊎_elim (λ y. absurd (n (r 0 ∙ y))) (λ y. sym (left ∙ bad_chars (get_or s e 0) (drop (e + 1) s) (ap char_of (sym step) ∙ y))) (x.holds z);
        bytes = tt;
      }

  module _ {l : Scripts} (q : l ≡ sum_of k m) where
    counted : Counted s 0 e l
    counted = subst (Counted s 0 e) (sym q) summed

    pub telling_over : length s ≤ e → ToldOf s (Some l)
    telling_over z =
        let all : part s 0 e ≡ s = take_all (e - 0) s (omega arith) in
        record { chars = sym (ap all_chars (sym all) ∙ joined.chars); bytes = subst (λ (x : List ℕ). Bytes x l) all counted }

    pub telling_more : e < length s → length s < 2 ^ 64 → Fits w64 (l.one + 1)
    telling_more z n = omega (arith, few_one joined counted)

    -- b: the byte where the run ends, as `get` tells it
    module _ (z : e < length s) {b : ℕ} (r : (d : ℕ) → b ≡ get_or s e d) where
      pub telling_comma : b ≡ 0x2c → Telling s (e + 1) (counting One 1 l)
      telling_comma t =
          let o : is_one (get_or s e 0) ≡ true = ap is_one (sym (r 0) ∙ t) in
          let n : CharsAt s e (e + 1) = record { low = omega arith; high = omega arith; chars = ap all_chars (part_one s e z) ∙ o } in
          record { high = n.high; chars = (chars_join joined n).chars; counted = counted_one joined counted z o }

pub ruleset telling_laws = (telling_start, telling_fits, telling_over, telling_comma, telling_more, telling_stuck)

-- ---- the ways through scan_text, each after a run

module _ {s : List ℕ} {at : ℕ} {a₀ a : List ℕ} {i e : ℕ} {good : Bool} {n : ℕ} (v : Scanned s at a₀ a i good n) (w : RunOf s i e) where
  pub run_over : length s ≤ e → ScanOf s at a (record { end = e; good = good; commas = n })
  run_over h = scan_end (run_scanned v w) h

  module _ (h : e < length s) where
    pub run_stop : {x : Bool} → x ≡ is_stop (get_or s e 0) → x ≡ true → ScanOf s at a (record { end = e; good = good; commas = n })
    run_stop p t = scan_stop (run_scanned v w) h p t

    -- what is kept after the byte: a', good' and n'
    module _ {a' : List ℕ} {good' : Bool} {n' : ℕ} where
      pub run_comma : get_or s e 0 ≡ 0x2c → n < 16 → a' ≡ set a n (e - at) → good' ≡ good → n' ≡ n + 1 → Scanned s at a₀ a' (e + 1) good' n'
      run_comma c k p q r = rw (p, q, r) (scan_comma (run_scanned v w) h c k)

      pub run_more : get_or s e 0 ≡ 0x2c → 16 ≤ n → a' ≡ a → good' ≡ good → n' ≡ n + 1 → Scanned s at a₀ a' (e + 1) good' n'
      run_more c k p q r = rw (p, q, r) (scan_more (run_scanned v w) h c k)

      pub run_bad : RunEnds s e → (get_or s e 0 ≡ 0x2c → ⊥) → {x : Bool} → x ≡ is_stop (get_or s e 0) → x ≡ false
          → a' ≡ a → good' ≡ false → n' ≡ n → Scanned s at a₀ a' (e + 1) good' n'
      run_bad z c f t p q r = rw (p, q, r) (⊎_elim (λ k. absurd (c k)) (λ b. scan_bad (run_scanned v w) h b f t) (z.holds h))

pub ruleset pass_laws = (scan_end, run_over, run_stop)

-- ---- the character 8140h, as `is_blank_pair` reads it

blank_lead : ℕ → Bool
blank_lead a = beq (all_chars (a ∷ 0x40 ∷ []) && eqb (bytes_of is_either (a ∷ 0x40 ∷ [])) 2) (eqb a 0x81)

blank_leads : below blank_lead 256 ≡ true
unfolding below blank_lead full_row part_row allowed cell_script trail_script pair_script
blank_leads = refl

pub blank_other : (a b : ℕ) → (b ≡ 0x40 → ⊥) → false ≡ (eqb a 0x81 && eqb b 0x40)
blank_other a b n = sym (simp (ne_eqb b 0x40 n, and-false))

-- t: what scripts_of said of the two bytes
module _ {a b : ℕ} (small : a < 256) (d : b ≡ 0x40) {t : Option Scripts} (w : ToldOf (a ∷ b ∷ []) t) where
  blank_is : (all_chars (a ∷ b ∷ []) && eqb (bytes_of is_either (a ∷ b ∷ [])) 2) ≡ (eqb a 0x81 && eqb b 0x40)
  unfolding blank_lead
  blank_is =
      ap (λ (n : ℕ). all_chars (a ∷ n ∷ []) && eqb (bytes_of is_either (a ∷ n ∷ [])) 2) d
      ∙ beq_is (all_chars (a ∷ 0x40 ∷ []) && eqb (bytes_of is_either (a ∷ 0x40 ∷ [])) 2) (eqb a 0x81) (below_at blank_lead 256 blank_leads a small)
      ∙ sym (simp (eq-eqb b 0x40 d, and-true))

  pub blank_some : {k : Scripts} → t ≡ Some k → eqb k.either 2 ≡ (eqb a 0x81 && eqb b 0x40)
  blank_some {k} e =
      let v : ToldOf (a ∷ b ∷ []) (Some k) = subst (ToldOf (a ∷ b ∷ [])) e w in
      ap₂ (λ (x : Bool) (n : ℕ). x && eqb n 2) v.chars v.bytes.either ∙ blank_is

  pub blank_none : t ≡ None → false ≡ (eqb a 0x81 && eqb b 0x40)
  blank_none e = let v : ToldOf (a ∷ b ∷ []) None = subst (ToldOf (a ∷ b ∷ [])) e w in ap (λ (x : Bool). x && eqb (bytes_of is_either (a ∷ b ∷ [])) 2) v.chars ∙ blank_is

pub ruleset blank_laws = (blank_other, blank_some, blank_none)
