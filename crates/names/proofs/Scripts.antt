-- A name in one script by its bytes is what `one_script` asks. Assumes nothing.
use Prim.Native.Nat.{ℕ, ◌<◌}
use native.Mathlib.Omega.{arith}
use mathlib.Core.Path.{◌≡◌, refl, sym, ap, ◌∙◌}
use mathlib.Core.Bool.{Bool, true, false, cond, ◌&&◌, ◌||◌, false≢true}
use mathlib.Core.Logic.{⊎_elim}
use mathlib.Core.List.{List, [], ◌∷◌}
use borrow.Author.Tests.{eqb-true, leb-true}
use lib.Dec.{leb, eqb}
use Rattle.lists.specs.Lists.{All, within}
use Rattle.lists.proofs.Tests.{both, either, or_first}
use Rattle.characters.specs.declared.Char.{Char}
use Rattle.characters.specs.declared.Char.TheVariants.{One, Hiragana, Katakana, Either, Other, Bad}
use Rattle.characters.specs.Cells.{is_one, is_lead, is_trail, pair_script, is_char, is_one_byte, is_hiragana, is_katakana}
use Rattle.characters.specs.Text.{chars_are}
use Rattle.characters.specs.Scripts.{hiragana_bytes, katakana_bytes, shared_bytes}
use Rattle.characters.proofs.CharLaws.{pair_parts}
use Rattle.characters.proofs.ScriptLaws.{hiragana_bytes_lem, katakana_bytes_lem, no_one_byte}
use Rattle.records.specs.Items.{one_script}
use Rattle.names.specs.Scripts.{Pairs, none, more, OneScript, one_byte, hiragana, katakana}

-- a range ends below 256
below_256 : (lo hi lo' hi' x : ℕ) → hi < 256 → hi' < 256 → (within lo hi x || within lo' hi' x) ≡ true → x < 256
below_256 lo hi lo' hi' x p q e =
    ⊎_elim
    (λ h. omega (arith, leb-true x hi (both (leb lo x) (leb x hi) h).1))
    (λ h. omega (arith, leb-true x hi' (both (leb lo' x) (leb x hi') h).1))
    (either (within lo hi x) (within lo' hi' x) e)

-- ---- a script of two bytes: the question q and the bytes t

pub record Same (q : Char → Bool) (t : ℕ → ℕ → Bool) : Type 0 where
  pub one : q One ≡ false
  pub char : (c : Char) → q c ≡ true → is_char c ≡ true
  pub same : (a b : ℕ) → a < 256 → b < 256 → q (pair_script a b) ≡ t a b
  pub lead : (a b : ℕ) → t a b ≡ true → (a < 256) × (b < 256) × (is_one a ≡ false)

module _ {q : Char → Bool} {t : ℕ → ℕ → Bool} (w : Same q t) where
  pub to_pairs : (s : List ℕ) → chars_are q s ≡ true → Pairs t s
  to_pairs [] e = none
  to_pairs (a ∷ []) e = absurd (false≢true (sym w.one ∙ (both (q One) (is_one a) e).0))
  to_pairs (a ∷ b ∷ r) e = go (is_one a) (to_pairs r) e
    where
      go : (o : Bool) → (chars_are q r ≡ true → Pairs t r) → cond o (q One && chars_are q (b ∷ r)) (q (pair_script a b) && chars_are q r) ≡ true → Pairs t (a ∷ b ∷ r)
      go true f e = absurd (false≢true (sym w.one ∙ (both (q One) (chars_are q (b ∷ r)) e).0))
      go false f e =
          let p = both (q (pair_script a b)) (chars_are q r) e in
          let l = pair_parts a b (w.char (pair_script a b) p.0) in
          more (sym (w.same a b (below_256 0x81 0x9f 0xe0 0xef a (omega arith) (omega arith) l.0) (below_256 0x40 0x7e 0x80 0xfc b (omega arith) (omega arith) l.1)) ∙ p.0) (f p.1)

  pub from_pairs : {s : List ℕ} → Pairs t s → chars_are q s ≡ true
  from_pairs none = refl
  from_pairs (more {a} {b} e x) =
      let l = w.lead a b e in
      rw (l.2, w.same a b l.0 l.1 ∙ e) (from_pairs x)

-- ---- the two scripts

known : (a b k : ℕ) (x : Bool) → k < 256 → is_one k ≡ false → (eqb a k && x) ≡ true → (x ≡ true → b < 256) → (a < 256) × (b < 256) × (is_one a ≡ false)
known a b k x h o e f =
    let p = both (eqb a k) x e in
    let d : a ≡ k = eqb-true a k p.0 in
    (omega arith, f p.1, ap is_one d ∙ o)

shared_lead : (a b : ℕ) → shared_bytes a b ≡ true → (a < 256) × (b < 256) × (is_one a ≡ false)
shared_lead a b e =
    known a b 0x81 (eqb b 0x40 || eqb b 0x5b) (omega arith) refl e
    (λ h. ⊎_elim (λ x. omega (arith, eqb-true b 0x40 x)) (λ x. omega (arith, eqb-true b 0x5b x)) (either (eqb b 0x40) (eqb b 0x5b) h))

hiragana_same : Same is_hiragana (λ a b. hiragana_bytes a b || shared_bytes a b)
hiragana_same = record { one = refl; char = char; same = hiragana_bytes_lem; lead = lead }
  where
    char : (c : Char) → is_hiragana c ≡ true → is_char c ≡ true
    char One e = refl
    char Hiragana e = refl
    char Katakana e = refl
    char Either e = refl
    char Other e = refl
    char Bad e = e

    lead : (a b : ℕ) → (hiragana_bytes a b || shared_bytes a b) ≡ true → (a < 256) × (b < 256) × (is_one a ≡ false)
    lead a b e =
        ⊎_elim
        (λ h. known a b 0x82 (within 0x9f 0xf1 b) (omega arith) refl h (λ x. omega (arith, leb-true b 0xf1 (both (leb 0x9f b) (leb b 0xf1) x).1)))
        (λ h. shared_lead a b h)
        (either (hiragana_bytes a b) (shared_bytes a b) e)

katakana_same : Same is_katakana (λ a b. katakana_bytes a b || shared_bytes a b)
katakana_same = record { one = refl; char = char; same = katakana_bytes_lem; lead = lead }
  where
    char : (c : Char) → is_katakana c ≡ true → is_char c ≡ true
    char One e = refl
    char Hiragana e = refl
    char Katakana e = refl
    char Either e = refl
    char Other e = refl
    char Bad e = e

    lead : (a b : ℕ) → (katakana_bytes a b || shared_bytes a b) ≡ true → (a < 256) × (b < 256) × (is_one a ≡ false)
    lead a b e =
        ⊎_elim
        (λ h. known a b 0x83 (within 0x40 0x7e b || within 0x80 0x96 b) (omega arith) refl h (below_256 0x40 0x7e 0x80 0x96 b (omega arith) (omega arith)))
        (λ h. shared_lead a b h)
        (either (katakana_bytes a b) (shared_bytes a b) e)

-- ---- characters of one byte

to_one : (s : List ℕ) → chars_are is_one_byte s ≡ true → All (λ b. is_one b ≡ true) s
to_one [] e = tt
to_one (a ∷ []) e = (e, tt)
to_one (a ∷ b ∷ r) e = go (is_one a) refl (to_one (b ∷ r)) e
  where
    go : (o : Bool) → is_one a ≡ o → (chars_are is_one_byte (b ∷ r) ≡ true → All (λ b. is_one b ≡ true) (b ∷ r))
        → cond o (chars_are is_one_byte (b ∷ r)) (is_one_byte (pair_script a b) && chars_are is_one_byte r) ≡ true → All (λ b. is_one b ≡ true) (a ∷ b ∷ r)
    go true p f e = (p, f e)
    go false p f e = absurd (false≢true (sym (no_one_byte a b) ∙ (both (is_one_byte (pair_script a b)) (chars_are is_one_byte r) e).0))

from_one : (s : List ℕ) → All (λ b. is_one b ≡ true) s → chars_are is_one_byte s ≡ true
from_one [] h = refl
from_one (a ∷ []) (p, h) = p
from_one (a ∷ b ∷ r) (p, h) = rw p (from_one (b ∷ r) h)

-- ---- ONE SCRIPT

or_second : (a b : Bool) → b ≡ true → (a || b) ≡ true
or_second true b e = refl
or_second false b e = e

pub in_one_script : (s : List ℕ) → one_script s ≡ true → OneScript s
unfolding one_script
in_one_script s e =
    ⊎_elim
    (λ h. ⊎_elim (λ x. one_byte (to_one s x)) (λ x. hiragana (to_pairs hiragana_same s x)) (either (chars_are is_one_byte s) (chars_are is_hiragana s) h))
    (λ h. katakana (to_pairs katakana_same s h))
    (either (chars_are is_one_byte s || chars_are is_hiragana s) (chars_are is_katakana s) e)

pub one_script_lem : (s : List ℕ) → OneScript s → one_script s ≡ true
unfolding one_script
one_script_lem s (one_byte h) = or_first _ _ (or_first _ _ (from_one s h))
one_script_lem s (hiragana h) = or_first _ _ (or_second (chars_are is_one_byte s) _ (from_pairs hiragana_same h))
one_script_lem s (katakana h) = or_second (chars_are is_one_byte s || chars_are is_hiragana s) _ (from_pairs katakana_same h)
