-- No character has a 0Dh, 0Ah or 1Ah in it, so characters are clean. Assumes nothing.
use Prim.Native.Nat.{ℕ, ◌+◌, ◌≤◌}
use mathlib.Core.Path.{◌≡◌, refl}
use mathlib.Core.Bool.{Bool, true, false, cond, ◌&&◌, ◌||◌, false≢true}
use mathlib.Core.Logic.{⊎_elim}
use mathlib.Core.List.{List, [], ◌∷◌}
use native.Mathlib.Omega.{arith}
use borrow.Author.Tests.{leb-true, ne_eqb}
use lib.Dec.{leb}
use Rattle.lists.specs.Lists.{within}
use Rattle.lists.proofs.Tests.{both, either}
use Rattle.characters.specs.Cells.{is_one, is_trail, is_lead, lead_row, trail_row, trail_cell, cell_script, trail_script, pair_script, is_char}
use Rattle.characters.specs.declared.Char.{Char}
use Rattle.characters.specs.declared.Char.TheVariants.{Bad}
use Rattle.characters.specs.Text.{all_chars, is_stop}
use Rattle.characters.specs.Scanning.{is_pair, clean}

-- a byte from 20h on
high_go : (b : ℕ) → 0x20 ≤ b → is_stop b ≡ false
high_go b h = simp (ne_eqb b 13 (λ e. omega arith), ne_eqb b 10 (λ e. omega arith), ne_eqb b 26 (λ e. omega arith))

from : (lo lo' hi hi' b : ℕ) → 0x20 ≤ lo → 0x20 ≤ lo' → (within lo hi b || within lo' hi' b) ≡ true → 0x20 ≤ b
from lo lo' hi hi' b p q e =
    ⊎_elim
    (λ h. omega (arith, leb-true lo b (both (leb lo b) (leb b hi) h).0))
    (λ h. omega (arith, leb-true lo' b (both (leb lo' b) (leb b hi') h).0))
    (either (within lo hi b) (within lo' hi' b) e)

pub one_go : (a : ℕ) → is_one a ≡ true → is_stop a ≡ false
one_go a e = high_go a (from 0x20 0xa1 0x7e 0xdf a (omega arith) (omega arith) e)

pub pair_parts : (a b : ℕ) → is_pair a b ≡ true → (is_lead a ≡ true) × (is_trail b ≡ true)
unfolding pair_script trail_script
pair_parts a b e = go (is_lead a) (is_trail b) (cell_script (lead_row a + trail_row b) (trail_cell b)) e
  where
    go : (x y : Bool) (k : Char) → is_char (cond x (cond y k Bad) Bad) ≡ true → (x ≡ true) × (y ≡ true)
    go true true k e = (refl, refl)
    go true false k e = absurd (false≢true e)
    go false y k e = absurd (false≢true e)

pub pair_go : (a b : ℕ) → is_pair a b ≡ true → (is_stop a ≡ false) × (is_stop b ≡ false)
pair_go a b e =
    let p : (is_lead a ≡ true) × (is_trail b ≡ true) = pair_parts a b e in (
      high_go a (from 0x81 0xe0 0x9f 0xef a (omega arith) (omega arith) p.0),
      high_go b (from 0x40 0x80 0x7e 0xfc b (omega arith) (omega arith) p.1),
    )

-- characters are clean
pub chars_clean : (l : List ℕ) → all_chars l ≡ true → clean l ≡ true
chars_clean [] e = refl
chars_clean (a ∷ []) e = simp (one_go a e)
chars_clean (a ∷ b ∷ r) e = go (is_one a) refl (is_pair a b) refl (chars_clean (b ∷ r)) (chars_clean r) e
  where
    go : (x : Bool) → is_one a ≡ x → (y : Bool) → is_pair a b ≡ y → (all_chars (b ∷ r) ≡ true → clean (b ∷ r) ≡ true) → (all_chars r ≡ true → clean r ≡ true)
        → cond x (all_chars (b ∷ r)) (y && all_chars r) ≡ true → clean (a ∷ b ∷ r) ≡ true
    go true q y p f g e = rw (one_go a q) (f e)
    go false q true p f g e = rw ((pair_go a b p).0, (pair_go a b p).1) (g e)
    go false q false p f g e = absurd (false≢true e)
