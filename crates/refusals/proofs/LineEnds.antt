-- How many line ends the bytes of lines have: a line has one, at its end (`line_ends_lem`, `lines_ends`). Assumes nothing.
use Prim.Native.Nat.{ℕ, suc, ◌+◌}
use native.Mathlib.Omega.{arith}
use mathlib.Core.Path.{◌≡◌, refl, ap, ◌∙◌}
use mathlib.Core.Bool.{Bool, true, false, not, ◌&&◌, ◌||◌, false≢true}
use mathlib.Core.List.{List, [], ◌∷◌, ◌++◌, append_assoc}
use lib.Dec.{eqb}
use lib.ListN.{length}
use Rattle.lists.specs.Lists.{All}
use Rattle.lists.proofs.Tests.{neither}
use Rattle.characters.specs.Text.{is_stop, text}
use Rattle.characters.specs.Scanning.{clean}
use Rattle.characters.specs.Rows.{flat, line_end}
use Rattle.characters.proofs.RowLaws.{text_clean}
use Rattle.notebook.proofs.Accepted.{IsLine, line_bytes}
use Rattle.refusals.specs.Refusals.{line_ends}

-- a byte that is no 0Dh begins no line end
pub skip_byte : (a : ℕ) (l : List ℕ) → eqb a 0x0d ≡ false → line_ends (a ∷ l) ≡ line_ends l
unfolding line_ends
skip_byte a [] e = refl
skip_byte a (b ∷ l) e = rw e (omega arith)

text_ends : (t u : List ℕ) → clean t ≡ true → line_ends (t ++ 0x0d ∷ 0x0a ∷ u) ≡ suc (line_ends u)
unfolding line_ends
text_ends [] u e = omega (arith, skip_byte 0x0a u refl)
text_ends (a ∷ t) u e = go (is_stop a) refl (text_ends t u) e
  where
    go : (b : Bool) → is_stop a ≡ b → (clean t ≡ true → line_ends (t ++ 0x0d ∷ 0x0a ∷ u) ≡ suc (line_ends u)) → (not b && clean t) ≡ true
        → line_ends (a ∷ (t ++ 0x0d ∷ 0x0a ∷ u)) ≡ suc (line_ends u)
    go true p i e = absurd (false≢true e)
    go false p i e =
        let n : eqb a 0x0d ≡ false = (neither (eqb a 0x0d) (eqb a 0x0a) (neither (eqb a 0x0d || eqb a 0x0a) (eqb a 0x1a) p).0).0 in
        skip_byte a (t ++ 0x0d ∷ 0x0a ∷ u) n ∙ i e

pub line_ends_lem : (r u : List ℕ) → IsLine r → line_ends (r ++ u) ≡ suc (line_ends u)
line_ends_lem r u h =
    ap (λ (x : List ℕ). line_ends (x ++ u)) (line_bytes r h) ∙ ap line_ends (append_assoc (text r) line_end u) ∙ text_ends (text r) u (text_clean r)

pub lines_ends : (rs : List (List ℕ)) (u : List ℕ) → All IsLine rs → line_ends (flat rs ++ u) ≡ length rs + line_ends u
lines_ends [] u h = omega arith
lines_ends (r ∷ rs) u (h, t) = omega (arith, ap line_ends (append_assoc r (flat rs) u) ∙ line_ends_lem r (flat rs ++ u) h, lines_ends rs u t)
