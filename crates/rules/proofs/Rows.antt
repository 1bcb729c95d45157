-- The pattern by its rows, for the code's `match`: what the row of a number says, and that a number without a row may stand nowhere.
-- Assumes nothing.
use Prim.Native.Nat.{ℕ}
use mathlib.Core.Path.{◌≡◌, refl}
use mathlib.Core.Bool.{Bool, false}
use mathlib.Core.List.{List, [], ◌∷◌}
use borrow.Author.Tests.{ne_eqb}
use Rattle.rules.specs.Places.{look_up, pattern, may_follow}

pub row : (p n : ℕ) → may_follow p n ≡ look_up n (pattern p)
unfolding may_follow
row p n = refl

-- A and: n is the number of none of these rows, nested as the last arm of a `match` has it
abbrev pub Other : Type 0 → ℕ → List (ℕ × Bool) → Type 0
Other A n [] = A
Other A n (x ∷ xs) = Other (A × (n ≡ x.0 → ⊥)) n xs

pub no_row : (A : Type 0) (n : ℕ) (xs : List (ℕ × Bool)) → Other A n xs → A × (look_up n xs ≡ false)
no_row A n [] o = (o, refl)
no_row A n (x ∷ xs) o =
    let q = no_row (A × (n ≡ x.0 → ⊥)) n xs o in
    (q.0.0, rw (ne_eqb n x.0 q.0.1) q.1)
