-- A second statement, proved equal.
-- The count as it is raised: one for each piece looked at, and no more after the piece found (`count_looks`, proofs/Looks.antt).
use Rattle.std.specs.Prelude.{ℕ, suc, cond, List, [], ◌∷◌, eqb}

unfoldable pub looks : ℕ → List ℕ → ℕ
looks k [] = 0
looks k (x ∷ xs) = cond (eqb x k) 1 (suc (looks k xs))
