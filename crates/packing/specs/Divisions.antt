-- Vocabulary of the proofs.
-- Any division into runs, for the law that none has fewer than the packing.
use Rattle.std.specs.Prelude.{ℕ, suc, ◌+◌, ◌≤◌, List, [], ◌∷◌, ◌++◌}
use Rattle.packing.specs.Packing.{total}

-- all that the runs hold, in order
unfoldable pub concat : {A : Type 0} → List (List A) → List A
concat [] = []
concat (x ∷ xs) = x ++ concat xs

-- the runs fit, as pieces k, k + 1, ..
unfoldable pub Fits : {A : Type 0} → (A → ℕ) → (ℕ → ℕ) → ℕ → ℕ → List (List A) → Type 0
Fits len o c k [] = Unit {0}
Fits len o c k (x ∷ xs) = (o k + total len x ≤ c) × Fits len o c (suc k) xs
