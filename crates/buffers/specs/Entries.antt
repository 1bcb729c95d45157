-- Definitions, to be believed.
-- The numbers of an entry of an index, in order.
use Rattle.std.specs.Prelude.{ℕ, List, [], ◌∷◌}

-- seven numbers, as an entry of an index has them
unfoldable pub seven_numbers : ℕ → ℕ → ℕ → ℕ → ℕ → ℕ → ℕ → List ℕ
seven_numbers a b c d e f g = a ∷ b ∷ c ∷ d ∷ e ∷ f ∷ g ∷ []
