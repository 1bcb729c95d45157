-- Examples, computed.
-- Numbers of versions. proofs/AllExamples.antt computes them.
use Rattle.std.specs.Prelude.{ℕ, List, [], ◌∷◌}
use Rattle.gateway.specs.Version.{version_number}

-- 0.0.1, 0.2.0, 1.0.0, 12.34.56
abbrev pub versions : List ℕ
versions = version_number 0 0 1 ∷ version_number 0 2 0 ∷ version_number 1 0 0 ∷ version_number 12 34 56 ∷ []

abbrev pub numbers : List ℕ
numbers = 1 ∷ 200 ∷ 10000 ∷ 123456 ∷ []
