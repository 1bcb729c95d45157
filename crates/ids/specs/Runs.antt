-- Definitions, to be believed.
-- A run of used IDs without positions: IDs of 14 bytes each, one after another. The promises (cuttings, specs/Cuttings.antt) speak of runs so; that what
-- `unused` (Used.antt) refuses is exactly what document 02 (vii) says with these words is `used_exactly` (proofs/Runs.antt).
use Rattle.std.specs.Prelude.{ℕ, ◌*◌, ◌≡◌, List, ◌∷◌, ◌++◌, length}
use Rattle.lists.specs.Lists.{All}
use Rattle.characters.specs.Rows.{flat}

abbrev pub Fourteen : List ℕ → Type 0
Fourteen i = length i ≡ 14

-- "a lent run of 14-byte IDs"
pub record RunOf (u : List ℕ) (ids : List (List ℕ)) : Type 0 where
  pub each : All Fourteen ids
  pub is : flat ids ≡ u

-- "one of its IDs is the one given": the run is some IDs, this one, and others
pub record InRun (id u : List ℕ) : Type 0 where
  pub before : List (List ℕ)
  pub after : List (List ℕ)
  pub run : RunOf u (before ++ (id ∷ after))

-- "the run's length isn't a multiple of 14"
abbrev pub OtherLength : List ℕ → Type 0
OtherLength u = (n : ℕ) → length u ≡ 14 * n → ⊥
