-- Definitions, to be believed.
-- The used IDs that cutting takes, and the test of them. Document 02 (vii): "Cutting now also takes the used IDs, as a lent run of 14-byte IDs, and
-- tests it"; "(24 used: the run's length isn't a multiple of 14 or one of its IDs is the one given ..)".
use Rattle.std.specs.Prelude.{ℕ, zero, suc, ◌/◌, ◌%◌, Bool, false, not, ◌&&◌, ◌||◌, List, [], ◌∷◌, eqb, length, take, drop}
use Rattle.lists.specs.Lists.{same}

-- the first n IDs of a run
unfoldable pub first_ids : ℕ → List ℕ → List (List ℕ)
first_ids zero u = []
first_ids (suc n) u = take 14 u ∷ first_ids n (drop 14 u)

-- "a lent run of 14-byte IDs": all of them
unfoldable pub ids_in : List ℕ → List (List ℕ)
ids_in u = first_ids (length u / 14) u

-- "one of its IDs is the one given"
abbrev pub one_is : List ℕ → List (List ℕ) → Bool
one_is id [] = false
one_is id (i ∷ is) = same i id || one_is id is

-- 24 lets the ID pass: the run is whole IDs, and none of them is this one
unfoldable pub unused : List ℕ → List ℕ → Bool
unused id u = eqb (length u % 14) 0 && not (one_is id (ids_in u))
