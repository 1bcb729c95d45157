-- Examples, computed.
-- Runs of used IDs, and whether 24 lets the ID 20261115000001 pass; written from document 02 (vii). proofs/AllExamples.antt computes them.
use Rattle.std.specs.Prelude.{ℕ, Bool, true, false, List, [], ◌∷◌, ◌++◌, take, drop}
use Rattle.lists.specs.Lists.{bytes}

abbrev pub given : List ℕ
given = bytes "20261115000001"

abbrev pub other : List ℕ
other = bytes "20261115000002"

abbrev pub runs : List (List ℕ)
runs =
    -- no ID at all; another one; any content
    []
    ∷ other
    ∷ (bytes "any 14 bytes, " ++ other)
    -- the only one, the first, the last, one between others
    ∷ given
    ∷ (given ++ other)
    ∷ (other ++ given)
    ∷ (other ++ given ++ other)
    -- across two IDs: its bytes stand in the run, at no multiple of 14
    ∷ (bytes "0000000" ++ given ++ bytes "0000000")
    ∷ (drop 1 given ++ given ++ bytes "0")
    -- one that differs in its first byte, or in its last
    ∷ (bytes "10261115000001" ++ bytes "20261115000000")
    -- no multiple of 14: 13 bytes, 1, 15, and 27 that begin with it
    ∷ take 13 given
    ∷ bytes "2"
    ∷ (other ++ bytes "2")
    ∷ (given ++ take 13 other)
    ∷ []

abbrev pub theirs : List Bool
theirs =
    true ∷ true ∷ true
    ∷ false ∷ false ∷ false ∷ false
    ∷ true ∷ true
    ∷ true
    ∷ false ∷ false ∷ false ∷ false
    ∷ []
