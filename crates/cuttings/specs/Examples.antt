-- Examples, computed.
-- Two cuttings of one file, the second of which knew the first's ID, and the pieces of each, written from document 01. proofs/AllExamples.antt shows that the
-- promises of Cuttings.antt speak of them, and computes that joining a piece of each is 19.
use Rattle.std.specs.Prelude.{ℕ, ◌≡◌, List, [], ◌∷◌, ◌++◌, replicate}
use Rattle.lists.specs.Lists.{bytes, refused}
use Rattle.characters.specs.Rows.{flat, end_mark}
use Rattle.ids.specs.Runs.{InRun}
use Rattle.division.specs.Examples.{lines, ident, longer}
use Rattle.division.specs.Join.{join_file}
use Rattle.cuttings.specs.Cuttings.{CutCall, PieceFrom}

-- the pieces of `longer` for a capacity of 67 bytes, 67 and 64 long
abbrev pub piece_one : List ℕ → List ℕ
piece_one id = lines (bytes "JAHISTC04,2" ∷ bytes "1,A,1,H010108,,,,,,," ∷ bytes "4,x,,2" ∷ (bytes "911," ++ id ++ bytes ",2,1") ∷ [])

abbrev pub piece_two : List ℕ → List ℕ
piece_two id = lines (bytes "JAHISTC04,2" ∷ bytes "4,xxxxxxxxxxxxxxxxxxxx,,2" ∷ (bytes "911," ++ id ++ bytes ",2,2") ∷ [])

abbrev pub other_id : List ℕ
other_id = bytes "20261115000002"

-- the IDs that the second cutting knew: a third one, and the first's
abbrev pub known_ids : List ℕ
known_ids = bytes "20261115000000" ++ ident

-- an output that is longer than the pieces
abbrev pub room : List ℕ
room = replicate 132 7

-- what has to be shown of them
pub record TwoCuttings : Type 0 where
  pub one : CutCall
  pub other : CutCall
  pub files : (one.file ≡ longer) × (other.file ≡ longer)
  pub ids : (one.id ≡ ident) × (other.id ≡ other_id)
  pub known : InRun one.id other.used
  pub first : PieceFrom one (piece_one ident)
  pub second : PieceFrom other (piece_two other_id ++ end_mark)
  pub mixed : join_file (flat (piece_one ident ∷ (piece_two other_id ++ end_mark) ∷ [])) ≡ refused 19 0
