-- Definitions, to be believed.
-- The call join. Document 01, "Cutting and joining": "Joining accepts one piece without a record 911, or n pieces, each with exactly one
-- record 911 of items ID, n, k as its last line, all with equal line 1, ID (14 digits) and n (2–999, value); k takes each value 1 to n
-- once"; "The joined file is line 1 and the records by k, without 911 and 1Ah; it is then checked as a file". "Joining: 1 and 2 on the input,
-- 19, then 1–16 on the joined file, then 20".
use Rattle.std.specs.Prelude.{ℕ, zero, suc, Bool, true, cond, not, ◌&&◌, List, [], ◌∷◌, ◌++◌, Option, Some, None, leb, eqb, length}
use Rattle.std.specs.Bool.{beq}
use Rattle.lists.specs.Lists.{same, Res, ok, refused, map_res, and_then}
use Rattle.characters.specs.Text.{text}
use Rattle.records.specs.Records.{is_mark}
use Rattle.notebook.specs.Notebook.{Notebook, read_file}
use Rattle.division.specs.Marks.{Mark, read_mark}
use Rattle.division.specs.Pieces.{Piece, split, file_of}
use Rattle.replies.specs.Results.{Result, writes}

-- ---- one piece without a record 911

-- "A record 911 is a line that is 911 or begins with 911 and a comma": records, specs/Records.antt, `is_mark`
unfoldable pub unmarked : List (List ℕ) → Bool
unmarked [] = true
unmarked (r ∷ rs) = not (is_mark (text r)) && unmarked rs

-- ---- a piece of a set: its rows before the record 911, which is its last line and the only one

pub record Part : Type 0 where
  pub provider : Bool
  pub mark : Mark
  pub rows : List (List ℕ)

-- a row more at the front
abbrev pub row_before : List ℕ → Option Part → Option Part
row_before r None = None
row_before r (Some p) = Some (record { provider = p.provider; mark = p.mark; rows = r ∷ p.rows })

-- the first record 911 must be the last row, and be read
abbrev pub last_mark : Bool → List (List ℕ) → Option Mark → Option Part
last_mark d [] None = None
last_mark d [] (Some m) = Some (record { provider = d; mark = m; rows = [] })
last_mark d (r ∷ rs) m = None

unfoldable pub part_of : Bool → List (List ℕ) → Option Part
part_of d [] = None
part_of d (r ∷ rs) = cond (is_mark (text r)) (last_mark d rs (read_mark (text r))) (row_before r (part_of d rs))

abbrev pub part_with : Option Part → Option (List Part) → Option (List Part)
part_with None ps = None
part_with (Some p) None = None
part_with (Some p) (Some ps) = Some (p ∷ ps)

unfoldable pub all_parts : List Piece → Option (List Part)
all_parts [] = Some []
all_parts (x ∷ xs) = part_with (part_of x.provider x.rows) (all_parts xs)

-- ---- a set: "all with equal line 1, ID (14 digits) and n (2–999, value); k takes each value 1 to n once"

unfoldable pub agree : Part → List Part → Bool
agree p [] = true
agree p (q ∷ qs) =
    (beq p.provider q.provider && (same p.mark.ident q.mark.ident && eqb p.mark.count q.mark.count)) && agree p qs

-- the first part with a place
unfoldable pub find_part : ℕ → List Part → Option Part
find_part k [] = None
find_part k (p ∷ ps) = cond (eqb p.mark.place k) (Some p) (find_part k ps)

abbrev pub rows_of_part : Option Part → Option (List (List ℕ)) → Option (List (List ℕ))
rows_of_part None rs = None
rows_of_part (Some p) None = None
rows_of_part (Some p) (Some rs) = Some (p.rows ++ rs)

-- the rows of n parts from place k on: with n parts in all, each place is taken once
unfoldable pub gather : List Part → ℕ → ℕ → Option (List (List ℕ))
gather ps zero k = Some []
gather ps (suc n) k = rows_of_part (find_part k ps) (gather ps n (suc k))

abbrev pub one_piece : Bool → Option (List (List ℕ)) → Option Piece
one_piece d None = None
one_piece d (Some rs) = Some (record { provider = d; rows = rs })

-- n has one to three digits, so that it is at most 999
abbrev pub join_parts : Option (List Part) → Option Piece
join_parts None = None
join_parts (Some []) = None
join_parts (Some (p ∷ ps)) =
    cond (agree p ps && (leb 2 p.mark.count && eqb (length (p ∷ ps)) p.mark.count))
    (one_piece p.provider (gather (p ∷ ps) p.mark.count 1)) None

-- ---- the pieces joined to one without a record 911, none for 19

unfoldable pub join_pieces : List Piece → Option Piece
join_pieces [] = None
join_pieces (x ∷ []) = cond (unmarked x.rows) (Some x) (join_parts (all_parts (x ∷ [])))
join_pieces (x ∷ y ∷ xs) = join_parts (all_parts (x ∷ y ∷ xs))

-- ---- the joined file: 1 and 2 on the input, then 19

abbrev pub or_set : Option Piece → Res (List ℕ)
or_set None = refused 19 0
or_set (Some p) = ok (file_of p)

abbrev pub join_split : Res (List Piece) → Res (List ℕ)
join_split x = and_then x (λ (ps : List Piece). or_set (join_pieces ps))

unfoldable pub joined_file : List ℕ → Res (List ℕ)
joined_file s = cond (leb (length s) 131072) (join_split (split s)) (refused 1 0)

-- ---- "it is then checked as a file"

abbrev pub checked_file : List ℕ → Res Notebook → Res (List ℕ)
checked_file w x = map_res (λ (b : Notebook). w) x

abbrev pub then_checked : Res (List ℕ) → Res (List ℕ)
then_checked x = and_then x (λ (w : List ℕ). checked_file w (read_file w))

-- the file that joining answers, or a refusal but for 20: "In demand 3, joining accepts a list if none of 1, 2 and 19 arises from the list
-- and none of 1–16 from the joined file"
unfoldable pub join_file : List ℕ → Res (List ℕ)
join_file s = then_checked (joined_file s)

unfoldable pub join_result : List ℕ → Res Result
join_result s = map_res writes (join_file s)
