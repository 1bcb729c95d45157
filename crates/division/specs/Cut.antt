-- Definitions, to be believed.
-- The call cut. Document 01, "Cutting and joining": "Piece k is line 1, a run of canonical records, and 911,ID,n,k"; "Pieces are written one
-- after another; the result holds their count and total length"; "Cutting: 1–16, 17, 18, 20". Document 02 (vii): "Cutting now also takes the used
-- IDs"; 24 "after 17 and before 18".
use Rattle.std.specs.Prelude.{ℕ, suc, Bool, cond, List, [], ◌∷◌, ◌++◌, Option, Some, None, length}
use Rattle.lists.specs.Lists.{Res, ok, refused, map_res, and_then}
use Rattle.characters.specs.Rows.{flat}
use Rattle.notebook.specs.Notebook.{Notebook, read_file}
use Rattle.notebook.specs.Same.{arrange}
use Rattle.notebook.specs.Canonical.{head_row, record_rows, write_file}
use Rattle.ids.specs.Used.{unused}
use Rattle.packing.specs.Widths.{Plan, in_one, in_runs, no_plan, plan}
use Rattle.division.specs.Marks.{valid_id, mark_row}
use Rattle.replies.specs.Results.{Result}

-- ---- the pieces

-- piece k of n
unfoldable pub piece_bytes : Bool → List ℕ → ℕ → ℕ → List (List ℕ) → List ℕ
piece_bytes provider id n k rs = head_row provider ++ (flat rs ++ mark_row id n k)

-- the runs as pieces k, k + 1, .. of n
unfoldable pub numbered : Bool → List ℕ → ℕ → ℕ → List (List (List ℕ)) → List (List ℕ)
numbered provider id n k [] = []
numbered provider id n k (x ∷ xs) = piece_bytes provider id n k x ∷ numbered provider id n (suc k) xs

-- "If the canonical file fits the capacity, it is the only piece. Otherwise the pieces number n"
abbrev pub planned : List ℕ → Notebook → Plan (List ℕ) → Option (List (List ℕ))
planned id b in_one = Some (write_file b ∷ [])
planned id b (in_runs xs) = Some (numbered b.provider id (length xs) 1 xs)
planned id b no_plan = None

-- the list of pieces of a notebook whose records stand as they are, for an ID and a capacity; none where no width serves
unfoldable pub cutting : List ℕ → ℕ → Notebook → Option (List (List ℕ))
cutting id c b = planned id b (plan length c (record_rows b.records))

-- ---- the list that is written, or a refusal: the file's, then 17, then 24, then 18

abbrev pub listed : Option (List (List ℕ)) → Res (List (List ℕ))
listed None = refused 18 0
listed (Some ps) = ok ps

-- 17, then 24, then what follows; digits: the ID is 14 digits, passes: 24 lets it pass
abbrev pub for_id : {A : Type 0} → Bool → Bool → Res A → Res A
for_id digits passes x = cond digits (cond passes x (refused 24 0)) (refused 17 0)

-- "a run of canonical records": in the sequence of the canonical file
abbrev pub list_for : List ℕ → List ℕ → ℕ → Notebook → Res (List (List ℕ))
list_for id used c b = for_id (valid_id id) (unused id used) (listed (cutting id c (arrange b)))

unfoldable pub cut_list : List ℕ → ℕ → List ℕ → List ℕ → Res (List (List ℕ))
cut_list s c id used = and_then (read_file s) (list_for id used c)

-- "the result holds their count and total length": a pieces, b bytes
abbrev pub writes_pieces : List (List ℕ) → Result
writes_pieces ps = record { a = length ps; b = length (flat ps); c = 0; written = flat ps }

-- a file, a capacity, an ID, and the run of used IDs
unfoldable pub cut_result : List ℕ → ℕ → List ℕ → List ℕ → Res Result
cut_result s c id used = map_res writes_pieces (cut_list s c id used)
