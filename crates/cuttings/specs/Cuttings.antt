-- Promises, to be believed.
-- DOCUMENT 02 (vii), IDs that have been used, as statements about what the calls cut and join reply and leave in their outputs. Demand 3 with its new valid ID
-- is in division, specs/Demand.antt; a run of IDs (`RunOf`, `InRun`, `OtherLength`) in ids, specs/Runs.antt. proofs/Promises.antt proves each.
use Rattle.std.specs.Prelude.{ℕ, ◌≤◌, ◌≡◌, ◌↔◌, ◌⊎◌, true, false, List, [], ◌++◌, length}
use Rattle.lists.specs.Lists.{All, ok, refused}
use Rattle.characters.specs.Rows.{flat, end_mark}
use Rattle.replies.specs.Replies.{refusal, result}
use Rattle.replies.specs.Results.{reply_to, output_of}
use Rattle.notebook.specs.Notebook.{Notebook, read_file}
use Rattle.ids.specs.Runs.{InRun, OtherLength}
use Rattle.division.specs.Marks.{valid_id}
use Rattle.division.specs.Cut.{cut_result}
use Rattle.division.specs.Join.{join_result}
use Rattle.division.specs.Orders.{Insert}
use Rattle.division.specs.Demand.{OnePiece, ListIn, ForFile, Valid}

-- ---- "(24 used: the run's length isn't a multiple of 14 or one of its IDs is the one given; line 0, after 17 and before 18.)"

-- for every capacity and output, and so before 18 and 20
abbrev pub UsedExactly : Type 0
UsedExactly = ForFile (λ f b c id used out. valid_id id ≡ true → (reply_to (cut_result f c id used) out ≡ refusal 24 0) ↔ (OtherLength used ⊎ InRun id used))

-- "after 17": another ID is 17 with every run
abbrev pub IdFirst : Type 0
IdFirst = ForFile (λ f b c id used out. valid_id id ≡ false → reply_to (cut_result f c id used) out ≡ refusal 17 0)

-- and the file comes first with every ID and run
abbrev pub FileFirst : Type 0
FileFirst =
    (f : List ℕ) (n line : ℕ) → read_file f ≡ refused n line → (c : ℕ) (id used out : List ℕ) → reply_to (cut_result f c id used) out ≡ refusal n line

-- "For a run and an ID of 14 digits that 24 lets pass, .. the fewest pieces are found as before": the reply and the output are those for no used IDs
abbrev pub AsBefore : Type 0
AsBefore =
    (f : List ℕ) (c : ℕ) (id used out : List ℕ) → Valid id used
    → (reply_to (cut_result f c id used) out ≡ reply_to (cut_result f c id []) out) × (output_of (cut_result f c id used) out ≡ output_of (cut_result f c id []) out)

-- ---- "Pieces of two cuttings with one ID can be confused"

-- a call of cut with an accepted file that wrote pieces
pub record CutCall : Type 0 where
  pub file : List ℕ
  pub book : Notebook
  pub capacity : ℕ
  pub id : List ℕ
  pub used : List ℕ
  pub out : List ℕ
  pub count : ℕ
  pub size : ℕ
  pub accepted : read_file file ≡ ok book
  pub wrote : reply_to (cut_result file capacity id used) out ≡ result count size 0

-- its output at exit
abbrev pub left_by : CutCall → List ℕ
left_by x = output_of (cut_result x.file x.capacity x.id x.used) x.out

-- an element of a list: the list is this one and others
pub record InList (p : List ℕ) (ps : List (List ℕ)) : Type 0 where
  pub others : List (List ℕ)
  pub found : Insert p others ps

-- p is one of the pieces that it wrote, with "an optional 1Ah after each"
pub record PieceFrom (x : CutCall) (p : List ℕ) : Type 0 where
  pub list : List (List ℕ)
  pub written : ListIn (left_by x) x.count x.size list
  pub piece : List ℕ
  pub one : InList piece list
  pub is : (p ≡ piece) ⊎ (p ≡ piece ++ end_mark)

-- a cutting whose run has the ID of another has another ID
abbrev pub AnotherId : Type 0
AnotherId = (x y : CutCall) → InRun x.id y.used → x.id ≡ y.id → ⊥

-- so whole pieces that have a piece of each, each cut into more than one, never make a set: joining them is 19, and its output is as lent
abbrev pub NeverMixed : Type 0
NeverMixed =
    (x y : CutCall) → InRun x.id y.used → 2 ≤ x.count → 2 ≤ y.count
    → (ps : List (List ℕ)) → All OnePiece ps → length (flat ps) ≤ 131072
    → (p q : List ℕ) → PieceFrom x p → PieceFrom y q → InList p ps → InList q ps
    → (out : List ℕ) → (reply_to (join_result (flat ps)) out ≡ refusal 19 0) × (output_of (join_result (flat ps)) out ≡ out)
