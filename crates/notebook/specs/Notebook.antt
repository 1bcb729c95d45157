-- Definitions, to be believed.
-- A file read to a notebook, or its one refusal. Document 01, "Lines and characters", "Same notebook", and what it says of refusals:
-- "Number 1 comes first, with line 0. Then the first faulty line; within it the lowest number". 15-106 3.2.1, 3.2.7, 3.2.8.
use Rattle.std.specs.Prelude.{ℕ, ◌+◌, Bool, true, false, cond, List, [], ◌∷◌, leb, eqb, length}
use Rattle.lists.specs.Lists.{same, Res, ok, refused, map_res}
use Rattle.characters.specs.Text.{text}
use Rattle.characters.specs.Rows.{rows, is_line, end_mark}
use Rattle.records.specs.Records.{Record, line_fault, record_of, header}
use Rattle.order.specs.declared.State.{State}
use Rattle.order.specs.State.{Step}
use Rattle.order.specs.State.{Fault, On}
use Rattle.order.specs.State.{start, step_of, finish_of}
use Rattle.notebook.specs.Facts.{facts_of}

-- what a file carries: "direction, the list of record numbers and every item". provider: the direction is 1
pub record Notebook : Type 0 where
  pub provider : Bool
  pub records : List Record

-- ---- one record line in its place: its own fault (4 to 12), then the order's (12 to 16)

unfoldable pub step_line : State → List ℕ → Step
step_line st l = cond (eqb (line_fault st.provider l) 0) (step_of st (facts_of (record_of l))) (Fault (line_fault st.provider l))

-- ---- the rows after line 1

-- a record more at the front
abbrev pub prepend : Record → Res (List Record) → Res (List Record)
prepend r x = map_res (λ (rs : List Record). r ∷ rs) x

-- the end: "Number 14 at the end has the line count plus 1"
unfoldable pub closed : State → Res (List Record)
closed st = cond (eqb (finish_of st) 0) (ok []) (refused (finish_of st) (st.line + 1))

-- a refusal has the line's number; a record goes on with the next state
unfoldable pub onward : ℕ → Record → (State → Res (List Record)) → Step → Res (List Record)
onward line r k (Fault n) = refused n line
onward line r k (On t rp doctor) = prepend r (k t)

-- "A line's number is one more than the line ends before it": st.line is the number of the line before this one
unfoldable pub records_from : State → List (List ℕ) → Res (List Record)
records_from st [] = closed st
records_from st (r ∷ rs) =
    cond (same r end_mark) (closed st)
    (cond (is_line r) (onward (st.line + 1) (record_of (text r)) (λ t. records_from t rs) (step_line st (text r)))
    (refused 2 (st.line + 1)))

-- ---- line 1, and the file

abbrev pub notebook_of : Bool → Res (List Record) → Res Notebook
notebook_of provider x = map_res (λ (rs : List Record). record { provider = provider; records = rs }) x

-- "rule of line ends broken; empty input, or 1Ah alone"; "line 1 is another"
unfoldable pub read_rows : List (List ℕ) → Res Notebook
read_rows [] = refused 2 1
read_rows (r ∷ rs) =
    cond (is_line r)
    (cond (same (text r) (header true)) (notebook_of true (records_from (start true) rs))
    (cond (same (text r) (header false)) (notebook_of false (records_from (start false) rs))
    (refused 3 1)))
    (refused 2 1)

-- "A file has at most 65,536 bytes"
unfoldable pub read_file : List ℕ → Res Notebook
read_file s = cond (leb (length s) 65536) (read_rows (rows s)) (refused 1 0)
