-- Definitions, to be believed.
-- The call index. Document 01, "Index": "Six u32 per record after line 1"; "Index and canonical: 1–16, then 20". Document 02, (v) adds a seventh:
-- "The index buffer needs seven numbers a record."
use Rattle.std.specs.Prelude.{ℕ, ◌+◌, cond, true, List, [], ◌∷◌, ◌++◌, eqb, length}
use Rattle.lists.specs.Lists.{same, Res, map_res}
use Rattle.characters.specs.Text.{text}
use Rattle.characters.specs.Rows.{rows, is_line}
use Rattle.records.specs.Records.{record_of, header}
use Rattle.rules.specs.Places.{in_group}
use Rattle.order.specs.declared.State.{State}
use Rattle.order.specs.State.{Step}
use Rattle.order.specs.State.{Fault, On}
use Rattle.order.specs.State.{start, group_of, drug_of}
use Rattle.buffers.specs.Entries.{seven_numbers}
use Rattle.notebook.specs.Notebook.{Notebook, step_line, read_file}
use Rattle.replies.specs.Results.{Result}

-- ---- the entry of a record, as document 01 has it

pub record Entry : Type 0 where
  -- "record number"
  pub number : ℕ
  -- "offset in the file from 0"
  pub offset : ℕ
  -- "bytes without line end"
  pub bytes : ℕ
  -- "group ordinal (0 outside groups; 1 first)"
  pub group : ℕ
  -- "line of the last preceding 55 in the group for 201–391 (else 0)"
  pub doctor : ℕ
  -- "line of the last preceding 201 for 281 and 291 (else 0)"
  pub drug : ℕ

-- the line l at an offset, with the state that its record moved the reader to and the doctor that the step handed back
unfoldable pub entry_of : ℕ → List ℕ → State → ℕ → Entry
entry_of offset l st doctor = record {
  number = (record_of l).number;
  offset = offset;
  bytes = length l;
  group = group_of st;
  doctor = doctor;
  drug = drug_of st;
}

-- ---- the entries of a file: one for each record, up to the first that is refused

unfoldable pub entered : ℕ → List ℕ → (State → List Entry) → Step → List Entry
entered offset l k (Fault n) = []
entered offset l k (On st rp doctor) = entry_of offset l st doctor ∷ k st

unfoldable pub entries_from : State → ℕ → List (List ℕ) → List Entry
entries_from st offset [] = []
entries_from st offset (r ∷ rs) = cond (is_line r) (entered offset (text r) (λ t. entries_from t (offset + length r) rs) (step_line st (text r))) []

-- "per record after line 1"
unfoldable pub entries_after_head : List (List ℕ) → List Entry
entries_after_head [] = []
entries_after_head (r ∷ rs) = cond (is_line r) (entries_from (start (same (text r) (header true))) (length r) rs) []

unfoldable pub entries_of : List ℕ → List Entry
entries_of s = entries_after_head (rows s)

-- ---- the prescribing clinic, document 02, (v); 15-106 3.2.9, record 51

-- "Each index entry gets a seventh number"
pub record Listed : Type 0 where
  pub entry : Entry
  pub clinic : ℕ

-- "the line of the group's 51, or 0 where none has yet stood in that group", after a record n at a line; before: what it was before that record
unfoldable pub clinic_after : ℕ → ℕ → ℕ → ℕ
clinic_after line before n = cond (eqb n 5) 0 (cond (eqb n 51) line before)

-- what a record n shows: outside groups there is no clinic
unfoldable pub clinic_of : ℕ → ℕ → ℕ
clinic_of n clinic = cond (in_group n) clinic 0

-- "The record 51 itself shows its own line"
unfoldable pub listed_from : ℕ → ℕ → List Entry → List Listed
listed_from line before [] = []
listed_from line before (e ∷ es) =
    record { entry = e; clinic = clinic_of e.number (clinic_after line before e.number) }
    ∷ listed_from (line + 1) (clinic_after line before e.number) es

-- the first record stands at line 2
unfoldable pub list_of : List ℕ → List Listed
list_of s = listed_from 2 0 (entries_of s)

-- ---- as numbers: "seven numbers a record"

abbrev pub entry_numbers : Listed → List ℕ
entry_numbers x = let e = x.entry in seven_numbers e.number e.offset e.bytes e.group e.doctor e.drug x.clinic

unfoldable pub numbers : List Listed → List ℕ
numbers [] = []
numbers (x ∷ xs) = entry_numbers x ++ numbers xs

unfoldable pub numbers_of : List ℕ → List ℕ
numbers_of s = numbers (list_of s)

-- "index the count of records": a records
abbrev pub indexed : List ℕ → Notebook → Result
indexed s b = record { a = length b.records; b = 0; c = 0; written = numbers_of s }

unfoldable pub index_result : List ℕ → Res Result
index_result s = map_res (indexed s) (read_file s)
