-- A second statement, proved equal.
-- What is claimed: that a file is accepted exactly when it meets document 01's clauses, the order of its records by the grammar. Each claim is a
-- type here, and a name of proofs/Verdict.antt has that type: `machine_is_grammar`, `file_is_grammar`, `check_is_grammar`.
use Rattle.std.specs.Prelude.{ℕ, ◌≤◌, ◌≡◌, ◌↔◌, Bool, cond, List, [], ◌∷◌, ◌++◌, map, length}
use Rattle.lists.specs.Lists.{ok}
use Rattle.characters.specs.Rows.{line_end, end_mark}
use Rattle.records.specs.Records.{Record, header}
use Rattle.records.specs.Reading.{Read, read_line}
use Rattle.order.specs.declared.State.{State}
use Rattle.order.specs.declared.Facts.{Facts}
use Rattle.order.specs.State.{start}
use Rattle.order.specs.Run.{ran_to, run_of}
use Rattle.notebook.specs.Facts.{facts_of}
use Rattle.notebook.specs.Notebook.{Notebook, read_file}
use Rattle.notebook.specs.Check.{counts as counting, counted, check_result}
use Rattle.grammar.specs.Grammar.{Grammatical}

-- ---- records: the order's machine takes each in turn and ends without refusal, exactly if the grammar has them

pub record RunsThrough (provider : Bool) (rs : List Facts) : Type 0 where
  pub last : State
  pub ran : run_of (start provider) rs ≡ ran_to last

abbrev pub MachineIsGrammar : Type 0
MachineIsGrammar = (provider : Bool) (rs : List Facts) → RunsThrough provider rs ↔ Grammatical provider rs

-- ---- bytes: a file that carries a notebook, with no reader

-- lines, each with its line end, and the bytes after them
abbrev pub lines_then : List (List ℕ) → List ℕ → List ℕ
lines_then [] rest = rest
lines_then (l ∷ ls) rest = l ++ (line_end ++ lines_then ls rest)

-- "lines ended by 0Dh 0Ah, then optionally one 1Ah as the very last byte"
abbrev pub file_bytes : List (List ℕ) → Bool → List ℕ
file_bytes ls marked = lines_then ls (cond marked end_mark [])

-- "Every other line is a record": its characters, number, items and pairs are good, and it is read to this record
abbrev pub Reads : Bool → List (List ℕ) → List Record → Type 0
Reads provider [] [] = Unit {0}
Reads provider [] (r ∷ rs) = ⊥
Reads provider (l ∷ ls) [] = ⊥
Reads provider (l ∷ ls) (r ∷ rs) = (read_line provider l ≡ Read.ok r) × Reads provider ls rs

pub record File (s : List ℕ) (b : Notebook) : Type 0 where
  -- "A file has at most 65,536 bytes"
  pub small : length s ≤ 65536
  -- "Line 1 is JAHISTC04,1 (provider to patient) or JAHISTC04,2 (patient to provider)"; the others are these
  pub lines : List (List ℕ)
  pub marked : Bool
  pub cut : s ≡ file_bytes (header b.provider ∷ lines) marked
  pub read : Reads b.provider lines b.records
  -- "Order of records", and the usage name of "Pairs"
  pub order : Grammatical b.provider (map facts_of b.records)

-- every list of bytes is read to a notebook exactly if it is such a file of it
abbrev pub FileIsGrammar : Type 0
FileIsGrammar = (s : List ℕ) (b : Notebook) → (read_file s ≡ ok b) ↔ File s b

-- check accepts a list of bytes, with these counts, exactly if it is such a file of a notebook with these counts
pub record Carries (s : List ℕ) (records groups drugs : ℕ) : Type 0 where
  pub notebook : Notebook
  pub file : File s notebook
  pub counts : counted notebook ≡ counting records groups drugs

abbrev pub CheckIsGrammar : Type 0
CheckIsGrammar = (s : List ℕ) (records groups drugs : ℕ) → (check_result s ≡ ok (counting records groups drugs)) ↔ Carries s records groups drugs
