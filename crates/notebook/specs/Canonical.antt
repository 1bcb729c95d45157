-- Definitions, to be believed.
-- The call canonical. Document 01, "Same notebook, canonical file": "D in the era form, P without hyphen, R without leading zeros, no 1Ah,
-- all else kept"; "Index and canonical: 1–16, then 20".
use Rattle.std.specs.Prelude.{ℕ, Bool, List, [], ◌∷◌, ◌++◌}
use Rattle.lists.specs.Lists.{Res, map_res}
use Rattle.characters.specs.Rows.{flat, line_end}
use Rattle.records.specs.Records.{Record, write, header}
use Rattle.notebook.specs.Notebook.{Notebook, read_file}
use Rattle.notebook.specs.Same.{arrange}
use Rattle.replies.specs.Results.{Result, writes}

-- ---- the canonical file of a notebook, row by row

-- a line with its line end
abbrev pub ended : List ℕ → List ℕ
ended l = l ++ line_end

-- line 1
abbrev pub head_row : Bool → List ℕ
head_row provider = ended (header provider)

-- a record, each value in its one spelling (records, specs/Items.antt, `write_value`)
abbrev pub record_row : Record → List ℕ
record_row r = ended (write r)

unfoldable pub record_rows : List Record → List (List ℕ)
record_rows [] = []
record_rows (r ∷ rs) = record_row r ∷ record_rows rs

-- the file of a notebook whose records stand as they are
unfoldable pub write_file : Notebook → List ℕ
write_file b = head_row b.provider ++ flat (record_rows b.records)

unfoldable pub canonical_bytes : Notebook → List ℕ
canonical_bytes b = write_file (arrange b)

-- of an accepted file
unfoldable pub canonical_file : List ℕ → Res (List ℕ)
canonical_file s = map_res canonical_bytes (read_file s)

unfoldable pub canonical_result : List ℕ → Res Result
canonical_result s = map_res writes (canonical_file s)
