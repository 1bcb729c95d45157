-- Definitions, to be believed.
-- The call check: the counts of an accepted file, or its refusal, 1 to 16. Document 01, "Index": "Check returns the counts of records,
-- groups and 201s".
use Rattle.std.specs.Prelude.{ℕ, ◌+◌, cond, List, [], ◌∷◌, eqb, length}
use Rattle.lists.specs.Lists.{Res, map_res}
use Rattle.records.specs.Records.{Record}
use Rattle.replies.specs.Results.{Result}
use Rattle.notebook.specs.Notebook.{Notebook, read_file}

-- how many records have the number; a group has one 5
unfoldable pub count : ℕ → List Record → ℕ
count n [] = 0
count n (r ∷ rs) = cond (eqb r.number n) 1 0 + count n rs

-- a records, b groups, c drugs; check writes nothing
abbrev pub counts : ℕ → ℕ → ℕ → Result
counts records groups drugs = record { a = records; b = groups; c = drugs; written = [] }

abbrev pub counted : Notebook → Result
counted b = counts (length b.records) (count 5 b.records) (count 201 b.records)

unfoldable pub check_result : List ℕ → Res Result
check_result s = map_res counted (read_file s)
