-- Vocabulary of the code.
-- A row of the paper's table by its number, and what the code's items of a record are to it.
use Rattle.std.specs.Prelude.{ℕ, ◌≤◌, ◌≡◌, cond, List, [], ◌∷◌, map, eqb}
use Rattle.records.specs.Table.{Row, row, table}
use Rattle.records.specs.Records.{no_row}
use Rattle.items.specs.declared.kinds.Item.{Item}
use Rattle.items.specs.Kinds.{item_of}

unfoldable pub row_by : List Row → ℕ → Row
row_by [] n = no_row
row_by (r ∷ rs) n = cond (eqb n r.number) r (row_by rs n)

-- number 0 where it is not listed
abbrev pub paper_row : ℕ → Row
paper_row n = row_by table n

-- the number is listed, and its row has these items
pub record RowOf (number : ℕ) (items : List Item) : Type 0 where
  pub listed : 1 ≤ number
  pub is : paper_row number ≡ row number (map item_of items)
