-- Vocabulary of the code.
-- The items of a line by positions.
use Rattle.std.specs.Prelude.{ℕ, cond, List, [], leb, length, drop}
use Rattle.lists.specs.Searching.{find_from}
use Rattle.records.specs.Split.{items_of}

-- where the item that begins at a position ends
abbrev pub item_end : List ℕ → ℕ → ℕ
item_end s at = find_from 0x2c s at

-- the items from a position on: none past the end
unfoldable pub items_from : List ℕ → ℕ → List (List ℕ)
items_from s at = cond (leb at (length s)) (items_of (drop at s)) []
