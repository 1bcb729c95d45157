-- Vocabulary of the code.
-- A line of a file by its commas, and its items at positions.
use Rattle.std.specs.Prelude.{ℕ, ◌+◌, ◌-◌, ◌≤◌, ◌≡◌, List, [], length, get_or}
use Rattle.lists.specs.Searching.{part}
use Rattle.characters.specs.Scanning.{comma_count, commas_from}
use Rattle.scanning.specs.Scans.{Stops}
use Rattle.records.specs.Split.{items_of}
use Rattle.lines.specs.declared.split.Span.{Span}

-- where comma number j of a line stands, from 0; its end where there is none
unfoldable pub comma_at : List ℕ → ℕ → ℕ
comma_at l j = get_or (commas_from 0 l) j (length l)

-- a line goes from at to e of a file, and has n commas, the first sixteen of them at these places from its beginning
pub record LineIn (s : List ℕ) (at e : ℕ) (stops : List ℕ) (n : ℕ) : Type 0 where
  pub places : Stops (part s at e) stops
  pub commas : n ≡ comma_count (part s at e)
  pub low : at ≤ e
  pub high : e ≤ length s

-- item number j of it, from 0, its record's number; nothing where there is none
abbrev pub item_at : List ℕ → ℕ → ℕ → ℕ → List ℕ
item_at s at e j = get_or (items_of (part s at e)) j []

-- r is where that item stands in the file: one with a number after 0 goes from after its comma to the next one or the end
pub record ItemAt (s : List ℕ) (at e n j : ℕ) (r : Span) : Type 0 where
  pub says : part s r.from r.to ≡ item_at s at e j
  pub low : r.from ≤ r.to
  pub high : r.to ≤ e
  pub begins : 1 ≤ j → j ≤ n → r.from ≡ at + (comma_at (part s at e) (j - 1) + 1)
  pub ends : r.to ≡ at + comma_at (part s at e) j
