-- Vocabulary of the code.
-- What the code knows of a line: its record's number where its items have no fault, and what stands at a position where a row begins.
use Rattle.std.specs.Prelude.{ℕ, ◌+◌, ◌≤◌, ◌<◌, ◌≡◌, Bool, true, List, [], Option, Some, None, Result, Ok, Err, length, get_or, drop, map}
use Rattle.lists.specs.Searching.{part}
use Rattle.digits.specs.Short.{plain_number}
use Rattle.characters.specs.Scanning.{comma_count}
use Rattle.scanning.specs.Scans.{LineOf}
use Rattle.replies.specs.declared.refusal.Refusal.{Refusal}
use Rattle.replies.specs.Refusals.{number_of}
use Rattle.records.specs.Split.{items_of}
use Rattle.records.specs.Records.{items_fault, fault_from, line_fault, record_of}
use Rattle.notebook.specs.Facts.{facts_of}
use Rattle.items.specs.declared.kinds.Item.{Item}
use Rattle.items.specs.Kinds.{item_of}
use Rattle.table.specs.Rows.{paper_row}
use Rattle.lines.specs.declared.Numbered.{Numbered}
use Rattle.lines.specs.declared.Line.{Line}

-- a line without a fault in number and items: n is its record's number
pub record Sound (provider : Bool) (s : List ℕ) (n : ℕ) : Type 0 where
  pub number : plain_number (get_or (items_of s) 0 []) ≡ Some n
  pub listed : 1 ≤ (paper_row n).number
  pub count : comma_count s ≡ length (paper_row n).items
  pub items : items_fault provider (paper_row n).items (drop 1 (items_of s)) ≡ 0

-- a line's number, or its fault in number and items
abbrev pub NumberMeans : Bool → List ℕ → Result ℕ Refusal → Type 0
NumberMeans provider s (Ok n) = Sound provider s n
NumberMeans provider s (Err r) = number_of r ≡ fault_from provider (items_of s)

pub record NumberOf (provider : Bool) (s : List ℕ) (r : Result ℕ Refusal) : Type 0 where
  pub means : NumberMeans provider s r

-- ---- at a position

-- a line from a position to e, with n commas, of characters or not
abbrev pub WholeAt : List ℕ → ℕ → List ℕ → ℕ → Bool → ℕ → Type 0
WholeAt s at stops e good n = LineOf s at stops (Ok (Some (record { end = e; good = good; commas = n })))

-- a line from a position on without a fault in characters, number and items
pub record SoundAt (provider : Bool) (s : List ℕ) (at : ℕ) (stops : List ℕ) (r : Numbered) : Type 0 where
  pub line : WholeAt s at stops r.end true r.commas
  pub sound : Sound provider (part s at r.end) r.number

-- the rule of line ends is broken; or a line has fault n
pub data FaultAt (provider : Bool) (s : List ℕ) (at : ℕ) (stops : List ℕ) (n : ℕ) : Type 0 where
  broken : LineOf s at stops (Err (record {})) → n ≡ 2 → FaultAt provider s at stops n
  faulty : (e : ℕ) (good : Bool) (k : ℕ) → WholeAt s at stops e good k → n ≡ line_fault provider (part s at e) → (n ≡ 0 → ⊥) → FaultAt provider s at stops n

-- no line is left
abbrev pub OverAt : List ℕ → ℕ → List ℕ → Type 0
OverAt s at stops = LineOf s at stops (Ok None)

abbrev pub FoundMeans : Bool → List ℕ → ℕ → List ℕ → Result (Option Numbered) Refusal → Type 0
FoundMeans provider s at stops (Ok (Some line)) = SoundAt provider s at stops line
FoundMeans provider s at stops (Ok None) = OverAt s at stops
FoundMeans provider s at stops (Err r) = FaultAt provider s at stops (number_of r)

pub record FoundOf (provider : Bool) (s : List ℕ) (at : ℕ) (stops : List ℕ) (r : Result (Option Numbered) Refusal) : Type 0 where
  pub means : FoundMeans provider s at stops r

-- a line from a position on without a fault, and the facts of its record
pub record RecordAt (provider : Bool) (s : List ℕ) (at : ℕ) (stops : List ℕ) (r : Line) : Type 0 where
  pub line : WholeAt s at stops r.end true r.commas
  pub fine : line_fault provider (part s at r.end) ≡ 0
  pub facts : r.facts ≡ facts_of (record_of (part s at r.end))

abbrev pub ReadMeans : Bool → List ℕ → ℕ → List ℕ → Result (Option Line) Refusal → Type 0
ReadMeans provider s at stops (Ok (Some line)) = RecordAt provider s at stops line
ReadMeans provider s at stops (Ok None) = OverAt s at stops
ReadMeans provider s at stops (Err r) = FaultAt provider s at stops (number_of r)

pub record ReadOf (provider : Bool) (s : List ℕ) (at : ℕ) (stops : List ℕ) (r : Result (Option Line) Refusal) : Type 0 where
  pub means : ReadMeans provider s at stops r

-- ---- a line read item by item, before its end is known

-- r is the end of a line from a position on, whose characters and items have no fault; from: where its number ends
pub record QuickLine (provider : Bool) (row : List Item) (s : List ℕ) (at from : ℕ) (stops : List ℕ) (r : ℕ) : Type 0 where
  pub line : WholeAt s at stops r true (length row)
  pub first : get_or (items_of (part s at r)) 0 [] ≡ part s at from
  pub items : items_fault provider (map item_of row) (drop 1 (items_of (part s at r))) ≡ 0

-- 0Dh 0Ah stand at a position
pub record LineEnds (s : List ℕ) (e : ℕ) : Type 0 where
  pub inside : e + 1 < length s
  pub return : get_or s e 0 ≡ 0x0d
  pub feed : get_or s (e + 1) 0 ≡ 0x0a

pub record LineEndsIf (s : List ℕ) (e : ℕ) (r : Bool) : Type 0 where
  pub holds : r ≡ true → LineEnds s e
