-- A second statement, proved equal.
-- What the laws of the index (proofs/IndexLaws.antt, ClinicLaws.antt) say of its entries, without the reader's state: how many have a number, which line
-- an entry cuts out of the file, and the last entry of a number and group among those before another, or up to it.
use Rattle.std.specs.Prelude.{ℕ, ◌+◌, ◌≡◌, Bool, true, cond, ◌&&◌, List, [], ◌∷◌, eqb}
use Rattle.lists.specs.Searching.{part}
use Rattle.characters.specs.Scanning.{WholeLine}
use Rattle.records.specs.Records.{Record}
use Rattle.records.specs.Reading.{Read, read_line}
use Rattle.notebook.specs.Index.{Entry}

-- how many entries have the number
unfoldable pub count_entries : ℕ → List Entry → ℕ
count_entries n [] = 0
count_entries n (e ∷ es) = cond (eqb e.number n) 1 0 + count_entries n es

-- the entry's offset and bytes are those of a whole line, which is read to the record
pub record Cuts (provider : Bool) (s : List ℕ) (e : Entry) (r : Record) : Type 0 where
  pub line : WholeLine s e.offset (e.offset + e.bytes) true
  pub read : read_line provider (part s e.offset (e.offset + e.bytes)) ≡ Read.ok r
  pub number : e.number ≡ r.number

-- each entry with its record, and no more of either
abbrev pub Each : (Entry → Record → Type 0) → List Entry → List Record → Type 0
Each P [] [] = Unit {0}
Each P [] (r ∷ rs) = ⊥
Each P (e ∷ es) [] = ⊥
Each P (e ∷ es) (r ∷ rs) = P e r × Each P es rs

-- the line of the last entry with this number and group, d where there is none; the first stands at this line
unfoldable pub last_line : ℕ → ℕ → ℕ → ℕ → List Entry → ℕ
last_line n group line d [] = d
last_line n group line d (e ∷ es) = last_line n group (line + 1) (cond (eqb e.number n && eqb e.group group) line d) es

-- d is the line of an entry with this number and group; the first stands at this line
pub data Stands (n group d : ℕ) : ℕ → List Entry → Type 0 where
  here : {line : ℕ} {e : Entry} {es : List Entry} → e.number ≡ n → e.group ≡ group → d ≡ line → Stands n group d line (e ∷ es)
  there : {line : ℕ} {e : Entry} {es : List Entry} → Stands n group d (line + 1) es → Stands n group d line (e ∷ es)
