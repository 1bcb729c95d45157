-- Vocabulary of the code.
-- What the code of this crate answers, in the words of Marks.antt and Pieces.antt: the row at a position, a row's kind, a record 911.
use Rattle.std.specs.Prelude.{ℕ, ◌≤◌, ◌<◌, ◌≡◌, List, [], ◌∷◌, ◌++◌, Option, Some, None, length, drop, get_or}
use Rattle.std.specs.Borrow.{Bor}
use Rattle.lists.specs.Searching.{part}
use Rattle.characters.specs.Rows.{rows}
use Rattle.records.specs.Split.{items_of}
use Rattle.pieces.specs.declared.Row.{Row}
use Rattle.pieces.specs.declared.Row.TheVariants.{Head, EndHead, Body, End, Broken}
use Rattle.pieces.specs.declared.RowRead.{RowRead}
use Rattle.pieces.specs.declared.Mark.{Mark as Numbers}
use Rattle.division.specs.Marks.{Mark, read_mark}
use Rattle.division.specs.Pieces.{RowKind, head, end_head, body, end, broken, kind_of}

-- the row from at to e, and the rows after it
pub record RowAt (s : List ℕ) (at e : ℕ) : Type 0 where
  pub more : at < e
  pub inside : e ≤ length s
  pub cut : rows (drop at s) ≡ part s at e ∷ rows (drop e s)

abbrev pub as_kind : Row → RowKind
as_kind (Head d) = head d
as_kind (EndHead d) = end_head d
as_kind Body = body
as_kind End = end
as_kind Broken = broken

pub record KindIs (r : List ℕ) (k : Row) : Type 0 where
  pub is : kind_of r ≡ as_kind k

-- the row at a position with its kind
pub record RowIs (s : List ℕ) (at : ℕ) (r : RowRead) : Type 0 where
  pub row : RowAt s at r.end
  pub kind : KindIs (part s at r.end) r.kind

-- from at to i bytes that are all above 1Ah, so that none is a 0Dh, 0Ah or 1Ah
pub record Skipped (s : List ℕ) (at i : ℕ) : Type 0 where
  pub low : at ≤ i
  pub high : i ≤ length s
  pub plain : (j : ℕ) → at ≤ j → j < i → 0x1a < get_or s j 0

-- a line is an item, a comma, and what follows it
pub record ItemThen (l a r : List ℕ) : Type 0 where
  pub is : l ≡ a ++ 0x2c ∷ r
  pub items : items_of l ≡ a ∷ items_of r

-- the first item of a line with a comma, and what follows the comma
abbrev pub ItemIs : List ℕ → Option (Bor (List ℕ) × Bor (List ℕ)) → Type 0
ItemIs l None = items_of l ≡ l ∷ []
ItemIs l (Some p) = ItemThen l p.0.now p.1.now

-- n and k of a record 911; the ID is its bytes 4 to 17
abbrev pub as_mark : List ℕ → Option Numbers → Option Mark
as_mark i None = None
as_mark i (Some m) = Some (record { ident = i; count = m.count; place = m.place })

-- one to three digits are at most 999
abbrev pub Most : Option Numbers → Type 0
Most None = Unit {0}
Most (Some m) = (m.count ≤ 999) × (m.place ≤ 999)

-- the ID of a record 911 that is read lies inside it
abbrev pub Reaches : List ℕ → Option Numbers → Type 0
Reaches l None = Unit {0}
Reaches l (Some m) = 18 ≤ length l

pub record MarkIs (l : List ℕ) (m : Option Numbers) : Type 0 where
  pub is : read_mark l ≡ as_mark (part l 4 18) m
  pub most : Most m
  pub reaches : Reaches l m
