-- A second statement, proved equal.
-- A notebook's records as what stands before its groups (`front`), its groups and its 701s (`tail`): `parts_of` divides them, `records_of` puts them
-- together, and no other division has the shape `Shaped` (proofs/GroupLaws.antt). Then what is asked of a group (`group_day`, `institution`), of the
-- groups (`NewestFirst`) and of a notebook (`person`). Proved equal to what the index and check say are the groups, their ordinals and their days; `institution`
-- and `person` are held by examples alone until a call rests on them. Document 01, "Order of records", "Index"; 15-106 3.2.7, 3.2.9.
use Rattle.std.specs.Prelude.{ℕ, ◌+◌, ◌≤◌, ◌≡◌, false, cond, ◌||◌, eqb, Option, Some, None}
use mathlib.Core.List.{List, [], ◌∷◌, ◌++◌, map, flatten}
use Rattle.lists.specs.Lists.{All}
use Rattle.records.specs.Items.{Value, raw, num, day}
use Rattle.records.specs.Records.{Record, item}
use Rattle.notebook.specs.Facts.{day_of}
use Rattle.notebook.specs.Notebook.{Notebook}

-- "At most one 1; then any 2s, then 3s, then 4s; then groups; then any 701s."
pub record Parts : Type 0 where
  pub front : List Record
  pub groups : List (List Record)
  pub tail : List Record

-- From the last record to the first: a 5 begins a group with what stands before the next 5, a 701 or the end ("A group .. closes at the next 5, a 701
-- or the end"); before the first 5 that is the front.
unfoldable pub parts_of : List Record → Parts
parts_of [] = record { front = []; groups = []; tail = [] }
parts_of (r ∷ rs) =
    cond (eqb r.number 701) (record { front = []; groups = []; tail = r ∷ rs })
    (cond (eqb r.number 5) (record { front = []; groups = (r ∷ (parts_of rs).front) ∷ (parts_of rs).groups; tail = (parts_of rs).tail })
    (record { front = r ∷ (parts_of rs).front; groups = (parts_of rs).groups; tail = (parts_of rs).tail }))

unfoldable pub records_of : Parts → List Record
records_of p = p.front ++ (flatten p.groups ++ p.tail)

-- ---- the shape of parts, for every list of records

-- neither a 5 nor a 701
abbrev pub Inner : Record → Type 0
Inner r = (eqb r.number 5 || eqb r.number 701) ≡ false

abbrev pub IsGroup : List Record → Type 0
IsGroup [] = ⊥
IsGroup (r ∷ rs) = (r.number ≡ 5) × All Inner rs

abbrev pub IsTail : List Record → Type 0
IsTail [] = Unit {0}
IsTail (r ∷ rs) = r.number ≡ 701

pub record Shaped (p : Parts) : Type 0 where
  pub front : All Inner p.front
  pub groups : All IsGroup p.groups
  pub tail : IsTail p.tail

-- ---- "group ordinal (0 outside groups; 1 first)", of each record

-- of records in groups, the first of which has the ordinal k
unfoldable pub ordinals_from : ℕ → List (List Record) → List ℕ
ordinals_from k [] = []
ordinals_from k (g ∷ gs) = map (λ r. k) g ++ ordinals_from (k + 1) gs

unfoldable pub ordinals : Parts → List ℕ
ordinals p = map (λ r. 0) p.front ++ (ordinals_from 1 p.groups ++ map (λ r. 0) p.tail)

-- ---- items of a group and of a notebook

-- the first record of the number
unfoldable pub first : ℕ → List Record → Option Record
first n [] = None
first n (r ∷ rs) = cond (eqb r.number n) (Some r) (first n rs)

-- "An omitted item is empty": so is every item of a record that does not stand
abbrev pub item_of : Option Record → ℕ → Value
item_of None i = raw []
item_of (Some r) i = item r i

-- the bytes of a kind that is kept as bytes, none for any other
abbrev pub text_of : Value → List ℕ
text_of (raw s) = s
text_of (num n) = []
text_of (day n) = []

-- a group's day: the first item of its 5 (3.2.9, record 5: the day of dispensing)
unfoldable pub group_day : List Record → ℕ
group_day g = day_of (item_of (first 5 g) 1)

-- the institution code of a group: the fourth item of its 11 (3.2.9, record 11), empty where it or the 11 is not there
unfoldable pub institution : List Record → List ℕ
institution g = text_of (item_of (first 11 g) 4)

-- "At most one 1"
unfoldable pub person : Notebook → Option Record
person b = first 1 b.records

-- ---- "No group is newer than the one before it; equal days are good." 3.2.7 note 1: from new to old.

-- before: the day of the group before
abbrev pub NoneNewer : ℕ → List (List Record) → Type 0
NoneNewer before [] = Unit {0}
NoneNewer before (g ∷ gs) = (group_day g ≤ before) × NoneNewer (group_day g) gs

abbrev pub NewestFirst : List (List Record) → Type 0
NewestFirst [] = Unit {0}
NewestFirst (g ∷ gs) = NoneNewer (group_day g) gs
