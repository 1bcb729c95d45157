-- Definitions, to be believed.
-- One record line: its fault (refusals 4 to 12 in the priority of document 01's table), the record that it is read to, and how a
-- record is written. Document 01, "Items", "Records", "Pairs", "Same notebook, canonical file"; 15-106 3.2.9.
-- provider: the direction is 1, provider to patient.
use Rattle.std.specs.Prelude.{ℕ, ◌-◌, Bool, true, false, cond, not, ◌&&◌, ◌||◌, List, [], ◌∷◌, map, leb, eqb, length, get_or}
use Rattle.std.specs.Bool.{beq}
use Rattle.lists.specs.Lists.{bytes, empty, same, ◌or_else◌, unless}
use Rattle.digits.specs.Digits.{spell}
use Rattle.characters.specs.Text.{all_chars}
use Rattle.records.specs.Split.{items_of, joined}
use Rattle.records.specs.Table.{Item, Row, row, table, required}
use Rattle.records.specs.Items.{Value, raw, num, day, write_value, spelled_as, fault, value_of}

pub record Record : Type 0 where
  pub number : ℕ
  pub values : List Value

-- ---- one item

-- 8; then by its kind. "An omitted item is empty."
unfoldable pub item_fault : Bool → Item → List ℕ → ℕ
item_fault provider i s = cond (empty s) (unless (not (required provider i.need)) 8) (fault i.kind s)

unfoldable pub item_value : Item → List ℕ → Value
item_value i s = cond (empty s) (raw []) (value_of i.kind s)

-- ---- the items of a row: "8–11 item by item from the left"

unfoldable pub items_fault : Bool → List Item → List (List ℕ) → ℕ
items_fault provider [] [] = 0
items_fault provider [] (s ∷ ss) = 0
items_fault provider (i ∷ is) [] = 0
items_fault provider (i ∷ is) (s ∷ ss) = item_fault provider i s or_else items_fault provider is ss

unfoldable pub items_value : List Item → List (List ℕ) → List Value
items_value [] ss = []
items_value (i ∷ is) [] = []
items_value (i ∷ is) (s ∷ ss) = item_value i s ∷ items_value is ss

-- ---- the row of a number as it is spelled; number 0 where it is not listed

abbrev pub no_row : Row
no_row = row 0 []

unfoldable pub row_in : List Row → List ℕ → Row
row_in [] h = no_row
row_in (r ∷ rs) h = cond (same h (spell r.number)) r (row_in rs h)

unfoldable pub table_row : List ℕ → Row
table_row h = row_in table h

-- ---- the pairs that are about one record's values alone

-- an item by its place, from 1
abbrev pub nth : List Value → ℕ → Value
nth vs i = get_or vs (i - 1) (raw [])

abbrev pub item : Record → ℕ → Value
item r i = nth r.values i

abbrev pub is_empty : Value → Bool
is_empty (raw s) = empty s
is_empty (num n) = false
is_empty (day n) = false

-- it is these bytes
abbrev pub is_text : Value → List ℕ → Bool
is_text (raw s) t = same s t
is_text (num n) t = false
is_text (day n) t = false

-- its value is this number
abbrev pub is_num : Value → ℕ → Bool
is_num (raw s) n = false
is_num (num m) n = eqb m n
is_num (day m) n = false

-- its bytes spell one of the numbers
abbrev pub is_spelled : Value → List ℕ → Bool
is_spelled (raw s) ns = spelled_as ns s
is_spelled (num n) ns = false
is_spelled (day n) ns = false

-- "the code (X) is empty exactly when its kind, the item before it, is empty or 1"
unfoldable pub code_pair : Value → Value → Bool
code_pair kind code = beq (is_empty code) (is_empty kind || is_text kind (49 ∷ []))

-- "an empty quantity or unit is let pass"
abbrev pub or_empty : Value → Bool → Bool
or_empty v b = is_empty v || b

abbrev pub 調剤 : List ℕ
調剤 = 0x92 ∷ 0xb2 ∷ 0x8d ∷ 0xdc ∷ []

abbrev pub 日分 : List ℕ
日分 = 0x93 ∷ 0xfa ∷ 0x95 ∷ 0xaa ∷ []

abbrev pub 回分 : List ℕ
回分 = 0x89 ∷ 0xf1 ∷ 0x95 ∷ 0xaa ∷ []

-- "forms 2, 4, 5, 9, 10 have a quantity of value 1 and unit 92B28DDCh; forms 1, 6, 7 unit 93FA95AAh; form 3, and also 6 and 7, unit
-- 89F195AAh"
unfoldable pub form_pair : Value → Value → Value → Bool
form_pair form quantity unit =
    cond (is_spelled form (2 ∷ 4 ∷ 5 ∷ 9 ∷ 10 ∷ [])) (or_empty quantity (is_num quantity 1) && or_empty unit (is_text unit 調剤))
    (cond (is_spelled form (1 ∷ [])) (or_empty unit (is_text unit 日分))
    (cond (is_spelled form (3 ∷ [])) (or_empty unit (is_text unit 回分))
    (cond (is_spelled form (6 ∷ 7 ∷ [])) (or_empty unit (is_text unit 日分 || is_text unit 回分)) true)))

-- a 201's fifth and sixth item; a 301's sixth and seventh, and its fifth, third and fourth. The usage name is the order's to judge
unfoldable pub pairs : Record → Bool
pairs r =
    cond (eqb r.number 201) (code_pair (item r 5) (item r 6))
    (cond (eqb r.number 301) (code_pair (item r 6) (item r 7) && form_pair (item r 5) (item r 3) (item r 4)) true)

-- ---- one line

unfoldable pub t911 : List ℕ
t911 = 57 ∷ 49 ∷ 49 ∷ []

-- the first item of a line
abbrev pub first_of : List (List ℕ) → List ℕ
first_of [] = []
first_of (h ∷ ss) = h

-- "A record 911 is a line that is 911 or begins with 911 and a comma."
unfoldable pub is_mark : List ℕ → Bool
is_mark l = same (first_of (items_of l)) t911

-- the record of a first item and the others
unfoldable pub record_from : List (List ℕ) → Record
record_from [] = record { number = 0; values = [] }
record_from (h ∷ ss) = record { number = (table_row h).number; values = items_value (table_row h).items ss }

-- 5 ("911 is known"), 6, 7, then 8 to 11, then 12
unfoldable pub fault_from : Bool → List (List ℕ) → ℕ
fault_from provider [] = 5
fault_from provider (h ∷ ss) =
    unless (leb 1 (table_row h).number || same h t911) 5 or_else
    unless (not (same h t911)) 6 or_else
    unless (eqb (length ss) (length (table_row h).items)) 7 or_else
    items_fault provider (table_row h).items ss or_else
    unless (pairs (record_from (h ∷ ss))) 12

-- 4 first
unfoldable pub line_fault : Bool → List ℕ → ℕ
line_fault provider l = unless (all_chars l) 4 or_else fault_from provider (items_of l)

unfoldable pub record_of : List ℕ → Record
record_of l = record_from (items_of l)

-- ---- writing

unfoldable pub write : Record → List ℕ
write r = joined (spell r.number) (map write_value r.values)

-- ---- line 1

-- "JAHISTC04,1 (provider to patient) or JAHISTC04,2 (patient to provider)"; 15-106 3.1, 3.2.9
unfoldable pub header : Bool → List ℕ
header true = bytes "JAHISTC04,1"
header false = bytes "JAHISTC04,2"
