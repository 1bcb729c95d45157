-- The rows of the paper's table by their numbers: a first item's row is that of its plain number, and what is known of a row that `row_of` gives.
-- Nothing is argued for one record. Assumes nothing.
use Prim.Native.Nat.{ℕ, ◌≤◌}
use mathlib.Core.Path.{◌≡◌, refl, sym, ap, ◌∙◌}
use mathlib.Core.Bool.{Bool, true, false, cond, ◌&&◌, false≢true}
use mathlib.Core.List.{List, [], ◌∷◌, map}
use native.Mathlib.Omega.{arith}
use Rattle.std.specs.Prelude.{Option, Some, None}
use Rattle.std.specs.Option.{unwrap_or, is_some, MatchOption}
use borrow.Author.Tests.{leb-true, le-leb}
use lib.Dec.{leb, eqb}
use lib.ListN.{length, length-map}
use Rattle.lists.proofs.Tests.{both}
use Rattle.digits.specs.Short.{plain_number}
use Rattle.digits.proofs.Spelling.{same_spell}
use Rattle.records.specs.Table.{Row, row, table}
use Rattle.records.specs.Records.{row_in, table_row, no_row}
use Rattle.items.specs.declared.kinds.Item.{Item}
use Rattle.items.specs.Kinds.{item_of}
use Rattle.items.proofs.SetLaws.{small, small_is}
use Rattle.table.specs.Rows.{row_by, paper_row, RowOf}

-- a test of every row
unfoldable pub all_rows : (Row → Bool) → List Row → Bool
all_rows p [] = true
all_rows p (r ∷ rs) = p r && all_rows p rs

-- ---- the row of a first item

abbrev small_row : Row → Bool
small_row r = small r.number

row_by_lem : (rs : List Row) (s : List ℕ) → all_rows small_row rs ≡ true → row_in rs s ≡ row_by rs (unwrap_or (plain_number s) 0)
unfolding row_in row_by all_rows
row_by_lem [] s h = refl
row_by_lem (r ∷ rs) s h =
    let p : (small_row r ≡ true) × (all_rows small_row rs ≡ true) = both (small_row r) (all_rows small_row rs) h in
    let q : (1 ≤ r.number) × (r.number ≤ 999) = small_is r.number p.0 in
    rw (same_spell s r.number q.0 q.1, row_by_lem rs s p.1)

small_rows : all_rows small_row table ≡ true
unfolding all_rows table
small_rows = refl

pub row_of_number : (s : List ℕ) → table_row s ≡ paper_row (unwrap_or (plain_number s) 0)
unfolding table_row
row_of_number s = row_by_lem table s small_rows

zero_unlisted : paper_row 0 ≡ no_row
unfolding row_by table
zero_unlisted = refl

-- o: its plain number
module _ (s : List ℕ) {o : Option ℕ} (e : o ≡ plain_number s) where
  -- there is none
  pub row_none : o ≡ None → table_row s ≡ no_row
  row_none q = row_of_number s ∙ ap (λ (x : Option ℕ). paper_row (unwrap_or x 0)) (sym e ∙ q) ∙ zero_unlisted

  module _ {n : ℕ} (q : o ≡ Some n) where
    pub row_number : table_row s ≡ paper_row n
    row_number = row_of_number s ∙ ap (λ (x : Option ℕ). paper_row (unwrap_or x 0)) (sym e ∙ q)

    -- it is not listed
    pub row_unlisted : paper_row n ≡ no_row → table_row s ≡ no_row
    row_unlisted u = row_number ∙ u

    -- it is, and its row has these items
    pub row_listed : {items : List Item} → RowOf n items → table_row s ≡ row n (map item_of items)
    row_listed r = row_number ∙ r.is

-- ---- the row of a spelling, by the code's rows

-- o is what the code finds for a spelling: nothing where it has no plain number, else what `row_of` (src/lib.rt) answers for that
abbrev pub Answered : Option ℕ → Option (List Item) → Type 0
Answered None o = o ≡ None
Answered (Some n) o = MatchOption o (paper_row n ≡ no_row) (λ items. RowOf n items)

-- it has the items of the paper's row r, it is there exactly if r is listed, and then n is r's number
pub record RowAt (n : ℕ) (r : Row) (o : Option (List Item)) : Type 0 where
  pub items : r.items ≡ map item_of (unwrap_or o [])
  pub listed : leb 1 r.number ≡ is_some o
  pub number : is_some o ≡ true → r.number ≡ n

pub row_of : (s : List ℕ) {o : Option (List Item)} → Answered (plain_number s) o → RowAt (unwrap_or (plain_number s) 0) (table_row s) o
row_of s {o} h = go (plain_number s) refl o h
  where
    none : (n : ℕ) → table_row s ≡ no_row → RowAt n (table_row s) None
    none n e = rw e (record { items = refl; listed = refl; number = λ x. absurd (false≢true x) })

    go : (k : Option ℕ) → k ≡ plain_number s → (o : Option (List Item)) → Answered k o → RowAt (unwrap_or k 0) (table_row s) o
    go None e None x = none 0 (row_none s e refl)
    go None e (Some is) x = absurd (false≢true (ap is_some (sym x)))
    go (Some n) e None x = none n (row_unlisted s e refl x)
    go (Some n) e (Some is) x =
        rw (row_listed s e refl x) (record { items = refl; listed = le-leb 1 n x.listed; number = λ _. refl })

-- ---- what a test of every row says of a row

-- of one that is listed
pub listed_row : (p : Row → Bool) (rs : List Row) (n : ℕ) → all_rows p rs ≡ true → leb 1 (row_by rs n).number ≡ true → p (row_by rs n) ≡ true
unfolding all_rows row_by
listed_row p [] n h l = absurd (false≢true l)
listed_row p (r ∷ rs) n h l =
    let q : (p r ≡ true) × (all_rows p rs ≡ true) = both (p r) (all_rows p rs) h in
    go (eqb n r.number) q.0 (listed_row p rs n q.1) l
  where
    go : (b : Bool) → p r ≡ true → (leb 1 (row_by rs n).number ≡ true → p (row_by rs n) ≡ true)
        → leb 1 (cond b r (row_by rs n)).number ≡ true → p (cond b r (row_by rs n)) ≡ true
    go true e i l = e
    go false e i l = i l

-- of one that `row_of` gives
pub row_test : (p : Row → Bool) {n : ℕ} {items : List Item} → all_rows p table ≡ true → RowOf n items → p (row n (map item_of items)) ≡ true
row_test p {n} {items} h r =
    let l : leb 1 (paper_row n).number ≡ true = ap (λ (x : Row). leb 1 x.number) r.is ∙ le-leb 1 n r.listed in
    ap p (sym r.is) ∙ listed_row p table n h l

-- ---- a row has at most fifteen items, so sixteen places hold its line's commas

abbrev few : Row → Bool
few r = leb (length r.items) 15

few_rows : all_rows few table ≡ true
unfolding all_rows table
few_rows = refl

pub row_length : {n : ℕ} {items : List Item} → RowOf n items → length items ≤ 15
row_length {n} {items} r = omega (arith, leb-true _ _ (row_test few few_rows r), length-map items item_of)
