-- The row of the paper's table that a number has, and its items as the code has them. Assumes nothing.
use Prim.Native.Nat.{ℕ, ◌≤◌}
use mathlib.Core.Path.{◌≡◌, refl, sym, ap, ◌∙◌}
use mathlib.Core.Bool.{Bool, true, false, cond, false≢true}
use mathlib.Core.List.{List, [], ◌∷◌, map}
use native.Mathlib.Omega.{arith}
use borrow.Author.Tests.{le-leb, eqb-true}
use lib.Dec.{leb, eqb}
use lib.ListN.{length, length-map}
use Rattle.records.specs.Table.{Row, table}
use Rattle.items.specs.declared.kinds.Item.{Item}
use Rattle.items.specs.Kinds.{item_of}
use Rattle.table.specs.Rows.{row_by, paper_row, RowOf}

number_by : (rs : List Row) (n : ℕ) → leb 1 (row_by rs n).number ≡ true → (row_by rs n).number ≡ n
unfolding row_by
number_by [] n l = absurd (false≢true l)
number_by (r ∷ rs) n l = go (eqb n r.number) refl (number_by rs n) l
  where
    go : (b : Bool) → eqb n r.number ≡ b → (leb 1 (row_by rs n).number ≡ true → (row_by rs n).number ≡ n)
        → leb 1 (cond b r (row_by rs n)).number ≡ true → (cond b r (row_by rs n)).number ≡ n
    go true e i l = sym (eqb-true n r.number e)
    go false e i l = i l

-- a listed number is its row's
pub paper_number : (n : ℕ) → 1 ≤ (paper_row n).number → (paper_row n).number ≡ n
paper_number n l = number_by table n (le-leb 1 _ l)

module _ {n : ℕ} {row : List Item} (v : RowOf n row) where
  pub paper_listed : 1 ≤ (paper_row n).number
  paper_listed = omega (arith, v.listed, ap (λ (r : Row). r.number) v.is)

  pub paper_items : (paper_row n).items ≡ map item_of row
  paper_items = ap (λ (r : Row). r.items) v.is

  pub paper_length : length (paper_row n).items ≡ length row
  paper_length = ap length paper_items ∙ length-map row item_of
