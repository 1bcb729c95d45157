-- The code's rows are the paper's, each compared by one computation. Assumes nothing.
use Rattle.std.proofs.Common.{◌≡◌, refl, ℕ, List, lit≤, sym, subst}
use Rattle.records.specs.Table.{table}
use Rattle.items.specs.declared.kinds.Item.{Item}
use Rattle.table.specs.declared.rows.TheConstants.{RECORD_1, RECORD_2, RECORD_3, RECORD_4, RECORD_5, RECORD_11, RECORD_15, RECORD_51, RECORD_55, RECORD_201, RECORD_281, RECORD_291, RECORD_301, RECORD_311, RECORD_391, RECORD_401, RECORD_411, RECORD_501, RECORD_601, RECORD_701}
use Rattle.table.specs.Rows.{row_by, RowOf}

-- n: the number that is looked for
module _ {n : ℕ} where
  at : (m : ℕ) (is : List Item) → n ≡ m → RowOf m is → RowOf n is
  at m is e r = subst (λ (x : ℕ). RowOf x is) (sym e) r

  pub row_1 : n ≡ 1 → RowOf n RECORD_1
  unfolding row_by table
  row_1 e = at 1 RECORD_1 e (record { listed = lit≤ tt; is = refl })

  pub row_2 : n ≡ 2 → RowOf n RECORD_2
  unfolding row_by table
  row_2 e = at 2 RECORD_2 e (record { listed = lit≤ tt; is = refl })

  pub row_3 : n ≡ 3 → RowOf n RECORD_3
  unfolding row_by table
  row_3 e = at 3 RECORD_3 e (record { listed = lit≤ tt; is = refl })

  pub row_4 : n ≡ 4 → RowOf n RECORD_4
  unfolding row_by table
  row_4 e = at 4 RECORD_4 e (record { listed = lit≤ tt; is = refl })

  pub row_5 : n ≡ 5 → RowOf n RECORD_5
  unfolding row_by table
  row_5 e = at 5 RECORD_5 e (record { listed = lit≤ tt; is = refl })

  pub row_11 : n ≡ 11 → RowOf n RECORD_11
  unfolding row_by table
  row_11 e = at 11 RECORD_11 e (record { listed = lit≤ tt; is = refl })

  pub row_15 : n ≡ 15 → RowOf n RECORD_15
  unfolding row_by table
  row_15 e = at 15 RECORD_15 e (record { listed = lit≤ tt; is = refl })

  pub row_51 : n ≡ 51 → RowOf n RECORD_51
  unfolding row_by table
  row_51 e = at 51 RECORD_51 e (record { listed = lit≤ tt; is = refl })

  pub row_55 : n ≡ 55 → RowOf n RECORD_55
  unfolding row_by table
  row_55 e = at 55 RECORD_55 e (record { listed = lit≤ tt; is = refl })

  pub row_201 : n ≡ 201 → RowOf n RECORD_201
  unfolding row_by table
  row_201 e = at 201 RECORD_201 e (record { listed = lit≤ tt; is = refl })

  pub row_281 : n ≡ 281 → RowOf n RECORD_281
  unfolding row_by table
  row_281 e = at 281 RECORD_281 e (record { listed = lit≤ tt; is = refl })

  pub row_291 : n ≡ 291 → RowOf n RECORD_291
  unfolding row_by table
  row_291 e = at 291 RECORD_291 e (record { listed = lit≤ tt; is = refl })

  pub row_301 : n ≡ 301 → RowOf n RECORD_301
  unfolding row_by table
  row_301 e = at 301 RECORD_301 e (record { listed = lit≤ tt; is = refl })

  pub row_311 : n ≡ 311 → RowOf n RECORD_311
  unfolding row_by table
  row_311 e = at 311 RECORD_311 e (record { listed = lit≤ tt; is = refl })

  pub row_391 : n ≡ 391 → RowOf n RECORD_391
  unfolding row_by table
  row_391 e = at 391 RECORD_391 e (record { listed = lit≤ tt; is = refl })

  pub row_401 : n ≡ 401 → RowOf n RECORD_401
  unfolding row_by table
  row_401 e = at 401 RECORD_401 e (record { listed = lit≤ tt; is = refl })

  pub row_411 : n ≡ 411 → RowOf n RECORD_411
  unfolding row_by table
  row_411 e = at 411 RECORD_411 e (record { listed = lit≤ tt; is = refl })

  pub row_501 : n ≡ 501 → RowOf n RECORD_501
  unfolding row_by table
  row_501 e = at 501 RECORD_501 e (record { listed = lit≤ tt; is = refl })

  pub row_601 : n ≡ 601 → RowOf n RECORD_601
  unfolding row_by table
  row_601 e = at 601 RECORD_601 e (record { listed = lit≤ tt; is = refl })

  pub row_701 : n ≡ 701 → RowOf n RECORD_701
  unfolding row_by table
  row_701 e = at 701 RECORD_701 e (record { listed = lit≤ tt; is = refl })

pub ruleset row_laws = (row_1, row_2, row_3, row_4, row_5, row_11, row_15, row_51, row_55, row_201, row_281, row_291, row_301, row_311, row_391, row_401, row_411, row_501, row_601, row_701)
