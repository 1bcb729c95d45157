-- What the first width that serves says of the plan, and the total length of the pieces. Assumes nothing.
use Prim.Native.Nat.{ℕ, zero, suc, ◌+◌, ◌-◌, ◌*◌, ◌≤◌, ◌<◌}
use native.Mathlib.Omega.{arith}
use mathlib.Core.Path.{◌≡◌, refl, sym, ap, ◌∙◌, subst}
use mathlib.Core.Bool.{Bool, true, false}
use Rattle.std.specs.Prelude.{Option, Some, None}
use mathlib.Core.List.{List, [], ◌∷◌, ◌++◌}
use borrow.Author.Tests.{lt-leb}
use lib.ListN.{length, drop, length-append, length-drop}
use Rattle.lists.specs.Searching.{part}
use Rattle.lists.proofs.Parts.{part_length}
use Rattle.characters.specs.Rows.{rows, flat}
use Rattle.packing.specs.Packing.{total, pack}
use Rattle.packing.specs.Divisions.{concat}
use Rattle.digits.specs.Digits.{digit_count}
use Rattle.digits.proofs.Numbers.{to_999}
use Rattle.packing.specs.Widths.{Plan as Runs, in_one, in_runs, no_plan, over, serves, tries, plan}
use Rattle.packing.proofs.Widths.{Divides, Planned, plan_good, plan_whole, over_counts, over_most, serves_digits}
use Rattle.division.specs.Marks.{mark_row}
use Rattle.cut.specs.declared.Plan.{Plan}
use Rattle.cut.specs.Loops.{runs_at, past_last, ends, overheads, plan_of, chosen_by, chosen_from, chosen, numbered_as, pieces_as, poured}
use Rattle.cut.proofs.RowLaws.{flat_total, rows_total}
use Rattle.cut.proofs.PourLaws.{mark_length}

-- ---- lengths

total_append : (xs ys : List (List ℕ)) → total length (xs ++ ys) ≡ total length xs + total length ys
unfolding total
total_append [] ys = omega arith
total_append (x ∷ xs) ys = omega (arith, total_append xs ys)

pub file_total : (s : List ℕ) → 13 ≤ length s → 13 + total length (rows (drop 13 s)) ≡ length s
file_total s h = omega (arith, rows_total (drop 13 s), length-drop 13 s)

module _ (w : ℕ) (head id : List ℕ) (n : ℕ) (hd : length head ≡ 13) (hi : length id ≡ 14) (hn : n < 1000) (hw : digit_count n ≡ w) where
  mark_over : (k : ℕ) → k < 1000 → 13 + length (mark_row id n k) ≡ over w k
  mark_over k h =
      omega (arith, hi, mark_length id n k, over_counts n k (omega arith) (omega arith), ap (λ (v : ℕ). over v k) hw)

  -- the pieces k + 1, .. hold what they hold besides records, and the records
  numbered_length : (xs : List (List (List ℕ))) (k : ℕ) → k + length xs < 1000
      → length (flat (numbered_as head id n (suc k) xs)) + overheads w k ≡ overheads w (k + length xs) + total length (concat xs)
  unfolding numbered_as concat total overheads
  numbered_length [] k h = let q : k + 0 ≡ k = omega arith in rw q (omega arith)
  numbered_length (x ∷ xs) k h =
      let q : k + suc (length xs) ≡ suc k + length xs = omega arith in
      omega (
        arith,
        numbered_length xs (suc k) (omega arith),
        ap (overheads w) q,
        mark_over (suc k) (omega arith),
        length-append (head ++ (flat x ++ mark_row id n (suc k))) (flat (numbered_as head id n (suc (suc k)) xs)),
        length-append head (flat x ++ mark_row id n (suc k)),
        length-append (flat x) (mark_row id n (suc k)),
        flat_total x,
        total_append x (concat xs),
      )

pub overheads_most : (w n : ℕ) → w ≤ 3 → overheads w n ≤ 42 * n
unfolding overheads
overheads_most w zero h = omega arith
overheads_most w (suc n) h = omega (arith, overheads_most w n h, over_most w (suc n))

-- ---- the plan

-- the runs of a plan are the packing for the width of their count
tried : (c : ℕ) (rs : List (List ℕ)) (xs : List (List (List ℕ))) (f w : ℕ) → tries length c f w rs ≡ in_runs xs
    → pack length (over (digit_count (length xs))) c 1 (over (digit_count (length xs)) 1) rs ≡ Some xs
unfolding tries
tried c rs xs zero w e = let z : ◌≡◌ {A = ℕ} 0 1 = cc in absurd (omega arith)
tried c rs xs (suc f) w e = go (pack length (over w) c 1 (over w 1) rs) refl (tried c rs xs f (suc w))
  where
    at : (ys : List (List (List ℕ))) → pack length (over w) c 1 (over w 1) rs ≡ Some ys → (b : Bool) → serves w (length ys) ≡ b
        → (tries length c f (suc w) rs ≡ in_runs xs → pack length (over (digit_count (length xs))) c 1 (over (digit_count (length xs)) 1) rs ≡ Some xs)
        → pack length (over (digit_count (length xs))) c 1 (over (digit_count (length xs)) 1) rs ≡ Some xs
    at ys p true q ih =
        let r : in_runs ys ≡ in_runs xs = rw (tries, p, q) at e in
        let z : ys ≡ xs = cc in
        let d : digit_count (length xs) ≡ w = rw z at (serves_digits w (length ys) q).0 in
        rw d (rw z at p)
    at ys p false q ih = ih (rw (tries, p, q) at e)

    go : (m : Option (List (List (List ℕ)))) → pack length (over w) c 1 (over w 1) rs ≡ m
        → (tries length c f (suc w) rs ≡ in_runs xs → pack length (over (digit_count (length xs))) c 1 (over (digit_count (length xs)) 1) rs ≡ Some xs)
        → pack length (over (digit_count (length xs))) c 1 (over (digit_count (length xs)) 1) rs ≡ Some xs
    go None p ih = ih (rw (tries, p) at e)
    go (Some ys) p ih = at ys p (serves w (length ys)) refl ih

-- what a found plan says
pub record Found (s : List ℕ) (c : ℕ) (p : Plan) : Type 0 where
  pub runs : List (List (List ℕ))
  pub is : plan length c (rows (drop 13 s)) ≡ in_runs runs
  pub packs : runs_at s c p.width 1 13 ≡ Some runs
  pub divides : Divides length c (rows (drop 13 s)) runs
  pub count : length runs ≡ p.count
  pub width : digit_count p.count ≡ p.width
  pub sum : p.bytes ≡ overheads p.width p.count

module _ (s : List ℕ) (c : ℕ) (h : 13 ≤ length s) where
  pub plan_fits : length s ≤ c → plan length c (rows (drop 13 s)) ≡ in_one
  plan_fits g = plan_whole length c (rows (drop 13 s)) (omega (arith, file_total s h))

  module _ (g : c < length s) where
    plan_is : plan length c (rows (drop 13 s)) ≡ tries length c 3 1 (rows (drop 13 s))
    unfolding plan
    plan_is = let l : c < 13 + total length (rows (drop 13 s)) = omega (arith, file_total s h) in rw (plan, lt-leb _ _ l)

    chosen_is : chosen s c ≡ chosen_by (plan length c (rows (drop 13 s)))
    unfolding chosen chosen_from
    chosen_is = ap chosen_by (sym plan_is)

    pub plan_fails : chosen s c ≡ None → plan length c (rows (drop 13 s)) ≡ no_plan
    plan_fails e = go (plan length c (rows (drop 13 s))) refl (plan_good length c (rows (drop 13 s))) (sym chosen_is ∙ e)
      where
        go : (p : Runs (List ℕ)) → plan length c (rows (drop 13 s)) ≡ p → Planned length c (rows (drop 13 s)) p → chosen_by p ≡ None
            → plan length c (rows (drop 13 s)) ≡ no_plan
        go in_one q f z = absurd (omega (arith, file_total s h))
        go (in_runs xs) q f z = cc
        go no_plan q f z = q

    pub plan_found : {p : Plan} → chosen s c ≡ Some p → Found s c p
    unfolding runs_at
    plan_found {p} e = go (plan length c (rows (drop 13 s))) refl (plan_good length c (rows (drop 13 s))) (sym chosen_is ∙ e)
      where
        go : (r : Runs (List ℕ)) → plan length c (rows (drop 13 s)) ≡ r → Planned length c (rows (drop 13 s)) r → chosen_by r ≡ Some p
            → Found s c p
        go in_one q f z = cc
        go (in_runs xs) q f z =
            let y : plan_of xs ≡ p = cc in
            subst (Found s c) y (record {
              runs = xs;
              is = q;
              packs = tried c (rows (drop 13 s)) xs 3 1 (sym plan_is ∙ q);
              divides = f;
              count = refl;
              width = refl;
              sum = refl;
            })
        go no_plan q f z = cc

-- ---- what a found plan gives the writer

module _ {s : List ℕ} {c : ℕ} {p : Plan} (f : Found s c p) where
  pub found_few : p.count < 1000
  found_few = omega (arith, f.divides.most, f.count)

  pub found_wide : p.width ≤ 3
  found_wide = omega (arith, f.width, to_999 p.count (omega (arith, found_few)))

  pub found_ends : ends s c p.width 1 13 ≡ Some (p.count + 1)
  unfolding ends
  found_ends = ap (past_last 1) f.packs ∙ ap Some (omega (arith, f.count))

  pub found_bytes : (id : List ℕ) → flat (numbered_as (part s 0 13) id p.count 1 f.runs) ≡ poured s c p.width id p.count 1 13
  unfolding poured
  found_bytes id = sym (ap (pieces_as (part s 0 13) id p.count 1) f.packs)

  pub found_length : (id : List ℕ) → 13 ≤ length s → length id ≡ 14 → p.bytes + (length s - 13) ≡ length (flat (numbered_as (part s 0 13) id p.count 1 f.runs))
  unfolding overheads
  found_length id h g =
      let hd : length (part s 0 13) ≡ 13 = part_length s 0 13 (omega arith) h in
      let q : 0 + length f.runs ≡ p.count = omega (arith, f.count) in
      omega (
        arith,
        f.sum,
        numbered_length p.width (part s 0 13) id p.count hd g found_few f.width f.runs 0 (omega (arith, found_few)),
        ap (overheads p.width) q,
        ap (total length) f.divides.all,
        file_total s h,
      )
