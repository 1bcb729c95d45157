-- The two nested loops that find the width and the count: what is left from a piece on decides the same count, and what is left of the
-- widths the same plan. Assumes nothing.
use Prim.Native.Nat.{ℕ, suc, ◌+◌, ◌-◌, ◌*◌, ◌≤◌, ◌<◌}
use native.Mathlib.Omega.{arith}
use native.Mathlib.Numerals.{add-one}
use mathlib.Core.Path.{◌≡◌, refl, sym, ap, ◌∙◌}
use mathlib.Core.Bool.{Bool, true, false, ◌&&◌}
use Rattle.std.specs.Prelude.{Option, Some, None}
use Rattle.std.specs.Option.{option_map}
use mathlib.Core.List.{List, [], ◌∷◌, append-nil}
use borrow.Author.Tests.{leb-true, leb-false}
use lib.Dec.{eqb, leb}
use lib.ListN.{length, drop, get_or}
use Rattle.lists.specs.Searching.{part}
use Rattle.lists.proofs.Parts.{part_length}
use Rattle.lists.proofs.Cuts.{drop_step}
use Rattle.characters.specs.Rows.{rows}
use Rattle.characters.proofs.RowLaws.{First, first_row}
use Rattle.packing.specs.Packing.{total, pack}
use Rattle.digits.specs.Digits.{digit_count}
use Rattle.digits.proofs.Numbers.{count_most, count_up}
use Rattle.packing.specs.Widths.{Plan as Runs, over, serves, or_next, tries}
use Rattle.packing.proofs.Packing.{Holds, pack_last, pack_stuck, pack_run, pack_more}
use Rattle.packing.proofs.Widths.{over_up, serves_digits}
use Rattle.cut.specs.Loops.{OverOf, first_length, RunAt, runs_at, past_last, ends, overheads, chosen_by, chosen_from, chosen, Small}
use Rattle.cut.proofs.RowLaws.{rows_done, rows_total}

-- ---- the small functions

pub over_is : (w k : ℕ) {x : ℕ} → w ≤ 3 → x ≡ digit_count k → OverOf w k (35 + w + x)
unfolding over
over_is w k h p = record { is = omega (arith, p); most = omega (arith, p, count_most k) }

pub serves_is : (w n : ℕ) {x : ℕ} → x ≡ digit_count n → (eqb x w && leb 2 n) ≡ serves w n
unfolding serves
serves_is w n p = rw p

pub no_some : {A : Type 0} {a : A} → ◌≡◌ {A = Option A} None (Some a) → ⊥
no_some {A} {a} e = let z : ◌≡◌ {A = ℕ} 0 1 = cc in omega arith

-- ---- one piece: its run is the last, a next one follows, or no row fits it

module _ (s : List ℕ) (c w k i e : ℕ) (x : RunAt s i (over w k) c e) where
  taken_total : total length (rows (part s i e)) ≡ e - i
  taken_total = rows_total (part s i e) ∙ part_length s i e x.low x.inside

  pub runs_last : length s ≤ e → runs_at s c w k i ≡ Some (rows (part s i e) ∷ [])
  unfolding runs_at pack
  runs_last h = go (leb e i) refl
    where
      go : (b : Bool) → leb e i ≡ b → pack length (over w) c k (over w k) (rows (drop i s)) ≡ Some (rows (part s i e) ∷ [])
      go true q =
          let l : e ≤ i = leb-true _ _ q in
          let z : e - i ≡ 0 = omega arith in
          rw (rows_done s i (omega arith), z)
      go false q =
          rw (x.cut, rows_done s e h, append-nil (rows (part s i e)))
          (pack_last length (over w) c k (over w k) (rows (part s i e)) (omega (arith, taken_total, x.fits (leb-false _ _ q))))

  module _ (h : e < length s) where
    next_row : First (drop e s)
    next_row = rw (drop_step s e 0 h) (first_row (get_or s e 0) (drop (e + 1) s))

    next_long : c < over w k + (e - i) + suc (length next_row.more)
    next_long = omega (arith, x.next h, ap first_length next_row.cut)

    pub runs_next : i < e → runs_at s c w k i ≡ option_map (λ xs. rows (part s i e) ∷ xs) (runs_at s c w (k + 1) e)
    unfolding runs_at
    runs_next g =
        rw (x.cut, next_row.cut, add-one k)
        (pack_run length (over w) c (over_up w) k (over w k) (rows (part s i e)) (next_row.byte ∷ next_row.more) next_row.others
        (omega (arith, taken_total, x.fits g)) (omega (arith, taken_total, next_long)))

    pub runs_stuck : e ≤ i → runs_at s c w k i ≡ None
    unfolding runs_at
    runs_stuck g =
        let q : e ≡ i = omega (arith, x.low) in
        rw (← q, next_row.cut)
        (pack_stuck length (over w) c (over_up w) k (next_row.byte ∷ next_row.more) next_row.others (omega (arith, next_long)))

    pub ends_next : i < e → ends s c w k i ≡ ends s c w (k + 1) e
    unfolding ends
    ends_next g = ap (past_last k) (runs_next g) ∙ go (runs_at s c w (k + 1) e)
      where
        go : (m : Option (List (List (List ℕ)))) → past_last k (option_map (λ xs. rows (part s i e) ∷ xs) m) ≡ past_last (k + 1) m
        go None = refl
        go (Some xs) = ap Some (omega arith)

    pub ends_stuck : e ≤ i → ends s c w k i ≡ None
    unfolding ends
    ends_stuck g = ap (past_last k) (runs_stuck g)

  pub ends_last : length s ≤ e → ends s c w k i ≡ Some (k + 1)
  unfolding ends
  ends_last h = ap (past_last k) (runs_last h)

-- there is a piece from piece k on
pub ends_from : (s : List ℕ) (c w k i n : ℕ) → ends s c w k i ≡ Some n → k < n
unfolding ends runs_at
ends_from s c w k i n e = go (runs_at s c w k i) (pack_more length (over w) c k (over w k) (rows (drop i s))) e
  where
    go : (m : Option (List (List (List ℕ)))) → Holds (λ xs. 0 < length xs) m → past_last k m ≡ Some n → k < n
    go None h e = absurd (no_some e)
    go (Some xs) h e = let q : k + length xs ≡ n = cc in omega arith

-- a count of more digits does not serve
never : (w n : ℕ) → w < digit_count n → serves w n ≡ false
never w n h = go (serves w n) refl
  where
    go : (b : Bool) → serves w n ≡ b → serves w n ≡ false
    go true e = absurd (omega (arith, (serves_digits w n e).0))
    go false e = e

-- ---- the widths

-- n is the count, where n + 1 is after the last piece
module _ (w n : ℕ) (next : Runs (List ℕ)) where
  plan_none : (m : Option (List (List (List ℕ)))) → past_last 1 m ≡ None → or_next w next m ≡ next
  plan_none None e = refl
  plan_none (Some xs) e = absurd (no_some (sym e))

  plan_other : (m : Option (List (List (List ℕ)))) → past_last 1 m ≡ Some (n + 1) → serves w n ≡ false → or_next w next m ≡ next
  plan_other None e d = refl
  plan_other (Some xs) e d =
      let q : 1 + length xs ≡ n + 1 = cc in
      let l : length xs ≡ n = omega arith in
      rw (l, d)

  plan_found : (m : Option (List (List (List ℕ)))) → past_last 1 m ≡ Some (n + 1) → serves w n ≡ true → chosen_by (or_next w next m) ≡ Some (record { width = w; count = n; bytes = overheads w n })
  plan_found None e d = absurd (no_some e)
  plan_found (Some xs) e d =
      let q : 1 + length xs ≡ n + 1 = cc in
      let l : length xs ≡ n = omega arith in
      rw (l, d) (rw (l, (serves_digits w n d).0))

module _ (s : List ℕ) (c w : ℕ) (h : w ≤ 3) where
  -- w is tried, then w + 1
  step : chosen_from s c w ≡ chosen_by (or_next w (tries length c (4 - (w + 1)) (w + 1) (rows (drop 13 s))) (runs_at s c w 1 13))
  unfolding chosen_from tries runs_at
  step = let q : 4 - w ≡ suc (4 - (w + 1)) = omega arith in rw (q, tries, ← add-one w)

  pub from_none : ends s c w 1 13 ≡ None → chosen_from s c w ≡ chosen_from s c (w + 1)
  unfolding chosen_from ends
  from_none e = step ∙ ap chosen_by (plan_none w 0 (tries length c (4 - (w + 1)) (w + 1) (rows (drop 13 s))) (runs_at s c w 1 13) e)

  pub from_other : (n : ℕ) → ends s c w 1 13 ≡ Some (n + 1) → serves w n ≡ false → chosen_from s c w ≡ chosen_from s c (w + 1)
  unfolding chosen_from ends
  from_other n e d = step ∙ ap chosen_by (plan_other w n (tries length c (4 - (w + 1)) (w + 1) (rows (drop 13 s))) (runs_at s c w 1 13) e d)

  pub from_found : (n : ℕ) → ends s c w 1 13 ≡ Some (n + 1) → serves w n ≡ true → chosen_from s c w ≡ Some (record { width = w; count = n; bytes = overheads w n })
  unfolding chosen_from ends
  from_found n e d = step ∙ plan_found w n (tries length c (4 - (w + 1)) (w + 1) (rows (drop 13 s))) (runs_at s c w 1 13) e d

pub from_last : (s : List ℕ) (c w : ℕ) → 3 < w → chosen_from s c w ≡ None
unfolding chosen_from tries
from_last s c w h = let q : 4 - w ≡ 0 = omega arith in rw q

-- ---- the loops

-- before a width is tried
pub record Trying (s : List ℕ) (c w : ℕ) : Type 0 where
  pub small : Small s c
  pub low : 1 ≤ w
  pub high : w ≤ 4
  pub same : chosen s c ≡ chosen_from s c w

-- before a piece is packed; w₀: the width of the outer loop's turn
pub record Packing (s : List ℕ) (c w₀ w t k u i : ℕ) : Type 0 where
  pub trying : Trying s c w
  pub wide : w ≤ 3
  pub still : w ≡ w₀
  pub inside : i ≤ length s
  pub few : k ≤ i
  pub used : OverOf w k u
  pub sum : t ≡ overheads w k
  pub most : t ≤ 42 * k
  pub same : ends s c w k i ≡ ends s c w 1 13

pub try_start : (s : List ℕ) (c : ℕ) → Small s c → Trying s c 1
unfolding chosen
try_start s c h = record { small = h; low = omega arith; high = omega arith; same = refl }

pub try_out : (s : List ℕ) (c w : ℕ) → Trying s c w → 3 < w → None ≡ chosen s c
try_out s c w v h = sym (v.same ∙ from_last s c w h)

pub pack_first : (s : List ℕ) (c w u : ℕ) → Trying s c w → w ≤ 3 → OverOf w 1 u → Packing s c w w u 1 u 13
unfolding overheads
pack_first s c w u v h o = record {
  trying = v;
  wide = h;
  still = refl;
  inside = v.small.header;
  few = omega arith;
  used = o;
  sum = omega (arith, o.is);
  most = omega (arith, o.most);
  same = refl;
}

module _ (s : List ℕ) (c w₀ w t k u i : ℕ) (v : Packing s c w₀ w t k u i) where
  again : chosen_from s c w ≡ chosen_from s c (w + 1) → Trying s c (w + 1)
  again e = record { small = v.trying.small; low = omega arith; high = omega (arith, v.wide); same = v.trying.same ∙ e }

  module _ {e : ℕ} (r : RunAt s i u c e) where
    run : RunAt s i (over w k) c e
    run = rw v.used.is at r

    pub try_found : {x : Bool} → length s ≤ e → x ≡ serves w k → x ≡ true → Some (record { width = w; count = k; bytes = t }) ≡ chosen s c
    try_found h p q =
        let y : ends s c w 1 13 ≡ Some (k + 1) = sym v.same ∙ ends_last s c w k i e run h in
        sym (v.trying.same ∙ (from_found s c w v.wide k y (sym p ∙ q) ∙ rw v.sum))

    pub try_other : {x : Bool} → length s ≤ e → x ≡ serves w k → x ≡ false → Trying s c (w + 1)
    try_other h p q =
        let y : ends s c w 1 13 ≡ Some (k + 1) = sym v.same ∙ ends_last s c w k i e run h in
        again (from_other s c w v.wide k y (sym p ∙ q))

    module _ (h : e < length s) where
      pub try_none : e ≤ i → Trying s c (w + 1)
      try_none g = again (from_none s c w v.wide (sym v.same ∙ ends_stuck s c w k i e run h g))

      module _ (g : i < e) where
        onward : ends s c w (k + 1) e ≡ ends s c w 1 13
        onward = sym (ends_next s c w k i e run h g) ∙ v.same

        -- a piece more than the width can count: no count serves
        pub try_many : {d : ℕ} → d ≡ digit_count (k + 1) → w < d → Trying s c (w + 1)
        try_many {d} y l = go (ends s c w 1 13) refl
          where
            go : (m : Option ℕ) → ends s c w 1 13 ≡ m → Trying s c (w + 1)
            go None q = again (from_none s c w v.wide q)
            go (Some n) q =
                let a : k + 1 < n = ends_from s c w (k + 1) e n (onward ∙ q) in
                let b : n ≡ n - 1 + 1 = omega arith in
                again (from_other s c w v.wide (n - 1) (q ∙ ap Some b) (never w (n - 1) (omega (arith, y, count_up (k + 1) (n - 1) (omega arith)))))

        pub piece_opens : {o : ℕ} → OverOf w (k + 1) o → Packing s c w₀ w (t + o) (k + 1) o e
        unfolding overheads
        piece_opens y = record {
          trying = v.trying;
          wide = v.wide;
          still = v.still;
          inside = r.inside;
          few = omega (arith, v.few);
          used = y;
          sum = rw (add-one k) (omega (arith, v.sum, rw add-one at y.is));
          most = omega (arith, v.most, y.most);
          same = onward;
        }

pub ruleset count_laws = (try_start, try_out, pack_first, try_found, try_other, try_none, try_many, piece_opens)
