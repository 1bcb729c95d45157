-- The plan of a cutting: what it finds is a division, and no division has fewer pieces, so that where the plan finds none there is none.
-- Assumes nothing.
use Prim.Native.Nat.{ℕ, zero, suc, ◌+◌, ◌≤◌, ◌<◌}
use mathlib.Core.Path.{◌≡◌, refl, sym, ap, subst}
use mathlib.Core.Logic.{inr}
use mathlib.Core.Bool.{Bool, true, false}
use Rattle.std.specs.Prelude.{Option, Some, None}
use mathlib.Core.List.{List, [], ◌∷◌, append-nil}
use native.Mathlib.Omega.{arith}
use native.Mathlib.Nat.{le_refl}
use borrow.Author.Tests.{leb-true, leb-false, le-leb, lt-leb, eqb-true, eqb-false, eq-eqb, ne_eqb}
use lib.Dec.{leb, eqb}
use lib.ListN.{length}
use Rattle.lists.proofs.Tests.{both}
use Rattle.digits.specs.Digits.{spell, digit_count}
use Rattle.digits.proofs.Numbers.{length_spell, count_4, count_most, count_up, some_digit, to_999}
use Rattle.packing.specs.Packing.{total, pack}
use Rattle.packing.specs.Divisions.{concat, Fits}
use Rattle.packing.specs.Widths.{over, Plan, in_one, in_runs, no_plan, serves, tries, plan}
use Rattle.packing.proofs.Packing.{Way, Found, lighter, ahead, pack_good, Taken, Good, way_of, pairs_same, pack_none}

-- a division into two or more pieces for the capacity
pub record Divides {A : Type 0} (len : A → ℕ) (c : ℕ) (rs : List A) (xs : List (List A)) : Type 0 where
  pub all : concat xs ≡ rs
  pub two : 2 ≤ length xs
  pub most : length xs ≤ 999
  pub fits : Fits len (over (digit_count (length xs))) c 1 xs

-- a division into n pieces for the capacity
pub data Division {A : Type 0} (len : A → ℕ) (c : ℕ) (rs : List A) : ℕ → Type 0 where
  one : 13 + total len rs ≤ c → Division len c rs 1
  many : (xs : List (List A)) → Divides len c rs xs → Division len c rs (length xs)

-- the plan has at most n pieces
abbrev pub AtMost : {A : Type 0} → ℕ → Plan A → Type 0
AtMost n in_one = 1 ≤ n
AtMost n (in_runs xs) = length xs ≤ n
AtMost n no_plan = ⊥

-- ---- what a piece holds besides its records

-- line 1 with its end, the record 911 as it is spelled, and a line end
pub over_counts : (n k : ℕ) → n ≤ 999 → k ≤ 999 → over (digit_count n) k ≡ 13 + (3 + 1 + 14 + 1 + length (spell n) + 1 + length (spell k)) + 2
unfolding over
over_counts n k h g = omega (arith, length_spell n h, length_spell k g)

pub over_most : (w k : ℕ) → over w k ≤ 39 + w
unfolding over
over_most w k = omega (arith, count_most k)

pub over_up : (w i j : ℕ) → i ≤ j → over w i ≤ over w j
unfolding over
over_up w i j h = omega (arith, count_up i j h)

pub over_wide : (w w' k : ℕ) → w ≤ w' → over w k ≤ over w' k
unfolding over
over_wide w w' k h = omega arith

-- ---- a width that serves

digits_1000 : (n : ℕ) → digit_count n ≤ 3 → n ≤ 999
digits_1000 n h = go (leb n 999) refl
  where
    go : (b : Bool) → leb n 999 ≡ b → n ≤ 999
    go true e = leb-true n 999 e
    go false e = absurd (omega (arith, count_4 n (leb-false n 999 e)))

serves_yes : (w n : ℕ) → digit_count n ≡ w → 2 ≤ n → serves w n ≡ true
unfolding serves
serves_yes w n e h = rw (eq-eqb (digit_count n) w e) (le-leb _ n (omega arith))

serves_no : (w n : ℕ) → (digit_count n ≡ w → ⊥) → serves w n ≡ false
unfolding serves
serves_no w n h = rw (ne_eqb (digit_count n) w h)

pub serves_digits : (w n : ℕ) → serves w n ≡ true → (digit_count n ≡ w) × (2 ≤ n)
unfolding serves
serves_digits w n e = let p = both (eqb (digit_count n) w) _ e in (eqb-true _ _ p.0, omega (arith, leb-true _ n p.1))

-- ---- the clauses of `tries` and `plan`

-- where not even an empty piece fits, nothing is packed but no record at all
pack_start : {A : Type 0} (len : A → ℕ) (c w : ℕ) (rs : List A) (xs : List (List A)) → c < over w 1 → pack len (over w) c 1 (over w 1) rs ≡ Some xs → length xs ≡ 1
unfolding pack
pack_start {A} len c w [] xs h e =
    let q : ◌≡◌ {A = List (List A)} ([] ∷ []) xs = cc in
    sym (ap length q)
pack_start len c w (r ∷ rs) xs h e =
    let q : pack len (over w) c 1 (over w 1) (r ∷ rs) ≡ None =
    pack_none len (over w) c 1 (over w 1) r rs (omega arith) (omega (arith, over_up w 1 2 (omega arith))) in
    cc

module _ {A : Type 0} (len : A → ℕ) (c : ℕ) (rs : List A) where
  tries_serve : (f w : ℕ) (xs : List (List A)) → pack len (over w) c 1 (over w 1) rs ≡ Some xs → serves w (length xs) ≡ true
      → tries len c (suc f) w rs ≡ in_runs xs
  unfolding tries
  tries_serve f w xs e h = rw (e, h, tries)

  tries_skip : (f w : ℕ) (xs : List (List A)) → pack len (over w) c 1 (over w 1) rs ≡ Some xs → serves w (length xs) ≡ false
      → tries len c (suc f) w rs ≡ tries len c f (suc w) rs
  unfolding tries
  tries_skip f w xs e h = rw (e, h, tries)

  tries_none : (f w : ℕ) → pack len (over w) c 1 (over w 1) rs ≡ None → tries len c (suc f) w rs ≡ tries len c f (suc w) rs
  unfolding tries
  tries_none f w e = rw (e, tries)

  -- ---- one width against another

  packed : (w : ℕ) (xs : List (List A)) → over w 1 ≤ c → pack len (over w) c 1 (over w 1) rs ≡ Some xs → Good len (over w) c 1 (over w 1) rs xs
  packed w xs h e = rw e at (pack_good len (over w) c rs 1 (over w 1) h)

  narrow : (w w' n : ℕ) → w ≤ w' → Way len (over w') c 1 (over w' 1) rs n → Found len (over w) c 1 (over w 1) rs n
  narrow w w' n h y =
      ahead len (over w) c (over_up w) 1 (over w 1)
      (lighter len len (over w) (over w') c c (λ k. over_wide w w' k h) (le_refl c) (over w 1) (pairs_same _ (λ a. le_refl (len a)) rs) (over_wide w w' 1 h) y)
      (le_refl _) (inr (refl, le_refl _))

  way_packed : (w : ℕ) (xs : List (List A)) → Good len (over w) c 1 (over w 1) rs xs → Way len (over w) c 1 (over w 1) rs (length xs)
  unfolding Taken Fits
  way_packed w [] (t, e) = absurd t
  way_packed w (x ∷ xs) (t, e) =
      subst (λ (l : List A). Way len (over w) c 1 (over w 1) l (suc (length xs))) e
      (subst (λ (m : ℕ). Way len (over w) c 1 (over w 1) (concat (x ∷ xs)) m) (omega arith) (way_of len (over w) c 1 x xs t))

  -- a wider count never needs fewer pieces
  wider : (w w' : ℕ) (xs ys : List (List A)) → w ≤ w' → over w' 1 ≤ c → pack len (over w) c 1 (over w 1) rs ≡ Some xs
      → pack len (over w') c 1 (over w' 1) rs ≡ Some ys → length xs ≤ length ys
  wider w w' xs ys h l e e' =
      let f : Found len (over w) c 1 (over w 1) rs (length ys) = narrow w w' (length ys) h (way_packed w' ys (packed w' ys l e')) in
      let q : f.runs ≡ xs = same f.found in
      omega (arith, ap length q)
    where
      same : {zs : List (List A)} → pack len (over w) c 1 (over w 1) rs ≡ Some zs → zs ≡ xs
      same p = cc

  two_runs : (w : ℕ) (xs : List (List A)) → c < 13 + total len rs → Good len (over w) c 1 (over w 1) rs xs → 2 ≤ length xs
  unfolding Taken concat over
  two_runs w [] h (t, e) = absurd t
  two_runs w (x ∷ []) h ((t, u), e) =
      let q : total len rs ≡ total len x = rw (← e, append-nil) in
      absurd (omega arith)
  two_runs w (x ∷ y ∷ ys) h g = omega arith

  two : (w : ℕ) (xs : List (List A)) → c < 13 + total len rs → over w 1 ≤ c → pack len (over w) c 1 (over w 1) rs ≡ Some xs → 2 ≤ length xs
  two w xs h l e = two_runs w xs h (packed w xs l e)

  -- ---- no division has fewer pieces

  abbrev Low : ℕ → Type 0
  Low w = (xs : List (List A)) → pack len (over w) c 1 (over w 1) rs ≡ Some xs → w ≤ digit_count (length xs)

  fewest_step : (f w n : ℕ) → c < 13 + total len rs → over (digit_count n) 1 ≤ c → w ≤ digit_count n → Low w → (x : Found len (over w) c 1 (over w 1) rs n)
      → (b : Bool) → eqb (digit_count (length x.runs)) w ≡ b → (suc w ≤ digit_count n → Low (suc w) → AtMost n (tries len c f (suc w) rs))
      → AtMost n (tries len c (suc f) w rs)
  fewest_step f w n big fit a low x true e ih =
      let t : 2 ≤ length x.runs = two w x.runs big (omega (arith, over_wide w (digit_count n) 1 a)) x.found in
      rw (tries_serve f w x.runs x.found (serves_yes w (length x.runs) (eqb-true _ _ e) t)) (omega (arith, x.few))
  fewest_step f w n big fit a low x false e ih =
      let d : w ≤ digit_count (length x.runs) = low x.runs x.found in
      let ne : digit_count (length x.runs) ≡ w → ⊥ = eqb-false _ _ e in
      let l : suc w ≤ digit_count (length x.runs) = omega arith in
      let m : suc w ≤ digit_count n = omega (arith, count_up (length x.runs) n (omega (arith, x.few))) in
      rw (tries_skip f w x.runs x.found (serves_no w (length x.runs) ne))
      (ih m (λ ys q. omega (arith, count_up _ _ (wider w (suc w) x.runs ys (omega arith) (omega (arith, over_wide (suc w) (digit_count n) 1 m)) x.found q))))

  fewest : (f w n : ℕ) → c < 13 + total len rs → over (digit_count n) 1 ≤ c → Way len (over (digit_count n)) c 1 (over (digit_count n) 1) rs n
      → w ≤ digit_count n → digit_count n < w + f → Low w → AtMost n (tries len c f w rs)
  fewest zero w n big fit y a b low = absurd (omega arith)
  fewest (suc f) w n big fit y a b low =
      fewest_step f w n big fit a low (narrow w (digit_count n) n a y) _ refl (λ m l. fewest f (suc w) n big fit y m (omega arith) l)

  pub plan_whole : 13 + total len rs ≤ c → plan len c rs ≡ in_one
  unfolding plan
  plan_whole h = rw (le-leb (13 + total len rs) c h, plan)

  plan_cut : c < 13 + total len rs → plan len c rs ≡ tries len c 3 1 rs
  unfolding plan
  plan_cut h = rw (lt-leb (13 + total len rs) c h, plan)

  many_least : (xs : List (List A)) → c < 13 + total len rs → Divides len c rs xs → AtMost (length xs) (tries len c 3 1 rs)
  unfolding Taken Fits
  many_least [] h d = absurd (omega (arith, d.two))
  many_least (x ∷ xs) h d =
      let f : Fits len (over (digit_count (length (x ∷ xs)))) c 1 (x ∷ xs) = d.fits in
      fewest 3 1 (length (x ∷ xs)) h (omega (arith, f.0)) (way_packed (digit_count (length (x ∷ xs))) (x ∷ xs) (f, d.all))
      (some_digit (length (x ∷ xs))) (omega (arith, to_999 (length (x ∷ xs)) d.most)) (λ ys q. some_digit (length ys))

  -- THE FEWEST PIECES: the plan has at most as many pieces as any division, and fails only where there is none
  pub plan_fewest : (n : ℕ) → Division len c rs n → AtMost n (plan len c rs)
  plan_fewest n (one h) = rw (plan_whole h) (le_refl 1)
  plan_fewest n (many xs d) = go (leb (13 + total len rs) c) refl
    where
      go : (b : Bool) → leb (13 + total len rs) c ≡ b → AtMost (length xs) (plan len c rs)
      go true q = rw (plan_whole (leb-true _ _ q)) (omega (arith, d.two))
      go false q = rw (plan_cut (leb-false _ _ q)) (many_least xs (leb-false _ _ q) d)

  -- the same of a way through the records
  pub way_fewest : (n : ℕ) → 2 ≤ n → n ≤ 999 → over (digit_count n) 1 ≤ c → Way len (over (digit_count n)) c 1 (over (digit_count n) 1) rs n → AtMost n (plan len c rs)
  way_fewest n a b f y = go (leb (13 + total len rs) c) refl
    where
      go : (b : Bool) → leb (13 + total len rs) c ≡ b → AtMost n (plan len c rs)
      go true q = rw (plan_whole (leb-true _ _ q)) (omega arith)
      go false q =
          rw (plan_cut (leb-false _ _ q))
          (fewest 3 1 n (leb-false _ _ q) f y (some_digit n) (omega (arith, to_999 n b)) (λ ys q. some_digit (length ys)))

  -- what the plan finds is a division
  abbrev pub Planned : Plan A → Type 0
  Planned in_one = 13 + total len rs ≤ c
  Planned (in_runs xs) = Divides len c rs xs
  Planned no_plan = Unit {0}

  taken_fits : (w : ℕ) (xs : List (List A)) → Taken len (over w) c 1 (over w 1) xs → Fits len (over w) c 1 xs
  unfolding Taken Fits
  taken_fits w [] t = absurd t
  taken_fits w (x ∷ xs) t = t

  served : (w : ℕ) (xs : List (List A)) → w ≤ 3 → pack len (over w) c 1 (over w 1) rs ≡ Some xs → serves w (length xs) ≡ true → Planned (in_runs xs)
  served w xs h e s =
      let d : (digit_count (length xs) ≡ w) × (2 ≤ length xs) = serves_digits w (length xs) s in
      go d (leb (over w 1) c) refl
    where
      go : (digit_count (length xs) ≡ w) × (2 ≤ length xs) → (b : Bool) → leb (over w 1) c ≡ b → Planned (in_runs xs)
      go (d, t) true q =
          let g : Good len (over w) c 1 (over w 1) rs xs = packed w xs (leb-true _ _ q) e in
          record {
            all = g.1;
            two = t;
            most = digits_1000 (length xs) (omega arith);
            fits = subst (λ (v : ℕ). Fits len (over v) c 1 xs) (sym d) (taken_fits w xs g.0);
          }
      go (d, t) false q = absurd (omega (arith, pack_start len c w rs xs (leb-false _ _ q) e))

  tries_good : (f w : ℕ) → w + f ≤ 4 → Planned (tries len c f w rs)
  unfolding tries
  tries_good zero w h = tt
  tries_good (suc f) w h = go (tries_good f (suc w) (omega arith)) (pack len (over w) c 1 (over w 1) rs) refl
    where
      go : Planned (tries len c f (suc w) rs) → (m : Option (List (List A))) → pack len (over w) c 1 (over w 1) rs ≡ m → Planned (tries len c (suc f) w rs)
      go i None e = rw (tries_none f w e) i
      go i (Some xs) e = by (serves w (length xs)) refl
        where
          by : (b : Bool) → serves w (length xs) ≡ b → Planned (tries len c (suc f) w rs)
          by true s = rw (tries_serve f w xs e s) (served w xs (omega arith) e s)
          by false s = rw (tries_skip f w xs e s) i

  pub plan_good : Planned (plan len c rs)
  plan_good = go (leb (13 + total len rs) c) refl
    where
      go : (b : Bool) → leb (13 + total len rs) c ≡ b → Planned (plan len c rs)
      go true e = rw (plan_whole (leb-true _ _ e)) (leb-true _ _ e)
      go false e = rw (plan_cut (leb-false _ _ e)) (tries_good 3 1 (le_refl 4))
