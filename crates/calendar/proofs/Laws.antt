-- The laws of the calendar's definitions. Assumes nothing.
use Prim.Native.Nat.{ℕ, ◌+◌, ◌-◌, ◌*◌, ◌/◌, ◌%◌, ◌≤◌}
use mathlib.Core.Path.{◌≡◌, refl, ap, ◌∙◌, sym, subst}
use mathlib.Core.Bool.{true, ◌&&◌}
use mathlib.Core.List.{List, [], ◌∷◌}
use native.Mathlib.Nat.{div-div-eq-div-mul}
use native.Mathlib.Omega.{arith}
use borrow.Author.Tests.{le-leb, leb-true, eqb-true}
use lib.Dec.{leb, eqb}
use lib.ListN.{length, get_or, drop}
use Rattle.lists.specs.Lists.{all}
use Rattle.lists.proofs.Tests.{cond_case, both}
use Rattle.digits.specs.Digits.{is_digit, value}
use Rattle.eras.specs.declared.Era.{Era}
use Rattle.calendar.specs.declared.Day.{Day}
use Rattle.std.specs.Prelude.{Option, Some, None}
use Rattle.eras.specs.Era.{six_digits, era_of, era_on, write_day}
use Rattle.eras.specs.Day.{first_day, last_day, is_day}
use Rattle.calendar.specs.Day.{gregorian}
use Rattle.calendar.specs.Era.{in_era, from_era, read_day}
use Rattle.eras.proofs.Eras.{WellMade, day_named, letter_names}

digit_step : (n x : ℕ) (s : List ℕ) → value n ((x % 10 + 48) ∷ s) ≡ value (10 * n + x % 10) s
unfolding value
digit_step n x s =
    let e : x % 10 + 48 - 48 ≡ x % 10 = omega arith in
    rw e

value_end : (n : ℕ) → value n [] ≡ n
unfolding value
value_end n = refl

next_digit : (k p : ℕ) → 10 * (k / (p * 10)) + k / p % 10 ≡ k / p
next_digit k p = rw (← (div-div-eq-div-mul k p 10)) (omega arith)

-- six digits are read to the number that they are the digits of
six_value : (k : ℕ) → k ≤ 999999 → value 0 (six_digits k) ≡ k
six_value k h =
    let e : 10 * 0 + k / 100000 % 10 ≡ k / 100000 = omega arith in
    let z : 10 * (k / 10) + k % 10 ≡ k = omega arith in
    simp (digit_step, e, next_digit k 10000, next_digit k 1000, next_digit k 100, next_digit k 10, z, value_end)

is_digit_lem : (x : ℕ) → is_digit (x % 10 + 48) ≡ true
is_digit_lem x = simp (le-leb 48 (x % 10 + 48) (omega arith), le-leb (x % 10 + 48) 57 (omega arith))

six_digits_lem : (k : ℕ) → all is_digit (six_digits k) ≡ true
six_digits_lem k = simp (is_digit_lem (k / 100000), is_digit_lem (k / 10000), is_digit_lem (k / 1000), is_digit_lem (k / 100), is_digit_lem (k / 10), is_digit_lem k)

-- what holds where a number is a day
pub record InRange (n : ℕ) : Type 0 where
  pub low : first_day ≤ n
  pub high : n ≤ last_day

pub in_range : (n : ℕ) → is_day n ≡ true → InRange n
unfolding is_day
in_range n d =
    let r = both (leb first_day n) (leb n last_day) (both (leb first_day n && leb n last_day) _ d).0 in
    record { low = leb-true _ _ r.0; high = leb-true _ _ r.1 }

-- a day that lies in an era is read under its letter
pub read_under : (e : Era) (n : ℕ) → era_of e.letter ≡ e → WellMade e → e.first ≤ n → n ≤ e.last → is_day n ≡ true
    → read_day (e.letter ∷ six_digits (n - e.before)) ≡ Some (record { ymd = n })
unfolding read_day from_era in_era gregorian
read_under e n l w lo hi d =
    let k : n - e.before ≤ 999999 = omega (arith, w.last_year) in
    let s : e.before + (n - e.before) ≡ n = omega (arith, w.first_year) in
    simp (six_value _ k, six_digits_lem (n - e.before), le-leb _ _ k, l, s, le-leb _ _ lo, le-leb _ _ hi, d)

-- reading what was written gives the day back
pub read_write : (n : ℕ) → is_day n ≡ true → read_day (write_day n) ≡ Some (record { ymd = n })
unfolding write_day
read_write n d = let w = day_named n d in read_under (era_on n) n (letter_names n d) w.row w.newest.begun w.high d

date_injective : (m n : ℕ) → ◌≡◌ {A = Option Day} (Some (record { ymd = m })) (Some (record { ymd = n })) → m ≡ n
date_injective m n e = let d : ◌≡◌ {A = Day} (record { ymd = m }) (record { ymd = n }) = cc in ap (λ (x : Day). x.ymd) d

-- writing tells days apart
pub write_injective : (m n : ℕ) → is_day m ≡ true → is_day n ≡ true → write_day m ≡ write_day n → m ≡ n
write_injective m n p q e = date_injective m n (sym (read_write m p) ∙ ap read_day e ∙ read_write n q)

-- what is read from s: a day, and from no fewer than seven bytes
abbrev Found : List ℕ → Option Day → Type 0
Found s (Some d) = (is_day d.ymd ≡ true) × (7 ≤ length s)
Found s None = Unit {0}

gregorian_found : (s : List ℕ) (n : ℕ) → 7 ≤ length s → Found s (gregorian n)
unfolding gregorian
gregorian_found s n h = cond_case (Found s) (is_day n) (Some (record { ymd = n })) None (λ d. (d, h)) (λ _. tt)

in_era_found : (s : List ℕ) (e : Era) (n : ℕ) → 7 ≤ length s → Found s (in_era e n)
unfolding in_era
in_era_found s e n h = cond_case (Found s) (leb e.first n && leb n e.last) (gregorian n) None (λ _. gregorian_found s n h) (λ _. tt)

era_found : (s : List ℕ) (c k : ℕ) → 7 ≤ length s → Found s (from_era c k)
unfolding from_era
era_found s c k h = cond_case (Found s) (leb k 999999) _ None (λ _. in_era_found s _ _ h) (λ _. tt)

found : (s : List ℕ) → Found s (read_day s)
unfolding read_day
found s =
    cond_case (Found s) (eqb (length s) 8 && all is_digit s) _ _
    (λ h. gregorian_found s (value 0 s) (omega (arith, eqb-true (length s) 8 (both _ _ h).0)))
    (λ _. cond_case (Found s) (eqb (length s) 7 && all is_digit (drop 1 s)) _ None
    (λ h. era_found s (get_or s 0 0) (value 0 (drop 1 s)) (omega (arith, eqb-true (length s) 7 (both _ _ h).0))) (λ _. tt))

-- what is read is a day
pub read_is_day : (s : List ℕ) (n : ℕ) → read_day s ≡ Some (record { ymd = n }) → is_day n ≡ true
read_is_day s n e = (subst (Found s) e (found s)).0

-- two spellings are read to one day exactly if what is written for them is one
pub one_spelling_lem : (s t : List ℕ) (m n : ℕ) → read_day s ≡ Some (record { ymd = m }) → read_day t ≡ Some (record { ymd = n }) → (m ≡ n → write_day m ≡ write_day n) × (write_day m ≡ write_day n → m ≡ n)
one_spelling_lem s t m n p q = (ap write_day, write_injective m n (read_is_day s m p) (read_is_day t n q))

pub write_length : (n : ℕ) → length (write_day n) ≡ 7
unfolding write_day
write_length n = refl

-- what is written is no longer than any spelling of the day
pub write_shortest : (s : List ℕ) (n : ℕ) → read_day s ≡ Some (record { ymd = n }) → length (write_day n) ≤ length s
write_shortest s n e = rw write_length (subst (Found s) e (found s)).1

-- bytes that are digits or capitals, so that none separates items or lines or is a space
abbrev pub Plain : List ℕ → Type 0
Plain [] = Unit {0}
Plain (b ∷ s) = (48 ≤ b) × (b ≤ 90) × Plain s

-- what an era's letter and six digits are
pub under_plain : (e : Era) (k : ℕ) → WellMade e → Plain (e.letter ∷ six_digits k)
under_plain e k w = (omega (arith, w.from_a), w.to_z, omega arith)

pub write_plain : (n : ℕ) → is_day n ≡ true → Plain (write_day n)
unfolding write_day
write_plain n d = under_plain (era_on n) (n - (era_on n).before) (day_named n d).row
