-- Numbers are read as they were spelled, and no spelling is shorter: one computed test over the numbers below 1,000. Assumes nothing.
use Prim.Native.Nat.{ℕ, ◌≤◌, ◌<◌}
use mathlib.Core.Path.{◌≡◌, refl, ap}
use mathlib.Core.Bool.{Bool, true, false, cond, ◌&&◌, false≢true}
use Rattle.std.specs.Prelude.{Option, Some, None}
use mathlib.Core.List.{List, [], ◌∷◌}
use native.Mathlib.Omega.{arith}
use borrow.Author.Tests.{leb-true, leb-false, le-leb, lt-leb, eqb-true}
use lib.Dec.{leb, eqb}
use lib.ListN.{length}
use Rattle.lists.specs.Lists.{all}
use Rattle.lists.proofs.Tests.{both, cond_case, below, below_at}
use Rattle.digits.specs.Digits.{is_digit, value, number, spell, digit_count}

is : Option ℕ → ℕ → Bool
is None n = false
is (Some m) n = eqb m n

is_some : (m : Option ℕ) (n : ℕ) → is m n ≡ true → m ≡ Some n
unfolding is
is_some None n e = absurd (false≢true e)
is_some (Some m) n e = ap Some (eqb-true m n e)

good : ℕ → Bool
good n = is (number (spell n)) n && (eqb (length (spell n)) (digit_count n) && all is_digit (spell n))

all_good : below good 1000 ≡ true
unfolding below good is number spell value digit_count
all_good = refl

module _ (n : ℕ) (h : n ≤ 999) where
  all_at : (is (number (spell n)) n ≡ true) × (eqb (length (spell n)) (digit_count n) && all is_digit (spell n) ≡ true)
  unfolding good
  all_at = both (is (number (spell n)) n) (eqb (length (spell n)) (digit_count n) && all is_digit (spell n)) (below_at good 1000 all_good n (omega arith))

  pub number_spell : number (spell n) ≡ Some n
  number_spell = is_some _ n all_at.0

  pub length_spell : length (spell n) ≡ digit_count n
  length_spell = eqb-true _ _ (both (eqb (length (spell n)) (digit_count n)) (all is_digit (spell n)) all_at.1).0

  pub digits_spell : all is_digit (spell n) ≡ true
  digits_spell = (both (eqb (length (spell n)) (digit_count n)) (all is_digit (spell n)) all_at.1).1

pub digit_is : (b : ℕ) → is_digit b ≡ true → (48 ≤ b) × (b ≤ 57)
digit_is b e = let p : (leb 48 b ≡ true) × (leb b 57 ≡ true) = both (leb 48 b) (leb b 57) e in (leb-true 48 b p.0, leb-true b 57 p.1)

-- ---- how many digits

pub count_1 : (n : ℕ) → n ≤ 9 → digit_count n ≡ 1
unfolding digit_count
count_1 n h = simp (le-leb n 9 h)

pub count_2 : (n : ℕ) → 9 < n → n ≤ 99 → digit_count n ≡ 2
unfolding digit_count
count_2 n g h = simp (lt-leb n 9 g, le-leb n 99 h)

pub count_3 : (n : ℕ) → 99 < n → n ≤ 999 → digit_count n ≡ 3
unfolding digit_count
count_3 n g h = simp (lt-leb n 9 (omega arith), lt-leb n 99 g, le-leb n 999 h)

pub count_4 : (n : ℕ) → 999 < n → digit_count n ≡ 4
unfolding digit_count
count_4 n g = simp (lt-leb n 9 (omega arith), lt-leb n 99 (omega arith), lt-leb n 999 g)

-- what holds of the digits of a number, by the bound that it is under
by_count : (P : ℕ → Type 0) (n : ℕ) → (n ≤ 9 → P 1) → (n ≤ 99 → P 2) → (n ≤ 999 → P 3) → P 4 → P (digit_count n)
unfolding digit_count
by_count P n a b c d =
    cond_case P (leb n 9) 1 _ (λ e. a (leb-true n 9 e)) (λ _.
    cond_case P (leb n 99) 2 _ (λ e. b (leb-true n 99 e)) (λ _.
    cond_case P (leb n 999) 3 4 (λ e. c (leb-true n 999 e)) (λ _. d)))

pub some_digit : (n : ℕ) → 1 ≤ digit_count n
some_digit n = by_count (λ (x : ℕ). 1 ≤ x) n (λ _. omega arith) (λ _. omega arith) (λ _. omega arith) (omega arith)

pub count_most : (n : ℕ) → digit_count n ≤ 4
count_most n = by_count (λ (x : ℕ). x ≤ 4) n (λ _. omega arith) (λ _. omega arith) (λ _. omega arith) (omega arith)

to_99 : (n : ℕ) → n ≤ 99 → digit_count n ≤ 2
to_99 n h = go (leb n 9) refl
  where
    go : (b : Bool) → leb n 9 ≡ b → digit_count n ≤ 2
    go true e = omega (arith, count_1 n (leb-true n 9 e))
    go false e = omega (arith, count_2 n (leb-false n 9 e) h)

pub to_999 : (n : ℕ) → n ≤ 999 → digit_count n ≤ 3
to_999 n h = go (leb n 99) refl
  where
    go : (b : Bool) → leb n 99 ≡ b → digit_count n ≤ 3
    go true e = omega (arith, to_99 n (leb-true n 99 e))
    go false e = omega (arith, count_3 n (leb-false n 99 e) h)

-- a larger number has no fewer digits
pub count_up : (m n : ℕ) → m ≤ n → digit_count m ≤ digit_count n
count_up m n h =
    by_count (λ (x : ℕ). digit_count m ≤ x) n (λ e. omega (arith, count_1 m (omega arith))) (λ e. to_99 m (omega arith)) (λ e. to_999 m (omega arith))
    (count_most m)

-- a number that is read has at least the digits of its value
digits_value_lem : (s : List ℕ) → length s ≤ 3 → 1 ≤ length s → all is_digit s ≡ true → (digit_count (value 0 s) ≤ length s) × (value 0 s ≤ 999)
unfolding value
digits_value_lem [] h g e = absurd (omega arith)
digits_value_lem (a ∷ []) h g e =
    let p : (48 ≤ a) × (a ≤ 57) = digit_is a (both (is_digit a) true e).0 in
    (omega (arith, count_1 (value 0 (a ∷ [])) (omega arith)), omega arith)
digits_value_lem (a ∷ b ∷ []) h g e =
    let q : (is_digit a ≡ true) × (is_digit b && true ≡ true) = both (is_digit a) (is_digit b && true) e in
    let p : (48 ≤ a) × (a ≤ 57) = digit_is a q.0 in
    let r : (48 ≤ b) × (b ≤ 57) = digit_is b (both (is_digit b) true q.1).0 in
    (to_99 (value 0 (a ∷ b ∷ [])) (omega arith), omega arith)
digits_value_lem (a ∷ b ∷ c ∷ []) h g e =
    let q : (is_digit a ≡ true) × (is_digit b && (is_digit c && true) ≡ true) = both (is_digit a) (is_digit b && (is_digit c && true)) e in
    let q' : (is_digit b ≡ true) × (is_digit c && true ≡ true) = both (is_digit b) (is_digit c && true) q.1 in
    let p : (48 ≤ a) × (a ≤ 57) = digit_is a q.0 in
    let r : (48 ≤ b) × (b ≤ 57) = digit_is b q'.0 in
    let t : (48 ≤ c) × (c ≤ 57) = digit_is c (both (is_digit c) true q'.1).0 in
    (to_999 (value 0 (a ∷ b ∷ c ∷ [])) (omega arith), omega arith)
digits_value_lem (a ∷ b ∷ c ∷ d ∷ s) h g e = absurd (omega arith)

-- what is known of a list that is read to n
pub record Digits (s : List ℕ) (n : ℕ) : Type 0 where
  pub low : 1 ≤ length s
  pub high : length s ≤ 3
  pub digits : all is_digit s ≡ true
  pub is : value 0 s ≡ n

pub number_is : (s : List ℕ) (n : ℕ) → number s ≡ Some n → Digits s n
unfolding number
number_is s n e = go (leb 1 (length s)) refl (leb (length s) 3) refl (all is_digit s) refl e
  where
    go : (x : Bool) → leb 1 (length s) ≡ x → (y : Bool) → leb (length s) 3 ≡ y → (z : Bool) → all is_digit s ≡ z
        → cond (x && (y && z)) (Some (value 0 s)) None ≡ Some n → Digits s n
    go true p true q true r e = record { low = leb-true _ _ p; high = leb-true _ _ q; digits = r; is = cc }
    go true p true q false r e = let z : ◌≡◌ {A = ℕ} 0 1 = cc in absurd (omega arith)
    go true p false q z r e = let z : ◌≡◌ {A = ℕ} 0 1 = cc in absurd (omega arith)
    go false p y q z r e = let z : ◌≡◌ {A = ℕ} 0 1 = cc in absurd (omega arith)

pub number_length : (s : List ℕ) (n : ℕ) → number s ≡ Some n → (digit_count n ≤ length s) × (n ≤ 999)
number_length s n e = let d = number_is s n e in rw (← d.is) (digits_value_lem s d.high d.low d.digits)
