-- What `decimal` writes, without the bound of its definition (`decimal_digits_lem`); how long it is (`decimal_short`); and that it writes a number below
-- 1,000 as `spell` does, in which canonical files and records 911 have theirs (`decimal_spell`). Assumes nothing.
use Prim.Native.Nat.{ℕ, zero, suc, ◌+◌, ◌*◌, ◌/◌, ◌%◌, ◌^◌, ◌≤◌, ◌<◌}
use native.Mathlib.Nat.{pow-suc}
use native.Mathlib.Omega.{arith}
use mathlib.Core.Path.{◌≡◌, refl, ap, ◌∙◌}
use mathlib.Core.Bool.{Bool, true, false, cond}
use mathlib.Core.List.{List, [], ◌∷◌, ◌++◌}
use borrow.Author.Tests.{leb-true, leb-false, le-leb, lt-leb}
use lib.Dec.{leb}
use lib.ListN.{length, length-append}
use Rattle.lists.specs.Lists.{same}
use Rattle.lists.proofs.Tests.{below, below_at, same_true}
use Rattle.digits.specs.Digits.{spell}
use Rattle.printing.specs.Printed.{digit_list, decimal}
use Rattle.printing.specs.Digits.{DecimalDigits}

none_of_zero : (k : ℕ) → digit_list k 0 ≡ []
unfolding digit_list
none_of_zero zero = refl
none_of_zero (suc k) = refl

-- a bound that is large enough does not matter
enough : (k j n : ℕ) → n ≤ k → n ≤ j → digit_list k n ≡ digit_list j n
unfolding digit_list
enough zero zero n h g = refl
enough zero (suc j) zero h g = refl
enough zero (suc j) (suc n) h g = absurd (omega arith)
enough (suc k) zero zero h g = refl
enough (suc k) zero (suc n) h g = absurd (omega arith)
enough (suc k) (suc j) zero h g = refl
enough (suc k) (suc j) (suc n) h g =
    ap (λ (s : List ℕ). s ++ ((48 + suc n % 10) ∷ [])) (enough k j (suc n / 10) (omega arith) (omega arith))

-- the digits of a number that is not 0
bounded : (k n : ℕ) → 1 ≤ n → n ≤ k → digit_list k n ≡ decimal n
unfolding decimal
bounded k zero p h = absurd (omega arith)
bounded k (suc n) p h = enough k (suc n) (suc n) h (omega arith)

pub decimal_digits_lem : DecimalDigits
unfolding decimal digit_list
decimal_digits_lem zero = refl
decimal_digits_lem (suc n) = go (leb (suc n) 9) refl
  where
    last : List ℕ
    last = (48 + suc n % 10) ∷ []

    go : (x : Bool) → leb (suc n) 9 ≡ x → digit_list n (suc n / 10) ++ last ≡ cond x ((48 + suc n) ∷ []) (decimal (suc n / 10) ++ last)
    go true e =
        let h : suc n ≤ 9 = leb-true (suc n) 9 e in
        let q : suc n / 10 ≡ 0 = omega arith in
        let r : suc n % 10 ≡ suc n = omega arith in
        rw (q, r, none_of_zero n)
    go false e =
        let h : 9 < suc n = leb-false (suc n) 9 e in
        ap (λ (s : List ℕ). s ++ last) (bounded n (suc n / 10) (omega arith) (omega arith))

pub decimal_one : (n : ℕ) → n ≤ 9 → decimal n ≡ (48 + n) ∷ []
decimal_one n h = decimal_digits_lem n ∙ rw (le-leb n 9 h)

pub decimal_more : (n : ℕ) → 9 < n → decimal n ≡ decimal (n / 10) ++ ((48 + n % 10) ∷ [])
decimal_more n h = decimal_digits_lem n ∙ rw (lt-leb n 9 h)

-- a number below a power of ten has no more digits than that
pub decimal_short : (k n : ℕ) → n < 10 ^ suc k → length (decimal n) ≤ suc k
decimal_short zero n h = rw (decimal_one n (omega arith)) (omega arith)
decimal_short (suc k) n h =
    let p : n < 10 ^ suc k * 10 = rw pow-suc at h in
    go (leb n 9) refl (decimal_short k (n / 10) (omega arith))
  where
    go : (x : Bool) → leb n 9 ≡ x → length (decimal (n / 10)) ≤ suc k → length (decimal n) ≤ suc (suc k)
    go true e again = rw (decimal_one n (leb-true n 9 e)) (omega arith)
    go false e again = rw (decimal_more n (leb-false n 9 e), length-append) (omega arith)

-- 64 bits
pub decimal_twenty : (n : ℕ) → n ≤ 18446744073709551615 → length (decimal n) ≤ 20
decimal_twenty n h = decimal_short 19 n (omega arith)

spelled : ℕ → Bool
spelled n = same (decimal n) (spell n)

all_spelled : below spelled 1000 ≡ true
unfolding below spelled digit_list decimal spell
all_spelled = refl

pub decimal_spell : (n : ℕ) → n < 1000 → decimal n ≡ spell n
unfolding spelled
decimal_spell n h = same_true (decimal n) (spell n) (below_at spelled 1000 all_spelled n h)
