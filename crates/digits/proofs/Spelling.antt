-- A list is spelled as n exactly where its plain number is n: this one law turns every comparison of bytes with a listed number
-- into a comparison of numbers. Assumes nothing.
use Prim.Native.Nat.{ℕ, zero, suc, ◌+◌, ◌*◌, ◌-◌, ◌/◌, ◌%◌, ◌≤◌}
use mathlib.Core.Path.{◌≡◌, refl, sym, ap, ◌∙◌}
use mathlib.Core.Bool.{Bool, true, false, cond, ◌&&◌, false≢true}
use mathlib.Core.List.{List, [], ◌∷◌}
use native.Mathlib.Omega.{arith}
use Rattle.std.specs.Prelude.{Option, Some, None}
use Rattle.std.specs.Option.{unwrap_or}
use borrow.Author.Tests.{le-leb, lt-leb, eqb-true, eqb-false, eq-eqb, ne_eqb}
use lib.Dec.{eqb}
use lib.ListN.{get_or}
use Rattle.lists.specs.Lists.{same}
use Rattle.lists.proofs.Tests.{both, same_refl, same_true, below, below_at}
use Rattle.digits.specs.Digits.{is_digit, value, number, spell}
use Rattle.digits.specs.Short.{plain_number}
use Rattle.digits.proofs.Numbers.{digit_is, Digits, number_is, number_length}

spelled : ℕ → Bool
spelled n = eqb (unwrap_or (plain_number (spell (suc n))) 0) (suc n)

all_spelled : below spelled 999 ≡ true
unfolding below spelled plain_number number value spell
all_spelled = refl

-- a plain number: no leading zero, and digits of that value
record Plain (s : List ℕ) (n : ℕ) : Type 0 where
  first : eqb (get_or s 0 0) 48 ≡ false
  read : number s ≡ Some n

plain_is : (s : List ℕ) (n : ℕ) → plain_number s ≡ Some n → Plain s n
unfolding plain_number
plain_is s n e = go (eqb (get_or s 0 0) 48) refl e
  where
    go : (x : Bool) → eqb (get_or s 0 0) 48 ≡ x → cond x None (number s) ≡ Some n → Plain s n
    go true a b = cc
    go false a b = record { first = a; read = b }

spell_of : (s : List ℕ) (n : ℕ) → Plain s n → s ≡ spell n
unfolding value spell
spell_of s n p = go s p.first (number_is s n p.read)
  where
    go : (s : List ℕ) → eqb (get_or s 0 0) 48 ≡ false → Digits s n → s ≡ spell n
    go [] f d = absurd (omega (arith, d.low))
    go (a ∷ []) f d =
        let q : (48 ≤ a) × (a ≤ 57) = digit_is a (both (is_digit a) true d.digits).0 in
        let v : 10 * 0 + (a - 48) ≡ n = d.is in
        let e : a ≡ 48 + n = omega arith in
        rw (le-leb n 9 (omega arith), spell) (ap (λ (x : ℕ). x ∷ []) e)
    go (a ∷ b ∷ []) f d =
        let p = both (is_digit a) (is_digit b && true) d.digits in
        let q : (48 ≤ a) × (a ≤ 57) = digit_is a p.0 in
        let q' : (48 ≤ b) × (b ≤ 57) = digit_is b (both (is_digit b) true p.1).0 in
        let z : a ≡ 48 → ⊥ = eqb-false a 48 f in
        let v : 10 * (10 * 0 + (a - 48)) + (b - 48) ≡ n = d.is in
        let e : a ≡ 48 + n / 10 = omega arith in
        let e' : b ≡ 48 + n % 10 = omega arith in
        rw (lt-leb n 9 (omega arith), le-leb n 99 (omega arith), spell) (ap (λ (x : ℕ). x ∷ b ∷ []) e ∙ ap (λ (x : ℕ). (48 + n / 10) ∷ x ∷ []) e')
    go (a ∷ b ∷ c ∷ []) f d =
        let p = both (is_digit a) (is_digit b && (is_digit c && true)) d.digits in
        let p' = both (is_digit b) (is_digit c && true) p.1 in
        let q : (48 ≤ a) × (a ≤ 57) = digit_is a p.0 in
        let q' : (48 ≤ b) × (b ≤ 57) = digit_is b p'.0 in
        let q'' : (48 ≤ c) × (c ≤ 57) = digit_is c (both (is_digit c) true p'.1).0 in
        let z : a ≡ 48 → ⊥ = eqb-false a 48 f in
        let v : 10 * (10 * (10 * 0 + (a - 48)) + (b - 48)) + (c - 48) ≡ n = d.is in
        let e : a ≡ 48 + n / 100 = omega arith in
        let e' : b ≡ 48 + n / 10 % 10 = omega arith in
        let e'' : c ≡ 48 + n % 10 = omega arith in
        rw (lt-leb n 9 (omega arith), lt-leb n 99 (omega arith), spell)
        (ap (λ (x : ℕ). x ∷ b ∷ c ∷ []) e ∙ ap (λ (x : ℕ). (48 + n / 100) ∷ x ∷ c ∷ []) e' ∙ ap (λ (x : ℕ). (48 + n / 100) ∷ (48 + n / 10 % 10) ∷ x ∷ []) e'')
    go (a ∷ b ∷ c ∷ x ∷ s) f d = absurd (omega (arith, d.high))

-- A PLAIN NUMBER IS ONE THAT IS SPELLED
pub plain_spell : (s : List ℕ) (n : ℕ) → plain_number s ≡ Some n → s ≡ spell n
plain_spell s n e = spell_of s n (plain_is s n e)

zero_none : plain_number (spell 0) ≡ None
unfolding plain_number spell
zero_none = refl

-- it is of 1 to 999
pub plain_small : (s : List ℕ) (n : ℕ) → plain_number s ≡ Some n → (1 ≤ n) × (n ≤ 999)
plain_small s n e = go n e (number_length s n (plain_is s n e).read).1
  where
    go : (n : ℕ) → plain_number s ≡ Some n → n ≤ 999 → (1 ≤ n) × (n ≤ 999)
    go zero e h = let z : ◌≡◌ {A = Option ℕ} None (Some 0) = sym zero_none ∙ ap plain_number (sym (plain_spell s 0 e)) ∙ e in cc
    go (suc n) e h = (omega arith, h)

pub plain_of_spell : (n : ℕ) → 1 ≤ n → n ≤ 999 → plain_number (spell n) ≡ Some n
unfolding spelled
plain_of_spell zero h k = absurd (omega arith)
plain_of_spell (suc n) h k = go (plain_number (spell (suc n))) (eqb-true _ _ (below_at spelled 999 all_spelled n (omega arith)))
  where
    go : (o : Option ℕ) → unwrap_or o 0 ≡ suc n → o ≡ Some (suc n)
    go None e = absurd (omega arith)
    go (Some m) e = ap Some e

pub same_spell : (s : List ℕ) (n : ℕ) → 1 ≤ n → n ≤ 999 → same s (spell n) ≡ eqb (unwrap_or (plain_number s) 0) n
same_spell s n h k = go (plain_number s) refl (same s (spell n)) refl
  where
    go : (o : Option ℕ) → plain_number s ≡ o → (y : Bool) → same s (spell n) ≡ y → same s (spell n) ≡ eqb (unwrap_or o 0) n
    go o p true q =
        let e : o ≡ Some n = sym p ∙ ap plain_number (same_true s (spell n) q) ∙ plain_of_spell n h k in
        q ∙ sym (eq-eqb _ _ (ap (λ (t : Option ℕ). unwrap_or t 0) e))
    go None p false q = q ∙ sym (ne_eqb 0 n (λ e. omega arith))
    go (Some m) p false q = q ∙ sym (ne_eqb m n (λ e. absurd (false≢true (sym q ∙ ap (λ (t : List ℕ). same t (spell n)) (plain_spell s n (p ∙ ap Some e)) ∙ same_refl (spell n)))))
