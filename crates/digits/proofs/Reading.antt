-- Digits read one by one: what the definitions say from an index on, and the ways through `short_value` and `plain_number`. Assumes nothing.
use Prim.Native.Nat.{ℕ, ◌+◌, ◌*◌, ◌-◌, ◌≤◌, ◌<◌}
use mathlib.Core.Path.{◌≡◌, refl, sym, ap, ◌∙◌, subst}
use mathlib.Core.Bool.{Bool, true, false, cond, ◌&&◌, and-false}
use mathlib.Core.List.{List, [], ◌∷◌}
use native.Mathlib.Omega.{arith}
use Rattle.std.specs.Prelude.{Option, Some, None}
use borrow.Author.Tests.{le-leb, lt-leb, eq-eqb, ne_eqb}
use lib.Dec.{leb}
use lib.ListN.{length, get_or, drop}
use Rattle.lists.specs.Lists.{all}
use Rattle.lists.proofs.Cuts.{drop_step, drop_end}
use Rattle.digits.specs.Digits.{is_digit, value, number}
use Rattle.digits.specs.Short.{digit, number_from, plain_number}
use Rattle.digits.proofs.Numbers.{digit_is}

-- ---- one digit

some_digit_lem : (b : ℕ) {x : ℕ} → digit b ≡ Some x → (is_digit b ≡ true) × (x ≡ b - 48)
some_digit_lem b {x} e = go (is_digit b) refl e
  where
    go : (y : Bool) → is_digit b ≡ y → cond y (Some (b - 48)) None ≡ Some x → (is_digit b ≡ true) × (x ≡ b - 48)
    go true p q = (p, cc)
    go false p q = cc

pub digit_small : (b : ℕ) {x : ℕ} → digit b ≡ Some x → x ≤ 9
digit_small b e = let d = some_digit_lem b e in omega (arith, d.1, digit_is b d.0)

no_digit : (b : ℕ) → digit b ≡ None → is_digit b ≡ false
no_digit b e = go (is_digit b) refl e
  where
    go : (y : Bool) → is_digit b ≡ y → cond y (Some (b - 48)) None ≡ None → is_digit b ≡ false
    go true p q = cc
    go false p q = p

-- ---- from an index on: o is what `digit` answers

pub number_done : (n : ℕ) (s : List ℕ) (i : ℕ) → length s ≤ i → number_from n (drop i s) ≡ Some n
unfolding number_from
number_done n s i h = rw (drop_end s i h)

module _ (n : ℕ) (s : List ℕ) (i : ℕ) (h : i < length s) {o : Option ℕ} (e : o ≡ digit (get_or s i 0)) where
  pub number_next : {x : ℕ} → o ≡ Some x → number_from n (drop i s) ≡ number_from (10 * n + x) (drop (i + 1) s)
  unfolding number_from
  number_next q = let d = some_digit_lem (get_or s i 0) (sym e ∙ q) in rw (drop_step s i 0 h) (simp (d.0, d.1))

  pub number_stop : o ≡ None → number_from n (drop i s) ≡ None
  unfolding number_from
  number_stop q = rw (drop_step s i 0 h) (simp (no_digit (get_or s i 0) (sym e ∙ q)))

-- ---- a run of digits by its value

pub number_by_value : (n : ℕ) (s : List ℕ) → number_from n s ≡ cond (all is_digit s) (Some (value n s)) None
unfolding number_from value
number_by_value n [] = refl
number_by_value n (b ∷ s) = go (is_digit b) (number_by_value (10 * n + (b - 48)) s)
  where
    go : (x : Bool) → number_from (10 * n + (b - 48)) s ≡ cond (all is_digit s) (Some (value (10 * n + (b - 48)) s)) None
        → cond x (number_from (10 * n + (b - 48)) s) None ≡ cond (x && all is_digit s) (Some (value (10 * n + (b - 48)) s)) None
    go true i = i
    go false i = refl

number_short : (s : List ℕ) → number s ≡ cond (leb 1 (length s) && leb (length s) 3) (number_from 0 s) None
unfolding number
number_short s = go (leb 1 (length s)) (leb (length s) 3) (all is_digit s) (number_by_value 0 s)
  where
    go : (x y z : Bool) → number_from 0 s ≡ cond z (Some (value 0 s)) None
        → cond (x && (y && z)) (Some (value 0 s)) None ≡ cond (x && y) (number_from 0 s) None
    go true true z i = sym i
    go true false z i = refl
    go false y z i = refl

-- ---- the ways through `short_value`

-- the number is what the digits from i on spell, after a part of value n
record Left (s : List ℕ) (i n : ℕ) : Type 0 where
  left : number s ≡ number_from n (drop i s)

all_left : (s : List ℕ) → 1 ≤ length s → length s ≤ 3 → Left s 0 0
all_left s h k = record { left = number_short s ∙ simp (le-leb 1 (length s) h, le-leb (length s) 3 k) }

module _ {s : List ℕ} {i n : ℕ} (v : Left s i n) where
  nothing_left : length s ≤ i → Some n ≡ number s
  nothing_left h = sym (v.left ∙ number_done n s i h)

  module _ (h : i < length s) {o : Option ℕ} (e : o ≡ digit (get_or s i 0)) where
    less_left : {x : ℕ} → o ≡ Some x → Left s (i + 1) (10 * n + x)
    less_left q = record { left = v.left ∙ number_next n s i h e q }

    none_left : {r : Option ℕ} → o ≡ None → r ≡ None → r ≡ number s
    none_left q t = t ∙ sym (v.left ∙ number_stop n s i h e q)

module _ (s : List ℕ) where
  pub short_empty : length s < 1 → None ≡ number s
  short_empty h = sym (number_short s ∙ simp (lt-leb 1 (length s) h))

  pub short_long : 4 ≤ length s → None ≡ number s
  short_long h = sym (number_short s ∙ simp (lt-leb (length s) 3 (omega arith), and-false))

  module _ (some : 1 ≤ length s) {o : Option ℕ} (e : o ≡ digit (get_or s 0 0)) where
    first : length s ≤ 3 → {x : ℕ} → o ≡ Some x → Left s 1 x
    first few {x} q =
        let z : 10 * 0 + x ≡ x = omega arith in
        subst (λ (n : ℕ). Left s 1 n) z (less_left (all_left s some few) some e q)

    pub short_one : length s < 2 → o ≡ number s
    short_one h = go o refl
      where
        go : (p : Option ℕ) → o ≡ p → o ≡ number s
        go (Some x) q = q ∙ nothing_left (first (omega arith) q) (omega arith)
        go None q = none_left (all_left s some (omega arith)) some e q q

    pub short_first : length s ≤ 3 → {r : Option ℕ} → o ≡ None → r ≡ None → r ≡ number s
    short_first few q t = none_left (all_left s some few) some e q t

    module _ (more : 2 ≤ length s) (few : length s ≤ 3) {x : ℕ} (q : o ≡ Some x) {p : Option ℕ} (f : p ≡ digit (get_or s 1 0)) where
      pub short_second : {r : Option ℕ} → p ≡ None → r ≡ None → r ≡ number s
      short_second u t = none_left (first few q) more f u t

      pub short_two : {y : ℕ} → length s < 3 → p ≡ Some y → Some (10 * x + y) ≡ number s
      short_two h u = nothing_left (less_left (first few q) more f u) (omega arith)

      module _ (most : 3 ≤ length s) {y : ℕ} (u : p ≡ Some y) {t : Option ℕ} (g : t ≡ digit (get_or s 2 0)) where
        pub short_third : {r : Option ℕ} → t ≡ None → r ≡ None → r ≡ number s
        short_third v w = none_left (less_left (first few q) more f u) most g v w

        pub short_three : {z : ℕ} → t ≡ Some z → Some (100 * x + 10 * y + z) ≡ number s
        short_three {z} v =
            let w : 100 * x + 10 * y + z ≡ 10 * (10 * x + y) + z = omega arith in
            ap Some w ∙ nothing_left (less_left (less_left (first few q) more f u) most g v) few

pub ruleset short_laws = (short_empty, short_long, short_one, short_first, short_second, short_two, short_third, short_three)

-- ---- the ways through `plain_number`

module _ (s : List ℕ) where
  pub plain_zero : get_or s 0 0 ≡ 48 → None ≡ plain_number s
  unfolding plain_number
  plain_zero h = simp (eq-eqb (get_or s 0 0) 48 h)

  pub plain_value : {o : Option ℕ} → (get_or s 0 0 ≡ 48 → ⊥) → o ≡ number s → o ≡ plain_number s
  unfolding plain_number
  plain_value h e = e ∙ simp (ne_eqb (get_or s 0 0) 48 h)

pub ruleset plain_laws = (plain_zero, plain_value)
