-- The kinds of digits: postal codes and decimals by their parts, prefectures by their number. Assumes nothing.
use Prim.Native.Nat.{ℕ, ◌+◌, ◌-◌, ◌≤◌, min}
use mathlib.Core.Path.{◌≡◌, refl, sym, ap, ◌∙◌}
use mathlib.Core.Bool.{Bool, true, false, cond, ◌&&◌}
use mathlib.Core.List.{List, [], ◌∷◌}
use native.Mathlib.Omega.{arith}
use Rattle.std.specs.Prelude.{Option, Some, None}
use borrow.Author.Tests.{eqb-true, eq-eqb, ne_eqb}
use lib.Dec.{leb, eqb}
use lib.ListN.{length, take, drop, length-append, length-take, length-drop}
use Rattle.lists.specs.Lists.{within, all, up_to}
use Rattle.lists.specs.Searching.{find_from}
use Rattle.lists.proofs.Tests.{all_append}
use Rattle.lists.proofs.Cuts.{rest_all, take_up_to}
use Rattle.lists.proofs.Loops.{find_high}
use Rattle.digits.specs.Digits.{is_digit, value, number}
use Rattle.records.specs.Items.{is_period, seven, unhyphened, prefecture, whole_part, fraction_part, fraction, is_decimal}

-- ---- P

pub unhyphened_length : (s : List ℕ) → length (unhyphened s) ≡ min 3 (length s) + (length s - 4)
unhyphened_length s = length-append (take 3 s) (drop 4 s) ∙ ap (λ (x : ℕ). x + length (drop 4 s)) (length-take 3 s) ∙ ap (λ (x : ℕ). min 3 (length s) + x) (length-drop 4 s)

module _ (s : List ℕ) where
  pub no_seven : (length s ≡ 8 → ⊥) → false ≡ seven (unhyphened s)
  unfolding seven
  no_seven h = simp (ne_eqb (length (unhyphened s)) 7 (λ e. h (omega (arith, unhyphened_length s, e))))

  -- x: the digits before the hyphen
  module _ {x : Bool} (h : length s ≡ 8) (p : x ≡ all is_digit (take 3 s)) where
    seven_parts : seven (unhyphened s) ≡ (x && all is_digit (drop 4 s))
    unfolding seven
    seven_parts = simp (p, eq-eqb (length (unhyphened s)) 7 (omega (arith, unhyphened_length s)), all_append is_digit (take 3 s) (drop 4 s))

    pub seven_not : x ≡ false → x ≡ seven (unhyphened s)
    seven_not q = sym (rw (seven_parts, q) refl)

    pub seven_after : {y : Bool} → x ≡ true → y ≡ all is_digit (take (length s - 4) (drop 4 s)) → y ≡ seven (unhyphened s)
    seven_after q r = r ∙ ap (all is_digit) (rest_all 4 s) ∙ sym (rw (seven_parts, q) refl)

pub ruleset seven_laws = (no_seven, seven_not, seven_after)

-- ---- F

in_range : Option ℕ → Bool
in_range None = false
in_range (Some n) = within 1 47 n

prefecture_by : (s : List ℕ) → length s ≡ 2 → prefecture s ≡ in_range (number s)
unfolding number prefecture in_range
prefecture_by s h = rw h (go (all is_digit s))
  where
    go : (y : Bool) → (y && within 1 47 (value 0 s)) ≡ in_range (cond y (Some (value 0 s)) None)
    go true = refl
    go false = refl

-- o: what the digits are read to
module _ (s : List ℕ) {o : Option ℕ} (e : o ≡ number s) where
  pub prefecture_none : o ≡ None → false ≡ prefecture s
  unfolding prefecture in_range
  prefecture_none q = go (eqb (length s) 2) refl
    where
      go : (x : Bool) → eqb (length s) 2 ≡ x → false ≡ prefecture s
      go true h = sym (prefecture_by s (eqb-true _ _ h) ∙ ap in_range (sym e ∙ q))
      go false h = simp h

  pub prefecture_some : {n : ℕ} → o ≡ Some n → (eqb (length s) 2 && (leb 1 n && leb n 47)) ≡ prefecture s
  unfolding prefecture in_range
  prefecture_some {n} q = go (eqb (length s) 2) refl
    where
      go : (x : Bool) → eqb (length s) 2 ≡ x → (x && within 1 47 n) ≡ prefecture s
      go true h = sym (prefecture_by s (eqb-true _ _ h) ∙ ap in_range (sym e ∙ q))
      go false h = simp h

pub ruleset prefecture_laws = (prefecture_none, prefecture_some)

-- ---- W and Q

pub fraction_some : (f : ℕ) (s : List ℕ) {r : Bool} → (length s ≡ 0 → ⊥) → r ≡ fraction_part f (take (length s - 1) (drop 1 s)) → r ≡ fraction f s
fraction_some f [] h e = absurd (h refl)
fraction_some f (b ∷ s) h e = e ∙ ap (fraction_part f) (rest_all 1 (b ∷ s))

-- p: where the period stands, or the end; x: the part before it
module _ (w f : ℕ) (s : List ℕ) {p : ℕ} (e : p ≡ find_from 0x2e s 0) where
  pub period_inside : p ≤ length s
  period_inside = omega (arith, e, find_high 0x2e s 0 (omega arith))

  pub period_length : p ≡ length (take p s)
  period_length = omega (arith, period_inside, length-take p s)

  module _ {x : Bool} (a : x ≡ whole_part w (take p s)) where
    decimal_parts : is_decimal w f s ≡ (x && fraction f (drop p s))
    unfolding is_decimal find_from
    decimal_parts =
        let n : length (up_to is_period s) ≡ p = omega (arith, e) in
        let a' : whole_part w (up_to is_period s) ≡ x = ap (whole_part w) (sym (take_up_to is_period s) ∙ ap (λ (k : ℕ). take k s) n) ∙ sym a in
        rw (a', n) refl

    pub decimal_not : x ≡ false → x ≡ is_decimal w f s
    decimal_not q = sym (rw (decimal_parts, q) refl)

    pub decimal_is : {y : Bool} → x ≡ true → y ≡ fraction f (take (length s - p) (drop p s)) → y ≡ is_decimal w f s
    decimal_is q r = r ∙ ap (fraction f) (rest_all p s) ∙ sym (rw (decimal_parts, q) refl)

pub ruleset decimal_laws = (period_inside, period_length, decimal_not, decimal_is)
