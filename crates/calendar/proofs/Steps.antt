-- Eras that are found, runs of digits by their values, and the ways through `Day::read`. Assumes nothing.
use Prim.Native.Nat.{ℕ, ◌+◌, ◌-◌, ◌*◌, ◌<◌, ◌≤◌, ◌^◌}
use mathlib.Core.Path.{◌≡◌, refl, sym, ap, ◌∙◌}
use mathlib.Core.Bool.{Bool, true, false, cond}
use mathlib.Core.List.{List, [], ◌∷◌}
use native.Mathlib.Numerals.{add-one}
use native.Mathlib.Nat.{pow-suc, pow-le-pow_right}
use native.Mathlib.Omega.{arith}
use borrow.Author.Tests.{eq-eqb, ne_eqb}
use lib.ListN.{length, get_or, drop, take}
use Rattle.lists.specs.Lists.{all}
use Rattle.lists.proofs.Cuts.{rest_all}
use Rattle.eras.specs.declared.Era.{Era}
use Rattle.calendar.specs.declared.Day.{Day}
use Rattle.std.specs.Prelude.{Option, Some, None}
use Rattle.digits.specs.Digits.{is_digit, value}
use Rattle.digits.specs.Short.{digit, number_from}
use Rattle.digits.proofs.Reading.{digit_small, number_done, number_next, number_stop, number_by_value}
use Rattle.calendar.specs.Day.{gregorian}
use Rattle.calendar.specs.Era.{from_era, read_day}
use Rattle.eras.specs.Era.{find, no_era, eras, era_of, era_on, has_letter, has_begun}
use Rattle.std.specs.List.{find as first}
use Rattle.std.specs.Option.{unwrap_or}

-- the era that is found, or none
pub find_or_none : (p : Era → Bool) (es : List Era) → find p es ≡ unwrap_or (first p es) no_era
find_or_none p [] = refl
find_or_none p (e ∷ es) = go (p e) (find_or_none p es)
  where
    go : (x : Bool) → find p es ≡ unwrap_or (first p es) no_era → cond x e (find p es) ≡ unwrap_or (cond x (Some e) (first p es)) no_era
    go true i = refl
    go false i = i

pub era_of_first : (c : ℕ) → era_of c ≡ unwrap_or (first (has_letter c) eras) no_era
unfolding era_of
era_of_first c = find_or_none (has_letter c) eras

pub era_on_first : (n : ℕ) → era_on n ≡ unwrap_or (first (has_begun n) eras) no_era
unfolding era_on
era_on_first n = find_or_none (has_begun n) eras

-- ---- the loop of `digits_value`: o is what `digit` answered

-- n is what the first i digits spell
pub record Spelled (s : List ℕ) (i n : ℕ) : Type 0 where
  pub small : n < 10 ^ i
  pub left : number_from n (drop i s) ≡ number_from 0 s

pub spelled_none : (s : List ℕ) → Spelled s 0 0
spelled_none s = record { small = omega arith; left = refl }

module _ {s : List ℕ} {i n : ℕ} (v : Spelled s i n) where
  pub spelled_small : i ≤ 7 → n < 10000000
  spelled_small h = omega (arith, v.small, pow-le-pow_right {n = 10} (omega arith) h)

  pub spelled_all : length s ≤ i → Some n ≡ number_from 0 s
  spelled_all h = sym (number_done n s i h) ∙ v.left

  module _ (h : i < length s) {o : Option ℕ} (e : o ≡ digit (get_or s i 0)) where
    pub spelled_more : {x : ℕ} → o ≡ Some x → Spelled s (i + 1) (10 * n + x)
    spelled_more {x} q =
        let d : x ≤ 9 = digit_small (get_or s i 0) (sym e ∙ q) in
        record { small = rw (add-one, pow-suc) (omega (arith, v.small)); left = sym (number_next n s i h e q) ∙ v.left }

    pub spelled_stop : {r : Option ℕ} → o ≡ None → r ≡ None → r ≡ number_from 0 s
    spelled_stop q t = t ∙ sym (number_stop n s i h e q) ∙ v.left

pub ruleset spelled_laws = (spelled_none, spelled_all, spelled_more, spelled_stop)

-- ---- a run of digits by its value

-- where a number was read, the run is digits of that value; where none was, it isn't
pub some_digits : (s : List ℕ) {x : Option ℕ} {n : ℕ} → x ≡ number_from 0 s → x ≡ Some n → (all is_digit s ≡ true) × (value 0 s ≡ n)
some_digits s {x} {n} p q = go (all is_digit s) refl (sym (number_by_value 0 s) ∙ sym p ∙ q)
  where
    go : (b : Bool) → all is_digit s ≡ b → cond b (Some (value 0 s)) None ≡ Some n → (all is_digit s ≡ true) × (value 0 s ≡ n)
    go true e f = (e, cc)
    go false e f = let z : ◌≡◌ {A = ℕ} 0 1 = cc in absurd (omega arith)

pub no_digits : (s : List ℕ) {x : Option ℕ} → x ≡ number_from 0 s → x ≡ None → all is_digit s ≡ false
no_digits s p q = go (all is_digit s) refl (sym (number_by_value 0 s) ∙ sym p ∙ q)
  where
    go : (b : Bool) → all is_digit s ≡ b → cond b (Some (value 0 s)) None ≡ None → all is_digit s ≡ false
    go true e f = let z : ◌≡◌ {A = ℕ} 0 1 = cc in absurd (omega arith)
    go false e f = e

-- ---- the ways through `Day::read`: x is what `digits_value` answered

module _ (s : List ℕ) {x : Option ℕ} where
  pub read_8 : {n : ℕ} {r : Option Day} → length s ≡ 8 → x ≡ number_from 0 s → x ≡ Some n → r ≡ gregorian n → r ≡ read_day s
  unfolding read_day
  read_8 h p q e = let d = some_digits s p q in e ∙ simp (eq-eqb (length s) 8 h, d.0, d.1)

  pub none_8 : {r : Option Day} → length s ≡ 8 → x ≡ number_from 0 s → x ≡ None → r ≡ None → r ≡ read_day s
  unfolding read_day
  none_8 h p q e = e ∙ simp (h, no_digits s p q)

  module _ (g : length s ≡ 8 → ⊥) (h : length s ≡ 7) (p : x ≡ number_from 0 (take (length s - 1) (drop 1 s))) where
    rest : x ≡ number_from 0 (drop 1 s)
    rest = p ∙ ap (number_from 0) (rest_all 1 s)

    pub read_7 : {n : ℕ} {r : Option Day} → x ≡ Some n → r ≡ from_era (get_or s 0 0) n → r ≡ read_day s
    unfolding read_day
    read_7 q e = let d = some_digits (drop 1 s) rest q in e ∙ simp (h, d.0, d.1)

    pub none_7 : {r : Option Day} → x ≡ None → r ≡ None → r ≡ read_day s
    unfolding read_day
    none_7 q e = e ∙ simp (h, no_digits (drop 1 s) rest q)

pub none_else : (s : List ℕ) → (length s ≡ 8 → ⊥) → (length s ≡ 7 → ⊥) → None ≡ read_day s
unfolding read_day
none_else s g h = simp (ne_eqb (length s) 8 g, ne_eqb (length s) 7 h)

pub ruleset read_laws = (read_8, none_8, read_7, none_7, none_else)
