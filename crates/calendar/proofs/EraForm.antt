-- A date that begins with the letter that its day is written under is what is written for its day, and no other is. Assumes nothing.
use Prim.Native.Nat.{ℕ, ◌+◌, ◌-◌, ◌*◌, ◌/◌, ◌%◌, ◌≤◌, ◌<◌}
use native.Mathlib.Nat.{div-one, div-div-eq-div-mul}
use native.Mathlib.Omega.{arith}
use mathlib.Core.Path.{◌≡◌, refl, sym, ap, subst, ◌∙◌}
use mathlib.Core.Bool.{Bool, true, false, cond, ◌&&◌, false≢true}
use mathlib.Core.List.{List, [], ◌∷◌}
use borrow.Author.Tests.{leb-true, eqb-true, eqb-false, eq-eqb}
use lib.Dec.{leb, eqb}
use lib.ListN.{length, get_or, take, drop}
use Rattle.lists.specs.Lists.{all}
use Rattle.lists.proofs.Tests.{both}
use Rattle.lists.proofs.Cuts.{rest_all}
use Rattle.digits.specs.Digits.{is_digit, value}
use Rattle.digits.proofs.Numbers.{digit_is}
use Rattle.eras.specs.declared.Era.{Era}
use Rattle.calendar.specs.declared.Day.{Day}
use Rattle.digits.specs.Short.{number_from}
use Rattle.std.specs.Prelude.{Option, Some, None}
use Rattle.eras.specs.Era.{six_digits, eras, no_era, has_letter, era_of, era_on, write_day}
use Rattle.std.specs.List.{find as first}
use Rattle.std.specs.Option.{unwrap_or}
use Rattle.eras.specs.Day.{is_day}
use Rattle.calendar.specs.Day.{gregorian}
use Rattle.calendar.specs.Era.{in_era, from_era, read_day}
use Rattle.calendar.specs.Form.{under, is_written_form, TellsForm}
use Rattle.eras.proofs.Eras.{day_named, letter_names, letter_kept}
use Rattle.calendar.proofs.Laws.{read_is_day}
use Rattle.calendar.proofs.Steps.{era_of_first, some_digits, no_digits}

pub not_date : {d : Day} → ◌≡◌ {A = Option Day} None (Some d) → ⊥
not_date e = let z : ◌≡◌ {A = ℕ} 0 1 = cc in omega arith

-- ---- the digits

-- the last digit, b, of what stands at m in k
split : (m n b k : ℕ) → is_digit b ≡ true → k / m ≡ 10 * n + (b - 48) → (k / (m * 10) ≡ n) × (k / m % 10 + 48 ≡ b)
split m n b k d e =
    let l : (48 ≤ b) × (b ≤ 57) = digit_is b d in
    (sym (div-div-eq-div-mul k m 10) ∙ rw e (omega arith), rw e (omega arith))

six : (a b c d e f : ℕ) → all is_digit (a ∷ b ∷ c ∷ d ∷ e ∷ f ∷ []) ≡ true → six_digits (value 0 (a ∷ b ∷ c ∷ d ∷ e ∷ f ∷ [])) ≡ a ∷ b ∷ c ∷ d ∷ e ∷ f ∷ []
unfolding value
six a b c d e f h =
    let p = both (is_digit a) _ h in
    let q = both (is_digit b) _ p.1 in
    let r = both (is_digit c) _ q.1 in
    let t = both (is_digit d) _ r.1 in
    let u = both (is_digit e) _ t.1 in
    let v = both (is_digit f) true u.1 in
    let n₁ : ℕ = 10 * 0 + (a - 48) in
    let n₂ : ℕ = 10 * n₁ + (b - 48) in
    let n₃ : ℕ = 10 * n₂ + (c - 48) in
    let n₄ : ℕ = 10 * n₃ + (d - 48) in
    let n₅ : ℕ = 10 * n₄ + (e - 48) in
    let k : ℕ = 10 * n₅ + (f - 48) in
    let s₁ = split 1 n₅ f k v.0 (div-one k) in
    let s₂ = split 10 n₄ e k u.0 s₁.0 in
    let s₃ = split 100 n₃ d k t.0 s₂.0 in
    let s₄ = split 1000 n₂ c k r.0 s₃.0 in
    let s₅ = split 10000 n₁ b k q.0 s₄.0 in
    rw ((split 100000 0 a k p.0 s₅.0).1, s₅.1, s₄.1, s₃.1, s₂.1, rw div-one at s₁.1)

-- ---- the era

pub record Within (e : Era) (k n : ℕ) : Type 0 where
  pub first : e.first ≤ n
  pub last : n ≤ e.last
  pub is : n ≡ e.before + k
  pub short : k ≤ 999999

in_era_lem : (e : Era) (k n : ℕ) → k ≤ 999999 → in_era e (e.before + k) ≡ Some (record { ymd = n }) → Within e k n
unfolding in_era gregorian
in_era_lem e k n b h = go (leb e.first (e.before + k)) refl (leb (e.before + k) e.last) refl (is_day (e.before + k)) h
  where
    go : (x : Bool) → leb e.first (e.before + k) ≡ x → (y : Bool) → leb (e.before + k) e.last ≡ y → (z : Bool)
        → cond {A = Option Day} (x && y) (cond z (Some (record { ymd = e.before + k })) None) None ≡ Some (record { ymd = n }) → Within e k n
    go true p true q true f =
        let d : ◌≡◌ {A = Day} (record { ymd = e.before + k }) (record { ymd = n }) = cc in
        let m : e.before + k ≡ n = ap (λ (t : Day). t.ymd) d in
        record { first = omega (arith, leb-true e.first (e.before + k) p, m); last = omega (arith, leb-true (e.before + k) e.last q, m); is = sym m; short = b }
    go true p true q false f = absurd (not_date f)
    go true p false q z f = absurd (not_date f)
    go false p y q z f = absurd (not_date f)

from_era_lem : (c k n : ℕ) → from_era c k ≡ Some (record { ymd = n }) → Within (era_of c) k n
unfolding from_era
from_era_lem c k n h = go (leb k 999999) refl h
  where
    go : (x : Bool) → leb k 999999 ≡ x → cond x (in_era (era_of c) ((era_of c).before + k)) None ≡ Some (record { ymd = n }) → Within (era_of c) k n
    go true b f = in_era_lem (era_of c) k n (leb-true k 999999 b) f
    go false b f = absurd (not_date f)

-- a spelling under an era's letter
pub record EraSpelled (s : List ℕ) (n : ℕ) : Type 0 where
  pub letter : ℕ
  pub rest : List ℕ
  pub is : s ≡ letter ∷ rest
  pub six : length rest ≡ 6
  pub numeric : all is_digit rest ≡ true
  pub within : Within (era_of letter) (value 0 rest) n

module _ (s : List ℕ) (n : ℕ) (e : read_day s ≡ Some (record { ymd = n })) where
  -- what is read and is not eight digits is one
  pub era_spelled : (length s ≡ 8 → 57 < get_or s 0 0) → EraSpelled s n
  unfolding read_day
  era_spelled o = go (eqb (length s) 8) refl (all is_digit s) refl (eqb (length s) 7) refl (all is_digit (drop 1 s)) refl e
    where
      first_digit : (s : List ℕ) → length s ≡ 8 → all is_digit s ≡ true → get_or s 0 0 ≤ 57
      first_digit [] z h = absurd (omega arith)
      first_digit (b ∷ l) z h = (digit_is b (both (is_digit b) _ h).0).1

      by : (s : List ℕ) → length s ≡ 7 → all is_digit (drop 1 s) ≡ true → from_era (get_or s 0 0) (value 0 (drop 1 s)) ≡ Some (record { ymd = n }) → EraSpelled s n
      by [] z h f = absurd (omega arith)
      by (a ∷ l) z h f = record { letter = a; rest = l; is = refl; six = omega arith; numeric = h; within = from_era_lem a (value 0 l) n f }

      seven : (x : Bool) → eqb (length s) 7 ≡ x → (y : Bool) → all is_digit (drop 1 s) ≡ y
          → cond (x && y) (from_era (get_or s 0 0) (value 0 (drop 1 s))) None ≡ Some (record { ymd = n }) → EraSpelled s n
      seven true p true h f = by s (eqb-true (length s) 7 p) h f
      seven true p false h f = absurd (not_date f)
      seven false p y h f = absurd (not_date f)

      go : (v : Bool) → eqb (length s) 8 ≡ v → (w : Bool) → all is_digit s ≡ w → (x : Bool) → eqb (length s) 7 ≡ x → (y : Bool) → all is_digit (drop 1 s) ≡ y
          → cond (v && w) (gregorian (value 0 s)) (cond (x && y) (from_era (get_or s 0 0) (value 0 (drop 1 s))) None) ≡ Some (record { ymd = n }) → EraSpelled s n
      go true p true h x q y r f = absurd (omega (arith, first_digit s (eqb-true (length s) 8 p) h, o (eqb-true (length s) 8 p)))
      go true p false h x q y r f = seven x q y r f
      go false p w h x q y r f = seven x q y r f

-- ---- the one that is written

digits : (l : List ℕ) → length l ≡ 6 → all is_digit l ≡ true → six_digits (value 0 l) ≡ l
digits [] z h = absurd (omega arith)
digits (a ∷ []) z h = absurd (omega arith)
digits (a ∷ b ∷ []) z h = absurd (omega arith)
digits (a ∷ b ∷ c ∷ []) z h = absurd (omega arith)
digits (a ∷ b ∷ c ∷ d ∷ []) z h = absurd (omega arith)
digits (a ∷ b ∷ c ∷ d ∷ f ∷ []) z h = absurd (omega arith)
digits (a ∷ b ∷ c ∷ d ∷ f ∷ g ∷ []) z h = six a b c d f g h
digits (a ∷ b ∷ c ∷ d ∷ f ∷ g ∷ x ∷ l) z h = absurd (omega arith)

module _ (s : List ℕ) (n : ℕ) (e : read_day s ≡ Some (record { ymd = n })) where
  -- IT IS WHAT IS WRITTEN: where the letter is that of the day's era, they are one era
  pub form_is : is_written_form s ≡ true → write_day n ≡ s
  unfolding is_written_form write_day
  form_is o =
      let d : is_day n ≡ true = read_is_day s n e in
      let a : (era_on n).letter ≡ get_or s 0 0 = eqb-true _ _ (sym (ap (under (get_or s 0 0)) e) ∙ o) in
      let w : EraSpelled s n = era_spelled s n e (λ _. omega (arith, a, (day_named n d).row.from_a)) in
      let b : (era_on n).letter ≡ w.letter = a ∙ ap (λ (t : List ℕ). get_or t 0 0) w.is in
      let q : era_of w.letter ≡ era_on n = ap era_of (sym b) ∙ letter_names n d in
      let k : n ≡ (era_on n).before + value 0 w.rest = w.within.is ∙ ap (λ (x : Era). x.before + value 0 w.rest) q in
      let c : six_digits (n - (era_on n).before) ≡ w.rest = ap six_digits (omega (arith, k)) ∙ digits w.rest w.six w.numeric in
      let i : s ≡ w.letter ∷ w.rest = w.is in
      cc

  -- AND NOTHING ELSE IS
  pub form_only : write_day n ≡ s → is_written_form s ≡ true
  unfolding is_written_form write_day
  form_only w = ap (under (get_or s 0 0)) e ∙ eq-eqb _ _ (ap (λ (t : List ℕ). get_or t 0 0) w)

-- 0 is no letter
none_0 : (k n : ℕ) → Within (era_of 0) k n → ⊥
unfolding era_of
none_0 k n w = omega (arith, w.first, w.last)

-- ---- the ways through `Day::is_written_form`: b is the first byte, o the era that is found by it, k what `digits_value` answered, x what `is_under` did

module _ (s : List ℕ) (z : length s ≡ 7) {b : ℕ} (i : b ≡ get_or s 0 0) {o : Option Era} (g : o ≡ first (has_letter b) eras) where
  spelled : {n : ℕ} → read_day s ≡ Some (record { ymd = n }) → EraSpelled s n
  spelled {n} h = era_spelled s n h (λ q. absurd (omega (arith, q)))

  letter_is : {n : ℕ} (w : EraSpelled s n) → w.letter ≡ b
  letter_is w = ap (λ (t : List ℕ). get_or t 0 0) (sym w.is) ∙ sym i

  found_is : era_of b ≡ unwrap_or o no_era
  found_is = era_of_first b ∙ ap (λ (t : Option Era). unwrap_or t no_era) (sym g)

  within_found : (n : ℕ) (w : EraSpelled s n) → Within (unwrap_or o no_era) (value 0 w.rest) n
  within_found n w = subst (λ (e : Era). Within e (value 0 w.rest) n) (ap era_of (letter_is w) ∙ found_is) w.within

  some_letter : {n : ℕ} → EraSpelled s n → 1 ≤ b
  some_letter {n} w = go (eqb b 0) refl
    where
      go : (t : Bool) → eqb b 0 ≡ t → 1 ≤ b
      go true q = absurd (none_0 (value 0 w.rest) n (subst (λ (c : ℕ). Within (era_of c) (value 0 w.rest) n) (letter_is w ∙ eqb-true b 0 q) w.within))
      go false q = omega (arith, eqb-false b 0 q)

  is_under : {n : ℕ} → read_day s ≡ Some (record { ymd = n }) → eqb (era_on n).letter b ≡ is_written_form s
  unfolding is_written_form
  is_under h = ap (eqb _) i ∙ sym (ap (under (get_or s 0 0)) h)

  pub form_nameless : o ≡ None → TellsForm false s
  form_nameless q = record { is = λ n h. absurd (nothing (spelled h)) }
    where
      nothing : {n : ℕ} → EraSpelled s n → ⊥
      nothing {n} w = let v : Within no_era (value 0 w.rest) n = rw q at within_found n w in omega (arith, v.first, v.last)

  module _ {e : Era} (f : o ≡ Some e) where
    within_e : {n : ℕ} (w : EraSpelled s n) → Within e (value 0 w.rest) n
    within_e {n} w = rw f at within_found n w

    e_is : era_of b ≡ e
    e_is = rw f at found_is

    pub form_always : {x : Bool} → (0 < b → x ≡ eqb (era_on e.last).letter b) → x ≡ true → TellsForm true s
    form_always {x} q l = record { is = λ n h. sym (eq-eqb _ _ (kept n (spelled h))) ∙ is_under h }
      where
        kept : (n : ℕ) → EraSpelled s n → (era_on n).letter ≡ b
        kept n w =
            let k : 1 ≤ b = some_letter w in
            let v : Within e (value 0 w.rest) n = within_e w in
            letter_kept b n k
            (rw e_is (eqb-true _ _ (sym (q k) ∙ l)))
            (rw e_is v.first) (rw e_is v.last)

    module _ {k : Option ℕ} (p : k ≡ number_from 0 (take (length s - 1) (drop 1 s))) where
      rest : k ≡ number_from 0 (drop 1 s)
      rest = p ∙ ap (number_from 0) (rest_all 1 s)

      value_is : {m n : ℕ} → k ≡ Some m → (w : EraSpelled s n) → value 0 w.rest ≡ m
      value_is q w = ap (λ (t : List ℕ). value 0 (drop 1 t)) (sym w.is) ∙ (some_digits (drop 1 s) rest q).1

      pub form_long : {m : ℕ} {x : Bool} → k ≡ Some m → 999999 < m → TellsForm x s
      form_long {m} q l = record { is = λ n h. absurd (too_long (spelled h)) }
        where
          too_long : {n : ℕ} → EraSpelled s n → ⊥
          too_long w = omega (arith, w.within.short, value_is q w)

      pub form_on : {m : ℕ} {x : Bool} → k ≡ Some m → (0 < b → x ≡ eqb (era_on (e.before + m)).letter b) → TellsForm x s
      form_on {m} {x} q r = record { is = λ n h. told n (spelled h) ∙ is_under h }
        where
          told : (n : ℕ) → EraSpelled s n → x ≡ eqb (era_on n).letter b
          told n w =
              let d : e.before + m ≡ n = omega (arith, (within_e w).is, value_is q w) in
              r (some_letter w) ∙ ap (λ (y : ℕ). eqb (era_on y).letter b) d

      pub form_none : k ≡ None → TellsForm false s
      form_none q = record { is = λ n h. absurd (digits_there (spelled h)) }
        where
          digits_there : {n : ℕ} → EraSpelled s n → ⊥
          digits_there w = false≢true (sym (no_digits (drop 1 s) rest q) ∙ ap (λ (t : List ℕ). all is_digit (drop 1 t)) w.is ∙ w.numeric)

pub ruleset form_laws = (form_nameless, form_always, form_long, form_on, form_none)
