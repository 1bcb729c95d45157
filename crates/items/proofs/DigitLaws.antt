-- Items of one digit: which kinds they have no fault for. Assumes nothing.
use Prim.Native.Nat.{ℕ, ◌+◌, ◌-◌, ◌≤◌, ◌<◌}
use mathlib.Core.Path.{◌≡◌, refl, sym, ap, ◌∙◌}
use mathlib.Core.Bool.{Bool, true, false, cond, ◌&&◌, false≢true}
use mathlib.Core.List.{List, [], ◌∷◌}
use native.Mathlib.Omega.{arith}
use Rattle.std.specs.Prelude.{Option, Some, None}
use Rattle.std.specs.Option.{unwrap_or}
use borrow.Author.Tests.{eqb-true}
use lib.Dec.{eqb}
use lib.ListN.{length, get_or}
use Rattle.lists.specs.Lists.{all, member}
use Rattle.lists.proofs.Tests.{both, below, below_at, zero_unless}
use Rattle.digits.specs.Digits.{is_digit, value, number}
use Rattle.digits.specs.Short.{digit, plain_number}
use Rattle.digits.proofs.Numbers.{digit_is}
use Rattle.records.specs.Table.{Kind, A, W, Q, among}
use Rattle.records.specs.Items.{is_decimal, spelled_as, fault}
use Rattle.items.specs.declared.kinds.Values.{Values}
use Rattle.items.specs.Kinds.{authors, values_of}
use Rattle.items.specs.Ends.{DigitIs, DigitAt, DigitFits}
use Rattle.items.proofs.SetLaws.{small, one_of_member, values_small}

-- ---- a digit at a position: what `digit` answers there

module _ (s : List ℕ) (a : ℕ) where
  pub digit_none : DigitAt s a None
  digit_none = record { holds = λ d q. cc }

  pub digit_there : {o : Option ℕ} → a + 1 < length s → o ≡ digit (get_or s a 0) → DigitAt s a o
  digit_there {o} h e = record { holds = λ d q. go d (is_digit (get_or s a 0)) refl (sym e ∙ q) }
    where
      go : (d : ℕ) (x : Bool) → is_digit (get_or s a 0) ≡ x → cond x (Some (get_or s a 0 - 48)) None ≡ Some d → DigitIs s a d
      go d true p q =
          let v : get_or s a 0 - 48 ≡ d = cc in
          let w = digit_is (get_or s a 0) p in
          record { inside = omega arith; is = omega arith; small = omega arith }
      go d false p q = cc

pub ruleset digit_laws = (digit_none, digit_there)

-- ---- what a digit is read to: one computed test over the ten

read : ℕ → Bool
read d = eqb (unwrap_or (plain_number ((48 + d) ∷ [])) 0) d && (is_decimal 3 3 ((48 + d) ∷ []) && is_decimal 6 5 ((48 + d) ∷ []))

all_read : below read 10 ≡ true
unfolding below read plain_number number value is_decimal
all_read = refl

record Read (d : ℕ) : Type 0 where
  plain : unwrap_or (plain_number ((48 + d) ∷ [])) 0 ≡ d
  weight : is_decimal 3 3 ((48 + d) ∷ []) ≡ true
  quantity : is_decimal 6 5 ((48 + d) ∷ []) ≡ true

read_at : (d : ℕ) → d ≤ 9 → Read d
unfolding read
read_at d h =
    let w = both _ _ (below_at read 10 all_read d (omega arith)) in
    let v = both _ _ w.1 in
    record { plain = eqb-true _ _ w.0; weight = v.0; quantity = v.1 }

spelled_digit : (ns : List ℕ) (d : ℕ) → all small ns ≡ true → d ≤ 9 → spelled_as ns ((48 + d) ∷ []) ≡ member ns d
spelled_digit ns d h k = one_of_member ns ((48 + d) ∷ []) h ∙ ap (member ns) (read_at d k).plain

pub fits_no : {d : ℕ} (k : Kind) → DigitFits k d false
fits_no k = record { holds = λ t. absurd (false≢true t) }

module _ (d : ℕ) where
  pub fits_author : {x : Bool} → x ≡ member authors d → DigitFits A d x
  unfolding fault
  fits_author {x} p = record { holds = λ t h. zero_unless (spelled_as authors ((48 + d) ∷ [])) 11 (spelled_digit authors d refl h ∙ sym p ∙ t) }

  pub fits_among : (v : Values) {x : Bool} → x ≡ member (values_of v) d → DigitFits (among (values_of v)) d x
  unfolding fault
  fits_among v {x} p = record { holds = λ t h. zero_unless (spelled_as (values_of v) ((48 + d) ∷ [])) 11 (spelled_digit (values_of v) d (values_small v) h ∙ sym p ∙ t) }

  pub fits_weight : DigitFits W d true
  unfolding fault
  fits_weight = record { holds = λ t h. zero_unless (is_decimal 3 3 ((48 + d) ∷ [])) 11 (read_at d h).weight }

  pub fits_dose : DigitFits Q d true
  unfolding fault
  fits_dose = record { holds = λ t h. zero_unless (is_decimal 6 5 ((48 + d) ∷ [])) 11 (read_at d h).quantity }

pub ruleset fits_laws = (fits_no, fits_author, fits_among, fits_weight, fits_dose)
