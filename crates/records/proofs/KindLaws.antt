-- One law for each kind: what is written for an item is read as the same, is no longer, and is its bytes or digits and capitals.
-- A new kind whose bytes are kept is one line here. Assumes nothing.
use Prim.Native.Nat.{ℕ, ◌≤◌}
use mathlib.Core.Path.{◌≡◌, refl, sym, ap, ◌∙◌, subst}
use mathlib.Core.Bool.{true}
use mathlib.Core.Logic.{◌⊎◌, inl, inr}
use Rattle.std.specs.Prelude.{Option, Some, None}
use mathlib.Core.List.{List, [], ◌∷◌}
use native.Mathlib.Omega.{arith}
use borrow.Author.Tests.{leb-true, eqb-true}
use lib.Dec.{leb, eqb}
use lib.ListN.{length, get_or, take, drop, length-append, length-take, length-drop}
use Rattle.lists.specs.Lists.{all}
use Rattle.lists.proofs.Tests.{cond_case, both, or_first, or_second, unless_zero, zero_unless}
use Rattle.digits.specs.Digits.{is_digit, number, spell, digit_count}
use Rattle.digits.proofs.Numbers.{number_spell, length_spell, digits_spell, some_digit, number_length}
use Rattle.calendar.specs.declared.Day.{Day}
use Rattle.calendar.specs.Era.{read_day}
use Rattle.eras.specs.Era.{write_day}
use Rattle.calendar.proofs.Laws.{Plain, read_write, read_is_day, write_shortest, write_plain, write_length}
use Rattle.records.specs.Table.{Kind, N, U, X, K, A, F, C, P, R, W, Q, D, among}
use Rattle.records.specs.Items.{Value, raw, write_value, number_fault, number_value, day_fault, day_value, seven, unhyphened, postal, fault, value_of}

-- v is what the item s of kind k is read to
pub record Good (k : Kind) (s : List ℕ) (v : Value) : Type 0 where
  pub again : fault k (write_value v) ≡ 0
  pub same : value_of k (write_value v) ≡ v
  pub short : length (write_value v) ≤ length s
  pub some : 1 ≤ length s → 1 ≤ length (write_value v)
  pub spelled : (write_value v ≡ s) ⊎ Plain (write_value v)

-- ---- kinds whose items are kept

kept : (k : Kind) (s : List ℕ) → value_of k s ≡ raw s → fault k s ≡ 0 → Good k s (value_of k s)
kept k s e h =
    subst (Good k s) (sym e) (record { again = h; same = e; short = omega arith; some = λ g. g; spelled = inl refl })

-- ---- digits

digits_plain : (s : List ℕ) → all is_digit s ≡ true → Plain s
digits_plain [] e = tt
digits_plain (b ∷ s) e =
    let p : (is_digit b ≡ true) × (all is_digit s ≡ true) = both (is_digit b) (all is_digit s) e in
    let q : (leb 0x30 b ≡ true) × (leb b 0x39 ≡ true) = both (leb 0x30 b) (leb b 0x39) p.0 in
    (leb-true _ _ q.0, omega (arith, leb-true b 57 q.1), digits_plain s p.1)

-- ---- P

seven_is : (s : List ℕ) → seven s ≡ true → (length s ≡ 7) × Plain s
unfolding seven
seven_is s e =
    let p : (eqb (length s) 7 ≡ true) × (all is_digit s ≡ true) = both (eqb (length s) 7) (all is_digit s) e in
    (eqb-true (length s) 7 p.0, digits_plain s p.1)

seven_good : (s w : List ℕ) → seven w ≡ true → length w ≤ length s → Good P s (raw w)
unfolding fault value_of postal
seven_good s w e h =
    let q : (length w ≡ 7) × Plain w = seven_is w e in
    record { again = zero_unless (postal w) 11 (or_first (seven w) _ e); same = rw e; short = h; some = λ g. omega arith; spelled = inr q.1 }

unhyphened_short : (s : List ℕ) → length (unhyphened s) ≤ length s
unhyphened_short s = omega (arith, length-append (take 3 s) (drop 4 s), length-take 3 s, length-drop 4 s)

postal_good : (s : List ℕ) → postal s ≡ true → Good P s (value_of P s)
unfolding value_of postal
postal_good s h =
    cond_case (λ w. Good P s (raw w)) (seven s) s (unhyphened s)
    (λ e. seven_good s s e (omega arith))
    (λ e. seven_good s (unhyphened s) (both (eqb (get_or s 3 0) 0x2d) (seven (unhyphened s)) (or_second (seven s) _ e h)).1 (unhyphened_short s))

-- ---- R

number_good : (s : List ℕ) (o : Option ℕ) → number s ≡ o → number_fault o ≡ 0 → Good R s (number_value o)
unfolding fault value_of
number_good s None e h = absurd (omega arith)
number_good s (Some n) e h =
    let b : (digit_count n ≤ length s) × (n ≤ 999) = number_length s n e in
    let l : length (spell n) ≡ digit_count n = length_spell n b.1 in
    record {
      again = ap number_fault (number_spell n b.1) ∙ h;
      same = ap number_value (number_spell n b.1);
      short = omega arith;
      some = λ g. omega (arith, some_digit n);
      spelled = inr (digits_plain (spell n) (digits_spell n b.1));
    }

-- ---- D

day_good : (s : List ℕ) (o : Option Day) → read_day s ≡ o → day_fault o ≡ 0 → Good D s (day_value o)
unfolding fault value_of
day_good s None e h = absurd (omega arith)
day_good s (Some t) e h =
    let r : read_day (write_day t.ymd) ≡ Some t = read_write t.ymd (read_is_day s t.ymd e) in
    record {
      again = ap day_fault r;
      same = ap day_value r;
      short = write_shortest s t.ymd e;
      some = λ g. omega (arith, write_length t.ymd);
      spelled = inr (write_plain t.ymd (read_is_day s t.ymd e));
    }

-- ---- every kind

pub good : (k : Kind) (s : List ℕ) → fault k s ≡ 0 → Good k s (value_of k s)
unfolding fault value_of
good (N m) s h = kept (N m) s refl h
good (U m) s h = kept (U m) s refl h
good (X m) s h = kept (X m) s refl h
good (K m) s h = kept (K m) s refl h
good A s h = kept A s refl h
good F s h = kept F s refl h
good C s h = kept C s refl h
good P s h = postal_good s (unless_zero (postal s) 10 h)
good R s h = number_good s (number s) refl h
good W s h = kept W s refl h
good Q s h = kept Q s refl h
good D s h = day_good s (read_day s) refl h
good (among ns) s h = kept (among ns) s refl h
