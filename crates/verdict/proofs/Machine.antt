-- The machine of `order` by what its rules look at: lines, counts and drugs left out, a group and a doctor by whether there is one. `accepts` is
-- the machine's acceptance; the small machine accepts the same (`machine_core`). Assumes nothing.
use Prim.Native.Nat.{ℕ, ◌+◌}
use native.Mathlib.Numerals.{add-one}
use mathlib.Core.Path.{◌≡◌, refl, ap, ◌∙◌}
use mathlib.Core.Bool.{Bool, true, false, not, cond, ◌&&◌}
use mathlib.Core.List.{List, [], ◌∷◌}
use lib.Dec.{eqb, ltb, eqb-suc-zero}
use Rattle.order.specs.declared.State.{State}
use Rattle.order.specs.declared.Facts.{Facts}
use Rattle.lists.specs.Lists.{member}
use Rattle.rules.specs.Questions.{Before, Asked}
use Rattle.rules.specs.Rules.{order_refusal, unfinished}
use Rattle.order.specs.State.{advance, had_after, refusal_of, finish_of}

-- a record that is taken, and an end that is good
abbrev pub sound : Before → Asked → Bool
sound b r = eqb (order_refusal b r) 0

-- the machine: no refusal at any record, none at the end
unfoldable pub accepts : State → List Facts → Bool
accepts s [] = eqb (finish_of s) 0
accepts s (r ∷ rs) = eqb (refusal_of s r) 0 && accepts (advance s r) rs

-- ---- the small machine

pub record Core : Type 0 where
  pub provider : Bool
  pub place : ℕ
  pub no_group : Bool
  pub day : ℕ
  pub had11 : Bool
  pub schedule : ℕ
  pub had51 : Bool
  pub had411 : Bool
  pub rp : ℕ
  pub had301 : Bool
  pub no_doctor : Bool

abbrev pub before : Core → Before
before c = record {
  provider = c.provider;
  place = c.place;
  no_group = c.no_group;
  had11 = c.had11;
  dispensing = eqb c.schedule 4;
  treating = member (1 ∷ 3 ∷ []) c.schedule;
  had51 = c.had51;
  had411 = c.had411;
  no_rp = eqb c.rp 0;
  had301 = c.had301;
  no_doctor = c.no_doctor;
}

abbrev pub asked : Core → Facts → Asked
asked c r = record {
  number = r.number;
  same = eqb r.rp c.rp;
  next = eqb r.rp (c.rp + 1);
  newer = ltb c.day r.day;
  named = r.named;
  material = member (9 ∷ 10 ∷ []) r.form;
}

-- the next state, in a form that computes at a record of known number
abbrev pub next : Core → Facts → Core
next c r = record {
  provider = c.provider;
  place = r.number;
  no_group = cond (eqb r.number 5) false c.no_group;
  day = cond (eqb r.number 5) r.day c.day;
  had11 = cond (eqb r.number 5) false (cond (eqb r.number 11) true c.had11);
  schedule = cond (eqb r.number 5) 0 (cond (eqb r.number 11) r.schedule c.schedule);
  had51 = cond (eqb r.number 5) false (cond (eqb r.number 51) true c.had51);
  had411 = cond (eqb r.number 5) false (cond (eqb r.number 411) true c.had411);
  rp = cond (eqb r.number 5) 0 (cond (eqb r.number 201) r.rp c.rp);
  had301 = cond (eqb r.number 5) false (cond (eqb r.number 201) false (cond (eqb r.number 301) true c.had301));
  no_doctor = cond (eqb r.number 5) true (cond (eqb r.number 55) false c.no_doctor);
}

abbrev pub taken : Core → Facts → Bool
taken c r = sound (before c) (asked c r)

unfoldable pub runs : Core → List Facts → Bool
runs c [] = not (unfinished (before c))
runs c (r ∷ rs) = taken c r && runs (next c r) rs

-- one record, by what its line asks
pub step : (c : Core) (r : Facts) (rs : List Facts) {x : Bool} → taken c r ≡ x → runs c (r ∷ rs) ≡ (x && runs (next c r) rs)
unfolding runs
step c r rs e = ap (λ y. y && runs (next c r) rs) e

pub finish : (c : Core) → runs c [] ≡ not (unfinished (before c))
unfolding runs
finish c = refl

-- ---- the two accept the same

abbrev pub core_of : State → Core
core_of s = record {
  provider = s.provider;
  place = s.place;
  no_group = eqb s.groups 0;
  day = s.day;
  had11 = s.had.had11;
  schedule = s.had.schedule;
  had51 = s.had.had51;
  had411 = s.had.had411;
  rp = s.had.rp;
  had301 = s.had.had301;
  no_doctor = eqb s.had.doctor 0;
}

suc_not : (n : ℕ) → eqb (n + 1) 0 ≡ false
suc_not n = rw add-one (eqb-suc-zero n)

group_of_lem : (a : Bool) (g : ℕ) → eqb (cond a (g + 1) g) 0 ≡ cond a false (eqb g 0)
group_of_lem true g = suc_not g
group_of_lem false g = refl

doctor_of_lem : (a b : Bool) (l d : ℕ) → eqb (cond a 0 (cond b (l + 1) d)) 0 ≡ cond a true (cond b false (eqb d 0))
doctor_of_lem true b l d = refl
doctor_of_lem false true l d = suc_not l
doctor_of_lem false false l d = refl

pub next_core : (s : State) (r : Facts) → core_of (advance s r) ≡ next (core_of s) r
unfolding advance had_after
next_core s r =
    let c : Core = next (core_of s) r in
    λ i. record {
      provider = c.provider;
      place = c.place;
      no_group = group_of_lem (eqb r.number 5) s.groups i;
      day = c.day;
      had11 = c.had11;
      schedule = c.schedule;
      had51 = c.had51;
      had411 = c.had411;
      rp = c.rp;
      had301 = c.had301;
      no_doctor = doctor_of_lem (eqb r.number 5) (eqb r.number 55) s.line s.had.doctor i;
    }

ends : (b : Bool) → eqb (cond b 14 0) 0 ≡ not b
ends true = refl
ends false = refl

pub machine_core : (rs : List Facts) (s : State) → accepts s rs ≡ runs (core_of s) rs
unfolding accepts runs refusal_of finish_of
machine_core [] s = ends (unfinished (before (core_of s)))
machine_core (r ∷ rs) s = ap (λ b. taken (core_of s) r && b) (machine_core rs (advance s r) ∙ ap (λ c. runs c rs) (next_core s r))
