-- What a line that was taken says: its record had no fault, and moved the state. Assumes nothing.
use Prim.Native.Nat.{ℕ}
use native.Mathlib.Omega.{arith}
use mathlib.Core.Path.{◌≡◌, refl, ap}
use mathlib.Core.Bool.{Bool, true, false, cond}
use mathlib.Core.List.{List}
use lib.Dec.{eqb}
use borrow.Author.Tests.{eqb-true}
use Rattle.records.specs.Records.{line_fault, record_of}
use Rattle.order.specs.declared.State.{State}
use Rattle.order.specs.State.{Fault, On}
use Rattle.order.specs.State.{advance, step_of}
use Rattle.order.proofs.Laws.{taken}
use Rattle.notebook.specs.Facts.{facts_of}
use Rattle.notebook.specs.Notebook.{step_line}

-- what a line that was taken says
pub record Placed (st : State) (l : List ℕ) (after : State) (rp doctor : ℕ) : Type 0 where
  pub sound : line_fault st.provider l ≡ 0
  pub step : step_of st (facts_of (record_of l)) ≡ On after rp doctor
  pub state : after ≡ advance st (facts_of (record_of l))

pub placed : (st : State) (l : List ℕ) (after : State) (rp doctor : ℕ) → step_line st l ≡ On after rp doctor → Placed st l after rp doctor
unfolding step_line
placed st l after rp doctor e = go (eqb (line_fault st.provider l) 0) refl e
  where
    go : (x : Bool) → eqb (line_fault st.provider l) 0 ≡ x → cond x (step_of st (facts_of (record_of l))) (Fault (line_fault st.provider l)) ≡ On after rp doctor
        → Placed st l after rp doctor
    go true q e = record { sound = eqb-true _ _ q; step = e; state = (taken st (facts_of (record_of l)) after rp doctor e).state }
    go false q e = let z : ◌≡◌ {A = ℕ} 0 1 = cc in absurd (omega arith)

pub place_number : {st : State} {l : List ℕ} {after : State} {rp doctor : ℕ} → Placed st l after rp doctor → after.place ≡ (record_of l).number
unfolding advance facts_of
place_number p = ap (λ (t : State). t.place) p.state
