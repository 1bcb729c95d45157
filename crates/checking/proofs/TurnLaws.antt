-- One turn of a walk over records: the ways through `read_record`, and what a turn says to a loop. Assumes nothing.
use Prim.Native.Nat.{ℕ, ◌+◌, ◌-◌, ◌≤◌, ◌<◌}
use mathlib.Core.Path.{◌≡◌, refl, sym, subst}
use mathlib.Core.Bool.{true}
use mathlib.Core.List.{List}
use borrow.Author.Tests.{ne_eqb}
use mir.Val.{Fits}
use mir.Syntax.{w64}
use lib.ListN.{length}
use Rattle.lists.specs.Searching.{part}
use Rattle.characters.specs.Scanning.{comma_count}
use Rattle.scanning.specs.Scans.{Stops}
use Rattle.records.specs.Records.{line_fault}
use Rattle.order.specs.declared.State.{State}
use Rattle.std.specs.Prelude.{Option, Some, None, Ok, Err}
use Rattle.replies.specs.declared.refusal.Refusal.{Refusal}
use Rattle.replies.specs.declared.refusal.Refused.{Refused}
use Rattle.replies.specs.Refusals.{number_of}
use Rattle.order.specs.declared.Moved.{Moved}
use Rattle.order.specs.State.{Step, Fault, On, step_of}
use Rattle.notebook.specs.Notebook.{step_line}
use Rattle.lines.specs.declared.Line.{Line}
use Rattle.lines.specs.Found.{FaultAt, broken as broken_line_lem, faulty as faulty_line, ReadOf}
use Rattle.checking.specs.declared.Turn.{Turn}
use Rattle.checking.specs.Turns.{StepAt, RefusedAt, broken, faulty, TurnOf}
use Rattle.checking.proofs.LineFacts.{whole_low, whole_high, whole_fits, whole_less, whole_commas, whole_places}

-- ---- the ways through read_record

-- a line's own fault comes before the order's
step_faulty : (st : State) (l : List ℕ) {n : ℕ} → n ≡ line_fault st.provider l → (n ≡ 0 → ⊥) → Fault n ≡ step_line st l
unfolding step_line
step_faulty st l {n} p z = rw (sym p, ne_eqb n 0 z)

module _ (st : State) {s : List ℕ} {at : ℕ} {stops : List ℕ} where
  pub turn_ends : {o : Option Line} → ReadOf st.provider s at stops (Ok o) → o ≡ None → TurnOf st s at stops (Ok None)
  turn_ends w q = record { means = (subst (λ (x : Option Line). ReadOf st.provider s at stops (Ok x)) q w).means }

  pub turn_fault : {x : Refusal} {r : Refused} → ReadOf st.provider s at stops (Err x) → r ≡ record { refusal = x; line = st.line + 1 } → TurnOf st s at stops (Err r)
  turn_fault {x} w q = rw q (record { means = (go w.means, refl) })
    where
      go : FaultAt st.provider s at stops (number_of x) → RefusedAt st s at stops (number_of x)
      go (broken_line_lem l e) = broken l e
      go (faulty_line e good m l p z) = faulty e m (record { good = good; line = l; step = step_faulty st (part s at e) p z })

  module _ {o : Option Line} (w₀ : ReadOf st.provider s at stops (Ok o)) {l : Line} (q : o ≡ Some l) where
    w : ReadOf st.provider s at stops (Ok (Some l))
    w = subst (λ (x : Option Line). ReadOf st.provider s at stops (Ok x)) q w₀

    placed_at : {j : Step} → j ≡ step_of st l.facts → StepAt st s at stops l.end l.commas j
    unfolding step_line
    placed_at u = record { good = true; line = w.means.line; step = rw (w.means.fine, ← w.means.facts) u }

    pub turn_faulty : {x : Refusal} {r : Refused} → Fault (number_of x) ≡ step_of st l.facts → r ≡ record { refusal = x; line = st.line + 1 } → TurnOf st s at stops (Err r)
    turn_faulty u e = rw e (record { means = (faulty l.end l.commas (placed_at u), refl) })

    pub turn_on : {m : Moved} → On m.state m.rp m.doctor ≡ step_of st l.facts → TurnOf st s at stops (Ok (Some (record { moved = m; end = l.end; commas = l.commas })))
    turn_on u = record { means = placed_at u }

pub ruleset read_record_laws = (turn_ends, turn_fault, turn_faulty, turn_on)

-- ---- what a turn says to a loop

pub turn_some : {st : State} {s : List ℕ} {at : ℕ} {stops : List ℕ} {o : Option Turn} {t : Turn} → TurnOf st s at stops (Ok o) → o ≡ Some t → TurnOf st s at stops (Ok (Some t))
turn_some {st} {s} {at} {stops} w q = subst (λ (x : Option Turn). TurnOf st s at stops (Ok x)) q w

pub turn_none : {st : State} {s : List ℕ} {at : ℕ} {stops : List ℕ} {o : Option Turn} → TurnOf st s at stops (Ok o) → o ≡ None → TurnOf st s at stops (Ok None)
turn_none {st} {s} {at} {stops} w q = subst (λ (x : Option Turn). TurnOf st s at stops (Ok x)) q w

module _ {st : State} {s : List ℕ} {at : ℕ} {stops : List ℕ} {t : Turn} (w : TurnOf st s at stops (Ok (Some t))) where
  pub turn_low : at ≤ t.end
  turn_low = whole_low w.means.line

  pub turn_high : t.end ≤ length s
  turn_high = whole_high w.means.line

  pub turn_fits : length s ≤ 65536 → Fits w64 (t.end + 2)
  turn_fits h = whole_fits w.means.line h

  pub turn_less : length s - (t.end + 2) < length s - at
  turn_less = whole_less w.means.line

  pub turn_commas : t.commas ≡ comma_count (part s at t.end)
  turn_commas = whole_commas w.means.line

  pub turn_places : Stops (part s at t.end) stops
  turn_places = whole_places w.means.line

pub ruleset turn_facts = (turn_low, turn_high, turn_fits, turn_less, turn_commas, turn_places)
