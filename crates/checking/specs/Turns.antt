-- Vocabulary of the code.
-- One turn of a walk over records: what the record at a position does to a state, as the code answers it.
use Rattle.std.specs.Prelude.{ℕ, ◌+◌, ◌≡◌, Bool, List, Option, Some, None, Result, Ok, Err}
use Rattle.lists.specs.Searching.{part}
use Rattle.scanning.specs.Scans.{LineOf}
use Rattle.replies.specs.declared.refusal.Refused.{Refused}
use Rattle.replies.specs.Refusals.{number_of}
use Rattle.order.specs.declared.State.{State}
use Rattle.order.specs.State.{Step, Fault, On}
use Rattle.checking.specs.declared.Turn.{Turn}
use Rattle.notebook.specs.Notebook.{step_line}
use Rattle.lines.specs.Found.{OverAt}

-- a line from a position to e, with n commas, moves the state to m
pub record StepAt (st : State) (s : List ℕ) (at : ℕ) (stops : List ℕ) (e n : ℕ) (m : Step) : Type 0 where
  pub good : Bool
  pub line : LineOf s at stops (Ok (Some (record { end = e; good = good; commas = n })))
  pub step : m ≡ step_line st (part s at e)

-- the rule of line ends is broken; or the line is refused
pub data RefusedAt (st : State) (s : List ℕ) (at : ℕ) (stops : List ℕ) (n : ℕ) : Type 0 where
  broken : LineOf s at stops (Err (record {})) → n ≡ 2 → RefusedAt st s at stops n
  faulty : (e k : ℕ) → StepAt st s at stops e k (Fault n) → RefusedAt st s at stops n

abbrev pub TurnMeans : State → List ℕ → ℕ → List ℕ → Result (Option Turn) Refused → Type 0
TurnMeans st s at stops (Ok (Some t)) = StepAt st s at stops t.end t.commas (On t.moved.state t.moved.rp t.moved.doctor)
TurnMeans st s at stops (Ok None) = OverAt s at stops
TurnMeans st s at stops (Err r) = RefusedAt st s at stops (number_of r.refusal) × (r.line ≡ st.line + 1)

pub record TurnOf (st : State) (s : List ℕ) (at : ℕ) (stops : List ℕ) (r : Result (Option Turn) Refused) : Type 0 where
  pub means : TurnMeans st s at stops r
