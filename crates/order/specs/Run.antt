-- A second statement, proved equal.
-- The records of a whole file in turn: "the first faulty line; within it the lowest number", or the last state.
use Rattle.std.specs.Prelude.{ℕ, ◌+◌, List, [], ◌∷◌}
use Rattle.order.specs.declared.State.{State}
use Rattle.order.specs.declared.Facts.{Facts}
use Rattle.order.specs.State.{Step}
use Rattle.order.specs.State.{Fault, On}
use Rattle.order.specs.State.{step_of, finish_of, advance}

-- a refusal's number and line, or the last state
pub data Ran : Type 0 where
  refused_at : ℕ → ℕ → Ran
  ran_to : State → Ran

-- "Number 14 at the end has the line count plus 1."
unfoldable pub at_end : State → ℕ → Ran
at_end s ℕ.zero = ran_to s
at_end s (ℕ.suc n) = refused_at (ℕ.suc n) (s.line + 1)

-- a refused record stands at the line after the last good one
unfoldable pub stepped : ℕ → (State → Ran) → Step → Ran
stepped line rest (Fault n) = refused_at n (line + 1)
stepped line rest (On t rp doctor) = rest t

unfoldable pub run_of : State → List Facts → Ran
run_of s [] = at_end s (finish_of s)
run_of s (r ∷ rs) = stepped s.line (λ t. run_of t rs) (step_of s r)

-- the state after the records, whatever they are
unfoldable pub after : State → List Facts → State
after s [] = s
after s (r ∷ rs) = after (advance s r) rs
