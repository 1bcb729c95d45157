-- Vocabulary of the code.
-- What a step asks, so that its counts fit.
use Rattle.std.specs.Prelude.{◌≤◌, ◌<◌}
use Rattle.order.specs.declared.State.{State}

-- one more group, drug and line can be counted in 32 bits
pub record Room (s : State) : Type 0 where
  pub groups : s.groups ≤ s.line
  pub drugs : s.drugs ≤ s.line
  pub line : s.line < 4294967295
