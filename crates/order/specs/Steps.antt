-- Vocabulary of the code.
-- A step as the code answers it.
use Rattle.std.specs.Prelude.{Result, Ok, Err}
use Rattle.replies.specs.declared.refusal.Refusal.{Refusal}
use Rattle.replies.specs.Refusals.{number_of}
use Rattle.order.specs.declared.Moved.{Moved}
use Rattle.order.specs.State.{Step, Fault, On}

abbrev pub step_in : Result Moved Refusal → Step
step_in (Ok m) = On m.state m.rp m.doctor
step_in (Err r) = Fault (number_of r)
