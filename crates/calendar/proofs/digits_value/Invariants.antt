use Rattle.calendar.proofs.Steps.{Spelled}
use Rattle.calendar.proofs.digits_value.Given as goal

abbrev pub invariant-loop-b : goal.invariant-loop-b
invariant-loop-b l = Spelled l.s l.b-index l.n
