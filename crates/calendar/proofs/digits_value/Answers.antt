use Rattle.std.proofs.Common.{rules, arith}
use Rattle.calendar.proofs.Steps.{spelled_small, spelled_more}
use Rattle.calendar.proofs.digits_value.Goals as goal

pub overflow_mul-n : goal.overflow_mul-n
overflow_mul-n c = omega (arith, spelled_small c.loop-b.invariant (omega arith))

pub loop-b-preserved : goal.loop-b-preserved
loop-b-preserved c = spelled_more c.loop-b.invariant (omega arith) c.digit.ensures (search rules)
