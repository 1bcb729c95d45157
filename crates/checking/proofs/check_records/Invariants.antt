use Rattle.std.proofs.Common.{◌-◌, length}
use Rattle.order.specs.State.{start}
use Rattle.checking.proofs.CheckLaws.{Reading}
use Rattle.checking.proofs.check_records.Given as goal

abbrev pub invariant-loop-turn : goal.invariant-loop-turn
invariant-loop-turn l = Reading (start l.provider) l.s l.from l.st l.at

abbrev pub decreases-loop-turn : goal.decreases-loop-turn
decreases-loop-turn l = length l.s - l.at
