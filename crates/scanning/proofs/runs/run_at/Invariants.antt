use Rattle.std.proofs.Common.{◌-◌}
use Rattle.scanning.proofs.RunLaws.{Running}
use Rattle.scanning.proofs.runs.run_at.Given as goal

abbrev pub invariant-loop-i : goal.invariant-loop-i
invariant-loop-i l = Running l.s l.from l.last l.i l.seen

abbrev pub decreases-loop-i : goal.decreases-loop-i
decreases-loop-i l = l.last - l.i
