use Rattle.std.proofs.Common.{◌-◌, length}
use Rattle.scanning.proofs.RunLaws.{Telling}
use Rattle.scanning.proofs.runs.scripts_of.Given as goal

abbrev pub invariant-loop-seen : goal.invariant-loop-seen
invariant-loop-seen l = Telling l.s l.i l.seen

abbrev pub decreases-loop-seen : goal.decreases-loop-seen
decreases-loop-seen l = length l.s - l.i
