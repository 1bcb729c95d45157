use Rattle.std.proofs.Common.{◌-◌, ◌≤◌, length}
use Rattle.id_file.proofs.run_of.Given as goal

abbrev pub invariant-loop-from : goal.invariant-loop-from
invariant-loop-from l = (l.to ≤ l.from) × (l.from ≤ length l.text)

abbrev pub decreases-loop-from : goal.decreases-loop-from
decreases-loop-from l = length l.text - l.from
