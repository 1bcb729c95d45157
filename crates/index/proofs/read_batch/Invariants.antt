use Rattle.std.proofs.Common.{◌-◌, length}
use Rattle.checking.proofs.CheckLaws.{Reading}
use Rattle.index.proofs.FillLaws.{Filling}
use Rattle.index.proofs.read_batch.Given as goal

abbrev pub invariant-loop-next : goal.invariant-loop-next
invariant-loop-next l = Reading l.initial.reader.st l.s l.initial.reader.at l.reader.st l.reader.at × Filling l.initial.reader l.s l.reader l.entries l.next

abbrev pub decreases-loop-next : goal.decreases-loop-next
decreases-loop-next l = length l.s - l.reader.at
