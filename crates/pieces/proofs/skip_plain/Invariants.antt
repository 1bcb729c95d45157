use Rattle.std.proofs.Common.{◌-◌, length}
use Rattle.pieces.specs.Answers.{Skipped}
use Rattle.pieces.proofs.skip_plain.Given as goal

abbrev pub invariant-loop-eight : goal.invariant-loop-eight
invariant-loop-eight l = Skipped l.s l.at l.i

abbrev pub decreases-loop-eight : goal.decreases-loop-eight
decreases-loop-eight l = length l.s - l.i
