use Rattle.buffers.proofs.Runs.{Copying}
use Rattle.buffers.proofs.put_all.Given as goal

abbrev pub invariant-loop-i : goal.invariant-loop-i
invariant-loop-i g l = Copying l.initial.out l.at l.w l.out l.i
