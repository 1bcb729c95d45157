use Prim.Native.Nat.{◌-◌}
use Rattle.cut.proofs.CountLaws.{Trying, Packing}
use lib.ListN.{length}
use Rattle.cut.proofs.first_width.Given as goal

abbrev pub invariant-loop-k : goal.invariant-loop-k
invariant-loop-k l = Packing l.s l.c l.initial.w l.w l.t l.k l.u l.i

abbrev pub decreases-loop-k : goal.decreases-loop-k
decreases-loop-k l = length l.s - l.i

abbrev pub invariant-widths : goal.invariant-widths
invariant-widths l = Trying l.s l.c l.w

abbrev pub decreases-widths : goal.decreases-widths
decreases-widths l = 4 - l.w
