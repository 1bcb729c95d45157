use Prim.Native.Nat.{◌-◌}
use Rattle.join.proofs.WalkLaws.{Walk}
use lib.ListN.{length}
use Rattle.join.proofs.rows.broken_line.Given as goal

abbrev pub invariant-loop-at : goal.invariant-loop-at
invariant-loop-at l = Walk l.s l.begun l.line l.at

abbrev pub decreases-loop-at : goal.decreases-loop-at
decreases-loop-at l = length l.s - l.at
