use Prim.Native.Nat.{◌-◌}
use Rattle.join.proofs.BodyLaws.{Before}
use lib.ListN.{length}
use Rattle.join.proofs.body.read_lines.Given as goal

abbrev pub invariant-loop-at : goal.invariant-loop-at
invariant-loop-at l = Before l.s l.from l.at

abbrev pub decreases-loop-at : goal.decreases-loop-at
decreases-loop-at l = length l.s - l.at
