use Prim.Native.Nat.{◌-◌}
use lib.ListN.{length}
use Rattle.join.proofs.SetLaws.{Collecting}
use Rattle.join.proofs.set.Members.collect.Given as goal

abbrev pub invariant-loop-opening : goal.invariant-loop-opening
invariant-loop-opening g l = Collecting l.s l.first l.self l.at

abbrev pub decreases-loop-opening : goal.decreases-loop-opening
decreases-loop-opening g l = length l.s - l.at
