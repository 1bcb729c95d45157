use Rattle.std.proofs.Common.{◌-◌, length}
use Rattle.cut.proofs.PourLaws.{Pouring}
use Rattle.cut.proofs.Cutting.pour_pieces.Given as goal

abbrev pub invariant-loop-o : goal.invariant-loop-o
invariant-loop-o l = Pouring l.initial.out l.out l.self.file.now l.self.capacity l.self.plan.width l.self.plan.count l.self.id.now l.o l.k l.i

abbrev pub decreases-loop-o : goal.decreases-loop-o
decreases-loop-o l = length l.self.file.now - l.i
