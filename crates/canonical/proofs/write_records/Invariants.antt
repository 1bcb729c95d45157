use Rattle.std.proofs.Common.{◌-◌, length}
use Rattle.order.specs.State.{start}
use Rattle.checking.proofs.CheckLaws.{Reading}
use Rattle.canonical.proofs.FileLaws.{Running}
use Rattle.canonical.proofs.write_records.Given as goal

abbrev pub invariant-loop-turn : goal.invariant-loop-turn
invariant-loop-turn l = Reading (start l.provider) l.s l.from l.st l.at × Running l.provider l.s l.from l.initial.out l.st l.at l.out l.run

abbrev pub decreases-loop-turn : goal.decreases-loop-turn
decreases-loop-turn l = length l.s - l.at
