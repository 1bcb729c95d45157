use Rattle.join.proofs.GatheringLaws.{Gathering}
use Rattle.join.proofs.gathering.gather.Given as goal

abbrev pub invariant-loop-k : goal.invariant-loop-k
invariant-loop-k g l = Gathering l.initial.out l.out l.at l.s l.members l.end l.k
