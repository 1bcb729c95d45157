use Rattle.used.proofs.EightLaws.{first_decides}
use Rattle.used.proofs.stands_at.Goals as goal

pub returns-then-same_eight : goal.returns-then-same_eight
returns-then-same_eight c = first_decides c.requires c.same_eight.ensures c.if-same_eight.true c.same_eight-then-same_eight.ensures
