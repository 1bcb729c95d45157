use Rattle.std.proofs.Common.{rules}
use Rattle.used.proofs.EightLaws.{eight_laws}
use Rattle.used.proofs.same_eight.Goals as goal

pub loop-k-preserved : goal.loop-k-preserved
loop-k-preserved c = search (rules, eight_laws)
