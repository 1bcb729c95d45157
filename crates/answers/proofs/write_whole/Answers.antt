use Rattle.std.proofs.Common.{rules}
use Rattle.answers.proofs.Known.{appends_more}
use Rattle.answers.proofs.write_whole.Goals as goal

pub loop-done-preserved : goal.loop-done-preserved
loop-done-preserved g c = (search rules, appends_more _ _ _ _ _ _ c.loop-done.invariant.1 c.in_ok-more.ensures.bytes)
