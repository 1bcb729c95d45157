use Rattle.pieces.proofs.ScanLaws.{skip_go}
use Rattle.pieces.proofs.skip_plain.Goals as goal

pub loop-eight-preserved : goal.loop-eight-preserved
loop-eight-preserved c = skip_go c.loop-eight.invariant c.in-Some.ensures.cases c.all_plain.ensures c.if-not-all_plain.false
