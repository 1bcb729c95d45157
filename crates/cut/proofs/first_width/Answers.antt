use Rattle.std.proofs.Common.{rules, arith}
use Rattle.cut.proofs.CountLaws.{count_laws, pack_first}
use Rattle.cut.proofs.first_width.Goals as goal

pub loop-k-init : goal.loop-k-init
loop-k-init c = pack_first c.args.s.now c.args.c c.widths.w c.overhead-u.result c.widths.invariant (omega arith) c.overhead-u.ensures

pub loop-k-preserved : goal.loop-k-preserved
loop-k-preserved c = search (rules, count_laws)
