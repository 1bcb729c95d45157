use Rattle.std.proofs.Common.{rules}
use Rattle.cut.proofs.PourLaws.{pour_laws}
use Rattle.cut.proofs.Cutting.pour_pieces.Goals as goal

pub put_piece-o-requires : goal.put_piece-o-requires
put_piece-o-requires c = search (rules, pour_laws)

pub returns-then-self-e : goal.returns-then-self-e
returns-then-self-e c = search (rules, pour_laws)

pub overflow_add-k : goal.overflow_add-k
overflow_add-k c = search (rules, pour_laws)

pub loop-o-smaller : goal.loop-o-smaller
loop-o-smaller c = search (rules, pour_laws)

pub loop-o-preserved : goal.loop-o-preserved
loop-o-preserved c = search (rules, pour_laws)
