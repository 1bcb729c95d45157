use Rattle.std.proofs.Common.{rules}
use Rattle.std.proofs.lemmas.Result.{err_from_is_err_and}
use Rattle.lines.proofs.WalkLaws.{walk_laws}
use Rattle.lines.proofs.items_fault.Goals as goal

pub loop-j-init : goal.loop-j-init
loop-j-init c = search (rules, walk_laws)

pub returns-in_err-item_fault : goal.returns-in_err-item_fault
returns-in_err-item_fault c = let p = err_from_is_err_and c.from_residual.result c.from_residual.ensures.1 in rw (p.1, p.2) (search (rules, walk_laws))

pub loop-j-preserved : goal.loop-j-preserved
loop-j-preserved c = search (rules, walk_laws)

pub returns : goal.returns
returns c = search (rules, walk_laws)
