use Rattle.std.proofs.Common.{rules}
use Rattle.std.proofs.lemmas.Result.{err_from_is_err_and}
use Rattle.join.proofs.BodyLaws.{lines_laws}
use Rattle.join.proofs.body.read_lines.Goals as goal

pub loop-at-init : goal.loop-at-init
loop-at-init c = search (rules, lines_laws)

pub overflow_sub-row : goal.overflow_sub-row
overflow_sub-row c = search (rules, lines_laws)

pub last_mark-requires : goal.last_mark-requires
last_mark-requires c = search (rules, lines_laws)

pub returns-in_err-mark : goal.returns-in_err-mark
returns-in_err-mark c = let p = err_from_is_err_and c.from_residual.result c.from_residual.ensures.1 in rw (p.1, p.2) (search (rules, lines_laws, c.in_err-mark.ensures))

pub returns-then-is_mark : goal.returns-then-is_mark
returns-then-is_mark c = search (rules, lines_laws, c.in_ok-mark.ensures)

pub loop-at-preserved : goal.loop-at-preserved
loop-at-preserved c = search (rules, lines_laws)

pub returns-in_default : goal.returns-in_default
returns-in_default c = search (rules, lines_laws, c.in_default.not-Body)
