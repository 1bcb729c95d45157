use Rattle.std.proofs.Common.{rules}
use Rattle.std.proofs.lemmas.Result.{err_from_is_err_and}
use Rattle.join.proofs.CallLaws.{join_laws}
use Rattle.join.proofs.join_by.Goals as goal

pub returns-in_err-end : goal.returns-in_err-end
returns-in_err-end c =
    let p = err_from_is_err_and c.from_residual.result c.from_residual.ensures.1 in
    rw (p.1, p.2) (search (rules, join_laws, c.in_err-end.ensures))

pub returns-in_err-check : goal.returns-in_err-check
returns-in_err-check c =
    let p = err_from_is_err_and c.from_residual-in_err-check.result c.from_residual-in_err-check.ensures.1 in
    rw (p.1, p.2) (search (rules, join_laws, c.in_ok-end.ensures, c.in_err-check.ensures))

pub returns-then-out-end : goal.returns-then-out-end
returns-then-out-end c = search (rules, join_laws, c.in_ok-end.ensures, c.in_ok-check.ensures)

pub returns : goal.returns
returns c = search (rules, join_laws, c.in_ok-end.ensures, c.in_ok-check.ensures)
