use Rattle.std.proofs.Common.{rules}
use Rattle.std.proofs.lemmas.Result.{err_from_is_err_and}
use Rattle.join.proofs.JoinLaws.{set_laws}
use Rattle.join.proofs.file.join_listed.Goals as goal

pub returns-in_err-collect : goal.returns-in_err-collect
returns-in_err-collect g c =
    let p = err_from_is_err_and c.from_residual.result c.from_residual.ensures.1 in
    rw (p.1, p.2) (search (rules, set_laws, c.in_err-collect.ensures))

pub returns : goal.returns
returns g c = search (rules, set_laws, c.in_ok-collect.ensures)
