use Rattle.std.proofs.Common.{rules}
use Rattle.std.proofs.lemmas.Result.{err_from_is_err_and}
use Rattle.join.proofs.SetLaws.{collect_laws}
use Rattle.join.proofs.set.Members.collect.Goals as goal

pub returns-in_err-member : goal.returns-in_err-member
returns-in_err-member g c =
    let p = err_from_is_err_and c.from_residual-in_err-member.result c.from_residual-in_err-member.ensures.1 in
    rw (p.1, p.2) (search (rules, collect_laws, c.in_ok-opening.ensures, c.in_err-member.ensures))

pub returns-then-first-self : goal.returns-then-first-self
returns-then-first-self g c = search (rules, collect_laws, c.in_ok-opening.ensures, c.in_ok-member.ensures)

pub returns-then-self-first : goal.returns-then-self-first
returns-then-self-first g c = search (rules, collect_laws, c.in_ok-opening.ensures)

pub returns : goal.returns
returns g c = search (rules, collect_laws, c.in_ok-opening.ensures)
