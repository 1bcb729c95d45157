use Rattle.std.proofs.Common.{rules}
use Rattle.std.proofs.lemmas.Result.{err_from_is_err_and}
use Rattle.lines.proofs.FindLaws.{slow_laws}
use Rattle.lines.proofs.slow_line.Goals as goal

pub returns-then-not-good : goal.returns-then-not-good
returns-then-not-good c = search (rules, slow_laws)

pub returns-in_err-number-in-Ok-Some : goal.returns-in_err-number-in-Ok-Some
returns-in_err-number-in-Ok-Some c =
    let p = err_from_is_err_and c.from_residual.result c.from_residual.ensures.1 in rw (p.1, p.2) (search (rules, slow_laws, c.in_err-number-in-Ok-Some.ensures))
