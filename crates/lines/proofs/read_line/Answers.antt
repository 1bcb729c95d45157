use Rattle.std.proofs.lemmas.Result.{err_from_is_err_and}
use Rattle.lines.proofs.FindLaws.{read_record, read_pairs}
use Rattle.lines.proofs.read_line.Goals as goal

pub returns-in_err-facts : goal.returns-in_err-facts
returns-in_err-facts c =
    let p = err_from_is_err_and c.from_residual-in_err-facts.result c.from_residual-in_err-facts.ensures.1 in
    rw (p.1, p.2) (read_pairs c.in_ok-number.ensures c.in-Some.is c.record_facts.ensures c.in_err-facts.was)

pub returns : goal.returns
returns c = read_record c.in_ok-number.ensures c.in-Some.is c.record_facts.ensures c.in_ok-facts.was
