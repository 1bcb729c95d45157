use Rattle.std.proofs.Common.{rules}
use Rattle.std.proofs.lemmas.Result.{err_from_is_err_and}
use Rattle.lines.proofs.LineLaws.{number_laws}
use Rattle.table.proofs.TableLaws.{row_length}
use Rattle.lines.proofs.number_of.Goals as goal

pub returns-in_default : goal.returns-in_default
returns-in_default c = search (rules, number_laws)

pub returns-then-number-eq911 : goal.returns-then-number-eq911
returns-then-number-eq911 c = search (rules, number_laws)

pub returns-in_default-row_of : goal.returns-in_default-row_of
returns-in_default-row_of c = search (rules, number_laws)

pub returns-then-items-row : goal.returns-then-items-row
returns-then-items-row c = search (rules, number_laws)

pub returns : goal.returns
returns c = search (rules, number_laws)

pub items_fault-requires-clause-few : goal.items_fault-requires-clause-few
items_fault-requires-clause-few c = row_length c.in-Some-row_of.ensures

pub returns-in_err-items_fault : goal.returns-in_err-items_fault
returns-in_err-items_fault c = let p = err_from_is_err_and c.from_residual.result c.from_residual.ensures.1 in rw (p.1, p.2) (search (rules, number_laws))
