use Rattle.std.proofs.Common.{rules}
use Rattle.join.proofs.InputLaws.{into_laws}
use Rattle.join.proofs.file.join_into.Goals as goal

pub returns-in-Err-Large : goal.returns-in-Err-Large
returns-in-Err-Large c = search (rules, into_laws, c.in-Err-Large.ensures)

pub returns-in-Some : goal.returns-in-Some
returns-in-Some c = search (rules, into_laws, c.in-Err.ensures, c.in-Some.ensures)

pub returns-in-None : goal.returns-in-None
returns-in-None c = search (rules, into_laws, c.in-Err.ensures, c.in-None.ensures)
