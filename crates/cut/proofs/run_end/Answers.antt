use Rattle.std.proofs.Common.{rules}
use Rattle.cut.proofs.RowLaws.{run_laws}
use Rattle.cut.proofs.run_end.Goals as goal

pub returns-in-Some : goal.returns-in-Some
returns-in-Some c = search (rules, run_laws)

pub returns-in-None : goal.returns-in-None
returns-in-None c = search (rules, run_laws)
