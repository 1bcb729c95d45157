use Rattle.std.proofs.Common.{rules}
use Rattle.canonical.proofs.PassLaws.{pass_laws}
use Rattle.canonical.proofs.Run.pass_item.Goals as goal

pub returns-then-stays : goal.returns-then-stays
returns-then-stays c = search (rules, pass_laws)

pub returns : goal.returns
returns c = search (rules, pass_laws)
