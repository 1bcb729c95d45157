use Rattle.std.proofs.Common.{rules}
use Rattle.canonical.proofs.RunLaws.{respell_laws}
use Rattle.canonical.proofs.Run.respell.Goals as goal

pub returns-then-not-respelled : goal.returns-then-not-respelled
returns-then-not-respelled c = search (rules, respell_laws)
