use Rattle.std.proofs.Common.{rules}
use Rattle.join.proofs.JoinLaws.{found_laws}
use Rattle.join.proofs.file.join_found.Goals as goal

pub returns : goal.returns
returns g c = search (rules, found_laws)
