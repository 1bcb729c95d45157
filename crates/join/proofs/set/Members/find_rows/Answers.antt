use Rattle.std.proofs.Common.{rules}
use Rattle.join.proofs.SetLaws.{spot_laws}
use Rattle.join.proofs.set.Members.find_rows.Goals as goal

pub returns : goal.returns
returns g c = rw c.then_some.ensures (search (rules, spot_laws))
