use Rattle.items.proofs.SetLaws.{among_some}
use Rattle.items.proofs.among.Goals as goal

pub returns-in-Some : goal.returns-in-Some
returns-in-Some c = among_some c.args.s.now c.plain_number.ensures c.args.values c.in-Some.is c.contains.ensures
