use Rattle.std.proofs.Common.{rules}
use Rattle.canonical.proofs.ItemLaws.{day_laws}
use Rattle.canonical.proofs.put_date.Goals as goal

pub put_all-requires : goal.put_all-requires
put_all-requires c = search (rules, day_laws)

pub returns-in-Some : goal.returns-in-Some
returns-in-Some c = search (rules, day_laws)

pub returns-in-None : goal.returns-in-None
returns-in-None c = search (rules, day_laws)
