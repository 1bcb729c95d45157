use Rattle.std.proofs.Common.{rules}
use Rattle.canonical.proofs.ItemLaws.{postal_laws}
use Rattle.canonical.proofs.put_postal.Goals as goal

pub put_all-next-requires : goal.put_all-next-requires
put_all-next-requires c = search (rules, postal_laws)

pub put_all-requires : goal.put_all-requires
put_all-requires c = search (rules, postal_laws)

pub returns-then-s-eq8 : goal.returns-then-s-eq8
returns-then-s-eq8 c = search (rules, postal_laws)

pub put_all-requires-2 : goal.put_all-requires-2
put_all-requires-2 c = search (rules, postal_laws)

pub returns : goal.returns
returns c = search (rules, postal_laws)
