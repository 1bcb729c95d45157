use Rattle.std.proofs.Common.{rules}
use Rattle.canonical.proofs.ItemLaws.{item_laws}
use Rattle.canonical.proofs.put_item.Goals as goal

pub put_postal-requires : goal.put_postal-requires
put_postal-requires c = search (rules, item_laws)

pub put_value-requires : goal.put_value-requires
put_value-requires c = search (rules, item_laws)

pub put_date-requires : goal.put_date-requires
put_date-requires c = search (rules, item_laws)

pub put_all-requires : goal.put_all-requires
put_all-requires c = search (rules, item_laws)

pub returns-in-PostalCode : goal.returns-in-PostalCode
returns-in-PostalCode c = search (rules, item_laws)

pub returns-in-Number : goal.returns-in-Number
returns-in-Number c = search (rules, item_laws)

pub returns-in-Date : goal.returns-in-Date
returns-in-Date c = search (rules, item_laws)

pub returns-in_default : goal.returns-in_default
returns-in_default c = search (rules, item_laws)
