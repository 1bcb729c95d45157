use Rattle.std.proofs.Common.{rules}
use Rattle.lines.proofs.PairLaws.{quantity_some, quantity_none}
use Rattle.lines.proofs.pairs.is_one.Goals as goal

pub returns-in-Some : goal.returns-in-Some
returns-in-Some c = search (rules, quantity_some, quantity_none)

pub returns-in-None : goal.returns-in-None
returns-in-None c = search (rules, quantity_some, quantity_none)
