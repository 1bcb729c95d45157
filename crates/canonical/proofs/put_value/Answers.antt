use Rattle.std.proofs.Common.{rules}
use Rattle.canonical.proofs.ItemLaws.{number_laws}
use Rattle.canonical.proofs.put_value.Goals as goal

pub put_number-requires-clause-v_bound : goal.put_number-requires-clause-v_bound
put_number-requires-clause-v_bound c = search (rules, number_laws)

pub put_number-requires-clause-room : goal.put_number-requires-clause-room
put_number-requires-clause-room c = search (rules, number_laws)

pub returns-in-Some : goal.returns-in-Some
returns-in-Some c = search (rules, number_laws)

pub returns-in-None : goal.returns-in-None
returns-in-None c = search (rules, number_laws)
