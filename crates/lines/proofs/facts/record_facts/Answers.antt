use Rattle.std.proofs.Common.{rules}
use Rattle.lines.proofs.DetailLaws.{facts_laws}
use Rattle.lines.proofs.facts.record_facts.Goals as goal

pub returns-in-5 : goal.returns-in-5
returns-in-5 c = search (rules, facts_laws)

pub returns-in-11 : goal.returns-in-11
returns-in-11 c = search (rules, facts_laws)

pub returns-in-281 : goal.returns-in-281
returns-in-281 c = search (rules, facts_laws)

pub returns-in_default : goal.returns-in_default
returns-in_default c = search (rules, facts_laws)
