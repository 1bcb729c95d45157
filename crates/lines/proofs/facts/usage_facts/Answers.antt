use Rattle.std.proofs.Common.{rules}
use Rattle.lines.proofs.DetailLaws.{usage_laws}
use Rattle.lines.proofs.facts.usage_facts.Goals as goal

pub returns-then-not-coded-form_pair : goal.returns-then-not-coded-form_pair
returns-then-not-coded-form_pair c = search (rules, usage_laws)

pub returns : goal.returns
returns c = search (rules, usage_laws)
