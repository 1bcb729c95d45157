use Rattle.std.proofs.Common.{rules}
use Rattle.lines.proofs.DetailLaws.{drug_laws}
use Rattle.lines.proofs.facts.drug_facts.Goals as goal

pub returns-then-not-code_pair : goal.returns-then-not-code_pair
returns-then-not-code_pair c = search (rules, drug_laws)

pub returns : goal.returns
returns c = search (rules, drug_laws)
