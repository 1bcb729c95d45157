use Rattle.std.proofs.Common.{rules}
use Rattle.lines.proofs.PairLaws.{form_laws}
use Rattle.lines.proofs.pairs.form_pair.Goals as goal

pub returns-in-6 : goal.returns-in-6
returns-in-6 c = search (rules, form_laws)

pub returns-in_default-form : goal.returns-in_default-form
returns-in_default-form c = search (rules, form_laws)

pub returns-in_default-form-2 : goal.returns-in_default-form-2
returns-in_default-form-2 c = search (rules, form_laws)

pub returns-in_default-form-3 : goal.returns-in_default-form-3
returns-in_default-form-3 c = search (rules, form_laws)
