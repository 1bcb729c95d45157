use Rattle.std.proofs.Common.{arith, ◌∙◌}
use Rattle.answers.proofs.Lines.{decimal_wrote}
use Rattle.answers.proofs.put_decimal.Goals as goal

pub returns-clause-wrote : goal.returns-clause-wrote
returns-clause-wrote c = decimal_wrote c.args.n c.put_all.ensures (c.as_bytes.ensures.value ∙ c.format.ensures.text) (omega arith)
