use Rattle.std.proofs.Common.{rules}
use Rattle.answers.proofs.Lines.{line_wrote}
use Rattle.answers.proofs.put_line.Goals as goal

pub returns : goal.returns
returns c = search (rules, line_wrote)
