use Rattle.std.proofs.Common.{rules}
use Rattle.answers.proofs.Lines.{none_spaced, one_more}
use Rattle.answers.proofs.put_numbers.Goals as goal

pub loop-n-init : goal.loop-n-init
loop-n-init c = search (rules, none_spaced)

pub loop-n-preserved : goal.loop-n-preserved
loop-n-preserved c = search (rules, one_more)
