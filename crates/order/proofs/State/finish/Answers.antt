use Rattle.std.proofs.Common.{rules}
use Rattle.order.specs.State.{finish_of}
use Rattle.rules.specs.Rules.{unfinished}
use Rattle.order.proofs.State.finish.Goals as goal

pub returns : goal.returns
unfolding finish_of unfinished
returns c = search rules
