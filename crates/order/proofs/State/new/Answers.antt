use Rattle.std.proofs.Common.{rules}
use Rattle.order.specs.State.{start}
use Rattle.order.proofs.State.new.Goals as goal

pub returns : goal.returns
unfolding start
returns c = search rules
