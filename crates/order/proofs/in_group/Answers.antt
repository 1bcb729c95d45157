use Rattle.std.proofs.Common.{rules}
use Rattle.rules.specs.Places.{in_group}
use Rattle.order.proofs.in_group.Goals as goal

pub returns : goal.returns
unfolding in_group
returns c = search rules
