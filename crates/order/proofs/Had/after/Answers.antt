use Rattle.std.proofs.Common.{rules}
use Rattle.order.specs.State.{had_after, nothing_yet}
use Rattle.order.proofs.Had.after.Goals as goal

pub returns-in-5 : goal.returns-in-5
unfolding had_after nothing_yet
returns-in-5 c = search rules

pub returns-in-11 : goal.returns-in-11
unfolding had_after
returns-in-11 c = search rules

pub returns-in-51 : goal.returns-in-51
unfolding had_after
returns-in-51 c = search rules

pub returns-in-55 : goal.returns-in-55
unfolding had_after
returns-in-55 c = search rules

pub returns-in-201 : goal.returns-in-201
unfolding had_after
returns-in-201 c = search rules

pub returns-in-301 : goal.returns-in-301
unfolding had_after
returns-in-301 c = search rules

pub returns-in-411 : goal.returns-in-411
unfolding had_after
returns-in-411 c = search rules

pub returns-in_default : goal.returns-in_default
unfolding had_after
returns-in_default c = search rules
