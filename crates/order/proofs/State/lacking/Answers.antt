use Rattle.std.proofs.Common.{rules}
use Rattle.rules.specs.Rules.{lacking}
use Rattle.order.proofs.State.lacking.Goals as goal

pub returns-then-not-self : goal.returns-then-not-self
unfolding lacking
returns-then-not-self c = search rules

pub returns-then-self-eq0 : goal.returns-then-self-eq0
unfolding lacking
returns-then-self-eq0 c = search rules

pub returns : goal.returns
unfolding lacking
returns c = search rules
