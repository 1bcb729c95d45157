use Rattle.std.proofs.Common.{rules}
use Rattle.order.proofs.Laws.{takes, turned_away}
use Rattle.order.proofs.State.step.Goals as goal

pub returns-in_err-refusal : goal.returns-in_err-refusal
returns-in_err-refusal c = search (rules, turned_away)

pub returns : goal.returns
returns c = search (rules, takes)
