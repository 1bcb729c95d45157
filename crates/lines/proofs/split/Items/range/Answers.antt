use Rattle.std.proofs.Common.{rules}
use Rattle.lines.proofs.SplitLaws.{range_laws}
use Rattle.lines.proofs.split.Items.range.Goals as goal

pub returns-then-self-j : goal.returns-then-self-j
returns-then-self-j c = search (rules, range_laws)

pub returns-then-j-eq0 : goal.returns-then-j-eq0
returns-then-j-eq0 c = search (rules, range_laws)

pub overflow_add-result : goal.overflow_add-result
overflow_add-result c = search (rules, range_laws)

pub returns : goal.returns
returns c = search (rules, range_laws)
