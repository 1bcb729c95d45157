use Rattle.std.proofs.Common.{rules}
use Rattle.lines.proofs.QuickLaws.{passing_laws}
use Rattle.lines.proofs.quick.quick_items.Goals as goal

pub loop-j-init : goal.loop-j-init
loop-j-init c = search (rules, passing_laws)

pub loop-j-preserved : goal.loop-j-preserved
loop-j-preserved c = search (rules, passing_laws, c.in_ok-end.was)

pub returns-then-ends_line : goal.returns-then-ends_line
returns-then-ends_line c = search (rules, passing_laws)
