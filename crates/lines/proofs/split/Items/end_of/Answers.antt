use Rattle.std.proofs.Common.{rules, arith}
use Rattle.lines.proofs.SplitLaws.{range_laws, end_fits}
use Rattle.lines.proofs.split.Items.end_of.Goals as goal

pub overflow_add-result : goal.overflow_add-result
overflow_add-result c = omega (arith, end_fits c.args.self.now.line c.args.j c.requires c.if-j-self.true)

pub returns-then-j-self : goal.returns-then-j-self
returns-then-j-self c = search (rules, range_laws)

pub returns-else-j-self : goal.returns-else-j-self
returns-else-j-self c = search (rules, range_laws)
