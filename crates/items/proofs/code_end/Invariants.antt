use Rattle.std.proofs.Common.{◌+◌}
use Rattle.items.specs.Ends.{CodeRun}
use Rattle.items.proofs.code_end.Given as goal

abbrev pub invariant-loop-i : goal.invariant-loop-i
invariant-loop-i l = CodeRun l.s l.from (l.from + l.i)
