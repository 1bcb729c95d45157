use Rattle.lines.proofs.QuickLaws.{Passing}
use Rattle.lines.proofs.quick.quick_items.Given as goal

abbrev pub invariant-loop-j : goal.invariant-loop-j
invariant-loop-j l = Passing l.provider l.row l.s l.at l.from l.initial.stops l.stops l.j l.end
