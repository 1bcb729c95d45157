use Rattle.std.proofs.Common.{◌-◌, length}
use Rattle.scanning.proofs.TextLaws.{Scanned}
use Rattle.scanning.proofs.lines.scan_text.Given as goal

abbrev pub invariant-loop-i : goal.invariant-loop-i
invariant-loop-i l = Scanned l.s l.at l.initial.stops l.stops l.i l.good l.commas

abbrev pub decreases-loop-i : goal.decreases-loop-i
decreases-loop-i l = length l.s - l.i
