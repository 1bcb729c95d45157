use Rattle.records.specs.Split.{items_of}
use Rattle.lines.specs.Items.{text_of}
use Rattle.lines.proofs.WalkLaws.{Walk}
use Rattle.lines.proofs.items_fault.Given as goal

abbrev pub invariant-loop-j : goal.invariant-loop-j
invariant-loop-j l = Walk l.provider l.row (items_of (text_of l.items)) l.j
