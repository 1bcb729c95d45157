use Rattle.canonical.proofs.LineLaws.{Spotting, tail_at}
use Rattle.canonical.proofs.Run.put_record.Given as goal

abbrev pub invariant-loop-j : goal.invariant-loop-j
invariant-loop-j l =
    Spotting l.items.commas (tail_at l.number l.items.file.now l.items.at l.items.end) l.items.file.now l.items.at l.items.end l.initial.run l.initial.out l.out l.run l.j-items l.j-index
