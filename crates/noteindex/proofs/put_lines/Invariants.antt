use Rattle.std.proofs.Common.{◌*◌, ◌≤◌}
use Rattle.noteindex.proofs.put_lines.Given as goal

abbrev pub invariant-loop-record : goal.invariant-loop-record
invariant-loop-record l = l.end ≤ 147 * l.record-index
