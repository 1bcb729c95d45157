use Rattle.std.proofs.Common.{◌≤◌, length}
use Rattle.notejoin.proofs.read_files.Given as goal

abbrev pub invariant-loop-word : goal.invariant-loop-word
invariant-loop-word l = l.end ≤ length l.pieces
