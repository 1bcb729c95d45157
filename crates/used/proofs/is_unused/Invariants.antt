use Rattle.std.proofs.Common.{◌*◌}
use Rattle.used.specs.Searching.{Left}
use Rattle.used.proofs.is_unused.Given as goal

abbrev pub invariant-loop-k : goal.invariant-loop-k
invariant-loop-k l = Left l.id l.used (14 * l.k)
