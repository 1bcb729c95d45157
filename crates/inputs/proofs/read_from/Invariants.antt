use Rattle.std.proofs.Common.{◌-◌, ◌≤◌, length, ◌≡◌, take, drop}
use Rattle.std.specs.Io.KnownBytes.{Consumes}
use Rattle.inputs.proofs.read_from.Given as goal

abbrev pub invariant-loop-end : goal.invariant-loop-end
invariant-loop-end g l =
    (l.end ≤ length l.buf) × (l.at ≤ l.end) × (take l.at l.buf ≡ take l.at l.initial.buf)
    × Consumes (g.R.Read.remaining l.initial.from) (g.R.Read.remaining l.from) (drop l.at (take l.end l.buf))

abbrev pub decreases-loop-end : goal.decreases-loop-end
decreases-loop-end g l = length l.buf - l.end
