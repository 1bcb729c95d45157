use Rattle.std.proofs.Common.{◌-◌, length}
use Rattle.index.proofs.+index_on.Given as goal

abbrev pub decreases-index_on : goal.decreases-index_on
decreases-index_on l = length l.s.now - l.from.at
