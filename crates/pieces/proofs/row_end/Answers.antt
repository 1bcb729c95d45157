use Rattle.std.proofs.Common.{rules}
use Rattle.pieces.proofs.ScanLaws.{feed_laws}
use Rattle.pieces.proofs.row_end.Goals as goal

pub returns-then-i-s : goal.returns-then-i-s
returns-then-i-s c = search (rules, feed_laws)

pub returns-else-i-s : goal.returns-else-i-s
returns-else-i-s c = search (rules, feed_laws)
