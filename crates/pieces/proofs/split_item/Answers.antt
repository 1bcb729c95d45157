use Rattle.pieces.proofs.MarkReading.{item_some}
use Rattle.pieces.proofs.split_item.Goals as goal

pub returns : goal.returns
returns c = item_some c.args.line.now c.comma_of.ensures c.in_ok-comma.was
