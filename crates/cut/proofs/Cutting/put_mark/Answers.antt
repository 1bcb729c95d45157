use Rattle.cut.proofs.PourLaws.{mark_wrote}
use Rattle.cut.proofs.Cutting.put_mark.Goals as goal

pub returns : goal.returns
returns c =
    mark_wrote _ _ c.put_all-at.ensures c.put_all-at-2.ensures c.put_byte-at.ensures c.put_number-at.ensures c.put_byte-at-2.ensures c.put_number-at-2.ensures
    c.put_all.ensures
