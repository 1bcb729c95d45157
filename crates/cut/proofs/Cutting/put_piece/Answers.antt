use Rattle.std.proofs.Common.{rules}
use Rattle.cut.proofs.PourLaws.{piece_laws}
use Rattle.cut.proofs.Cutting.put_piece.Goals as goal

pub put_all-at-requires : goal.put_all-at-requires
put_all-at-requires c = search (rules, piece_laws)

pub put_all-at-requires-2 : goal.put_all-at-requires-2
put_all-at-requires-2 c = search (rules, piece_laws)

pub put_mark-requires : goal.put_mark-requires
put_mark-requires c = search (rules, piece_laws)

pub returns : goal.returns
returns c = search (rules, piece_laws)
