use Rattle.std.proofs.Common.{rules}
use Rattle.join.proofs.JoinLaws.{pieces_laws}
use Rattle.join.proofs.file.join_pieces.Goals as goal

pub returns-in-Some : goal.returns-in-Some
returns-in-Some c = search (rules, pieces_laws, c.in_ok-opening.ensures, c.in_ok-lines.ensures)

pub returns-in-Some-2 : goal.returns-in-Some-2
returns-in-Some-2 c = search (rules, pieces_laws, c.in_ok-opening.ensures, c.in_ok-lines.ensures, c.in_ok-next_piece.ensures)
