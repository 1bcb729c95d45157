use Rattle.std.proofs.Common.{rules}
use Rattle.join.proofs.WalkLaws.{next_laws}
use Rattle.join.proofs.rows.next_piece.Goals as goal

pub returns-then-s-at : goal.returns-then-s-at
returns-then-s-at c = search (rules, next_laws)

pub returns-in-Head : goal.returns-in-Head
returns-in-Head c = search (rules, next_laws)

pub returns-in-Head-2 : goal.returns-in-Head-2
returns-in-Head-2 c = search (rules, next_laws)
