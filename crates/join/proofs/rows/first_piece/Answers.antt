use Rattle.std.proofs.Common.{rules}
use Rattle.join.proofs.WalkLaws.{first_head}
use Rattle.join.proofs.rows.first_piece.Goals as goal

pub returns-in-Head : goal.returns-in-Head
returns-in-Head c = search (rules, first_head)
