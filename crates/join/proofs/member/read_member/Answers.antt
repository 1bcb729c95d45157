use Rattle.std.proofs.Common.{rules}
use Rattle.join.proofs.MemberLaws.{member_laws}
use Rattle.join.proofs.member.read_member.Goals as goal
use Rattle.join.proofs.member.read_member.Goals.{then-first-opening-via-then-first-opening, then-first-opening-via-else-first-opening+then-first-mark, then-first-opening-via-else-first-opening+else-first-mark+then-ne}

pub returns-then-first-opening : goal.returns-then-first-opening
returns-then-first-opening c = elim c.then-first-opening.branch [
  | then-first-opening-via-then-first-opening w ↦ search (rules, member_laws, c.in_ok-lines.ensures)
  | then-first-opening-via-else-first-opening+then-first-mark w ↦ search (rules, member_laws, c.in_ok-lines.ensures)
  | then-first-opening-via-else-first-opening+else-first-mark+then-ne w ↦ search (rules, member_laws, c.in_ok-lines.ensures)
]
