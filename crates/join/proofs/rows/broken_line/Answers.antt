use Rattle.std.proofs.Common.{rules}
use Rattle.join.proofs.WalkLaws.{walk_laws}
use Rattle.join.proofs.rows.broken_line.Goals as goal
use Rattle.join.proofs.rows.broken_line.Goals.{in-Body, in-Head, in-EndHead+else-not-begun}

pub loop-at-preserved : goal.loop-at-preserved
loop-at-preserved c = elim c.match-row.branch [
  | in-Body w ↦ rw w.begun-is (search (rules, walk_laws))
  | in-Head w ↦ rw w.begun-is (search (rules, walk_laws))
  | in-EndHead+else-not-begun w ↦ rw w.begun-is (search (rules, walk_laws))
]

pub returns-then-not-begun : goal.returns-then-not-begun
returns-then-not-begun c = search (rules, walk_laws)
