use Rattle.std.proofs.Common.{rules, arith}
use Rattle.join.proofs.GatheringLaws.{gathered, gathering_go, gathering_full, gathering_short, gathering_laws}
use Rattle.join.proofs.gathering.gather.Goals as goal
use Rattle.join.proofs.gathering.gather.Goals.{else-loop-k-test, then-loop-k-test+in-Some+else-k-k-end}

pub loop-k-preserved : goal.loop-k-preserved
loop-k-preserved g c = search (rules, gathering_laws)

pub returns-in_default : goal.returns-in_default
returns-in_default g c = search (rules, gathering_laws)

pub returns-then-out-end : goal.returns-then-out-end
returns-then-out-end g c = gathering_short (elim c.loop-k-test.branch [
  | else-loop-k-test w ↦ gathered c.loop-k.invariant w.loop-k-test.false w.out-is w.end-is
  | then-loop-k-test+in-Some+else-k-k-end w ↦
      gathered (gathering_go c.loop-k.invariant w.loop-k-test.true w.find_rows.ensures w.in-Some.is w.put_if_room-end.ensures) (omega arith) w.out-is w.end-is
]) c.if-out-end.true

pub returns : goal.returns
returns g c = gathering_full (elim c.loop-k-test.branch [
  | else-loop-k-test w ↦ gathered c.loop-k.invariant w.loop-k-test.false w.out-is w.end-is
  | then-loop-k-test+in-Some+else-k-k-end w ↦
      gathered (gathering_go c.loop-k.invariant w.loop-k-test.true w.find_rows.ensures w.in-Some.is w.put_if_room-end.ensures) (omega arith) w.out-is w.end-is
]) c.if-out-end.false
