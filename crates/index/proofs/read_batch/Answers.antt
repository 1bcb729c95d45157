use Rattle.std.proofs.Common.{◌≡◌, None, Err, rules}
use Rattle.checking.proofs.TurnLaws.{turn_some, turn_none}
use Rattle.checking.proofs.CheckLaws.{reading_next}
use Rattle.index.proofs.FillLaws.{filling_over, filling_stopped, filling_missing, filling_room, filling_on}
use Rattle.index.proofs.read_batch.Goals as goal

pub returns-in_err-turn : goal.returns-in_err-turn
returns-in_err-turn c =
    let e : c.from_residual.result ≡ Err c.in_err-turn.field-0.0 = search rules in
    rw e (filling_stopped c.loop-next.invariant.1 c.loop-next.invariant.0 c.in_err-turn.ensures)

pub returns-in_err-close : goal.returns-in_err-close
returns-in_err-close c =
    let e : c.from_residual-in_err-close.result ≡ Err c.in_err-close.field-0.0 = search rules in
    let n : c.in_ok-turn.field-0 ≡ None = search rules in
    rw e (filling_missing c.loop-next.invariant.1 c.loop-next.invariant.0 (turn_none c.in_ok-turn.ensures n) c.in_err-close.ensures)

pub returns-in_default : goal.returns-in_default
returns-in_default c =
    let n : c.in_ok-turn.field-0 ≡ None = search rules in
    filling_over c.loop-next.invariant.1 c.loop-next.invariant.0 (turn_none c.in_ok-turn.ensures n) c.in_ok-close.ensures

pub put_entry-next-requires-clause-room : goal.put_entry-next-requires-clause-room
put_entry-next-requires-clause-room c =
    filling_room c.loop-next.invariant.1 c.loop-next.invariant.0 (turn_some c.in_ok-turn.ensures c.in-Some.is) c.loop-next-test.true _ _ _ _ _ _ _

pub loop-next-preserved : goal.loop-next-preserved
loop-next-preserved c =
    let w = turn_some c.in_ok-turn.ensures c.in-Some.is in (
      reading_next c.loop-next.invariant.0 w,
      filling_on c.loop-next.invariant.1 c.loop-next.invariant.0 w c.clinic_after-clinic.ensures c.put_entry-next.ensures,
    )
