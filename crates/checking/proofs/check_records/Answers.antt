use Rattle.std.proofs.Common.{◌≡◌, Err, rules}
use Rattle.checking.proofs.TurnLaws.{turn_some}
use Rattle.checking.proofs.CheckLaws.{reading_laws, reading_stopped, reading_next}
use Rattle.checking.proofs.check_records.Goals as goal

pub loop-turn-init : goal.loop-turn-init
loop-turn-init c = search (rules, reading_laws)

pub returns-in_err-turn : goal.returns-in_err-turn
returns-in_err-turn c =
    let e : c.from_residual.result ≡ Err c.in_err-turn.field-0.0 = search rules in
    rw e (reading_stopped c.loop-turn.invariant c.in_err-turn.ensures)

pub loop-turn-preserved : goal.loop-turn-preserved
loop-turn-preserved c = reading_next c.loop-turn.invariant (turn_some c.in_ok-turn.ensures c.in-Some.is)
