use Rattle.std.proofs.Common.{rules, arith}
use Rattle.std.proofs.lemmas.Grind.{common_steps}
use Rattle.checking.proofs.TurnLaws.{turn_some, turn_none}
use Rattle.checking.proofs.CheckLaws.{reading_laws}
use Rattle.canonical.proofs.FileLaws.{running_laws, running_stopped}
use Rattle.canonical.proofs.write_records.Goals as goal

pub loop-turn-init : goal.loop-turn-init
loop-turn-init c = search (rules, reading_laws, running_laws)

pub returns-in_err-turn : goal.returns-in_err-turn
returns-in_err-turn c = grind (arith, common_steps, running_stopped c.loop-turn.invariant.1 c.loop-turn.invariant.0 c.in_err-turn.ensures)

pub loop-turn-preserved : goal.loop-turn-preserved
loop-turn-preserved c = let w = turn_some c.in_ok-turn.ensures c.in-Some.is in search (rules, reading_laws, running_laws)

pub slice_bounds-put_all-count : goal.slice_bounds-put_all-count
slice_bounds-put_all-count c = search (rules, reading_laws, running_laws)

pub slice_bounds-put_all-start : goal.slice_bounds-put_all-start
slice_bounds-put_all-start c = search (rules, reading_laws, running_laws)

pub put_all-end-requires : goal.put_all-end-requires
put_all-end-requires c = search (rules, reading_laws, running_laws)

pub close-requires-clause-at_bound : goal.close-requires-clause-at_bound
close-requires-clause-at_bound c = search (rules, reading_laws, running_laws)

pub returns : goal.returns
returns c = let w = turn_none c.in_ok-turn.ensures c.in_default.is in search (rules, reading_laws, running_laws)

pub put_record-run-requires-clause-sound : goal.put_record-run-requires-clause-sound
put_record-run-requires-clause-sound c = let w = turn_some c.in_ok-turn.ensures c.in-Some.is in search (rules, reading_laws, running_laws)

pub put_record-run-requires-clause-ready : goal.put_record-run-requires-clause-ready
put_record-run-requires-clause-ready c = let w = turn_some c.in_ok-turn.ensures c.in-Some.is in search (rules, reading_laws, running_laws)
