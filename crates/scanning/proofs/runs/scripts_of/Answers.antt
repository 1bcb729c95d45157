use Rattle.std.proofs.Common.{rules, arith}
use Rattle.scanning.proofs.RunLaws.{telling_laws, telling_stuck}
use Rattle.scanning.proofs.runs.scripts_of.Goals as goal

pub add_assign-requires : goal.add_assign-requires
add_assign-requires c = search (rules, telling_laws)

pub returns-in-None : goal.returns-in-None
returns-in-None c = search (rules, telling_laws, c.in-None.ensures.lookup)

pub overflow_add-seen : goal.overflow_add-seen
overflow_add-seen c = search (rules, telling_laws, c.in-Some-eq44.ensures.lookup)

pub returns-in-Some : goal.returns-in-Some
returns-in-Some c = telling_stuck c.loop-seen.invariant c.run_at-run.ensures.run c.run_at-run.ensures.counted (omega (arith, c.in-Some.ensures.lookup)) (search c.in-Some.ensures.lookup) c.in-Some.field-0-test.1 c.run_at-run.ensures.ends

pub loop-seen-preserved : goal.loop-seen-preserved
loop-seen-preserved c = search (rules, telling_laws, c.in-Some-eq44.ensures.lookup)
