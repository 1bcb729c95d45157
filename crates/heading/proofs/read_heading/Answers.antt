use Rattle.heading.proofs.Laws.{heading_length, heading_provider, heading_patient, heading_other}
use Rattle.heading.proofs.read_heading.Goals as goal

pub returns-in_err-row : goal.returns-in_err-row
returns-in_err-row c = heading_length c.args.row.now c.in_err-row.ensures.cases c.from_residual.ensures

pub returns-then-eq : goal.returns-then-eq
returns-then-eq c = heading_provider c.in_ok-row.ensures.cases c.heading_row.ensures c.eq.ensures c.if-eq.true

pub returns-then-eq-2 : goal.returns-then-eq-2
returns-then-eq-2 c =
    heading_patient c.in_ok-row.ensures.cases c.heading_row.ensures c.eq.ensures c.if-eq.false c.heading_row-2.ensures c.eq-2.ensures c.if-eq-2.true

pub returns : goal.returns
returns c =
    heading_other c.in_ok-row.ensures.cases c.heading_row.ensures c.eq.ensures c.if-eq.false c.heading_row-2.ensures c.eq-2.ensures c.if-eq-2.false
