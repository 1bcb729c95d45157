use Rattle.pieces.proofs.MarkReading.{mark_one, mark_two, mark_three, mark_no_911, mark_no_id, mark_no_count, mark_no_place, mark_read}
use Rattle.pieces.proofs.read_mark.Goals as goal

pub returns-in_err-number : goal.returns-in_err-number
returns-in_err-number c = mark_one c.in_err-number.ensures c.from_residual.ensures

pub returns-then-ne : goal.returns-then-ne
returns-then-ne c = mark_no_911 c.in_ok-number.ensures c.ne.ensures c.if-ne.true

pub returns-in_err-id : goal.returns-in_err-id
returns-in_err-id c = mark_two c.in_ok-number.ensures c.in_err-id.ensures c.from_residual-in_err-id.ensures

pub returns-then-not-valid_id : goal.returns-then-not-valid_id
returns-then-not-valid_id c = mark_no_id c.in_ok-number.ensures c.in_ok-id.ensures c.ne.ensures c.if-ne.false c.valid_id.ensures c.if-not-valid_id.true

pub returns-in_err-count : goal.returns-in_err-count
returns-in_err-count c = mark_three c.in_ok-number.ensures c.in_ok-id.ensures c.in_err-count.ensures c.from_residual-in_err-count.ensures

pub returns-in_err-short_value : goal.returns-in_err-short_value
returns-in_err-short_value c =
    mark_no_count c.in_ok-number.ensures c.in_ok-id.ensures c.ne.ensures c.if-ne.false c.valid_id.ensures c.if-not-valid_id.false c.in_ok-count.ensures
    c.in_err-short_value.ensures c.from_residual-in_err-short_value.ensures

pub returns-in_err-short_value-2 : goal.returns-in_err-short_value-2
returns-in_err-short_value-2 c =
    mark_no_place c.in_ok-number.ensures c.in_ok-id.ensures c.ne.ensures c.if-ne.false c.valid_id.ensures c.if-not-valid_id.false c.in_ok-count.ensures
    c.in_err-short_value-2.ensures c.from_residual-in_err-short_value-2.ensures

pub returns : goal.returns
returns c =
    mark_read c.in_ok-number.ensures c.in_ok-id.ensures c.ne.ensures c.if-ne.false c.valid_id.ensures c.if-not-valid_id.false c.in_ok-count.ensures
    c.in_ok-short_value.ensures c.in_ok-short_value-2.ensures
