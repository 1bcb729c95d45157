use Rattle.table.proofs.TableLaws.{row_length}
use Rattle.lines.proofs.QuickLaws.{number_run, line_quick}
use Rattle.lines.proofs.quick.quick_line.Goals as goal

pub quick_items-requires-clause-few : goal.quick_items-requires-clause-few
quick_items-requires-clause-few c = row_length c.in_ok-row.ensures

pub quick_items-requires-clause-run_of : goal.quick_items-requires-clause-run_of
quick_items-requires-clause-run_of c = number_run c.if-s-at-eq48.false c.spelled_at.ensures c.in_ok-number.was

pub returns : goal.returns
returns c = line_quick c.if-s-at-eq48.false c.spelled_at.ensures c.in_ok-number.was c.in_ok-row.ensures c.in_ok-end.ensures
