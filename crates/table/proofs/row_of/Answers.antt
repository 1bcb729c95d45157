use Rattle.std.proofs.Common.{rules}
use Rattle.records.specs.Table.{table}
use Rattle.table.specs.Rows.{row_by}
use Rattle.table.proofs.RowLaws.{row_301}
use Rattle.table.proofs.row_of.Goals as goal

-- answered by its law, so that another record's row is refused for the fact
pub returns-in-301 : goal.returns-in-301
returns-in-301 c = row_301 c.in-301.is

pub returns-in_default : goal.returns-in_default
unfolding row_by table
returns-in_default c = search rules
