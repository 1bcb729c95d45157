use Rattle.std.proofs.Common.{rules}
use Rattle.checking.proofs.LineFacts.{line_some}
use Rattle.checking.proofs.OpenLaws.{open_records}
use Rattle.checking.proofs.open_file.Goals as goal

pub returns-in-Some : goal.returns-in-Some
returns-in-Some c = open_records c.args.s.now (search rules) (line_some c.in-Ok-Some.ensures c.in-Ok-Some.field-0-is) c.read_heading.ensures c.in-Some.is
