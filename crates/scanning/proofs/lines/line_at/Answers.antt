use Rattle.std.proofs.Common.{rules}
use Rattle.scanning.proofs.LineLaws.{line_laws}
use Rattle.scanning.proofs.lines.line_at.Goals as goal

pub slice_bounds-after-count : goal.slice_bounds-after-count
slice_bounds-after-count c = search (rules, line_laws)

pub slice_bounds-after-start : goal.slice_bounds-after-start
slice_bounds-after-start c = search (rules, line_laws)

pub returns-in-13 : goal.returns-in-13
returns-in-13 c = search (rules, line_laws)
