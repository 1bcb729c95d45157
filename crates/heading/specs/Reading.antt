-- Vocabulary of the code.
-- The direction of a row that is line 1, as the code answers it.
use Rattle.std.specs.Prelude.{ℕ, Bool, cond, true, false, List, Option, Some, None}
use Rattle.lists.specs.Lists.{same}
use Rattle.notebook.specs.Canonical.{head_row}

unfoldable pub heading_of : List ℕ → Option Bool
heading_of row = cond (same row (head_row true)) (Some true) (cond (same row (head_row false)) (Some false) None)
