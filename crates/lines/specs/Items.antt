-- Vocabulary of the code.
-- The text of a line whose items the code has.
use Rattle.std.specs.Prelude.{ℕ, List}
use Rattle.lists.specs.Searching.{part}
use Rattle.lines.specs.declared.split.Items.{Items}

abbrev pub text_of : Items → List ℕ
text_of items = part items.file.now items.at items.end
