-- Definitions, to be believed.
-- When two files carry the same notebook. Document 01, "Same notebook, canonical file".
use Rattle.std.specs.Prelude.{ℕ, ◌≡◌, List}
use Rattle.lists.specs.Lists.{ok}
use Rattle.notebook.specs.Notebook.{Notebook, read_file}

-- the notebook with its records in the sequence that its canonical file has: as they lie in the file
unfoldable pub arrange : Notebook → Notebook
arrange b = b

-- "Two accepted files carry the same notebook if direction, the list of record numbers and every item agree": nothing is moved, so this is a ≡ b
abbrev pub SameNotebook : Notebook → Notebook → Type 0
SameNotebook a b = arrange a ≡ arrange b

-- f and g are two such files
pub record CarrySame (f g : List ℕ) : Type 0 where
  pub one : Notebook
  pub other : Notebook
  pub read_one : read_file f ≡ ok one
  pub read_other : read_file g ≡ ok other
  pub same : SameNotebook one other
