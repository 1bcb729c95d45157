-- What holds of the sequence in which a canonical file has its records (`arrange`): no other law looks into it. The arranged notebook of an accepted file is
-- that of a file too (`arranged_carries`), of the same length (`arranged_length`) and counts (`arranged_counts`), and arranging again changes nothing
-- (`arranged_again`). `arrange_as_is` is for what rests on the file's own sequence: code that writes records as it reads them, and the fewest
-- pieces. Assumes nothing.
use Prim.Native.Nat.{ℕ}
use mathlib.Core.Path.{◌≡◌, refl}
use mathlib.Core.List.{List}
use lib.ListN.{length}
use Rattle.lists.specs.Lists.{ok}
use Rattle.notebook.specs.Notebook.{Notebook, read_file}
use Rattle.notebook.specs.Same.{arrange}
use Rattle.notebook.specs.Check.{counted}
use Rattle.notebook.specs.Canonical.{write_file}
use Rattle.notebook.proofs.WrittenLaws.{written_carries}

pub arranged_carries : (f : List ℕ) (b : Notebook) → read_file f ≡ ok b → read_file (write_file (arrange b)) ≡ ok (arrange b)
unfolding arrange
arranged_carries f b e = written_carries f b e

pub arranged_again : (b : Notebook) → arrange (arrange b) ≡ arrange b
unfolding arrange
arranged_again b = refl

pub arranged_length : (b : Notebook) → length (write_file (arrange b)) ≡ length (write_file b)
unfolding arrange
arranged_length b = refl

pub arranged_counts : (b : Notebook) → counted (arrange b) ≡ counted b
unfolding arrange
arranged_counts b = refl

pub arrange_as_is : (b : Notebook) → arrange b ≡ b
unfolding arrange
arrange_as_is b = refl
