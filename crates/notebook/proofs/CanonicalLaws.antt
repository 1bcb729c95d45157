-- The canonical file of an accepted file: its rows, that it is accepted and carries the same notebook, that it is no longer than the file, and
-- that equal canonical files carry the same notebook. All from the laws of arranging and writing. Assumes nothing.
use Prim.Native.Nat.{ℕ, ◌≤◌}
use native.Mathlib.Omega.{arith}
use mathlib.Core.Path.{◌≡◌, sym, ap, ◌∙◌}
use mathlib.Core.Logic.{◌↔◌}
use mathlib.Core.List.{List}
use lib.ListN.{length, take, drop}
use Rattle.lists.specs.Lists.{Res, ok, map_res}
use Rattle.characters.specs.Rows.{rows}
use Rattle.notebook.specs.Notebook.{Notebook, read_file}
use Rattle.notebook.specs.Same.{arrange, SameNotebook}
use Rattle.replies.specs.Results.{writes}
use Rattle.notebook.specs.Check.{counted, check_result}
use Rattle.notebook.specs.Canonical.{head_row, record_rows, write_file, canonical_bytes, canonical_file, canonical_result}
use Rattle.notebook.proofs.WrittenLaws.{written_short, written_small, written_head, written_rows, written_long}
use Rattle.notebook.proofs.Arranging.{arranged_carries, arranged_again, arranged_length, arranged_counts}

again : (b : Notebook) → canonical_bytes (arrange b) ≡ canonical_bytes b
unfolding canonical_bytes
again b = ap write_file (arranged_again b)

module _ (f : List ℕ) (b : Notebook) (e : read_file f ≡ ok b) where
  -- IT IS ACCEPTED, AND CARRIES THE SAME NOTEBOOK (`arranged_again`)
  pub canonical_carries : read_file (canonical_bytes b) ≡ ok (arrange b)
  unfolding canonical_bytes
  canonical_carries = arranged_carries f b e

  -- IT IS NO LONGER
  pub canonical_short : length (canonical_bytes b) ≤ length f
  unfolding canonical_bytes
  canonical_short = omega (arith, arranged_length b, written_short f b e)

  -- its rows: line 1, and each record in its one spelling
  pub canonical_head : take 13 (canonical_bytes b) ≡ head_row (arrange b).provider
  unfolding canonical_bytes
  canonical_head = written_head (write_file (arrange b)) (arrange b) canonical_carries

  pub canonical_rows : rows (drop 13 (canonical_bytes b)) ≡ record_rows (arrange b).records
  unfolding canonical_bytes
  canonical_rows = written_rows (write_file (arrange b)) (arrange b) canonical_carries

  pub canonical_small : length (canonical_bytes b) ≤ 65536
  unfolding canonical_bytes
  canonical_small = written_small (write_file (arrange b)) (arrange b) canonical_carries

  pub canonical_long : 13 ≤ length (canonical_bytes b)
  unfolding canonical_bytes
  canonical_long = written_long (write_file (arrange b)) (arrange b) canonical_carries

  -- so it is its own canonical file
  pub canonical_own : canonical_result (canonical_bytes b) ≡ canonical_result f
  unfolding canonical_result canonical_file
  canonical_own =
      ap (λ (x : Res Notebook). map_res writes (map_res canonical_bytes x)) canonical_carries ∙ ap (λ (w : List ℕ). ok (writes w)) (again b)
      ∙ sym (ap (λ (x : Res Notebook). map_res writes (map_res canonical_bytes x)) e)

  pub canonical_fixed : (a : Notebook) → read_file (canonical_bytes b) ≡ ok a → canonical_bytes a ≡ canonical_bytes b
  canonical_fixed a h = let q : a ≡ arrange b = carried_once h canonical_carries in ap canonical_bytes q ∙ again b
    where
      carried_once : {r : Res Notebook} {x y : Notebook} → r ≡ ok x → r ≡ ok y → x ≡ y
      carried_once p q = cc

  -- the counts are the notebook's
  pub check_counts : check_result f ≡ ok (counted b)
  unfolding check_result
  check_counts = ap (map_res counted) e

  pub check_canonical : check_result (canonical_bytes b) ≡ check_result f
  unfolding check_result
  check_canonical = ap (map_res counted) canonical_carries ∙ ap ok (arranged_counts b) ∙ sym check_counts

-- TWO ACCEPTED FILES HAVE EQUAL CANONICAL FILES exactly when they carry the same notebook
pub canonical_same : (f g : List ℕ) (a b : Notebook) → read_file f ≡ ok a → read_file g ≡ ok b → (canonical_bytes a ≡ canonical_bytes b) ↔ SameNotebook a b
unfolding canonical_bytes
canonical_same f g a b p q = (λ e. same_of e (arranged_carries f a p) (arranged_carries g b q), λ e. ap write_file e)
  where
    same_of : {x y : Notebook} → write_file x ≡ write_file y → read_file (write_file x) ≡ ok x → read_file (write_file y) ≡ ok y → x ≡ y
    same_of e h k = cc
