-- What check's answer tells of the file: for the calls that check first. Assumes nothing.
use Prim.Native.Nat.{ℕ}
use native.Mathlib.Omega.{arith}
use mathlib.Core.Path.{◌≡◌, refl}
use mathlib.Core.List.{List, []}
use Rattle.lists.specs.Lists.{Res, ok, refused, map_res}
use Rattle.replies.specs.Replies.{Answer}
use Rattle.replies.specs.Replies.{Done, Refused}
use Rattle.replies.specs.Results.{answer_of, fitting, answer_in}
use Rattle.notebook.specs.Notebook.{Notebook, read_file}
use Rattle.notebook.specs.Check.{count, counted, check_result}

-- the answer of a file that is read so: check has no output
abbrev pub answered : Res Notebook → Answer
answered x = answer_of (fitting (map_res counted x) [])

pub answer_refused : (s : List ℕ) (n line : ℕ) → answer_in (check_result s) [] ≡ Refused n line → read_file s ≡ refused n line
unfolding answer_in check_result
answer_refused s n line e = go (read_file s) e
  where
    go : (x : Res Notebook) → answered x ≡ Refused n line → x ≡ refused n line
    go (ok b) e = let z : ◌≡◌ {A = ℕ} 0 1 = cc in absurd (omega arith)
    go (refused m l) e = cc

pub record Counted (s : List ℕ) (records : ℕ) : Type 0 where
  pub book : Notebook
  pub read : read_file s ≡ ok book
  pub count : (counted book).a ≡ records

pub answer_accepted : (s : List ℕ) (a b c : ℕ) → answer_in (check_result s) [] ≡ Done a b c → Counted s a
unfolding answer_in check_result
answer_accepted s a b c e = go (read_file s) refl e
  where
    go : (x : Res Notebook) → read_file s ≡ x → answered x ≡ Done a b c → Counted s a
    go (ok book) q e = record { book = book; read = q; count = cc }
    go (refused n line) q e = let z : ◌≡◌ {A = ℕ} 0 1 = cc in absurd (omega arith)
