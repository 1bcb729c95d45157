-- Vocabulary of the code.
-- How a file begins, as the code answers it: its size, its line 1 and the direction that it tells.
use Rattle.std.specs.Prelude.{ℕ, ◌≤◌, ◌≡◌, Bool, List, ◌∷◌, Result, Ok, Err, length, drop}
use Rattle.lists.specs.Lists.{refused}
use Rattle.lists.specs.Searching.{part}
use Rattle.characters.specs.Rows.{rows}
use Rattle.replies.specs.declared.refusal.Refused.{Refused}
use Rattle.replies.specs.Refusals.{number_of}
use Rattle.order.specs.State.{start}
use Rattle.notebook.specs.Notebook.{records_from, notebook_of, read_file}
use Rattle.notebook.specs.Canonical.{head_row}
use Rattle.checking.specs.declared.Opening.{Opening}

-- a position after line 1 of a file within the limit
pub record Behind (s : List ℕ) (from : ℕ) : Type 0 where
  pub low : 1 ≤ from
  pub high : from ≤ length s
  pub small : length s ≤ 65536

-- line 1 of a direction, and what is read after it
pub record OpensAt (s : List ℕ) (provider : Bool) (from : ℕ) : Type 0 where
  pub behind : Behind s from
  pub first : part s 0 from ≡ head_row provider
  pub cut : rows s ≡ head_row provider ∷ rows (drop from s)
  pub read : read_file s ≡ notebook_of provider (records_from (start provider) (rows (drop from s)))

abbrev pub OpeningMeans : List ℕ → Result Opening Refused → Type 0
OpeningMeans s (Ok o) = OpensAt s o.provider o.from
OpeningMeans s (Err r) = read_file s ≡ refused (number_of r.refusal) r.line

pub record OpeningOf (s : List ℕ) (r : Result Opening Refused) : Type 0 where
  pub means : OpeningMeans s r
