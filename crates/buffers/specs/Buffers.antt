-- Vocabulary of the code.
-- What a writer leaves in a buffer that its caller lends: a list from an index on, and everything else as it was.
-- All writers have one contract, whatever the elements of the buffer are.
use Rattle.std.specs.Prelude.{ℕ, ◌+◌, ◌≤◌, ◌≡◌, List, length}
use Rattle.std.proofs.lemmas.List.Edits.{sets}

-- w fits d from index at on
abbrev pub Room : {A : Type 0} → List A → ℕ → List A → Type 0
Room d at w = at + length w ≤ length d

-- the buffer d became d': w stands from index at on, all else is as it was, and r is the index after w
pub record Wrote {A : Type 0} (d d' : List A) (at r : ℕ) (w : List A) : Type 0 where
  pub next : r ≡ at + length w
  pub list : d' ≡ sets d at w
  pub size : length d' ≡ length d
  pub high : r ≤ length d
