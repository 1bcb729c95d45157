-- Vocabulary of the code.
-- What reading a file of IDs asks and answers of positions.
use Rattle.std.specs.Prelude.{ℕ, ◌+◌, ◌≤◌, ◌≡◌, Bool, true, List, length, Result, IfOk}

-- where an ID is found, its bytes are there
pub record Inside (text : List ℕ) (at : ℕ) (found : Bool) : Type 0 where
  pub room : found ≡ true → at + 14 ≤ length text

-- a position at or after another
pub record Onward (text : List ℕ) (at next : ℕ) : Type 0 where
  pub low : at ≤ next
  pub high : next ≤ length text

-- a position after an ID
pub record Passed (text : List ℕ) (at next : ℕ) : Type 0 where
  pub low : at + 14 ≤ next
  pub high : next ≤ length text

-- the run is inside the text; of a bad one nothing is said
abbrev pub AtFront : {E : Type 0} → Result ℕ E → List ℕ → Type 0
AtFront run text = IfOk run (λ n. n ≤ length text)
