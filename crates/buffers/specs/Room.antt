-- Vocabulary of the code.
-- An array of a call's own, which is lent to what the call does.
use Rattle.std.specs.Prelude.{ℕ, ◌<◌, ◌≤◌, ◌≡◌, List, length}

-- it holds n bytes, or as many as a file may have; line 1 always
pub record Roomy (n : ℕ) (d : List ℕ) : Type 0 where
  pub room : length d < n → length d ≡ 65536
  pub least : 2048 ≤ length d
  pub most : length d ≤ 65536
