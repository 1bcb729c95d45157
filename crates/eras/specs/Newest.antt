-- Definitions, to be believed.
-- The newest era that has begun, said of any list of eras without looking through it in its order.
use Rattle.std.specs.Prelude.{ℕ, ◌≤◌, List}
use Rattle.lists.specs.Lists.{All}
use Rattle.eras.specs.declared.Era.{Era}

-- e has begun on the day n, and no era of the list that has begun is newer
pub record Newest (es : List Era) (n : ℕ) (e : Era) : Type 0 where
  pub begun : e.first ≤ n
  pub none_newer_lem : All (λ x. x.first ≤ n → x.first ≤ e.first) es
