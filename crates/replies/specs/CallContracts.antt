-- Vocabulary of the code.
-- The answer and the output of a call, as one statement about the function that computes them.
use Rattle.std.specs.Prelude.{ℕ, ◌≡◌, List}
use Rattle.lists.specs.Lists.{Res}
use Rattle.replies.specs.Replies.{Answer}
use Rattle.replies.specs.Results.{Result, answer_in, output_of}

-- both, of a function that answers r and leaves d'
pub record Gives (x : Res Result) (d d' : List ℕ) (r : Answer) : Type 0 where
  pub answer : r ≡ answer_in x d
  pub output : d' ≡ output_of x d
