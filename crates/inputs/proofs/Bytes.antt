-- What an answer tells where it is known to be bytes: they are at the buffer's front. Assumes nothing.
use Rattle.std.proofs.Common.{ℕ, ◌≤◌, List, length, sym}
use Rattle.std.proofs.lemmas.List.{length-take-le}
use Rattle.inputs.specs.Counts.{IsPrefixLen}

-- a bound is enough
pub prefix_len_of_le : (n : ℕ) (xs : List ℕ) → n ≤ length xs → IsPrefixLen n xs
prefix_len_of_le n xs h = (h, sym (length-take-le n xs h))
