-- Vocabulary of the code.
-- Where a byte is found, and parts by positions.
use Rattle.std.specs.Prelude.{ℕ, ◌+◌, ◌-◌, List, length, drop, take}
use Rattle.lists.specs.Lists.{up_to, is}

-- where the byte c first stands from a position on, or the end
unfoldable pub find_from : ℕ → List ℕ → ℕ → ℕ
find_from c s at = at + length (up_to (is c) (drop at s))

-- the bytes from a to before e
abbrev pub part : List ℕ → ℕ → ℕ → List ℕ
part s a e = take (e - a) (drop a s)
