-- Definitions, to be believed.
-- Counts of bytes at the front of a buffer.
use Rattle.std.specs.Prelude.{ℕ, ◌≤◌, ◌≡◌, List, length, take}

-- `&xs[..n]` is in bounds and has n bytes. The words are those of the kit's `io`, which std's contract of `read` cites.
abbrev pub IsPrefixLen : ℕ → List ℕ → Type 0
IsPrefixLen n xs = (n ≤ length xs) × (n ≡ length (take n xs))
