-- Vocabulary of the code.
-- What reading does to the bytes that a reader has left, for a reader whose bytes are known.
use Rattle.std.specs.Prelude.{ℕ, ◌<◌, ◌≤◌, ◌≡◌, List, length, take, drop, Option, Result, IfOk}
use Rattle.std.specs.Io.KnownBytes.{Consumes, IsAtEnd}

-- one read took the bytes that are now at the buffer's front; none only at the end, or into no room
pub record OneTaken (had has : Option (List ℕ)) (buffer : List ℕ) (n : ℕ) : Type 0 where
  pub taken : Consumes had has (take n buffer)
  pub end : n ≡ 0 → 0 < length buffer → IsAtEnd has

abbrev pub TakenOnce : {E : Type 0} → Option (List ℕ) → Option (List ℕ) → Result ℕ E → List ℕ → Type 0
TakenOnce had has read buffer = IfOk read (λ n. OneTaken had has buffer n)

-- Reading from an index on: what was in front of it stays. The reader's next bytes, in their order, are behind that; where they do not fill the
-- buffer, the reader has no more. So no part of an input is taken for the input.
pub record AllTaken (had has : Option (List ℕ)) (lent buffer : List ℕ) (at n : ℕ) : Type 0 where
  pub after : at ≤ n
  pub front : take at buffer ≡ take at lent
  pub taken : Consumes had has (drop at (take n buffer))
  pub end : n < length buffer → IsAtEnd has

abbrev pub TakenFrom : {E : Type 0} → Option (List ℕ) → Option (List ℕ) → Result ℕ E → List ℕ → List ℕ → ℕ → Type 0
TakenFrom had has read lent buffer at = IfOk read (λ n. AllTaken had has lent buffer at n)
