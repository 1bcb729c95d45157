-- Vocabulary of the code.
-- What writing does to the bytes that a writer holds, for a writer whose bytes are known.
use Rattle.std.specs.Prelude.{ℕ, List, take, Option, Result, OnOk}
use Rattle.std.specs.Io.KnownBytes.{Appends}

-- a front of the bytes was written, and no other byte
abbrev pub WrittenInPart : Option (List ℕ) → Option (List ℕ) → List ℕ → Type 0
WrittenInPart had has written = (n : ℕ) × Appends had has (take n written)

-- all of them, where writing succeeded
pub record Written {A E : Type 0} (answer : Result A E) (had has : Option (List ℕ)) (written : List ℕ) : Type 0 where
  pub whole : OnOk answer (Appends had has written)
  pub part : WrittenInPart had has written
