-- Vocabulary of the code.
use Rattle.std.specs.Prelude.{ℕ, List, Result, IfOk}
use Rattle.inputs.specs.Counts.{IsPrefixLen}

-- the bytes that were read are at the buffer's front; of a failure nothing is said
abbrev pub AtFront : {E : Type 0} → Result ℕ E → List ℕ → Type 0
AtFront read buffer = IfOk read (λ n. IsPrefixLen n buffer)
