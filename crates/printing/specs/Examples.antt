-- Examples, computed.
-- Replies and the lines that document 01 gives for them, and numbers in decimal. proofs/AllExamples.antt computes them.
use Rattle.std.specs.Prelude.{ℕ, List, [], ◌∷◌, ◌++◌, map}
use Rattle.lists.specs.Lists.{bytes}
use Rattle.replies.specs.Replies.{refusal, result}
use Rattle.printing.specs.Printed.{printed}

-- "prints `ok 1 0 0` (records, groups, drugs) and 0Ah; a refusal prints `no`, number, line"; "Number 1 comes first, with line 0"; "capacity 69
-- gives 6 pieces, 404 bytes"; "50 gives 18"; "Numbers 17–20 have line 0".
abbrev pub lines : List (List ℕ)
lines =
    printed 3 (result 1 0 0)
    ∷ printed 3 (refusal 14 3)
    ∷ printed 3 (refusal 1 0)
    ∷ printed 1 (result 21 0 0)
    ∷ printed 2 (result 6 404 0)
    ∷ printed 2 (refusal 18 0)
    ∷ printed 1 (result 65536 0 0)
    ∷ printed 1 (refusal 13 7001)
    ∷ []

abbrev pub their_lines : List (List ℕ)
their_lines =
    map (λ (text : List ℕ). text ++ (0x0a ∷ []))
    (bytes "ok 1 0 0" ∷ bytes "no 14 3" ∷ bytes "no 1 0" ∷ bytes "ok 21" ∷ bytes "ok 6 404" ∷ bytes "no 18 0" ∷ bytes "ok 65536"
    ∷ bytes "no 13 7001" ∷ [])

abbrev pub values : List ℕ
values = 0 ∷ 9 ∷ 10 ∷ 99 ∷ 100 ∷ 65536 ∷ 18446744073709551615 ∷ []

abbrev pub their_digits : List (List ℕ)
their_digits = bytes "0" ∷ bytes "9" ∷ bytes "10" ∷ bytes "99" ∷ bytes "100" ∷ bytes "65536" ∷ bytes "18446744073709551615" ∷ []
