-- Examples, computed.
-- A result of two numbers, and a refusal, with outputs of none to three numbers. proofs/AllExamples.antt computes them.
use Rattle.std.specs.Prelude.{ℕ, List, [], ◌∷◌}
use Rattle.lists.specs.Lists.{Res, ok, refused}
use Rattle.replies.specs.declared.reply.Reply.{Reply}
use Rattle.replies.specs.Replies.{refusal, result}
use Rattle.replies.specs.Results.{Result}

abbrev pub outputs : List (List ℕ)
outputs = [] ∷ (9 ∷ []) ∷ (9 ∷ 9 ∷ []) ∷ (9 ∷ 9 ∷ 9 ∷ []) ∷ []

abbrev pub two : Res Result
two = ok (record { a = 5; b = 6; c = 7; written = 1 ∷ 2 ∷ [] })

-- "output can't hold the whole": 20; "Numbers 17–20 have line 0"
abbrev pub two_replies : List Reply
two_replies = refusal 20 0 ∷ refusal 20 0 ∷ result 5 6 7 ∷ result 5 6 7 ∷ []

-- "Bytes past a written result keep their contents"
abbrev pub two_outputs : List (List ℕ)
two_outputs = [] ∷ (9 ∷ []) ∷ (1 ∷ 2 ∷ []) ∷ (1 ∷ 2 ∷ 9 ∷ []) ∷ []

-- 20 comes after all other refusals; "a refusal leaves all lent memory as lent"
abbrev pub no : Res Result
no = refused 14 3

abbrev pub no_replies : List Reply
no_replies = refusal 14 3 ∷ refusal 14 3 ∷ refusal 14 3 ∷ refusal 14 3 ∷ []
