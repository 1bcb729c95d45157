-- Definitions, to be believed.
-- The reply to an answer, in document 01's numbers: the refusal and its line, or 0 and the values of the call's result. Fields that a
-- reply does not use are 0.
use Rattle.std.specs.Prelude.{ℕ}
use Rattle.replies.specs.declared.reply.Reply.{Reply}

-- the values of a call's result; or a refusal's number and line
pub data Answer : Type 0 where
  Done : ℕ → ℕ → ℕ → Answer
  Refused : ℕ → ℕ → Answer

abbrev pub refusal : ℕ → ℕ → Reply
refusal n line = record { refusal = n; line = line; a = 0; b = 0; c = 0 }

-- refusal 0: accepted
abbrev pub result : ℕ → ℕ → ℕ → Reply
result a b c = record { refusal = 0; line = 0; a = a; b = b; c = c }

abbrev pub reply_of : Answer → Reply
reply_of (Done a b c) = result a b c
reply_of (Refused n line) = refusal n line
