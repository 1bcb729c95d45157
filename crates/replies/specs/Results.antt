-- Definitions, to be believed.
-- What every call makes of its result: its answer and its reply, and its output at exit. A call's own definition says only what it has to give,
-- as `Res Result`: notebook, specs/Check.antt, Index.antt, Canonical.antt; division, specs/Cut.antt, Join.antt.
use Rattle.std.specs.Prelude.{ℕ, Bool, cond, List, ◌++◌, leb, length, drop}
use Rattle.lists.specs.Lists.{Res, ok, refused}
use Rattle.replies.specs.Replies.{Answer}
use Rattle.replies.specs.Replies.{Done, Refused}
use Rattle.replies.specs.declared.reply.Reply.{Reply}
use Rattle.replies.specs.Replies.{reply_of}

-- what a call has to give: the values of its reply, and what it writes (bytes; index: numbers)
pub record Result : Type 0 where
  pub a : ℕ
  pub b : ℕ
  pub c : ℕ
  pub written : List ℕ

-- "canonical and join the bytes written": a bytes
abbrev pub writes : List ℕ → Result
writes w = record { a = length w; b = 0; c = 0; written = w }

-- "output can't hold the whole" is 20, after all other refusals; "Numbers 17–20 have line 0". fits: the output can hold the result
abbrev pub held : {R : Type 0} → (R → Bool) → Res R → Res R
held fits (ok r) = cond (fits r) (ok r) (refused 20 0)
held fits (refused n line) = refused n line

-- the output at exit: "Bytes past a written result keep their contents"; "a refusal leaves all lent memory as lent"
abbrev pub at_exit : {R A : Type 0} → (R → List A) → Res R → List A → List A
at_exit written (ok r) d = written r ++ drop (length (written r)) d
at_exit written (refused n line) d = d

abbrev pub answer_of : Res Result → Answer
answer_of (ok r) = Done r.a r.b r.c
answer_of (refused n line) = Refused n line

-- ---- x: what a call has to give; d: its output at entry

abbrev pub fitting : Res Result → List ℕ → Res Result
fitting x d = held (λ (r : Result). leb (length r.written) (length d)) x

unfoldable pub answer_in : Res Result → List ℕ → Answer
answer_in x d = answer_of (fitting x d)

abbrev pub reply_to : Res Result → List ℕ → Reply
reply_to x d = reply_of (answer_in x d)

unfoldable pub output_of : Res Result → List ℕ → List ℕ
output_of x d = at_exit (λ (r : Result). r.written) (fitting x d) d
