-- Promises, to be believed.
-- DEMAND 1, as statements about the definitions that the contracts of the exported calls cite: "The answer to every input, of any length and content,
-- is a result or one refusal from document 01 with its line. It always comes, and a refusal leaves all lent memory as lent." One statement for all
-- calls: `AlwaysAnswered`, `RefusalKeeps`, `ZeroIsAResult`, `LargeFirst`. proofs/Promises.antt proves each.
use Rattle.std.specs.Prelude.{ℕ, ◌+◌, ◌≤◌, ◌<◌, ◌≡◌, true, false, cond, ◌&&◌, List, [], ◌∷◌, ◌++◌, eqb, length}
use Rattle.lists.specs.Lists.{Res, member}
use Rattle.replies.specs.declared.reply.Reply.{Reply}
use Rattle.replies.specs.Replies.{refusal, result}
use Rattle.replies.specs.Results.{Result, reply_to, output_of}
use Rattle.notebook.specs.Check.{check_result}
use Rattle.notebook.specs.Index.{index_result}
use Rattle.notebook.specs.Canonical.{canonical_result}
use Rattle.division.specs.Cut.{cut_result}
use Rattle.division.specs.Join.{join_result}

-- ---- the five calls and their inputs; out: the buffer at entry

pub data Call : Type 0 where
  check : (file : List ℕ) → Call
  index : (file out : List ℕ) → Call
  canonical : (file out : List ℕ) → Call
  cut : (file : List ℕ) (capacity : ℕ) (id used out : List ℕ) → Call
  join : (pieces out : List ℕ) → Call

-- ---- the numbers that a call gives

-- 1 to 16 of the table
abbrev pub check_numbers : List ℕ
check_numbers = 1 ∷ 2 ∷ 3 ∷ 4 ∷ 5 ∷ 6 ∷ 7 ∷ 8 ∷ 9 ∷ 10 ∷ 11 ∷ 12 ∷ 13 ∷ 14 ∷ 15 ∷ 16 ∷ []

-- "Index and canonical: 1–16, then 20"
abbrev pub writing_numbers : List ℕ
writing_numbers = check_numbers ++ 20 ∷ []

-- "Cutting: 1–16, 17, 18, 20"; document 02 (vii): 24 "after 17 and before 18"
abbrev pub cut_numbers : List ℕ
cut_numbers = check_numbers ++ 17 ∷ 24 ∷ 18 ∷ 20 ∷ []

-- "Joining: 1 and 2 on the input, 19, then 1–16 on the joined file, then 20". The joined file begins with a line 1 and is "without 911", so that it
-- never has 3 or 6.
abbrev pub join_numbers : List ℕ
join_numbers = 1 ∷ 2 ∷ 4 ∷ 5 ∷ 7 ∷ 8 ∷ 9 ∷ 10 ∷ 11 ∷ 12 ∷ 13 ∷ 14 ∷ 15 ∷ 16 ∷ 19 ∷ 20 ∷ []

-- ---- what is said of the calls, a row a call

-- what it has to give; the lent buffer at entry; the bytes whose lines are counted: the file, or the pieces as given; the numbers that it gives; how many of
-- these bytes it takes
pub record About : Type 0 where
  pub result : Res Result
  pub lent : List ℕ
  pub given : List ℕ
  pub numbers : List ℕ
  pub limit : ℕ

-- check is lent no buffer; "A file has at most 65,536 bytes"; "Joining takes such bytes, at most 131,072"
abbrev pub about : Call → About
about (check f) = record { result = check_result f; lent = []; given = f; numbers = check_numbers; limit = 65536 }
about (index f out) = record { result = index_result f; lent = out; given = f; numbers = writing_numbers; limit = 65536 }
about (canonical f out) = record { result = canonical_result f; lent = out; given = f; numbers = writing_numbers; limit = 65536 }
about (cut f c id used out) = record { result = cut_result f c id used; lent = out; given = f; numbers = cut_numbers; limit = 65536 }
about (join s out) = record { result = join_result s; lent = out; given = s; numbers = join_numbers; limit = 131072 }

-- the reply, and the lent buffer at exit, as the contract promises them
abbrev pub replied : Call → Reply
replied x = reply_to (about x).result (about x).lent

abbrev pub left_in : Call → List ℕ
left_in x = output_of (about x).result (about x).lent

-- ---- the lines

-- how often 0Dh 0Ah stand in the bytes
unfoldable pub line_ends : List ℕ → ℕ
line_ends [] = 0
line_ends (a ∷ []) = 0
line_ends (a ∷ b ∷ s) = cond (eqb a 0x0d && eqb b 0x0a) 1 0 + line_ends (b ∷ s)

-- "Number 1 comes first, with line 0"; "Numbers 17–20 have line 0"; document 02 (vii): "(24 used: .. line 0 ..)"
abbrev pub lineless : List ℕ
lineless = 1 ∷ 17 ∷ 18 ∷ 19 ∷ 20 ∷ 24 ∷ []

-- "A line's number is one more than the line ends before it; empty input has line 1. Number 14 at the end has the line count plus 1."
pub record AtLine (s : List ℕ) (line : ℕ) : Type 0 where
  pub from : 1 ≤ line
  pub to : line ≤ line_ends s + 1

-- ---- a result, or one refusal with its line

-- the refusal n with this line, for the bytes s: n is one of the numbers and never 0, and its line is 0 or a line of s
pub record Given (numbers s : List ℕ) (n line : ℕ) : Type 0 where
  pub listed : member numbers n ≡ true
  pub positive : 0 < n
  pub without : member lineless n ≡ true → line ≡ 0
  pub at : member lineless n ≡ false → AtLine s line

-- a result has refusal 0 and line 0, a refusal has 0 for each value (replies, specs/Replies.antt)
pub data IsAnswer (numbers s : List ℕ) : Reply → Type 0 where
  gives : {a b c : ℕ} → IsAnswer numbers s (result a b c)
  refuses : {n line : ℕ} → Given numbers s n line → IsAnswer numbers s (refusal n line)

-- "The answer to every input, of any length and content, is a result or one refusal from document 01 with its line. It always comes": the functions of
-- `gateway` are proved to end, for any input, with this reply
abbrev pub AlwaysAnswered : Type 0
AlwaysAnswered = (x : Call) → IsAnswer (about x).numbers (about x).given (replied x)

-- "a refusal leaves all lent memory as lent"
abbrev pub RefusalKeeps : Type 0
RefusalKeeps = (x : Call) → ((replied x).refusal ≡ 0 → ⊥) → left_in x ≡ (about x).lent

-- no refusal has the number 0: a reply with refusal 0 is a result
pub record IsResult (r : Reply) : Type 0 where
  pub a : ℕ
  pub b : ℕ
  pub c : ℕ
  pub is : r ≡ result a b c

abbrev pub ZeroIsAResult : Type 0
ZeroIsAResult = (x : Call) → (replied x).refusal ≡ 0 → IsResult (replied x)

-- ---- "Number 1 comes first, with line 0"

abbrev pub LargeFirst : Type 0
LargeFirst = (x : Call) → (about x).limit < length (about x).given → replied x ≡ refusal 1 0
