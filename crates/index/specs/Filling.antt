-- Vocabulary of the code.
-- What the writing of the index asks of a line, what a batch of records leaves in its array, and what is known midway in a file.
use Rattle.std.specs.Prelude.{ℕ, ◌+◌, ◌*◌, ◌-◌, ◌≤◌, ◌<◌, ◌≡◌, List, [], ◌++◌, Result, Ok, Err, length, take, drop}
use Rattle.std.proofs.lemmas.List.Edits.{sets}
use Rattle.characters.specs.Rows.{rows}
use Rattle.order.specs.declared.State.{State}
use Rattle.replies.specs.declared.refusal.Refused.{Refused as RefusedAtLine}
use Rattle.replies.specs.declared.reply.Values.{Values}
use Rattle.replies.specs.Refusals.{number_of}
use Rattle.replies.specs.Replies.{Answer, Done, Refused}
use Rattle.replies.specs.Results.{answer_in}
use Rattle.notebook.specs.Notebook.{records_from}
use Rattle.notebook.specs.Check.{check_result}
use Rattle.notebook.specs.Index.{entries_from, listed_from, numbers, numbers_of, index_result}
use Rattle.checking.specs.Walking.{tally, Midway}
use Rattle.index.specs.declared.Reader.{Reader}
use Rattle.index.specs.declared.Batch.{Batch}
use Rattle.index.specs.declared.Batch.TheVariants.{Full, Last}

-- a line of a file within the limit
pub record Spanned (at end : ℕ) : Type 0 where
  pub low : at ≤ end
  pub small : end ≤ 65536

-- ---- from where a call begins to read: the state st, the position at, and the line of the group's 51

-- what check answers
abbrev pub answer_at : List ℕ → State → ℕ → Answer
answer_at s st at = tally st (records_from st (rows (drop at s)))

-- the numbers of the records
abbrev pub numbers_at : List ℕ → State → ℕ → ℕ → List ℕ
numbers_at s st at clinic = numbers (listed_from (st.line + 1) clinic (entries_from st at (rows (drop at s))))

pub record MidwayIn (s : List ℕ) (r : Reader) : Type 0 where
  pub is : Midway s r.st r.at

-- ---- a batch

-- 64 records, whose entries fill the array
pub record FullOf (s : List ℕ) (from : Reader) (entries : List ℕ) (after : Reader) : Type 0 where
  pub answer : answer_at s from.st from.at ≡ answer_at s after.st after.at
  pub list : numbers_at s from.st from.at from.clinic ≡ entries ++ numbers_at s after.st after.at after.clinic
  pub midway : Midway s after.st after.at
  pub lines : after.st.line ≡ from.st.line + 64
  pub less : from.at < after.at

-- the last records; `&entries[..n]` is read as `take n entries`
pub record LastOf (s : List ℕ) (from : Reader) (entries : List ℕ) (counts : Values) (n : ℕ) : Type 0 where
  pub answer : Done counts.a counts.b counts.c ≡ answer_at s from.st from.at
  pub list : take n entries ≡ numbers_at s from.st from.at from.clinic
  pub high : n ≤ 448

abbrev pub BatchMeans : List ℕ → Reader → List ℕ → Result Batch RefusedAtLine → Type 0
BatchMeans s from entries (Ok (Full after)) = FullOf s from entries after
BatchMeans s from entries (Ok (Last counts n)) = LastOf s from entries counts n
BatchMeans s from entries (Err r) = Refused (number_of r.refusal) r.line ≡ answer_at s from.st from.at

pub record BatchOf (s : List ℕ) (from : Reader) (entries : List ℕ) (r : Result Batch RefusedAtLine) : Type 0 where
  pub means : BatchMeans s from entries r
  pub size : length entries ≡ 448

-- ---- midway in a file: what is left gives the answer of the whole and the end of its index

pub record Onward (s : List ℕ) (from : Reader) : Type 0 where
  pub checked : answer_in (check_result s) [] ≡ answer_at s from.st from.at
  pub before : List ℕ
  pub listed : numbers_of s ≡ before ++ numbers_at s from.st from.at from.clinic
  pub count : length before ≡ (from.st.line - 1) * 7
  pub midway : Midway s from.st from.at

-- the output became d': the entries from here on, after those of the records before; or nothing is written
abbrev pub ExitMeans : List ℕ → Reader → List ℕ → List ℕ → Answer → Type 0
ExitMeans s from d d' (Done n g x) = d' ≡ sets d ((from.st.line - 1) * 7) (numbers_at s from.st from.at from.clinic)
ExitMeans s from d d' (Refused n line) = d' ≡ d

pub record Exit (s : List ℕ) (from : Reader) (d d' : List ℕ) (r : Answer) : Type 0 where
  pub answer : r ≡ answer_in (index_result s) d
  pub output : ExitMeans s from d d' r
  pub size : length d' ≡ length d
