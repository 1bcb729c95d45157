-- Vocabulary of the code.
-- A walk over the records of a file, as the code takes it: the counts so far, and what a step may rely on.
use Rattle.std.specs.Prelude.{ℕ, ◌+◌, ◌-◌, ◌≤◌, List, length}
use Rattle.lists.specs.Lists.{Res, ok, refused}
use Rattle.records.specs.Records.{Record}
use Rattle.order.specs.declared.State.{State}
use Rattle.order.specs.Room.{Room}
use Rattle.replies.specs.Replies.{Answer}
use Rattle.replies.specs.Replies.{Done, Refused}
use Rattle.notebook.specs.Check.{count}

-- the counts of a state, and those of the records that follow
abbrev pub tally : State → Res (List Record) → Answer
tally st (ok rs) = Done (st.line - 1 + length rs) (st.groups + count 5 rs) (st.drugs + count 201 rs)
tally st (refused n line) = Refused n line

-- a state at a position of a file within the limit: its line is no further than the position, and one more record can be counted
pub record Midway (s : List ℕ) (st : State) (at : ℕ) : Type 0 where
  pub room : Room st
  pub low : 1 ≤ st.line
  pub line : st.line ≤ at
  pub high : at ≤ length s
  pub small : length s ≤ 65536

-- a state in a file within the limit
pub record Closing (st : State) : Type 0 where
  pub low : 1 ≤ st.line
  pub small : st.line ≤ 65536
