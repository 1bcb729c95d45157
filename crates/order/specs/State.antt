-- Definitions, to be believed.
-- The pattern state of document 01, "Each record moves the reader from one place of this pattern to the next": the state before the first
-- record, the state after one more, and a step.
--
-- What it speaks of are structs of src/lib.rt:
-- `Facts`, what the rules look at in a record: its `number`; `rp`, the first item of a 201 to 391; `day`, a 5's day as the number YYYYMMDD;
-- `schedule`, an 11's fee schedule (third item); `form`, a 301's form (fifth item); `named`, whether a 301 has a usage name. An empty item is 0,
-- or false, and so is what another record would have.
-- `Had`, what the last group has had, which `in_group` tells to be open: `had11`, `had51`, `had411`, whether these records; `schedule`, its 11's fee schedule; `rp`, the open RP's value,
-- which is also the count of RPs; `had301`, whether that RP its 301; `doctor` and `drug`, the lines of the last 55 and 201. 0 where there is none.
-- `State`, where the reader is: `provider`, whether the direction is 1; `place`, the number of the last record, and `line`, its line; `groups` and
-- `drugs`, how many 5s and 201s so far; `day`, the last 5's; `had`, of the open group.
use Rattle.std.specs.Prelude.{ℕ, ◌+◌, Bool, true, false, cond, [], ◌∷◌, eqb}
use Rattle.lists.specs.Lists.{member}
use Rattle.order.specs.declared.Had.{Had}
use Rattle.order.specs.declared.State.{State}
use Rattle.order.specs.declared.Facts.{Facts}
use Rattle.rules.specs.Places.{in_rp, in_group}
use Rattle.order.specs.Questions.{before_of, asked_of}
use Rattle.rules.specs.Rules.{order_refusal, unfinished}

-- a group that has had its 5 only
unfoldable pub nothing_yet : Had
nothing_yet = record { had11 = false; schedule = 0; had51 = false; had411 = false; rp = 0; had301 = false; doctor = 0; drug = 0 }

-- before the first record: line 1 is read
unfoldable pub start : Bool → State
start provider = record { provider = provider; place = 0; line = 1; groups = 0; drugs = 0; day = 0; had = nothing_yet }

-- What the open group has had after a record at this line: a 5 begins a group, so that nothing reaches into it from the group before; a
-- 201 has no 301 after it yet.
unfoldable pub had_after : Had → Facts → ℕ → Had
had_after h r line = record {
  had11 = cond (eqb r.number 5) false (cond (eqb r.number 11) true h.had11);
  schedule = cond (eqb r.number 5) 0 (cond (eqb r.number 11) r.schedule h.schedule);
  had51 = cond (eqb r.number 5) false (cond (eqb r.number 51) true h.had51);
  had411 = cond (eqb r.number 5) false (cond (eqb r.number 411) true h.had411);
  rp = cond (eqb r.number 5) 0 (cond (eqb r.number 201) r.rp h.rp);
  had301 = cond (eqb r.number 5) false (cond (eqb r.number 201) false (cond (eqb r.number 301) true h.had301));
  doctor = cond (eqb r.number 5) 0 (cond (eqb r.number 55) line h.doctor);
  drug = cond (eqb r.number 5) 0 (cond (eqb r.number 201) line h.drug);
}

unfoldable pub advance : State → Facts → State
advance s r = record {
  provider = s.provider;
  place = r.number;
  line = s.line + 1;
  groups = cond (eqb r.number 5) (s.groups + 1) s.groups;
  drugs = cond (eqb r.number 201) (s.drugs + 1) s.drugs;
  day = cond (eqb r.number 5) r.day s.day;
  had = had_after s.had r (s.line + 1);
}

-- ---- a step

-- the lowest refusal of this line, 0 where it is good
unfoldable pub refusal_of : State → Facts → ℕ
refusal_of s r = order_refusal (before_of s) (asked_of s r)

-- the RP of a record 201 to 391, else 0
unfoldable pub rp_of : Facts → ℕ
rp_of r = cond (in_rp r.number) r.rp 0

-- "line of the last preceding 55 in the group for 201–391 (else 0)"; 3.2.9, record 55: the RPs up to the next 55 are of this doctor
unfoldable pub doctor_of : State → Facts → ℕ
doctor_of s r = cond (in_rp r.number) s.had.doctor 0

-- a step: the number of the refusal; or the next state, the RP of the record and the line of its doctor
pub data Step : Type 0 where
  Fault : ℕ → Step
  On : State → ℕ → ℕ → Step

unfoldable pub step_of : State → Facts → Step
step_of s r = cond (eqb (refusal_of s r) 0) (On (advance s r) (rp_of r) (doctor_of s r)) (Fault (refusal_of s r))

-- 14 at the end, or 0
unfoldable pub finish_of : State → ℕ
finish_of s = cond (unfinished (before_of s)) 14 0

-- ---- index values of the last record, from the state after it

-- "group ordinal (0 outside groups; 1 first)"
unfoldable pub group_of : State → ℕ
group_of s = cond (in_group s.place) s.groups 0

-- "line of the last preceding 201 for 281 and 291 (else 0)"
unfoldable pub drug_of : State → ℕ
drug_of s = cond (member (281 ∷ 291 ∷ []) s.place) s.had.drug 0
