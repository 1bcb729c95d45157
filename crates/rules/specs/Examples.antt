-- Examples, computed.
-- Worked examples of one line and of the end, written from document 01: what the reader has seen, the record that comes, and the number of its
-- refusal, 0 where it is good. proofs/AllExamples.antt computes them by the rules. Whole files stand in order, specs/Examples.antt.
use Rattle.std.specs.Prelude.{ℕ, Bool, true, false, not, ◌&&◌, List, [], ◌∷◌, eqb}
use Rattle.std.specs.Bool.{beq}
use Rattle.lists.specs.Lists.{member}
use Rattle.rules.specs.Questions.{Before, Asked}
use Rattle.rules.specs.Rules.{order_refusal, unfinished}

-- ---- what the reader has seen

-- the number of the last record; the fee schedule of the open group's 11, 0 without one; and the numbers that the group has had, 301 only of
-- its open RP. There is no group yet where there is no 5.
abbrev pub seen : Bool → ℕ → ℕ → List ℕ → Before
seen provider place schedule had = record {
  provider = provider;
  place = place;
  no_group = not (member had 5);
  had11 = member had 11;
  dispensing = eqb schedule 4;
  treating = member (1 ∷ 3 ∷ []) schedule;
  had51 = member had 51;
  had411 = member had 411;
  no_rp = not (member had 201);
  had301 = member had 301;
  no_doctor = not (member had 55);
}

-- in direction 1, in direction 2
abbrev pub one : ℕ → ℕ → List ℕ → Before
one = seen true

abbrev pub two : ℕ → ℕ → List ℕ → Before
two = seen false

-- ---- the record that comes

-- a record of which the rules look at the number alone, or one of an RP with a value that is neither the open RP's nor the next
abbrev pub rec : ℕ → Asked
rec n = record { number = n; same = false; next = false; newer = false; named = false; material = false }

-- with the open RP's value
abbrev pub same : ℕ → Asked
same n = record { number = n; same = true; next = false; newer = false; named = false; material = false }

-- a 201 with the next value
abbrev pub next : Asked
next = record { number = 201; same = false; next = true; newer = false; named = false; material = false }

-- a 5 of a newer day than the group before
abbrev pub newer : Asked
newer = record { number = 5; same = false; next = false; newer = true; named = false; material = false }

-- a 301 of the open RP with a usage name; without one, of form 9 or 10 or of another
abbrev pub named : Asked
named = record { number = 301; same = true; next = false; newer = false; named = true; material = false }

abbrev pub unnamed : Bool → Asked
unnamed material = record { number = 301; same = true; next = false; newer = false; named = false; material = material }

-- ---- lines

pub record Line : Type 0 where
  pub before : Before
  pub asked : Asked
  pub number : ℕ

abbrev pub gives : Before → Asked → ℕ → Line
gives b r n = record { before = b; asked = r; number = n }

abbrev pub lines : List Line
lines =
    -- 12: the usage name, in direction 2 always, in direction 1 of a pharmacy but for forms 9 and 10
    gives (two 201 0 (5 ∷ 201 ∷ [])) (unnamed false) 12
    ∷ gives (two 201 0 (5 ∷ 201 ∷ [])) (unnamed true) 12
    ∷ gives (two 201 0 (5 ∷ 201 ∷ [])) named 0
    ∷ gives (one 201 4 (5 ∷ 11 ∷ 51 ∷ 201 ∷ [])) (unnamed false) 12
    ∷ gives (one 201 4 (5 ∷ 11 ∷ 51 ∷ 201 ∷ [])) (unnamed true) 0
    ∷ gives (one 201 1 (5 ∷ 11 ∷ 201 ∷ [])) (unnamed false) 0
    -- the lowest number: 12 before 13
    ∷ gives (two 1 0 []) (unnamed false) 12
    -- 13: the pattern
    ∷ gives (two 1 0 []) (rec 1) 13
    ∷ gives (two 3 0 []) (rec 2) 13
    ∷ gives (two 4 0 []) (rec 11) 13
    ∷ gives (two 15 0 (5 ∷ 15 ∷ [])) (rec 11) 13
    ∷ gives (two 411 0 (5 ∷ 411 ∷ [])) (rec 401) 13
    ∷ gives (two 701 0 (5 ∷ [])) (rec 5) 13
    ∷ gives (two 291 0 (5 ∷ 201 ∷ [])) (same 281) 13
    ∷ gives (two 301 0 (5 ∷ 201 ∷ 301 ∷ [])) named 13
    ∷ gives (two 201 0 (5 ∷ 201 ∷ [])) (same 311) 13
    ∷ gives (two 401 0 (5 ∷ 201 ∷ [])) next 13
    -- 13: a 55 is followed by 201, and stands before the first RP of its group if before any
    ∷ gives (two 55 0 (5 ∷ 55 ∷ [])) (rec 5) 13
    ∷ gives (two 55 0 (5 ∷ 55 ∷ [])) next 0
    ∷ gives (two 201 0 (5 ∷ 201 ∷ [])) (rec 55) 13
    ∷ gives (two 201 0 (5 ∷ 55 ∷ 201 ∷ [])) (rec 55) 0
    -- 13 of direction 1: no 51 or 55 after an 11 with 1 or 3; 55 or 201 after a 51; no 401 without RP
    ∷ gives (one 11 1 (5 ∷ 11 ∷ [])) (rec 51) 13
    ∷ gives (one 11 3 (5 ∷ 11 ∷ [])) (rec 55) 13
    ∷ gives (two 11 1 (5 ∷ 11 ∷ [])) (rec 51) 0
    ∷ gives (one 51 4 (5 ∷ 11 ∷ 51 ∷ [])) (rec 411) 13
    ∷ gives (one 51 4 (5 ∷ 11 ∷ 51 ∷ [])) (rec 55) 0
    ∷ gives (one 51 4 (5 ∷ 11 ∷ 51 ∷ [])) next 0
    ∷ gives (two 51 0 (5 ∷ 51 ∷ [])) (rec 411) 0
    ∷ gives (one 11 1 (5 ∷ 11 ∷ [])) (rec 401) 13
    ∷ gives (two 5 0 (5 ∷ [])) (rec 401) 0
    -- 14: the place of record 1 closes at the first record of another number
    ∷ gives (two 0 0 []) (rec 2) 14
    ∷ gives (two 0 0 []) (rec 1) 0
    ∷ gives (one 0 0 []) (rec 2) 0
    -- 14: an RP without 301 closes at the first record not of it
    ∷ gives (one 201 1 (5 ∷ 11 ∷ 201 ∷ [])) (rec 401) 14
    ∷ gives (one 201 1 (5 ∷ 11 ∷ 201 ∷ [])) next 14
    ∷ gives (one 391 1 (5 ∷ 11 ∷ 201 ∷ [])) next 14
    ∷ gives (one 201 1 (5 ∷ 11 ∷ 201 ∷ [])) (same 201) 0
    ∷ gives (one 201 1 (5 ∷ 11 ∷ 201 ∷ [])) (same 391) 0
    ∷ gives (one 301 1 (5 ∷ 11 ∷ 201 ∷ 301 ∷ [])) (rec 401) 0
    ∷ gives (two 201 0 (5 ∷ 201 ∷ [])) next 0
    -- 14: a group without its 11, its 51, its 411 closes at the next 5 and at a 701
    ∷ gives (one 301 0 (5 ∷ 201 ∷ 301 ∷ [])) (rec 5) 14
    ∷ gives (one 301 0 (5 ∷ 201 ∷ 301 ∷ [])) (rec 701) 14
    ∷ gives (one 301 4 (5 ∷ 11 ∷ 201 ∷ 301 ∷ [])) (rec 5) 14
    ∷ gives (one 301 4 (5 ∷ 11 ∷ 51 ∷ 201 ∷ 301 ∷ [])) (rec 5) 0
    ∷ gives (one 501 1 (5 ∷ 11 ∷ [])) (rec 5) 14
    ∷ gives (one 501 1 (5 ∷ 11 ∷ [])) (rec 701) 14
    ∷ gives (one 501 1 (5 ∷ 11 ∷ 411 ∷ [])) (rec 5) 0
    -- 14: the groups close at a 701
    ∷ gives (one 4 0 []) (rec 701) 14
    ∷ gives (two 4 0 []) (rec 701) 0
    -- 15: the first RP has value 1, each next one more; a 201 after a 301 or 391 begins an RP
    ∷ gives (two 5 0 (5 ∷ [])) (rec 201) 15
    ∷ gives (two 5 0 (5 ∷ [])) next 0
    ∷ gives (two 201 0 (5 ∷ 201 ∷ [])) (rec 201) 15
    ∷ gives (two 301 0 (5 ∷ 201 ∷ 301 ∷ [])) (same 201) 15
    ∷ gives (two 391 0 (5 ∷ 201 ∷ [])) (same 201) 15
    ∷ gives (two 201 0 (5 ∷ 201 ∷ [])) (rec 281) 15
    ∷ gives (two 201 0 (5 ∷ 201 ∷ [])) (same 281) 0
    -- 16: the group before it is older
    ∷ gives (two 601 0 (5 ∷ [])) newer 16
    ∷ gives (two 601 0 (5 ∷ [])) (rec 5) 0
    ∷ gives (two 1 0 []) newer 0
    ∷ []

abbrev pub lines_hold : List Line → Bool
lines_hold [] = true
lines_hold (l ∷ ls) = eqb (order_refusal l.before l.asked) l.number && lines_hold ls

-- ---- the end: what the reader has seen there, and whether it is 14

abbrev pub ends : List (Before × Bool)
ends =
    (two 55 0 (5 ∷ 55 ∷ []), true)
    ∷ (one 51 4 (5 ∷ 11 ∷ 51 ∷ []), true)
    ∷ (two 51 0 (5 ∷ 51 ∷ []), false)
    ∷ (two 0 0 [], true)
    ∷ (two 1 0 [], false)
    ∷ (one 4 0 [], true)
    ∷ (one 201 1 (5 ∷ 11 ∷ 201 ∷ []), true)
    ∷ (one 301 1 (5 ∷ 11 ∷ 201 ∷ 301 ∷ []), false)
    ∷ (one 301 0 (5 ∷ 201 ∷ 301 ∷ []), true)
    ∷ (one 301 4 (5 ∷ 11 ∷ 201 ∷ 301 ∷ []), true)
    ∷ (one 501 1 (5 ∷ 11 ∷ []), true)
    ∷ (one 411 1 (5 ∷ 11 ∷ 411 ∷ []), false)
    ∷ (one 701 1 (5 ∷ 11 ∷ 411 ∷ []), false)
    ∷ []

abbrev pub ends_hold : List (Before × Bool) → Bool
ends_hold [] = true
ends_hold (e ∷ es) = beq (unfinished e.0) e.1 && ends_hold es
