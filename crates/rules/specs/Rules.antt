-- Definitions, to be believed.
-- The refusals 12 to 16 of one line, and what is missing at the end (14), with document 01's sentences; clauses are of 15-106.
use Rattle.std.specs.Prelude.{ℕ, Bool, not, cond, ◌&&◌, ◌||◌, [], ◌∷◌, eqb}
use Rattle.lists.specs.Lists.{member}
use Rattle.rules.specs.Places.{in_drugs, in_rp, in_group, of_open_rp, may_follow}
use Rattle.rules.specs.Questions.{Before, Asked}

-- ---- 12 pair

-- "The usage name (second item) stands in direction 2 always, and in direction 1 when the open group has had an 11 with 4 and the form
-- isn't 9 or 10." Where it isn't asked for it is free. 3.2.9, record 301: required of pharmacies but for material and other.
unfoldable pub pair_broken : Before → Asked → Bool
pair_broken b r =
    eqb r.number 301 && not r.named && (not b.provider || in_group b.place && b.dispensing && not r.material)

-- ---- 13 place

-- The pattern, and:
-- "Prescriptions are all without doctors, or the first is preceded by 55": no 55 after an RP without doctor (3.2.7; 3.2.8 note 3);
-- "after an 11 with 1 or 3, no 51 or 55" (3.2.8 note 1: only where a pharmacy dispensed);
-- "a 51 is followed by 55 or 201" (3.2.8 note 2: no 51 where nothing is dispensed);
-- "a group without RP has .. no 401" (3.2.10, information without dispensing: 51 to 401 can't stand).
unfoldable pub misplaced : Before → Asked → Bool
misplaced b r =
    not (may_follow b.place r.number)
    || eqb r.number 55 && in_rp b.place && b.no_doctor
    || b.provider && member (51 ∷ 55 ∷ []) r.number && b.treating
    || b.provider && eqb b.place 51 && not (member (55 ∷ 201 ∷ []) r.number)
    || b.provider && eqb r.number 401 && b.no_rp

-- ---- 14 missing

-- "A 201 with another value than the open RP begins a new RP; so does any 201 after a 301 or 391." So a 201 is of the open RP if no 301,
-- 311, 391 or 55 stands between and it has the same value. 15-106 3.2.7: an RP is its drugs, then a 301 with its 311s, then 391s; 3.2.10: all
-- 201s with one RP number have the 301 with that number.
unfoldable pub continues : Before → Asked → Bool
continues b r = eqb r.number 201 && in_drugs b.place && r.same

-- an RP closes "at the first record not of it". 3.2.7: one RP after another, then 401 to 601 or, with pattern 1, the next 55.
unfoldable pub closes_rp : Before → Asked → Bool
closes_rp b r = in_rp b.place && not (of_open_rp r.number) && not (continues b r)

-- Direction 1: "each has 11" (3.2.8); "a group with an RP and an 11 with 4 has 51" (3.2.8 note 1); "a group without RP has a 411" (3.2.10: without
-- dispensing the information is recorded there; 3.2.8 alone lets a 411 be left out)
unfoldable pub lacking : Before → Bool
lacking b = not b.had11 || not b.no_rp && b.dispensing && not b.had51 || b.no_rp && not b.had411

-- "a record required in the part that this line .. closes":
-- "Direction 2: record 1 stands", its place closes "at the first record of another number" (3.2.8);
-- "each RP has 301" (3.2.8); a group "closes at the next 5, a 701 or the end"; "at least one group", which close "at a 701 or the end".
unfoldable pub missing : Before → Asked → Bool
missing b r =
    not b.provider && eqb b.place 0 && not (eqb r.number 1)
    || b.provider && closes_rp b r && not b.had301
    || b.provider && member (5 ∷ 701 ∷ []) r.number && in_group b.place && lacking b
    || b.provider && eqb r.number 701 && b.no_group

-- ---- 15 RP

-- "The first items of one RP have one value: 1 in a group's first RP, one more in each next." 3.2.9, records 281 to 391: the RP number of
-- their 201; 3.2.10, RP numbers: from 1 in order.
unfoldable pub value_wrong : Before → Asked → Bool
value_wrong b r = eqb r.number 201 && not (continues b r) && not r.next || of_open_rp r.number && not r.same

-- ---- 16 date order

-- "No group is newer than the one before it; equal days are good." 3.2.7 note 1: from new to old.
unfoldable pub newer_group : Before → Asked → Bool
newer_group b r = eqb r.number 5 && not b.no_group && r.newer

-- ---- one line, and the end

-- "within it the lowest number"; 0 where the line is good
unfoldable pub order_refusal : Before → Asked → ℕ
order_refusal b r =
    cond
    (pair_broken b r)
    12
    (cond (misplaced b r) 13 (cond (missing b r) 14 (cond (value_wrong b r) 15 (cond (newer_group b r) 16 0))))

-- 14 at the end: "a 55, or in direction 1 a 51, at the end" (3.2.7: RPs stand under a 55; 3.2.8 note 2: 51 and 55 only where something is dispensed),
-- and what the parts that the end closes lack (3.2.8, required output: in direction 2 a 1, in direction 1 a 5, 11, 51 and 301)
unfoldable pub unfinished : Before → Bool
unfinished b =
    eqb b.place 55
    || not b.provider && eqb b.place 0
    || b.provider && eqb b.place 51
    || b.provider && b.no_group
    || b.provider && in_rp b.place && not b.had301
    || b.provider && in_group b.place && lacking b
