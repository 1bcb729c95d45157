-- Examples, computed.
-- Inputs whose refusal and line reach the ends of the claim, written from document 01: for each call an input for every number that it gives but 1
-- (which is `LargeFirst`), with its line and the line ends of the bytes given. proofs/AllExamples.antt computes them.
use Rattle.std.specs.Prelude.{ℕ, Bool, true, ◌&&◌, ◌||◌, List, [], ◌∷◌, ◌++◌, eqb}
use Rattle.lists.specs.Lists.{bytes, all, member}
use Rattle.characters.specs.Rows.{end_mark}
use Rattle.notebook.specs.Samples.{small_file}
use Rattle.division.specs.Examples.{lines, ident}
use Rattle.refusals.specs.Refusals.{Call, check, index, canonical, cut, join, about, replied, line_ends, check_numbers, writing_numbers, cut_numbers, join_numbers}

-- ---- files, with the refusal that they have in every call

pub record Faulty : Type 0 where
  pub file : List ℕ
  pub number : ℕ
  pub line : ℕ
  -- how often 0Dh 0Ah stand in it
  pub ends : ℕ

abbrev pub faulty : List ℕ → ℕ → ℕ → ℕ → Faulty
faulty s n line ends = record { file = s; number = n; line = line; ends = ends }

-- line 1 and these lines
abbrev pub behind1 : List (List ℕ) → List ℕ
behind1 ls = lines (bytes "JAHISTC04,2" ∷ ls)

-- a good record 1
abbrev pub patient : List ℕ
patient = bytes "1,A,1,19890108,,,,,,,"

-- joining says 19 of these: no piece begins, or a 911 that is in no set
abbrev pub only_files : List Faulty
only_files =
    -- "line 1 is another"
    faulty (lines (bytes "JAHISTC05,2" ∷ [])) 3 1 1
    -- "911 in a whole file"
    ∷ faulty (behind1 (patient ∷ bytes "911" ∷ [])) 6 3 3
    ∷ []

abbrev pub any_files : List Faulty
any_files =
    -- "empty input, or 1Ah alone"; "empty input has line 1"
    faulty [] 2 1 0
    ∷ faulty end_mark 2 1 0
    -- "rule of line ends broken": the last line has no line end, or half of one
    ∷ faulty (behind1 (patient ∷ []) ++ bytes "4,x,,2") 2 3 2
    ∷ faulty (behind1 [] ++ 0x0d ∷ []) 2 2 1
    ∷ faulty (bytes "JAHISTC04,2" ++ 0x0a ∷ []) 2 1 0
    -- "a byte or pair that isn't a character as above"
    ∷ faulty (behind1 ((0x80 ∷ []) ∷ [])) 4 2 2
    -- "number not spelled as listed"
    ∷ faulty (behind1 (bytes "6" ∷ [])) 5 2 2
    -- "wrong number of items"
    ∷ faulty (behind1 (bytes "1,A" ∷ [])) 7 2 2
    -- "required item empty"
    ∷ faulty (behind1 (bytes "1,,1,19890108,,,,,,," ∷ [])) 8 2 2
    -- "over its bytes": 41 of 40
    ∷ faulty (behind1 (bytes "1,AAAAAAAAAABBBBBBBBBBCCCCCCCCCCDDDDDDDDDDE,1,19890108,,,,,,," ∷ [])) 9 2 2
    -- "item begins or ends with 20h"
    ∷ faulty (behind1 (bytes "1, A,1,19890108,,,,,,," ∷ [])) 10 2 2
    -- "kind broken"
    ∷ faulty (behind1 (bytes "1,A,3,19890108,,,,,,," ∷ [])) 11 2 2
    -- "pairs broken": a code without its kind
    ∷ faulty (behind1 (patient ∷ bytes "5,20160411,1" ∷ bytes "201,1,x,1,y,,123,1" ∷ [])) 12 4 4
    -- "record can't stand here": a second 1
    ∷ faulty (behind1 (patient ∷ patient ∷ [])) 13 3 3
    -- "Number 14 at the end has the line count plus 1."
    ∷ faulty (behind1 []) 14 2 1
    ∷ faulty (behind1 [] ++ end_mark) 14 2 1
    -- "value wrong": 2 in the first RP
    ∷ faulty (behind1 (patient ∷ bytes "5,20160411,1" ∷ bytes "201,2,x,1,y,1,,1" ∷ [])) 15 4 4
    -- "newer group"
    ∷ faulty (behind1 (patient ∷ bytes "5,20160411,1" ∷ bytes "5,20160412,1" ∷ [])) 16 4 4
    ∷ []

-- ---- calls

pub record Example : Type 0 where
  pub call : Call
  pub number : ℕ
  pub line : ℕ
  pub ends : ℕ

abbrev pub says : Call → ℕ → ℕ → ℕ → Example
says x n line ends = record { call = x; number = n; line = line; ends = ends }

-- the files in a call
abbrev pub each : (List ℕ → Call) → List Faulty → List Example
each call [] = []
each call (f ∷ fs) = says (call f.file) f.number f.line f.ends ∷ each call fs

-- a buffer with no room comes last: "then 20"
abbrev pub checks : List Example
checks = each check (only_files ++ any_files)

abbrev pub indexes : List Example
indexes = says (index small_file []) 20 0 2 ∷ each (λ f. index f []) (only_files ++ any_files)

abbrev pub canonicals : List Example
canonicals = says (canonical small_file []) 20 0 2 ∷ each (λ f. canonical f []) (only_files ++ any_files)

-- "Cutting: 1–16, 17, 18, 20", and 24 "after 17 and before 18": an ID that is no ID, a run of one byte, a capacity that holds no record, no room
abbrev pub cuts : List Example
cuts =
    says (cut small_file 0 [] (bytes "2") []) 17 0 2
    ∷ says (cut small_file 0 ident (bytes "2") []) 24 0 2
    ∷ says (cut small_file 0 ident ident []) 24 0 2
    ∷ says (cut small_file 0 ident [] []) 18 0 2
    ∷ says (cut small_file 35 ident [] []) 20 0 2
    ∷ each (λ f. cut f 0 [] (bytes "2") []) (only_files ++ any_files)

-- the second piece of two
abbrev pub second : List ℕ
second = behind1 (bytes "4,x,,2" ∷ bytes "911,20261115000001,2,2" ∷ [])

abbrev pub joins : List Example
joins =
    -- "a line stands before the first", "pieces aren't as above"
    says (join (lines (bytes "JAHISTC05,2" ∷ [])) []) 19 0 1
    ∷ says (join (behind1 (patient ∷ bytes "911" ∷ [])) []) 19 0 3
    ∷ says (join second []) 19 0 3
    -- 2 comes before 19, with the line of the input
    ∷ says (join (second ++ bytes "4") []) 2 4 3
    ∷ says (join (second ++ end_mark ++ second ++ end_mark ++ bytes "4") []) 2 7 6
    ∷ says (join small_file []) 20 0 2
    ∷ each (λ s. join s []) any_files

-- ---- the test

abbrev pub holds : Example → Bool
holds e =
    (eqb (replied e.call).refusal e.number && eqb (replied e.call).line e.line) && eqb (line_ends (about e.call).given) e.ends

abbrev pub all_hold : List Example → Bool
all_hold [] = true
all_hold (e ∷ es) = holds e && all_hold es

-- every number but 1 is reached
abbrev pub numbers_in : List Example → List ℕ
numbers_in [] = []
numbers_in (e ∷ es) = e.number ∷ numbers_in es

abbrev pub reached : List ℕ → List Example → Bool
reached ns es = all (λ n. eqb n 1 || member (numbers_in es) n) ns

abbrev pub all_reached : Bool
all_reached =
    reached check_numbers checks && reached writing_numbers indexes && reached writing_numbers canonicals && reached cut_numbers cuts
    && reached join_numbers joins

-- ---- document 02, (v): an index that IndexIn (notebook, specs/Clinics.antt) has, in an output of one number more than it needs

-- a group with a 51 and a doctor, one with neither, and a 701
abbrev pub clinic_file : List ℕ
clinic_file =
    behind1 (patient ∷ bytes "5,20160411,1" ∷ bytes "51,x,,,,1" ∷ bytes "55,x,,1" ∷ bytes "201,1,x,1,x,1,,1" ∷ bytes "5,20160411,1" ∷ bytes "701,x,x,x,,,1" ∷ [])

abbrev pub its_output : List ℕ
its_output =
    1 ∷ 13 ∷ 21 ∷ 0 ∷ 0 ∷ 0 ∷ 0 ∷ 5 ∷ 36 ∷ 12 ∷ 1 ∷ 0 ∷ 0 ∷ 0 ∷ 51 ∷ 50 ∷ 9 ∷ 1 ∷ 0 ∷ 0 ∷ 4 ∷ 55 ∷ 61 ∷ 7 ∷ 1 ∷ 0 ∷ 0 ∷ 4 ∷ 201 ∷ 70 ∷ 16 ∷ 1 ∷ 5 ∷ 0 ∷ 4
    ∷ 5 ∷ 88 ∷ 12 ∷ 2 ∷ 0 ∷ 0 ∷ 0 ∷ 701 ∷ 102 ∷ 13 ∷ 0 ∷ 0 ∷ 0 ∷ 0 ∷ 9 ∷ []
