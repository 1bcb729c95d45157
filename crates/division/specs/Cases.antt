-- Examples, computed.
-- Document 01's cases marked ●, in its order, as one list: what is asked, and what the paper says to it. `answer` asks the definitions that
-- the contracts of the exported calls cite; proofs/Cases.antt shows that it says the same, for all of them at once.
-- Another kind of case is a constructor of `Asked`, its line in `answer`, and a constructor of `Said` where none of these fits.
use Rattle.std.specs.Prelude.{ℕ, zero, suc, List, [], ◌∷◌, ◌++◌, Option, Some, None, length, replicate}
use Prim.Native.String.{String}
use Rattle.lists.specs.Lists.{bytes}
use Rattle.characters.specs.Rows.{line_end}
use Rattle.calendar.specs.declared.Day.{Day}
use Rattle.calendar.specs.Era.{read_day}
use Rattle.eras.specs.Era.{write_day}
use Rattle.records.specs.Table.{Kind, Q, D}
use Rattle.records.specs.Items.{fault as fault_of}
use Rattle.replies.specs.declared.reply.Reply.{Reply}
use Rattle.replies.specs.Replies.{refusal, result}
use Rattle.replies.specs.Results.{reply_to}
use Rattle.printing.specs.Printed.{printed}
use Rattle.notebook.specs.Check.{check_result}
use Rattle.notebook.specs.Samples.{small_file}
use Rattle.notebook.specs.Canonical.{canonical_result}
use Rattle.division.specs.Cut.{cut_result}

pub data Asked : Type 0 where
  -- the day that a date is read to, and how that day is written
  date : String → Asked
  -- the fault of an item of a kind
  item : Kind → String → Asked
  -- how many bytes a file has
  size : List ℕ → Asked
  -- what check, canonical and cut reply of a file; cut with a capacity
  check : List ℕ → Asked
  canonical : List ℕ → Asked
  cut : List ℕ → ℕ → Asked
  -- what `notecheck` prints of a file
  prints : List ℕ → Asked

pub data Said : Type 0 where
  -- a day as the number YYYYMMDD, and its one spelling
  day : ℕ → List ℕ → Said
  no_day : Said
  -- a number of document 01's table, 0 for none
  fault : ℕ → Said
  count : ℕ → Said
  reply : Reply → Said
  line : List ℕ → Said

pub record Case : Type 0 where
  pub asked : Asked
  pub said : Said

infix 90 ◌is◌
abbrev pub ◌is◌ : Asked → Said → Case
a is s = record { asked = a; said = s }

-- "That file's record 1 with .. records 4,x,,2"
abbrev pub notes : ℕ → List ℕ
notes zero = []
notes (suc n) = bytes "4,x,,2" ++ line_end ++ notes n

abbrev pub with_notes : ℕ → List ℕ
with_notes n = bytes "JAHISTC04,2" ++ line_end ++ bytes "1,A,1,19890108,,,,,,," ++ line_end ++ notes n

abbrev pub cases : List Case
cases =
    -- "M060101 is 18730101; M051231 is 11."
    date "M060101" is day 18730101 (bytes "M060101") ∷ date "18730101" is day 18730101 (bytes "M060101") ∷ item D "M051231" is fault 11 ∷
    -- "19120729 is M450729, 19120730 is T010730."
    date "19120729" is day 19120729 (bytes "M450729") ∷ date "M450729" is day 19120729 (bytes "M450729") ∷
    date "19120730" is day 19120730 (bytes "T010730") ∷ date "T010730" is day 19120730 (bytes "T010730") ∷
    -- "19261224 is T151224, 19261225 is S011225."
    date "19261224" is day 19261224 (bytes "T151224") ∷ date "T151224" is day 19261224 (bytes "T151224") ∷
    date "19261225" is day 19261225 (bytes "S011225") ∷ date "S011225" is day 19261225 (bytes "S011225") ∷
    -- "S640107 is good, S640108 is 11."
    item D "S640107" is fault 0 ∷ date "S640107" is day 19890107 (bytes "S640107") ∷ item D "S640108" is fault 11 ∷
    -- "20160411 is H280411; H290229 is 11."
    date "20160411" is day 20160411 (bytes "H280411") ∷ date "H280411" is day 20160411 (bytes "H280411") ∷ item D "H290229" is fault 11 ∷
    -- "20871231 is H991231; 20880101 is 11.": document 02 (i), "20871231 becomes R691231 in 01's cases"
    date "20871231" is day 20871231 (bytes "R691231") ∷ date "H991231" is day 20871231 (bytes "R691231") ∷ date "R691231" is day 20871231 (bytes "R691231") ∷
    item D "20880101" is fault 11 ∷
    -- document 02 (i), "R runs from 1 May 2019. Heisei ends for writing on 30 April 2019": and R year 0, R year 70 and a small letter are none
    date "20190430" is day 20190430 (bytes "H310430") ∷ date "H310430" is day 20190430 (bytes "H310430") ∷ item D "R010430" is fault 11 ∷
    item D "R000501" is fault 11 ∷ item D "R700101" is fault 11 ∷ item D "r010501" is fault 11 ∷
    -- "H310501 and R010501 are one day and get one spelling."
    date "20190501" is day 20190501 (bytes "R010501") ∷ date "H310501" is day 20190501 (bytes "R010501") ∷ date "R010501" is day 20190501 (bytes "R010501") ∷
    -- "Dose 0.25 good, 1.50 and .5 are 11."
    item Q "0.25" is fault 0 ∷ item Q "1.50" is fault 11 ∷ item Q ".5" is fault 11 ∷
    -- "JAHISTC04,2 and 1,A,1,19890108,,,,,,, and 1Ah: 37 bytes, canonical 35. The program `notecheck` .. prints `ok 1 0 0` (records, groups,
    -- drugs) and 0Ah"
    size small_file is count 37 ∷ canonical small_file is reply (result 35 0 0) ∷ check small_file is reply (result 1 0 0) ∷
    prints small_file is line (bytes "ok 1 0 0" ++ (0x0a ∷ [])) ∷
    -- "That file's record 1 with 20 records 4,x,,2: capacity 69 gives 6 pieces, 404 bytes."
    cut (with_notes 20) 69 is reply (result 6 404 0) ∷
    -- "With 18: capacity 60 gives 10 pieces, 547 bytes; 59 gives 18."
    cut (with_notes 18) 60 is reply (result 10 547 0) ∷ cut (with_notes 18) 59 is reply (refusal 18 0) ∷
    -- "With 2: 51 gives one piece, 50 gives 18."
    cut (with_notes 2) 51 is reply (result 1 51 0) ∷ cut (with_notes 2) 50 is reply (refusal 18 0) ∷
    []

-- ---- what the definitions say

abbrev pub dated : Option Day → Said
dated (Some d) = day d.ymd (write_day d.ymd)
dated None = no_day

-- an output of a thousand bytes
abbrev pub thousand : List ℕ
thousand = replicate 1000 0

-- check has no output; cut has an ID of 14 digits, and none has been used
abbrev pub answer : Asked → Said
answer (date s) = dated (read_day (bytes s))
answer (item k s) = fault (fault_of k (bytes s))
answer (size s) = count (length s)
answer (check s) = reply (reply_to (check_result s) [])
answer (canonical s) = reply (reply_to (canonical_result s) thousand)
answer (cut s c) = reply (reply_to (cut_result s c (bytes "20261115000001") []) thousand)
answer (prints s) = line (printed 3 (reply_to (check_result s) []))
