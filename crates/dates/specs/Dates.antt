-- Promises, to be believed.
-- DOCUMENT 02 (i), Reiwa, as statements about the days that are read and the files that the call canonical writes. proofs/Promises.antt proves each.
use Rattle.std.specs.Prelude.{ℕ, ◌-◌, ◌≤◌, ◌≡◌, ◌↔◌, true, List, [], ◌∷◌, ◌++◌, Some, get_or, drop}
use Rattle.lists.specs.Lists.{All, ok}
use Rattle.characters.specs.Text.{text}
use Rattle.characters.specs.Rows.{rows}
use Rattle.eras.specs.declared.Era.{Era}
use Rattle.eras.specs.Day.{is_day}
use Rattle.eras.specs.Era.{eras, six_digits}
use Rattle.eras.specs.Newest.{Newest}
use Rattle.calendar.specs.Era.{read_day}
use Rattle.records.specs.Split.{items_of}
use Rattle.records.specs.Items.{Value, raw, num, day}
use Rattle.records.specs.Records.{record_of}
use Rattle.notebook.specs.Notebook.{Notebook, read_file}
use Rattle.division.specs.Orders.{Insert}
use Rattle.division.specs.Demand.{CanonicalFile}

-- ---- the dates of a file

-- a day, and the bytes that spell it
pub record Spelled : Type 0 where
  pub ymd : ℕ
  pub bytes : List ℕ

-- an item that is read to a day, in front of others
abbrev pub dated : Value → List ℕ → List Spelled → List Spelled
dated (raw t) s ds = ds
dated (num n) s ds = ds
dated (day n) s ds = record { ymd = n; bytes = s } ∷ ds

-- the dates of a record, by its values and its items
abbrev pub dates_among : List Value → List (List ℕ) → List Spelled
dates_among [] ss = []
dates_among (v ∷ vs) [] = []
dates_among (v ∷ vs) (s ∷ ss) = dated v s (dates_among vs ss)

-- of a line: the first item is the record's number
unfoldable pub line_dates : List ℕ → List Spelled
line_dates l = dates_among (record_of l).values (drop 1 (items_of l))

abbrev pub rows_dates : List (List ℕ) → List Spelled
rows_dates [] = []
rows_dates (r ∷ rs) = line_dates (text r) ++ rows_dates rs

-- of a file, as they lie in it
unfoldable pub file_dates : List ℕ → List Spelled
file_dates f = rows_dates (rows f)

-- in it the bytes s stand for the day n: its dates are this one and others
pub record StandsIn (f : List ℕ) (n : ℕ) (s : List ℕ) : Type 0 where
  pub others : List Spelled
  pub found : Insert (record { ymd = n; bytes = s }) others (file_dates f)

-- ---- what is written

-- in the canonical file of some accepted file the bytes s stand for the day n
pub record WrittenFor (n : ℕ) (s : List ℕ) : Type 0 where
  pub file : List ℕ
  pub notebook : Notebook
  pub accepted : read_file file ≡ ok notebook
  pub canonical : List ℕ
  pub is : CanonicalFile file canonical
  pub stands : StandsIn canonical n s

-- "H310501 and R010501 are one day and get one spelling.": every day has exactly one spelling that is written, and it is read as that day
pub record OneSpelling (n : ℕ) : Type 0 where
  pub spelling : List ℕ
  pub written : WrittenFor n spelling
  pub only : (s : List ℕ) → WrittenFor n s → s ≡ spelling
  pub read : read_day spelling ≡ Some (record { ymd = n })

abbrev pub SpelledOnce : Type 0
SpelledOnce = (n : ℕ) → is_day n ≡ true → OneSpelling n

-- A day is written under an era's letter exactly if that era is the newest that has begun
abbrev pub UnderNewest : Type 0
UnderNewest = (n : ℕ) (s : List ℕ) → is_day n ≡ true → WrittenFor n s → All (λ (e : Era). (e.letter ≡ get_or s 0 0) ↔ Newest eras n e) eras

-- "R runs from 1 May 2019. Heisei ends for writing on 30 April 2019. A later day under H .. is written under R.": R (82) is what a day is
-- written under from that day on, and on no day before it
abbrev pub UnderReiwa : Type 0
UnderReiwa = (n : ℕ) (s : List ℕ) → WrittenFor n s → (get_or s 0 0 ≡ 82) ↔ (20190501 ≤ n)

-- "R year 1 is 2019": behind the letter stand the year less 2018, month and day
abbrev pub ReiwaYears : Type 0
ReiwaYears = (n : ℕ) (s : List ℕ) → WrittenFor n s → 20190501 ≤ n → s ≡ 82 ∷ six_digits (n - 20180000)

-- ---- what is read

-- in some accepted file bytes that begin with the letter stand for the day n
pub record ReadUnder (letter n : ℕ) : Type 0 where
  pub file : List ℕ
  pub notebook : Notebook
  pub accepted : read_file file ≡ ok notebook
  pub spelling : List ℕ
  pub first : get_or spelling 0 0 ≡ letter
  pub stands : StandsIn file n spelling

-- under an era's letter its days are read, from its first to its last as `eras` has them, and no other day is
abbrev pub ReadInEra : Type 0
ReadInEra = All (λ (e : Era). (n : ℕ) → is_day n ≡ true → ReadUnder e.letter n ↔ ((e.first ≤ n) × (n ≤ e.last))) eras

-- "R runs from 1 May 2019"
abbrev pub ReadReiwa : Type 0
ReadReiwa = (n : ℕ) → is_day n ≡ true → ReadUnder 82 n ↔ (20190501 ≤ n)

-- "A later day under H, from older phones, is still read": H (72) from 8 January 1989 to the end of the range
abbrev pub ReadHeisei : Type 0
ReadHeisei = (n : ℕ) → is_day n ≡ true → ReadUnder 72 n ↔ (19890108 ≤ n)
