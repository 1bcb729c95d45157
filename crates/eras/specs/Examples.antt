-- Examples, computed.
-- Years and days of the calendar of documents 01 and 02: leap years, the first and last day of each era in the era form, the last that is read
-- under each letter, and lists of eras in and out of order. proofs/AllExamples.antt computes them.
use Rattle.std.specs.Prelude.{ℕ, Bool, true, false, List, [], ◌∷◌, take, drop}
use Rattle.lists.specs.Lists.{bytes}
use Rattle.eras.specs.declared.Era.{Era}
use Rattle.eras.specs.Day.{last_day}
use Rattle.eras.specs.Era.{era, eras}
use Rattle.eras.specs.Orderly.{newest_era}

-- "a real Gregorian day": 1900 and 2100 are no leap years, 2000 is one
abbrev pub years : List ℕ
years = 1896 ∷ 1900 ∷ 1904 ∷ 2000 ∷ 2015 ∷ 2016 ∷ 2100 ∷ []

abbrev pub their_leaps : List Bool
their_leaps = true ∷ false ∷ true ∷ true ∷ false ∷ true ∷ false ∷ []

-- "M ends 29 July 1912; T runs from 30 July 1912 to 24 December 1926; S from 25 December 1926 to 7 January 1989; H from 8 January 1989 on.
-- Year 1 is 1868, 1912, 1926, 1989." Document 02 (i): "R year 1 is 2019, and R runs from 1 May 2019. Heisei ends for writing on 30 April 2019. .. 20871231
-- becomes R691231".
abbrev pub days : List ℕ
days = 18730101 ∷ 19120729 ∷ 19120730 ∷ 19261224 ∷ 19261225 ∷ 19890107 ∷ 19890108 ∷ 20190430 ∷ 20190501 ∷ 20190502 ∷ 20871231 ∷ []

abbrev pub their_forms : List (List ℕ)
their_forms =
    bytes "M060101" ∷ bytes "M450729" ∷ bytes "T010730" ∷ bytes "T151224" ∷ bytes "S011225" ∷ bytes "S640107" ∷ bytes "H010108"
    ∷ bytes "H310430" ∷ bytes "R010501" ∷ bytes "R010502" ∷ bytes "R691231" ∷ []

-- The last day that is read under each letter: R, H, S, T, M, and one that no era has. "A later day under H, from older phones, is still read."
abbrev pub letters : List ℕ
letters = bytes "RHSTMQ"

abbrev pub their_lasts : List ℕ
their_lasts = last_day ∷ last_day ∷ 19890107 ∷ 19261224 ∷ 19120729 ∷ 0 ∷ []

-- A further era, invented: letter x, with year 1 in 2080, from a day on; the era before it is read to the day l
abbrev pub further : ℕ → ℕ → ℕ → List Era
further x first l = era x 20790000 first last_day ∷ era newest_era.letter newest_era.before newest_era.first l ∷ drop 1 eras

-- lists that pass the test of specs/Orderly.antt: the eras as they are; the era before is read on; it ends with a month, with a year
abbrev pub orderly_lists : List (List Era)
orderly_lists = eras ∷ further 90 20800501 last_day ∷ further 90 20800501 20800430 ∷ further 90 20810101 20801231 ∷ []

-- and that do not: a day lies between, at a month's end; a letter twice; a small letter; a digit for a letter; year 0; the older era first; two from one day on; a
-- year 100; years that 32 bits cannot hold; no era; none before R
abbrev pub other_lists : List (List Era)
other_lists =
    further 90 20800501 20800429 ∷ further 72 20800501 20800430 ∷ further 122 20800501 20800430 ∷ further 57 20800501 20800430
    ∷ further 90 20791231 20791230
    ∷ (era 90 20180000 20190430 last_day ∷ eras) ∷ (era 90 20180000 newest_era.first last_day ∷ eras) ∷ (era 90 19870000 20800501 last_day ∷ eras)
    ∷ (era 90 4294960000 4294980101 4294980102 ∷ eras) ∷ [] ∷ take 1 eras ∷ []
