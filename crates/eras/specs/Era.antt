-- Definitions, to be believed.
-- The eras, and the era form that a day is written in. Document 01, kind D; document 02 (i); 15-106 appended table 1. A new era is a new row of `eras`, in
-- front; where days under the era before it are still read, that row's last day stays.
use Rattle.std.specs.Prelude.{ℕ, ◌+◌, ◌-◌, ◌/◌, ◌%◌, List, [], ◌∷◌, Bool, cond, eqb, leb}
use Rattle.eras.specs.declared.Era.{Era}
use Rattle.eras.specs.Day.{first_day, last_day}

-- an era: its letter; the year before its year 1, times 10,000; the first and the last day that are read under its letter
abbrev pub era : ℕ → ℕ → ℕ → ℕ → Era
era c b f l = record { letter = c; before = b; first = f; last = l }

-- no era: no day is read under it
abbrev pub no_era : Era
no_era = era 0 0 1 0

-- "M ends 29 July 1912; T runs from 30 July 1912 to 24 December 1926; S from 25 December 1926 to 7 January 1989; H from 8 January
-- 1989 on. Year 1 is 1868, 1912, 1926, 1989." Document 02 (i): "R year 1 is 2019, and R runs from 1 May 2019. .. A later day under H, from older phones, is
-- still read". The newest first: R, H, S, T, M. 15-106 appended table 1 gives the letters M, T, S, H with the eras' names, and no days; R is document 02's.
abbrev pub eras : List Era
eras =
    era 82 20180000 20190501 last_day ∷
    era 72 19880000 19890108 last_day ∷
    era 83 19250000 19261225 19890107 ∷
    era 84 19110000 19120730 19261224 ∷
    era 77 18670000 first_day 19120729 ∷
    []

-- the first era of the list that passes the test
abbrev pub find : (Era → Bool) → List Era → Era
find p [] = no_era
find p (e ∷ es) = cond (p e) e (find p es)

abbrev pub has_letter : ℕ → Era → Bool
has_letter c e = eqb e.letter c

abbrev pub has_begun : ℕ → Era → Bool
has_begun n e = leb e.first n

-- the era that a letter names
unfoldable pub era_of : ℕ → Era
era_of c = find (has_letter c) eras

-- the era that a day is written in: the newest that has begun. "Heisei ends for writing on 30 April 2019. A later day under H .. is written under R."
unfoldable pub era_on : ℕ → Era
era_on n = find (has_begun n) eras

-- the last six digits of k
abbrev pub six_digits : ℕ → List ℕ
six_digits k = (k / 100000 % 10 + 48) ∷ (k / 10000 % 10 + 48) ∷ (k / 1000 % 10 + 48) ∷ (k / 100 % 10 + 48) ∷ (k / 10 % 10 + 48) ∷ (k % 10 + 48) ∷ []

-- the era form, under the newest era that has begun
unfoldable pub write_day : ℕ → List ℕ
write_day n = (era_on n).letter ∷ six_digits (n - (era_on n).before)
