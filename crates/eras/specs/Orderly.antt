-- Vocabulary of the proofs.
-- What a list of eras has to pass, computed from its rows. proofs/Eras.antt has the laws of every list that passes it, and so of `eras`: a new era is
-- a new row, and no law or proof moves.
use Rattle.std.specs.Prelude.{ℕ, zero, suc, ◌+◌, ◌-◌, Bool, true, not, ◌&&◌, List, [], ◌∷◌, leb, ltb, get_or}
use Rattle.lists.specs.Lists.{within}
use Rattle.eras.specs.declared.Era.{Era}
use Rattle.eras.specs.Day.{is_real, first_day, last_day}
use Rattle.eras.specs.Era.{no_era, eras, has_letter}

-- every era of a list passes a test
abbrev pub all_eras : (Era → Bool) → List Era → Bool
all_eras q [] = true
all_eras q (e ∷ es) = q e && all_eras q es

-- one row: the letter is a capital, the years are 1 (no paper has a year 0) to 99, and the numbers fit 32 bits
abbrev pub well_made : Era → Bool
well_made e = within 65 90 e.letter && (leb (e.before + 10000) e.first && (leb e.last (e.before + 999999) && leb e.before 40000000))

-- the newest first
abbrev pub in_order : List Era → Bool
in_order [] = true
in_order (e ∷ es) = all_eras (λ x. ltb x.first e.first) es && in_order es

-- no two have one letter
abbrev pub distinct : List Era → Bool
distinct [] = true
distinct (e ∷ es) = all_eras (λ x. not (has_letter x.letter e)) es && distinct es

-- of k numbers from n on none is a day
abbrev pub no_days : ℕ → ℕ → Bool
no_days n zero = true
no_days n (suc k) = not (is_real n) && no_days (n + 1) k

-- each day of the range that lies before top is read under the newest era that has begun: none lies between its last day and the first of the next
abbrev pub covered : ℕ → List Era → Bool
covered top [] = leb top first_day
covered top (e ∷ es) = no_days (e.last + 1) (top - (e.last + 1)) && covered e.first es

abbrev pub orderly : List Era → Bool
orderly es = all_eras well_made es && (in_order es && (distinct es && covered (last_day + 1) es))

-- the newest era: the first row
abbrev pub newest_era : Era
newest_era = get_or eras 0 no_era
