-- Definitions, to be believed.
-- Days: the Gregorian rule, and the range. A day is the number YYYYMMDD, so the order of the numbers is that of the days.
-- Document 01, kind D: "a real Gregorian day"; 15-106 3.2.9 (dates of the records); the range is 01's own ("here").
use Rattle.std.specs.Prelude.{ℕ, ◌/◌, ◌%◌, List, [], ◌∷◌, Bool, not, cond, ◌&&◌, ◌||◌, eqb, leb, get_or}

unfoldable pub leap : ℕ → Bool
leap y = eqb (y % 4) 0 && (not (eqb (y % 100) 0) || eqb (y % 400) 0)

-- the months of a common year, from 1; there is no month 0 and none after 12
abbrev pub lengths : List ℕ
lengths = 0 ∷ 31 ∷ 28 ∷ 31 ∷ 30 ∷ 31 ∷ 30 ∷ 31 ∷ 31 ∷ 30 ∷ 31 ∷ 30 ∷ 31 ∷ []

unfoldable pub month_length : ℕ → ℕ → ℕ
month_length y m = cond (eqb m 2 && leap y) 29 (get_or lengths m 0)

-- the number is YYYYMMDD of a real day
unfoldable pub is_real : ℕ → Bool
is_real n = leb 1 (n % 100) && leb (n % 100) (month_length (n / 10000) (n / 100 % 100))

-- "The day type has first day 1 January 1873 and last day 31 December 2087 (here)."
abbrev pub first_day : ℕ
first_day = 18730101

abbrev pub last_day : ℕ
last_day = 20871231

-- a day of the type: real, and in the range
unfoldable pub is_day : ℕ → Bool
is_day n = (leb first_day n && leb n last_day) && is_real n
