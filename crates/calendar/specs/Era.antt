-- Definitions, to be believed.
-- The item of kind D read: eight digits, or an era's letter and six. Document 01, kind D; 15-106 3.2.9, dates. The eras: eras, specs/Era.antt.
use Rattle.std.specs.Prelude.{ℕ, ◌+◌, List, cond, ◌&&◌, eqb, leb, length, get_or, drop, Option, None}
use Rattle.lists.specs.Lists.{all}
use Rattle.digits.specs.Digits.{is_digit, value}
use Rattle.eras.specs.declared.Era.{Era}
use Rattle.calendar.specs.declared.Day.{Day}
use Rattle.eras.specs.Era.{era_of}
use Rattle.calendar.specs.Day.{gregorian}

-- the day n, if it is read under the era's letter
unfoldable pub in_era : Era → ℕ → Option Day
in_era e n = cond (leb e.first n && leb n e.last) (gregorian n) None

-- the day that an era's letter and the number YYMMDD name
unfoldable pub from_era : ℕ → ℕ → Option Day
from_era c k = cond (leb k 999999) (in_era (era_of c) ((era_of c).before + k)) None

-- "YYYYMMDD, or era letter and YYMMDD". 15-106 3.2.9, dates of records 1, 3, 4, 5, 601 and 701: eight places YYYYMMDD, or seven GYYMMDD with the
-- letter G of appended table 1.
unfoldable pub read_day : List ℕ → Option Day
read_day s =
    cond (eqb (length s) 8 && all is_digit s) (gregorian (value 0 s))
    (cond (eqb (length s) 7 && all is_digit (drop 1 s)) (from_era (get_or s 0 0) (value 0 (drop 1 s))) None)
