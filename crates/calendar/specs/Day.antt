-- Definitions, to be believed.
-- The day that a number names, as the code answers it. The rule and the range: eras, specs/Day.antt.
use Rattle.std.specs.Prelude.{ℕ, cond, Option, Some, None}
use Rattle.calendar.specs.declared.Day.{Day}
use Rattle.eras.specs.Day.{is_day}

-- the day that the number YYYYMMDD names
unfoldable pub gregorian : ℕ → Option Day
gregorian n = cond (is_day n) (Some (record { ymd = n })) None
