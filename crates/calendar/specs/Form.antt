-- Vocabulary of the code.
-- Whether a date is what is written for its day. proofs/EraForm.antt says it so (`form_is`, `form_only`).
use Rattle.std.specs.Prelude.{ℕ, ◌≡◌, Bool, false, List, eqb, get_or, Option, Some, None}
use Rattle.eras.specs.Era.{era_on}
use Rattle.calendar.specs.declared.Day.{Day}
use Rattle.calendar.specs.Era.{read_day}

-- a day is written under the letter c
abbrev pub under : ℕ → Option Day → Bool
under c (Some d) = eqb (era_on d.ymd).letter c
under c None = false

-- a date begins with the letter that its day is written under
unfoldable pub is_written_form : List ℕ → Bool
is_written_form s = under (get_or s 0 0) (read_day s)

-- r tells whether it does, of bytes that are a date
pub record TellsForm (r : Bool) (s : List ℕ) : Type 0 where
  pub is : (n : ℕ) → read_day s ≡ Some (record { ymd = n }) → r ≡ is_written_form s
