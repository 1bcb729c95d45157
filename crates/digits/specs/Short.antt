-- Vocabulary of the code.
-- Digits read one by one, and a number with no leading zero.
use Rattle.std.specs.Prelude.{ℕ, ◌+◌, ◌-◌, ◌*◌, cond, List, [], ◌∷◌, Option, Some, None, eqb, get_or}
use Rattle.digits.specs.Digits.{is_digit, number}

-- the value of a digit
abbrev pub digit : ℕ → Option ℕ
digit b = cond (is_digit b) (Some (b - 48)) None

-- the number that the digits spell, after a part of value n; a byte that is no digit: none
unfoldable pub number_from : ℕ → List ℕ → Option ℕ
number_from n [] = Some n
number_from n (b ∷ s) = cond (is_digit b) (number_from (10 * n + (b - 48)) s) None

-- one to three digits with no leading zero: their value
unfoldable pub plain_number : List ℕ → Option ℕ
plain_number s = cond (eqb (get_or s 0 0) 48) None (number s)
