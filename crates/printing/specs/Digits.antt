-- A second statement, proved equal.
-- What a number in decimal is, without a count of digits.
use Rattle.std.specs.Prelude.{ℕ, ◌+◌, ◌/◌, ◌%◌, ◌≡◌, cond, [], ◌∷◌, ◌++◌, leb}
use Rattle.printing.specs.Printed.{decimal}

-- the same without k: one digit; or n / 10 in decimal, then the last digit
abbrev pub DecimalDigits : Type 0
DecimalDigits = (n : ℕ) → decimal n ≡ cond (leb n 9) ((48 + n) ∷ []) (decimal (n / 10) ++ ((48 + n % 10) ∷ []))
