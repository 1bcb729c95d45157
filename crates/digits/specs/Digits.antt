-- Definitions, to be believed.
-- Digits read to a number of one to three digits, and numbers below 1,000 written. Document 01: kind R, record 911's n and k.
use Rattle.std.specs.Prelude.{ℕ, ◌+◌, ◌*◌, ◌-◌, ◌/◌, ◌%◌, Bool, cond, ◌&&◌, List, [], ◌∷◌, Option, Some, None, leb, length}
use Rattle.lists.specs.Lists.{within, all}

abbrev pub is_digit : ℕ → Bool
is_digit b = within 0x30 0x39 b

-- the value of digits after a value
unfoldable pub value : ℕ → List ℕ → ℕ
value a [] = a
value a (b ∷ s) = value (10 * a + (b - 48)) s

-- "one to three digits .. leading zeros are read". 15-106 3.2.9: RP numbers, a 301's quantity and a 911's n and k have type 9 (3.2.2: a number),
-- three bytes; it does not say whether zeros may stand in front.
unfoldable pub number : List ℕ → Option ℕ
number s = cond (leb 1 (length s) && (leb (length s) 3 && all is_digit s)) (Some (value 0 s)) None

-- a number below 1,000 without leading zeros
unfoldable pub spell : ℕ → List ℕ
spell n =
    cond (leb n 9) ((48 + n) ∷ [])
    (cond (leb n 99) ((48 + n / 10) ∷ (48 + n % 10) ∷ [])
    ((48 + n / 100) ∷ (48 + n / 10 % 10) ∷ (48 + n % 10) ∷ []))

-- how many digits spell a number below 1,000; 4 for any above
unfoldable pub digit_count : ℕ → ℕ
digit_count n = cond (leb n 9) 1 (cond (leb n 99) 2 (cond (leb n 999) 3 4))
