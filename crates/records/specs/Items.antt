-- Definitions, to be believed.
-- What an item of each kind may be, and what it is read to. Document 01, "Items"; refusals 8 to 11; 15-106 3.2.2, 3.2.5, 3.2.9.
-- A fault is a number of document 01's table, 0 for none; a value is told of every item and means something where the fault is 0.
use Rattle.std.specs.Prelude.{ℕ, ◌-◌, Bool, true, false, cond, not, ◌&&◌, ◌||◌, List, [], ◌∷◌, ◌++◌, Option, Some, None, leb, eqb, length, get_or, take, drop}
use Rattle.lists.specs.Lists.{within, all, same, last, up_to, ◌or_else◌, unless}
use Rattle.digits.specs.Digits.{is_digit, value as digits_value, number, spell}
use Rattle.calendar.specs.declared.Day.{Day}
use Rattle.calendar.specs.Era.{read_day}
use Rattle.eras.specs.Era.{write_day}
use Rattle.characters.specs.Cells.{is_one_byte, is_two_byte, is_hiragana, is_katakana}
use Rattle.characters.specs.Text.{chars_are, all_chars}
use Rattle.records.specs.Table.{Kind, N, U, X, K, A, F, C, P, R, W, Q, D, among}

-- "D as days, P as seven digits, R as values, others as bytes"
pub data Value : Type 0 where
  raw : List ℕ → Value
  num : ℕ → Value
  day : ℕ → Value

-- "D in the era form, P without hyphen, R without leading zeros, .. all else kept"
abbrev pub write_value : Value → List ℕ
write_value (raw s) = s
write_value (num n) = spell n
write_value (day n) = write_day n

-- ---- edges

-- the last character is 8140h: the last two bytes are 81h and 40h, and characters end before them
abbrev pub ends_wide : List ℕ → Bool
ends_wide s = eqb (get_or s (length s - 2) 0) 0x81 && (eqb (last s) 0x40 && all_chars (take (length s - 2) s))

-- two or more bytes, the first and the last both q
abbrev pub quoted : ℕ → List ℕ → Bool
quoted q s = leb 2 (length s) && (eqb (get_or s 0 0) q && eqb (last s) q)

-- "item begins or ends with 20h or the character 8140h, or has two or more bytes, the first and last both 22h or both 27h"
unfoldable pub edge : List ℕ → Bool
edge s =
    eqb (get_or s 0 0) 0x20 || (eqb (get_or s 0 0) 0x81 && eqb (get_or s 1 0) 0x40) || eqb (last s) 0x20 || ends_wide s || quoted 0x22 s || quoted 0x27 s

-- ---- the kinds of text

-- U: "text, all one-byte or all two-byte characters"
unfoldable pub one_width : List ℕ → Bool
one_width s = chars_are is_one_byte s || chars_are is_two_byte s

-- K, request (viii): "all one-byte, or all hiragana (row 4), or all katakana (row 5). The characters 8140h and 815Bh are allowed with either two-byte
-- script, or by themselves." 15-106 3.2.9, record 1: the kana name
unfoldable pub one_script : List ℕ → Bool
one_script s = chars_are is_one_byte s || chars_are is_hiragana s || chars_are is_katakana s

-- X: "A–Z, a–z, 0–9, period, hyphen"
abbrev pub is_code : ℕ → Bool
is_code b = within 0x41 0x5a b || within 0x61 0x7a b || is_digit b || eqb b 0x2e || eqb b 0x2d

-- ---- the kinds of digits

-- spelled as one of the numbers: kind A and braces
abbrev pub spelled_as : List ℕ → List ℕ → Bool
spelled_as [] s = false
spelled_as (n ∷ ns) s = same s (spell n) || spelled_as ns s

-- C: "seven digits"
unfoldable pub seven : List ℕ → Bool
seven s = eqb (length s) 7 && all is_digit s

-- without its fourth byte
abbrev pub unhyphened : List ℕ → List ℕ
unhyphened s = take 3 s ++ drop 4 s

-- P: "seven digits, or three, hyphen, four"
unfoldable pub postal : List ℕ → Bool
postal s = seven s || (eqb (get_or s 3 0) 0x2d && seven (unhyphened s))

-- F: "01–47". 15-106 appended table 2 lists these codes; 3.2.9, records 11 and 51: type X, two bytes
unfoldable pub prefecture : List ℕ → Bool
prefecture s = eqb (length s) 2 && (all is_digit s && within 1 47 (digits_value 0 s))

abbrev pub is_period : ℕ → Bool
is_period b = eqb b 0x2e

-- "whole part up to 3 (Q: 6) digits .. No extra leading zero .. 0 is good"
abbrev pub whole_part : ℕ → List ℕ → Bool
whole_part w a = (leb 1 (length a) && leb (length a) w) && (all is_digit a && (eqb (length a) 1 || not (eqb (get_or a 0 0) 0x30)))

-- "optionally a period and up to 3 (Q: 5) digits .. no trailing zero in the fraction, no bare period"
abbrev pub fraction_part : ℕ → List ℕ → Bool
fraction_part f b = (leb 1 (length b) && leb (length b) f) && (all is_digit b && not (eqb (last b) 0x30))

abbrev pub fraction : ℕ → List ℕ → Bool
fraction f [] = true
fraction f (p ∷ b) = fraction_part f b

-- W and Q: the whole part up to the period, and what follows it
unfoldable pub is_decimal : ℕ → ℕ → List ℕ → Bool
is_decimal w f s = whole_part w (up_to is_period s) && fraction f (drop (length (up_to is_period s)) s)

-- ---- R and D: what is read, and its fault

-- R: "one to three digits with value 1–999; leading zeros are read (here)"
abbrev pub number_fault : Option ℕ → ℕ
number_fault None = 11
number_fault (Some n) = unless (leb 1 n) 11

abbrev pub number_value : Option ℕ → Value
number_value None = raw []
number_value (Some n) = num n

abbrev pub day_fault : Option Day → ℕ
day_fault (Some d) = 0
day_fault None = 11

abbrev pub day_value : Option Day → Value
day_value (Some d) = day d.ymd
day_value None = raw []

-- ---- an item that is not empty: its fault, and its value where there is none

-- N, U, X, K: 9, then 10, then 11; "F, C, P, D, A, braces, R, W, Q: only 8 and 11"
unfoldable pub sized : ℕ → List ℕ → Bool → ℕ
sized m s good = unless (leb (length s) m) 9 or_else unless (not (edge s)) 10 or_else unless good 11

unfoldable pub fault : Kind → List ℕ → ℕ
fault (N m) s = sized m s true
fault (U m) s = sized m s (one_width s)
fault (X m) s = sized m s (all is_code s)
fault (K m) s = sized m s (one_script s)
fault A s = unless (spelled_as (1 ∷ 2 ∷ 8 ∷ 9 ∷ []) s) 11
fault F s = unless (prefecture s) 11
fault C s = unless (seven s) 11
fault P s = unless (postal s) 11
fault R s = number_fault (number s)
fault W s = unless (is_decimal 3 3 s) 11
fault Q s = unless (is_decimal 6 5 s) 11
fault D s = day_fault (read_day s)
fault (among ns) s = unless (spelled_as ns s) 11

unfoldable pub value_of : Kind → List ℕ → Value
value_of (N m) s = raw s
value_of (U m) s = raw s
value_of (X m) s = raw s
value_of (K m) s = raw s
value_of A s = raw s
value_of F s = raw s
value_of C s = raw s
value_of P s = raw (cond (seven s) s (unhyphened s))
value_of R s = number_value (number s)
value_of W s = raw s
value_of Q s = raw s
value_of D s = day_value (read_day s)
value_of (among ns) s = raw s
