-- Definitions, to be believed.
-- The line that a program prints of a reply. Document 01, Cases: "prints `ok 1 0 0` (records, groups, drugs) and 0Ah; a refusal prints `no`,
-- number, line, with single spaces, and 0Ah." The names here: decimal, spaced, line, printed, Prints; specs/Digits.antt says what decimal is.
use Rattle.std.specs.Prelude.{ℕ, zero, suc, ◌+◌, ◌/◌, ◌%◌, ◌≡◌, cond, List, [], ◌∷◌, ◌++◌, eqb, length, take, drop}
use Rattle.lists.specs.Lists.{bytes}
use Rattle.replies.specs.declared.reply.Reply.{Reply}

-- the digits of n, none of 0; at most k of them, since a definition must say how often it calls itself
unfoldable pub digit_list : ℕ → ℕ → List ℕ
digit_list zero n = []
digit_list (suc k) zero = []
digit_list (suc k) (suc n) = digit_list k (suc n / 10) ++ ((48 + suc n % 10) ∷ [])

-- n in decimal, without leading zeros; n has at most n digits
unfoldable pub decimal : ℕ → List ℕ
decimal zero = 48 ∷ []
decimal (suc n) = digit_list (suc n) (suc n)

-- "with single spaces": one before each number
unfoldable pub spaced : List ℕ → List ℕ
spaced [] = []
spaced (n ∷ ns) = 0x20 ∷ decimal n ++ spaced ns

-- a word, its numbers, "and 0Ah"
unfoldable pub line : List ℕ → List ℕ → List ℕ
line word ns = word ++ spaced ns ++ (0x0a ∷ [])

-- A reply's line, where the call's result has so many values: check 3 ("records, groups, drugs"), cut 2 ("their count and total length"), index,
-- canonical and join 1 ("the count of records", "the bytes written").
unfoldable pub printed : ℕ → Reply → List ℕ
printed values r =
    cond (eqb r.refusal 0) (line (bytes "ok") (take values (r.a ∷ r.b ∷ r.c ∷ [])))
    (line (bytes "no") (r.refusal ∷ r.line ∷ []))

-- What the function that prints leaves in a buffer d: the line, then what was lent there; n is the line's length.
pub record Prints (values : ℕ) (r : Reply) (d d' : List ℕ) (n : ℕ) : Type 0 where
  pub count : n ≡ length (printed values r)
  pub buffer : d' ≡ printed values r ++ drop n d
