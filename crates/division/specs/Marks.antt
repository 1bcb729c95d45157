-- Definitions, to be believed.
-- The record 911 of a piece: `911,ID,n,k`. Document 01, "Cutting and joining"; 15-106 3.2.9, record 911.
use Rattle.std.specs.Prelude.{ℕ, Bool, cond, ◌&&◌, List, [], ◌∷◌, Option, Some, None, eqb, length}
use Rattle.lists.specs.Lists.{all, same}
use Rattle.digits.specs.Digits.{is_digit, number, spell}
use Rattle.records.specs.Split.{items_of, joined}
use Rattle.records.specs.Records.{t911}
use Rattle.notebook.specs.Canonical.{ended}

-- "A valid ID is 14 digits and nothing else.": what 17 and joining ask. Demand 3 asks of a valid ID also that 24 lets it pass (`Valid`, Demand.antt).
unfoldable pub valid_id : List ℕ → Bool
valid_id i = eqb (length i) 14 && all is_digit i

-- ID, n and k
pub record Mark : Type 0 where
  pub ident : List ℕ
  pub count : ℕ
  pub place : ℕ

-- ---- written: "911,ID,n,k with no leading zeros in n and k"

unfoldable pub mark_line : List ℕ → ℕ → ℕ → List ℕ
mark_line i n k = joined t911 (i ∷ spell n ∷ spell k ∷ [])

unfoldable pub mark_row : List ℕ → ℕ → ℕ → List ℕ
mark_row i n k = ended (mark_line i n k)

-- ---- read: "ID (14 digits)", "n and k have one to three digits"; leading zeros are read

abbrev pub marked : List ℕ → Option ℕ → Option ℕ → Option Mark
marked i None k = None
marked i (Some n) None = None
marked i (Some n) (Some k) = Some (record { ident = i; count = n; place = k })

-- the items of a line: 911 and three more
abbrev pub mark_of : List (List ℕ) → Option Mark
mark_of [] = None
mark_of (a ∷ []) = None
mark_of (a ∷ i ∷ []) = None
mark_of (a ∷ i ∷ n ∷ []) = None
mark_of (a ∷ i ∷ n ∷ k ∷ []) = cond (same a t911 && valid_id i) (marked i (number n) (number k)) None
mark_of (a ∷ i ∷ n ∷ k ∷ x ∷ xs) = None

unfoldable pub read_mark : List ℕ → Option Mark
read_mark l = mark_of (items_of l)
