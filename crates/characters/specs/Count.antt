-- A second statement, proved equal.
-- How many cells are allowed, and how many of each script; the script of two bytes. Document 01, "Lines and characters": "That is 6,877 cells."
use Rattle.std.specs.Prelude.{ℕ, zero, suc, ◌+◌, ◌≡◌, refl, Bool, true, false, cond, ◌&&◌, ◌||◌, eqb}
use Rattle.characters.specs.declared.Char.{Char}
use Rattle.characters.specs.declared.Char.TheVariants.{One, Hiragana, Katakana, Either, Other, Bad}
use Rattle.characters.specs.Cells.{allowed, cell_script, is_two_byte}
use Rattle.characters.specs.Scripts.{hiragana_bytes, katakana_bytes, shared_bytes}

-- how many of the cells c, c+1, .. (n of them) of a row pass a test, and of n rows of 94 cells from r
abbrev pub count_cells : (ℕ → ℕ → Bool) → ℕ → ℕ → ℕ → ℕ
count_cells t r c zero = 0
count_cells t r c (suc n) = cond (t r c) 1 0 + count_cells t r (c + 1) n

abbrev pub count_rows : (ℕ → ℕ → Bool) → ℕ → ℕ → ℕ
count_rows t r zero = 0
count_rows t r (suc n) = count_cells t r 1 94 + count_rows t (r + 1) n

-- "That is 6,877 cells."
pub cells_6877 : count_rows allowed 1 94 ≡ 6877
unfolding allowed
cells_6877 = refl

-- one for each cell of a script, four digits of the sum a script: hiragana the last four, then katakana, either, other
abbrev pub share : Char → ℕ
share One = 0
share Hiragana = 1
share Katakana = 10000
share Either = 100000000
share Other = 1000000000000
share Bad = 0

abbrev pub sum_cells : ℕ → ℕ → ℕ → ℕ
sum_cells r c zero = 0
sum_cells r c (suc n) = share (cell_script r c) + sum_cells r (c + 1) n

abbrev pub sum_rows : ℕ → ℕ → ℕ
sum_rows r zero = 0
sum_rows r (suc n) = sum_cells r 1 94 + sum_rows (r + 1) n

-- 83 cells are hiragana, 86 katakana, 2 either and 6,706 other: together the 6,877
pub scripts_counted : sum_rows 1 94 ≡ 6706000200860083
unfolding allowed cell_script
scripts_counted = refl

-- a cell has a script of two bytes exactly if it is allowed, and it is one script, since cell_script is a function
pub script_exactly : (r c : ℕ) → is_two_byte (cell_script r c) ≡ allowed r c
unfolding cell_script
script_exactly r c = go (allowed r c) (eqb r 4) (eqb r 5) (eqb r 1 && (eqb c 1 || eqb c 28))
  where
    go : (x h k e : Bool) → is_two_byte (cond x (cond h Hiragana (cond k Katakana (cond e Either Other))) Bad) ≡ x
    go true true k e = refl
    go true false true e = refl
    go true false false true = refl
    go true false false false = refl
    go false h k e = refl

-- ---- the scripts by their bytes: proofs/ScriptLaws.antt, `by_bytes`

-- the script of two bytes that are a character
abbrev pub by_bytes : ℕ → ℕ → Bool → Char
by_bytes a b good = cond good (cond (hiragana_bytes a b) Hiragana (cond (katakana_bytes a b) Katakana (cond (shared_bytes a b) Either Other))) Bad
