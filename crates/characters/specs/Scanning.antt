-- Vocabulary of the code.
-- The character that stands at a position, the bytes that the characters of a script take, the 2Ch of a list by their places, a whole line, and a
-- row that is refused.
use Rattle.std.specs.Prelude.{ℕ, suc, ◌+◌, ◌≤◌, ◌≡◌, Bool, true, false, cond, not, ◌&&◌, List, [], ◌∷◌, ◌++◌, eqb, drop, length}
use Rattle.lists.specs.Lists.{same, all}
use Rattle.lists.specs.Searching.{part}
use Rattle.characters.specs.Cells.{is_one, pair_script, answers, is_char}
use Rattle.characters.specs.Rows.{is_line, end_mark, rows, line_end}
use Rattle.characters.specs.declared.Char.{Char}
use Rattle.characters.specs.declared.Char.TheVariants.{One, Bad}
use Rattle.characters.specs.Text.{all_chars, is_stop}

-- two bytes are a character
abbrev pub is_pair : ℕ → ℕ → Bool
is_pair a b = is_char (pair_script a b)

-- the character that a list begins with
abbrev pub char_of : List ℕ → Char
char_of [] = Bad
char_of (a ∷ []) = cond (is_one a) One Bad
char_of (a ∷ b ∷ r) = cond (is_one a) One (pair_script a b)

-- the character at a position
unfoldable pub char_at : List ℕ → ℕ → Char
char_at s i = char_of (drop i s)

-- how many bytes the characters that pass a test take
abbrev pub bytes_of : (Char → Bool) → List ℕ → ℕ
bytes_of p [] = 0
bytes_of p (a ∷ []) = cond (p One && is_one a) 1 0
bytes_of p (a ∷ b ∷ r) = cond (is_one a) (cond (p One) 1 0 + bytes_of p (b ∷ r)) (cond (p (pair_script a b)) 2 0 + bytes_of p r)

-- the scripts without what they share
abbrev pub is_own_hiragana : Char → Bool
is_own_hiragana c = answers false true false false false false c

abbrev pub is_own_katakana : Char → Bool
is_own_katakana c = answers false false true false false false c

abbrev pub is_either : Char → Bool
is_either c = answers false false false true false false c

-- how many 2Ch a list has
abbrev pub comma_count : List ℕ → ℕ
comma_count [] = 0
comma_count (a ∷ l) = cond (eqb a 0x2c) 1 0 + comma_count l

-- where they stand, counted from k
abbrev pub commas_from : ℕ → List ℕ → List ℕ
commas_from k [] = []
commas_from k (a ∷ l) = cond (eqb a 0x2c) (k ∷ commas_from (suc k) l) (commas_from (suc k) l)

-- none of 0Dh, 0Ah and 1Ah
abbrev pub clean : List ℕ → Bool
clean s = all (λ b. not (is_stop b)) s

-- the first row is no line, and no 1Ah at the end
abbrev pub BrokenRow : List (List ℕ) → Type 0
BrokenRow [] = ⊥
BrokenRow (r ∷ rs) = (is_line r ≡ false) × (same r end_mark ≡ false)

-- a line from at to e, and the rows after its end
pub record WholeLine (s : List ℕ) (at e : ℕ) (good : Bool) : Type 0 where
  pub low : at ≤ e
  pub high : e + 2 ≤ length s
  pub cut : rows (drop at s) ≡ (part s at e ++ line_end) ∷ rows (drop (e + 2) s)
  pub clear : clean (part s at e) ≡ true
  pub chars : good ≡ all_chars (part s at e)
