-- Definitions, to be believed.
-- Characters of a list of bytes, and the text up to a line's end. Document 01, "Lines and characters"; refusals 2 and 4; 15-106 3.2.4, 3.2.5.
use Rattle.std.specs.Prelude.{ℕ, Bool, true, cond, ◌&&◌, ◌||◌, List, [], ◌∷◌, eqb}
use Rattle.lists.specs.Lists.{up_to}
use Rattle.characters.specs.declared.Char.{Char}
use Rattle.characters.specs.declared.Char.TheVariants.{One}
use Rattle.characters.specs.Cells.{is_one, pair_script, is_char}

-- the list is characters, each of which passes the test p, and nothing else. (viii) "all who read characters take that answer": what is asked of a text
-- is asked of its characters as they are read. The last byte can only be a character of one byte.
abbrev pub chars_are : (Char → Bool) → List ℕ → Bool
chars_are p [] = true
chars_are p (a ∷ []) = p One && is_one a
chars_are p (a ∷ b ∷ r) = cond (is_one a) (p One && chars_are p (b ∷ r)) (p (pair_script a b) && chars_are p r)

-- refusal 4 where a line is not. 15-106 3.2.5: the characters of JIS X 0201-1976 (8 bits) and JIS X 0208-1983, annex 1, and no others. The clause also
-- keeps 81A1h out but for what has no replacement; document 01's cells have it.
abbrev pub all_chars : List ℕ → Bool
all_chars l = chars_are is_char l

-- 0Dh, 0Ah and 1Ah, which "stand nowhere else"
abbrev pub is_stop : ℕ → Bool
is_stop a = eqb a 0x0d || eqb a 0x0a || eqb a 0x1a

-- the bytes before the first of them
abbrev pub text : List ℕ → List ℕ
text l = up_to is_stop l
