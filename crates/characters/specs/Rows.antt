-- Definitions, to be believed.
-- A file cut into rows after each 0Ah, and the rows that are lines. Document 01, "Lines and characters"; refusal 2; 15-106 3.2.1, 3.2.4.
-- Every list of bytes is the bytes of its rows; a row that breaks the rule of line ends is a row that is no line.
use Rattle.std.specs.Prelude.{ℕ, Bool, cond, List, [], ◌∷◌, ◌++◌, eqb}
use Rattle.lists.specs.Lists.{same}
use Rattle.characters.specs.Text.{text}

-- a byte more at the front of the first row
abbrev pub cons_row : ℕ → List (List ℕ) → List (List ℕ)
cons_row a [] = (a ∷ []) ∷ []
cons_row a (r ∷ rs) = (a ∷ r) ∷ rs

-- cut after each 0Ah; the last row may lack it
abbrev pub rows : List ℕ → List (List ℕ)
rows [] = []
rows (a ∷ s) = cond (eqb a 0x0a) ((a ∷ []) ∷ rows s) (cons_row a (rows s))

-- the bytes of rows
abbrev pub flat : List (List ℕ) → List ℕ
flat [] = []
flat (r ∷ rs) = r ++ flat rs

abbrev pub line_end : List ℕ
line_end = 0x0d ∷ 0x0a ∷ []

-- "lines ended by 0Dh 0Ah": a text without 0Dh, 0Ah and 1Ah, and the line end
unfoldable pub is_line : List ℕ → Bool
is_line r = same r (text r ++ line_end)

-- "then optionally one 1Ah as the very last byte": without 0Ah it is the last row
abbrev pub end_mark : List ℕ
end_mark = 0x1a ∷ []
