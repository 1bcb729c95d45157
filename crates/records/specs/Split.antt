-- Definitions, to be believed.
-- A line cut into items at each 2Ch, and items joined again. Document 01, "Lines and characters": "a number, then items, separated by
-- 2Ch"; 15-106 3.2.1, 3.2.4.
use Rattle.std.specs.Prelude.{ℕ, Bool, cond, List, [], ◌∷◌, ◌++◌}
use Rattle.lists.specs.Lists.{is}

abbrev pub is_comma : ℕ → Bool
is_comma b = is 0x2c b

-- a byte more at the front of the first item
abbrev pub cons_item : ℕ → List (List ℕ) → List (List ℕ)
cons_item a [] = (a ∷ []) ∷ []
cons_item a (i ∷ rest) = (a ∷ i) ∷ rest

-- a line cut at each 2Ch
abbrev pub items_of : List ℕ → List (List ℕ)
items_of [] = [] ∷ []
items_of (a ∷ l) = cond (is_comma a) ([] ∷ items_of l) (cons_item a (items_of l))

-- items with 2Ch between them
unfoldable pub joined : List ℕ → List (List ℕ) → List ℕ
joined h [] = h
joined h (s ∷ ss) = h ++ 0x2c ∷ joined s ss
