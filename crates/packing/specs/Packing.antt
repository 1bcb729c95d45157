-- Definitions, to be believed.
-- Packing things of a length into numbered pieces of a capacity. Document 01, "Cutting and joining": "Records are packed as many as fit,
-- in order." Nothing here is about bytes or records: `len` is a thing's length, `o k` is what piece k holds besides its things.
use Rattle.std.specs.Prelude.{ℕ, suc, ◌+◌, cond, List, [], ◌∷◌, Option, Some, None, leb}
use Rattle.std.specs.Option.{option_map}

-- the length of all
unfoldable pub total : {A : Type 0} → (A → ℕ) → List A → ℕ
total len [] = 0
total len (r ∷ rs) = len r + total len rs

-- a thing more at the front of the first run
unfoldable pub put : {A : Type 0} → A → List (List A) → List (List A)
put r [] = (r ∷ []) ∷ []
put r (x ∷ xs) = (r ∷ x) ∷ xs

-- The runs from piece k on, of which u is taken: each thing goes into the piece if it fits, else it opens the next; none where it does not
-- fit there either.
unfoldable pub pack : {A : Type 0} → (A → ℕ) → (ℕ → ℕ) → ℕ → ℕ → ℕ → List A → Option (List (List A))
pack len o c k u [] = Some ([] ∷ [])
pack len o c k u (r ∷ rs) =
    cond (leb (u + len r) c) (option_map (put r) (pack len o c k (u + len r) rs))
    (cond (leb (o (suc k) + len r) c) (option_map (λ xs. [] ∷ put r xs) (pack len o c (suc k) (o (suc k) + len r) rs)) None)
