-- Examples, computed.
-- The k's of pieces as they lie, a k that is looked for, and the count; and three pieces out of order, which take 6 looks; written from document 02 (iv).
-- proofs/AllExamples.antt computes them.
use Rattle.std.specs.Prelude.{ℕ, List, [], ◌∷◌}

pub record Looked : Type 0 where
  pub wanted : ℕ
  pub ks : List ℕ
  pub count : ℕ

abbrev pub search : ℕ → List ℕ → ℕ → Looked
search k ks c = record { wanted = k; ks = ks; count = c }

abbrev pub searches : List Looked
searches =
    -- the first, the second, the last
    search 3 (3 ∷ 1 ∷ 2 ∷ []) 1
    ∷ search 1 (3 ∷ 1 ∷ 2 ∷ []) 2
    ∷ search 2 (3 ∷ 1 ∷ 2 ∷ []) 3
    -- none is k: the number of pieces
    ∷ search 4 (3 ∷ 1 ∷ 2 ∷ []) 3
    ∷ search 0 (3 ∷ 1 ∷ 2 ∷ []) 3
    ∷ search 7 (8 ∷ []) 1
    ∷ search 7 [] 0
    -- twice: the first of the two
    ∷ search 2 (1 ∷ 2 ∷ 2 ∷ []) 2
    ∷ search 2 (2 ∷ 1 ∷ 2 ∷ []) 1
    -- the only one
    ∷ search 7 (7 ∷ []) 1
    -- equal in their last byte
    ∷ search 1 (257 ∷ 513 ∷ 1 ∷ []) 3
    ∷ []

abbrev pub three : List ℕ
three = 2 ∷ 3 ∷ 1 ∷ []
