-- Definitions, to be believed.
-- The places of document 01's "Order of records" (15-106 3.2.7, patterns 1 and 2): the place is the number of the last record, 0 before
-- the first. Each record moves the reader to the place of its own number, so the pattern is which record may follow which (`may_follow`).
use Rattle.std.specs.Prelude.{ℕ, Bool, false, cond, ◌||◌, List, [], ◌∷◌, eqb}
use Rattle.lists.specs.Lists.{member}

-- the answer of the row n, false where there is no such row
abbrev pub look_up : ℕ → List (ℕ × Bool) → Bool
look_up n [] = false
look_up n (x ∷ xs) = cond (eqb n x.0) x.1 (look_up n xs)

-- ---- parts of the pattern

-- "At most one 1; then any 2s, then 3s, then 4s", and before them
abbrev pub in_head : ℕ → Bool
in_head p = member (0 ∷ 1 ∷ 2 ∷ 3 ∷ 4 ∷ []) p

-- "5 (always, here), at most one 11, 15 and 51 each": a group before its prescriptions
abbrev pub in_front : ℕ → Bool
in_front p = member (5 ∷ 11 ∷ 15 ∷ 51 ∷ []) p

-- "drugs (201, any 281s, then any 291s)"
abbrev pub in_drugs : ℕ → Bool
in_drugs p = member (201 ∷ 281 ∷ 291 ∷ []) p

-- a prescription (RP): "one or more drugs (..), at most one 301, 311s only after a 301, then any 391s"
abbrev pub in_rp : ℕ → Bool
in_rp p = member (201 ∷ 281 ∷ 291 ∷ 301 ∷ 311 ∷ 391 ∷ []) p

-- "then any 401s, 411s, 501s, 601s"
abbrev pub in_rest : ℕ → Bool
in_rest p = member (401 ∷ 411 ∷ 501 ∷ 601 ∷ []) p

-- a group is open from its 5 on: it "closes at the next 5, a 701 or the end"
unfoldable pub in_group : ℕ → Bool
in_group p = in_front p || eqb p 55 || in_rp p || in_rest p

-- what belongs to the open RP by its number alone; a 201 may begin the next
abbrev pub of_open_rp : ℕ → Bool
of_open_rp n = member (281 ∷ 291 ∷ 301 ∷ 311 ∷ 391 ∷ []) n

-- ---- the pattern

-- A row for each record number: whether it may stand after place p. 15-106 3.2.8, last column: at most one 1 in a file, one 5, 11, 15, 51
-- in a group, one 301 in an RP. A 55 "is followed by 201"; a 201 after a drug is of the same RP or of the next.
abbrev pub pattern : ℕ → List (ℕ × Bool)
pattern p =
    (1, eqb p 0)
    ∷ (2, member (0 ∷ 1 ∷ 2 ∷ []) p)
    ∷ (3, member (0 ∷ 1 ∷ 2 ∷ 3 ∷ []) p)
    ∷ (4, in_head p)
    ∷ (5, in_head p || in_front p || in_rp p || in_rest p)
    ∷ (11, eqb p 5)
    ∷ (15, member (5 ∷ 11 ∷ []) p)
    ∷ (51, member (5 ∷ 11 ∷ 15 ∷ []) p)
    ∷ (55, in_front p || in_rp p)
    ∷ (201, in_front p || eqb p 55 || in_rp p)
    ∷ (281, member (201 ∷ 281 ∷ []) p)
    ∷ (291, in_drugs p)
    ∷ (301, in_drugs p)
    ∷ (311, member (301 ∷ 311 ∷ []) p)
    ∷ (391, in_rp p)
    ∷ (401, in_front p || in_rp p || eqb p 401)
    ∷ (411, in_front p || in_rp p || member (401 ∷ 411 ∷ []) p)
    ∷ (501, in_front p || in_rp p || member (401 ∷ 411 ∷ 501 ∷ []) p)
    ∷ (601, in_front p || in_rp p || in_rest p)
    ∷ (701, in_head p || in_front p || in_rp p || in_rest p || eqb p 701)
    ∷ []

-- record n may stand after place p; no other number stands anywhere
unfoldable pub may_follow : ℕ → ℕ → Bool
may_follow p n = look_up n (pattern p)
