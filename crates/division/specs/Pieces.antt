-- Definitions, to be believed.
-- The input of joining as pieces, row by row (a row is cut after each 0Ah: characters, specs/Rows.antt). Document 01, "Cutting and
-- joining": "pieces in any order, an optional 1Ah after each; a 1Ah elsewhere is number 2. A piece runs from a JAHISTC04,1 or JAHISTC04,2
-- line to the next such line or the end."
use Rattle.std.specs.Prelude.{ℕ, ◌+◌, Bool, true, false, cond, List, [], ◌∷◌, ◌++◌, eqb}
use Rattle.lists.specs.Lists.{same, Res, ok, refused}
use Rattle.characters.specs.Rows.{rows, flat, is_line, end_mark}
use Rattle.notebook.specs.Canonical.{head_row}

-- ---- the kinds of rows

pub data RowKind : Type 0 where
  -- a line 1 of a direction
  head : Bool → RowKind
  -- the 1Ah of the piece before, and a line 1: a 1Ah has no 0Ah after it, so it stands in front of the next line's row
  end_head : Bool → RowKind
  -- any other line
  body : RowKind
  -- the 1Ah of the last piece, which is the last row
  end : RowKind
  -- no line
  broken : RowKind

unfoldable pub kind_of : List ℕ → RowKind
kind_of r =
    cond (same r (head_row true)) (head true) (cond (same r (head_row false)) (head false)
    (cond (is_line r) body (cond (same r end_mark) end
    (cond (same r (0x1a ∷ head_row true)) (end_head true) (cond (same r (0x1a ∷ head_row false)) (end_head false) broken)))))

-- ---- number 2, over the whole input

-- The line of the first row that breaks the rule of line ends, 0 for none. begun: a line 1 stands before; n: this row's line. A 1Ah is in
-- place after a piece only.
abbrev pub judged : Bool → ℕ → (Bool → ℕ) → RowKind → ℕ
judged begun n next (head d) = next true
judged begun n next (end_head d) = cond begun (next true) n
judged begun n next body = next begun
judged begun n next end = cond begun (next true) n
judged begun n next broken = n

unfoldable pub broken_from : Bool → ℕ → List (List ℕ) → ℕ
broken_from begun n [] = 0
broken_from begun n (r ∷ rs) = judged begun n (λ b. broken_from b (n + 1) rs) (kind_of r)

-- "empty input has line 1"
unfoldable pub broken_line : List (List ℕ) → ℕ
broken_line [] = 1
broken_line (r ∷ rs) = broken_from false 1 (r ∷ rs)

-- ---- the pieces

-- a line 1 of a direction, and the rows after it
pub record Piece : Type 0 where
  pub provider : Bool
  pub rows : List (List ℕ)

-- the rows up to the next line 1 or the end
abbrev pub body_step : List ℕ → List (List ℕ) → RowKind → List (List ℕ)
body_step r rs (head d) = []
body_step r rs (end_head d) = []
body_step r rs body = r ∷ rs
body_step r rs end = []
body_step r rs broken = []

unfoldable pub body_of : List (List ℕ) → List (List ℕ)
body_of [] = []
body_of (r ∷ rs) = body_step r (body_of rs) (kind_of r)

abbrev pub opened : List (List ℕ) → List Piece → RowKind → List Piece
opened rs ps (head d) = record { provider = d; rows = rs } ∷ ps
opened rs ps (end_head d) = record { provider = d; rows = rs } ∷ ps
opened rs ps body = ps
opened rs ps end = ps
opened rs ps broken = ps

unfoldable pub pieces_in : List (List ℕ) → List Piece
pieces_in [] = []
pieces_in (r ∷ rs) = opened (body_of rs) (pieces_in rs) (kind_of r)

-- ---- 2, then "a line stands before the first", which is 19

abbrev pub opens : RowKind → Bool
opens (head d) = true
opens (end_head d) = true
opens body = false
opens end = false
opens broken = false

abbrev pub starts_well : List (List ℕ) → Bool
starts_well [] = false
starts_well (r ∷ rs) = opens (kind_of r)

unfoldable pub split_rows : List (List ℕ) → Res (List Piece)
split_rows rs = cond (eqb (broken_line rs) 0) (cond (starts_well rs) (ok (pieces_in rs)) (refused 19 0)) (refused 2 (broken_line rs))

unfoldable pub split : List ℕ → Res (List Piece)
split s = split_rows (rows s)

-- the file that a piece without a record 911 is
unfoldable pub file_of : Piece → List ℕ
file_of p = head_row p.provider ++ flat p.rows
