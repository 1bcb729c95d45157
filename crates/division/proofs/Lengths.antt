-- No joined file is longer than the input of joining. Assumes nothing.
use Prim.Native.Nat.{ℕ, ◌+◌, ◌≤◌}
use native.Mathlib.Omega.{arith}
use mathlib.Core.Path.{◌≡◌, refl, ap}
use mathlib.Core.Bool.{Bool, true, false, cond, ◌&&◌}
use Rattle.std.specs.Prelude.{Option, Some, None}
use mathlib.Core.List.{List, [], ◌∷◌, ◌++◌}
use lib.Dec.{leb, eqb}
use lib.ListN.{length, length-append}
use Rattle.lists.specs.Lists.{ok, refused}
use Rattle.characters.specs.Text.{text}
use Rattle.characters.specs.Rows.{rows, flat}
use Rattle.characters.proofs.RowLaws.{flat_rows}
use Rattle.records.specs.Records.{is_mark}
use Rattle.notebook.specs.Canonical.{head_row}
use Rattle.notebook.proofs.Accepted.{no_refusal, head_length}
use Rattle.division.specs.Marks.{Mark, read_mark}
use Rattle.division.specs.Pieces.{RowKind, head, end_head, body, end, broken, kind_of, broken_line, Piece, body_step, body_of, opened, opens, pieces_in, starts_well, split_rows, split, file_of}
use Rattle.division.specs.Join.{unmarked, Part, row_before, last_mark, part_of, part_with, all_parts, agree, gather, one_piece, join_parts, join_pieces, or_set, join_split, joined_file}
use Rattle.division.proofs.Chunks.{head_bytes}
use Rattle.division.proofs.Parts.{no_none, some_inj, bytes_in, gather_bytes}

-- the pieces with a line 1 each
abbrev piece_bytes : List Piece → ℕ
piece_bytes [] = 0
piece_bytes (x ∷ xs) = 13 + (length (flat x.rows) + piece_bytes xs)

-- ---- the pieces are no longer than the rows, and their parts no longer than they

pieces_bytes : (rs : List (List ℕ)) → length (flat (body_of rs)) + piece_bytes (pieces_in rs) ≤ length (flat rs)
unfolding body_of pieces_in
pieces_bytes [] = omega arith
pieces_bytes (r ∷ rs) = go (kind_of r) (head_bytes r) (pieces_bytes rs)
  where
    go : (k : RowKind) → (opens k ≡ true → 13 ≤ length r) → length (flat (body_of rs)) + piece_bytes (pieces_in rs) ≤ length (flat rs)
        → length (flat (body_step r (body_of rs) k)) + piece_bytes (opened (body_of rs) (pieces_in rs) k) ≤ length (flat (r ∷ rs))
    go (head d) h i = omega (arith, length-append r (flat rs), h refl, i)
    go (end_head d) h i = omega (arith, length-append r (flat rs), h refl, i)
    go body h i = omega (arith, length-append r (flat rs), length-append r (flat (body_of rs)), i)
    go end h i = omega (arith, length-append r (flat rs), i)
    go broken h i = omega (arith, length-append r (flat rs), i)

part_bytes : (d : Bool) (rs : List (List ℕ)) (p : Part) → part_of d rs ≡ Some p → length (flat p.rows) ≤ length (flat rs)
unfolding part_of
part_bytes d [] p e = absurd (no_none e)
part_bytes d (r ∷ rs) p e = go (is_mark (text r)) (part_bytes d rs) e
  where
    last : (l : List (List ℕ)) (m : Option Mark) → last_mark d l m ≡ Some p → length (flat p.rows) ≤ length (flat (r ∷ rs))
    last [] None e = absurd (no_none e)
    last [] (Some m) e = omega (arith, ap (λ (q : Part). length (flat q.rows)) (some_inj e))
    last (x ∷ l) m e = absurd (no_none e)

    more : (o : Option Part) → ((q : Part) → o ≡ Some q → length (flat q.rows) ≤ length (flat rs)) → row_before r o ≡ Some p
        → length (flat p.rows) ≤ length (flat (r ∷ rs))
    more None i e = absurd (no_none e)
    more (Some q) i e =
        omega (arith, ap (λ (z : Part). length (flat z.rows)) (some_inj e), length-append r (flat q.rows), length-append r (flat rs), i q refl)

    go : (b : Bool) → ((q : Part) → part_of d rs ≡ Some q → length (flat q.rows) ≤ length (flat rs))
        → cond b (last_mark d rs (read_mark (text r))) (row_before r (part_of d rs)) ≡ Some p → length (flat p.rows) ≤ length (flat (r ∷ rs))
    go true i e = last rs (read_mark (text r)) e
    go false i e = more (part_of d rs) i e

parts_bytes : (xs : List Piece) (ps : List Part) → all_parts xs ≡ Some ps → bytes_in ps ≤ piece_bytes xs
unfolding all_parts
parts_bytes [] ps e = omega (arith, ap bytes_in (some_inj e))
parts_bytes (x ∷ xs) ps e = go (part_of x.provider x.rows) (part_bytes x.provider x.rows) (all_parts xs) (parts_bytes xs) e
  where
    go : (o : Option Part) → ((p : Part) → o ≡ Some p → length (flat p.rows) ≤ length (flat x.rows)) → (t : Option (List Part))
        → ((ps : List Part) → t ≡ Some ps → bytes_in ps ≤ piece_bytes xs) → part_with o t ≡ Some ps → bytes_in ps ≤ piece_bytes (x ∷ xs)
    go None i t j e = absurd (no_none e)
    go (Some p) i None j e = absurd (no_none e)
    go (Some p) i (Some qs) j e = omega (arith, ap bytes_in (some_inj e), i p refl, j qs refl)

-- a first piece has a line 1 more
first_bytes : (x : Piece) (xs : List Piece) (ps : List Part) → all_parts (x ∷ xs) ≡ Some ps → 13 + bytes_in ps ≤ piece_bytes (x ∷ xs)
unfolding all_parts
first_bytes x xs ps e = go (part_of x.provider x.rows) (part_bytes x.provider x.rows) (all_parts xs) (parts_bytes xs) e
  where
    go : (o : Option Part) → ((p : Part) → o ≡ Some p → length (flat p.rows) ≤ length (flat x.rows)) → (t : Option (List Part))
        → ((ps : List Part) → t ≡ Some ps → bytes_in ps ≤ piece_bytes xs) → part_with o t ≡ Some ps → 13 + bytes_in ps ≤ piece_bytes (x ∷ xs)
    go None i t j e = absurd (no_none e)
    go (Some p) i None j e = absurd (no_none e)
    go (Some p) i (Some qs) j e = omega (arith, ap bytes_in (some_inj e), i p refl, j qs refl)

-- ---- the joined piece

joined_bytes : (o : Option (List Part)) (m : ℕ) → ((ps : List Part) → o ≡ Some ps → 13 + bytes_in ps ≤ m) → (p : Piece) → join_parts o ≡ Some p
    → 13 + length (flat p.rows) ≤ m
joined_bytes None m h p e = absurd (no_none e)
joined_bytes (Some []) m h p e = absurd (no_none e)
joined_bytes (Some (q ∷ qs)) m h p e = go (agree q qs && (leb 2 q.mark.count && eqb (length (q ∷ qs)) q.mark.count)) e
  where
    rows_of : (o : Option (List (List ℕ))) → ((ls : List (List ℕ)) → o ≡ Some ls → length (flat ls) ≤ bytes_in (q ∷ qs)) → one_piece q.provider o ≡ Some p
        → 13 + length (flat p.rows) ≤ m
    rows_of None i e = absurd (no_none e)
    rows_of (Some ls) i e = omega (arith, ap (λ (z : Piece). length (flat z.rows)) (some_inj e), i ls refl, h (q ∷ qs) refl)

    go : (b : Bool) → cond b (one_piece q.provider (gather (q ∷ qs) q.mark.count 1)) None ≡ Some p → 13 + length (flat p.rows) ≤ m
    go true e = rows_of (gather (q ∷ qs) q.mark.count 1) (gather_bytes q.mark.count 1 (q ∷ qs)) e
    go false e = absurd (no_none e)

join_bytes : (xs : List Piece) (p : Piece) → join_pieces xs ≡ Some p → 13 + length (flat p.rows) ≤ piece_bytes xs
unfolding join_pieces
join_bytes [] p e = absurd (no_none e)
join_bytes (x ∷ []) p e = go (unmarked x.rows) e
  where
    go : (b : Bool) → cond b (Some x) (join_parts (all_parts (x ∷ []))) ≡ Some p → 13 + length (flat p.rows) ≤ piece_bytes (x ∷ [])
    go true e = omega (arith, ap (λ (z : Piece). length (flat z.rows)) (some_inj e))
    go false e = joined_bytes (all_parts (x ∷ [])) (piece_bytes (x ∷ [])) (first_bytes x []) p e
join_bytes (x ∷ y ∷ xs) p e = joined_bytes (all_parts (x ∷ y ∷ xs)) (piece_bytes (x ∷ y ∷ xs)) (first_bytes x (y ∷ xs)) p e

-- NO JOINED FILE IS LONGER THAN THE INPUT
pub joined_no_longer : (s w : List ℕ) → joined_file s ≡ ok w → length w ≤ length s
unfolding joined_file split split_rows file_of
joined_no_longer s w e = go (leb (length s) 131072) (eqb (broken_line (rows s)) 0) (starts_well (rows s)) e
  where
    file : (o : Option Piece) → ((p : Piece) → o ≡ Some p → 13 + length (flat p.rows) ≤ piece_bytes (pieces_in (rows s))) → or_set o ≡ ok w
        → length w ≤ length s
    file None i e = absurd (no_refusal e)
    file (Some p) i e =
        let z : head_row p.provider ++ flat p.rows ≡ w = cc in
        omega (arith, ap length z, length-append (head_row p.provider) (flat p.rows), head_length p.provider, i p refl, pieces_bytes (rows s), ap length (flat_rows s))

    go : (a b c : Bool) → cond a (join_split (cond b (cond c (ok (pieces_in (rows s))) (refused 19 0)) (refused 2 (broken_line (rows s))))) (refused 1 0) ≡ ok w
        → length w ≤ length s
    go true true true e = file (join_pieces (pieces_in (rows s))) (join_bytes (pieces_in (rows s))) e
    go true true false e = absurd (no_refusal e)
    go true false c e = absurd (no_refusal e)
    go false b c e = absurd (no_refusal e)
