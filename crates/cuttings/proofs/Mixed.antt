-- Whole pieces with records 911 of two IDs are no set. Assumes nothing.
use Prim.Native.Nat.{ℕ, ◌≤◌}
use mathlib.Core.Path.{◌≡◌, refl, sym, ap, ◌∙◌, subst}
use mathlib.Core.Bool.{Bool, true, false, cond, not}
use Rattle.std.specs.Prelude.{Option, Some, None}
use mathlib.Core.List.{List, [], ◌∷◌, ◌++◌, map, head-eq_of_cons-eq}
use borrow.Author.Tests.{le-leb}
use lib.ListN.{length}
use Rattle.lists.specs.Lists.{All, ok, refused}
use Rattle.lists.proofs.Tests.{both, not_true'}
use Rattle.characters.specs.Text.{text}
use Rattle.characters.specs.Rows.{flat}
use Rattle.records.specs.Records.{is_mark}
use Rattle.division.specs.Pieces.{Piece, split}
use Rattle.division.specs.Join.{unmarked, Part, part_of, part_with, all_parts, join_parts, join_pieces, joined_file, join_file, join_result}
use Rattle.division.specs.Orders.{Insert, here, there}
use Rattle.division.specs.Demand.{OnePiece}
use Rattle.division.proofs.Chunks.{Chunk, mark, chunk_bytes, piece_of, Good, split_bytes, chunks_once}
use Rattle.division.proofs.Parts.{no_none, some_inj, Joined, parts_joined}
use Rattle.division.proofs.Own.{Marked}
use Rattle.division.proofs.Fewest.{Chunks, chunked}
use Rattle.cuttings.specs.Cuttings.{InList}

-- ---- elements of lists

pub holds_in : (P : List ℕ → Type 0) {p : List ℕ} {ps : List (List ℕ)} → InList p ps → All P ps → P p
holds_in P {p} {ps} a h = go a.found h
  where
    go : {os l : List (List ℕ)} → Insert p os l → All P l → P p
    go here (h, t) = h
    go (there i) (h, t) = go i t

-- ---- a piece of the set, with the ID of its record 911

record HasPart (i : List ℕ) (zs : List Chunk) : Type 0 where
  chunk : Chunk
  others : List Chunk
  found : Insert chunk others zs
  part : Part
  is : part_of chunk.provider chunk.rows ≡ Some part
  ident : part.mark.ident ≡ i

-- the chunk of bytes that a marked piece has
marked_part : {i q : List ℕ} (e : Bool) (z : Chunk) → Good z → chunk_bytes z ≡ q ++ mark e → (m : Marked i q) → part_of z.provider z.rows ≡ Some m.part
marked_part {i} {q} e z g p m =
    let x : Chunk = record { provider = m.provider; rows = m.rows; ended = e } in
    let s : z ∷ [] ≡ x ∷ [] = chunks_once (z ∷ []) (x ∷ []) (g, tt) (m.good, tt) (ap (λ (t : List ℕ). t ++ []) (p ∙ m.bytes e)) in
    ap (λ (y : Chunk). part_of y.provider y.rows) (head-eq_of_cons-eq s) ∙ m.is

has_part : {i q : List ℕ} (e : Bool) (zs : List Chunk) {p : List ℕ} {os : List (List ℕ)} → All Good zs → Insert p os (map chunk_bytes zs) → p ≡ q ++ mark e → Marked i q
    → HasPart i zs
has_part e (z ∷ zs) (g, t) here h m =
    record { chunk = z; others = zs; found = here; part = m.part; is = marked_part e z g h m; ident = m.ident }
has_part e (z ∷ zs) (g, t) (there k) h m =
    let r : HasPart _ zs = has_part e zs t k h m in
    record { chunk = r.chunk; others = z ∷ r.others; found = there r.found; part = r.part; is = r.is; ident = r.ident }
has_part e [] _ k h m = elim k [ ]

-- ---- all parts that are joined have one ID

-- a piece without a record 911 is no part
no_part : (d : Bool) (rs : List (List ℕ)) → unmarked rs ≡ true → part_of d rs ≡ None
unfolding unmarked part_of
no_part d [] u = refl
no_part d (r ∷ rs) u =
    let a = both (not (is_mark (text r))) (unmarked rs) u in
    rw (not_true' (is_mark (text r)) a.0, no_part d rs a.1)

record FromParts (xs : List Piece) (w : Piece) : Type 0 where
  parts : List Part
  all : all_parts xs ≡ Some parts
  joined : join_parts (Some parts) ≡ Some w

from_parts : (xs : List Piece) (w : Piece) → join_parts (all_parts xs) ≡ Some w → FromParts xs w
from_parts xs w e = go (all_parts xs) refl e
  where
    go : (m : Option (List Part)) → all_parts xs ≡ m → join_parts m ≡ Some w → FromParts xs w
    go None p q = absurd (no_none q)
    go (Some ps) p q = record { parts = ps; all = p; joined = q }

set_parts : {i : List ℕ} (zs : List Chunk) (w : Piece) → HasPart i zs → join_pieces (map piece_of zs) ≡ Some w → FromParts (map piece_of zs) w
unfolding join_pieces
set_parts [] w h e = absurd (no_none e)
set_parts {i} (z ∷ []) w h e = go (unmarked z.rows) refl h.found h.is e
  where
    go : (b : Bool) → unmarked z.rows ≡ b → {x : Chunk} {os : List Chunk} {p : Part} → Insert x os (z ∷ []) → part_of x.provider x.rows ≡ Some p
        → cond b (Some (piece_of z)) (join_parts (all_parts (piece_of z ∷ []))) ≡ Some w → FromParts (piece_of z ∷ []) w
    go true u here i e = absurd (no_none (sym (no_part z.provider z.rows u) ∙ i))
    go true u (there k) i e = elim k [ ]
    go false u f i e = from_parts (piece_of z ∷ []) w e
set_parts (z ∷ y ∷ zs) w h e = from_parts (map piece_of (z ∷ y ∷ zs)) w e

-- the first part and the others
record FirstPart (x : Piece) (xs : List Piece) (ps : List Part) : Type 0 where
  part : Part
  rest : List Part
  first : part_of x.provider x.rows ≡ Some part
  others : all_parts xs ≡ Some rest
  is : part ∷ rest ≡ ps

first_part_lem : (x : Piece) (xs : List Piece) (ps : List Part) → all_parts (x ∷ xs) ≡ Some ps → FirstPart x xs ps
unfolding all_parts
first_part_lem x xs ps e = go (part_of x.provider x.rows) refl (all_parts xs) refl e
  where
    go : (m : Option Part) → part_of x.provider x.rows ≡ m → (r : Option (List Part)) → all_parts xs ≡ r → part_with m r ≡ Some ps → FirstPart x xs ps
    go None p r q e = absurd (no_none e)
    go (Some y) p None q e = absurd (no_none e)
    go (Some y) p (Some qs) q e = record { part = y; rest = qs; first = p; others = q; is = some_inj e }

-- a part of the set has the ID that all have
one_of : {j : List ℕ} (zs : List Chunk) (ps : List Part) → all_parts (map piece_of zs) ≡ Some ps → All (λ p. p.mark.ident ≡ j) ps
    → {x : Chunk} {os : List Chunk} {p : Part} → Insert x os zs → part_of x.provider x.rows ≡ Some p → p.mark.ident ≡ j
one_of {j} [] ps e a k h = elim k [ ]
one_of {j} (z ∷ zs) ps e a here h =
    let f : FirstPart (piece_of z) (map piece_of zs) ps = first_part_lem (piece_of z) (map piece_of zs) ps e in
    let b : All (λ p. p.mark.ident ≡ j) (f.part ∷ f.rest) = subst (All (λ p. p.mark.ident ≡ j)) (sym f.is) a in
    ap (λ (p : Part). p.mark.ident) (some_inj (sym h ∙ f.first)) ∙ b.0
one_of {j} (z ∷ zs) ps e a (there i) h =
    let f : FirstPart (piece_of z) (map piece_of zs) ps = first_part_lem (piece_of z) (map piece_of zs) ps e in
    let b : All (λ p. p.mark.ident ≡ j) (f.part ∷ f.rest) = subst (All (λ p. p.mark.ident ≡ j)) (sym f.is) a in
    one_of zs f.rest f.others b.1 i h

no_set : {i j : List ℕ} (zs : List Chunk) → HasPart i zs → HasPart j zs → (i ≡ j → ⊥) → join_pieces (map piece_of zs) ≡ None
no_set {i} {j} zs h g n = go (join_pieces (map piece_of zs)) refl
  where
    go : (m : Option Piece) → join_pieces (map piece_of zs) ≡ m → m ≡ None
    go None e = refl
    go (Some w) e =
        let f : FromParts (map piece_of zs) w = set_parts zs w h e in
        let s : Joined f.parts w = parts_joined f.parts w f.joined in
        let a : h.part.mark.ident ≡ s.ident = one_of zs f.parts f.all s.one_id h.found h.is in
        let b : g.part.mark.ident ≡ s.ident = one_of zs f.parts f.all s.one_id g.found g.is in
        absurd (n (sym h.ident ∙ a ∙ sym b ∙ g.ident))

-- ---- JOINING PIECES OF TWO IDs is 19

split_zs : (zs : List Chunk) {i : List ℕ} → HasPart i zs → All Good zs → split (flat (map chunk_bytes zs)) ≡ ok (map piece_of zs)
split_zs zs h g = go zs h.found g
  where
    go : (zs : List Chunk) {x : Chunk} {os : List Chunk} → Insert x os zs → All Good zs → split (flat (map chunk_bytes zs)) ≡ ok (map piece_of zs)
    go [] i g = elim i [ ]
    go (z ∷ zs) i g = split_bytes z zs g

pub two_ids : {i j a b : List ℕ} (ps : List (List ℕ)) → All OnePiece ps → length (flat ps) ≤ 131072 → (i ≡ j → ⊥)
    → {p q : List ℕ} → InList p ps → InList q ps → (e : Bool) → p ≡ a ++ mark e → Marked i a → (o : Bool) → q ≡ b ++ mark o → Marked j b
    → join_result (flat ps) ≡ refused 19 0
unfolding joined_file join_file join_result
two_ids {i} {j} ps w l n {p} {q} x y e h m o k u =
    let c : Chunks ps = chunked ps w in
    let zs : List Chunk = c.chunks in
    let s : HasPart i zs = has_part e zs c.good (subst (Insert p x.others) c.bytes x.found) h m in
    let t : HasPart j zs = has_part o zs c.good (subst (Insert q y.others) c.bytes y.found) k u in
    let z : split (flat ps) ≡ ok (map piece_of zs) = ap (λ (r : List (List ℕ)). split (flat r)) c.bytes ∙ split_zs zs s c.good in
    rw (le-leb (length (flat ps)) 131072 l, z, no_set zs s t n)
