-- Bytes and pieces are exact inverses: what is put together from pieces is split into them again (`split_bytes`), and what is split is their
-- bytes and nothing else (`split_is`). A chunk is a piece with its 1Ah, if it has one. Assumes nothing.
use Prim.Native.Nat.{ℕ, ◌+◌, ◌≤◌}
use native.Mathlib.Omega.{arith}
use mathlib.Core.Path.{◌≡◌, refl, sym, ap, ◌∙◌, subst}
use mathlib.Core.Bool.{Bool, true, false, cond, false≢true}
use mathlib.Core.List.{List, [], ◌∷◌, ◌++◌, map, append_assoc, append-nil, nil≢cons, head-eq_of_cons-eq, tail-eq_of_cons-eq}
use borrow.Author.Tests.{eq-eqb, eqb-true}
use lib.Dec.{eqb}
use lib.ListN.{length, drop, length-append}
use lib.Seq.{drop-append_seam}
use Rattle.lists.specs.Lists.{bytes, same, All, ok, refused}
use Rattle.lists.proofs.Tests.{same_true}
use Rattle.characters.specs.Rows.{rows, flat, is_line, end_mark, cons_row}
use Rattle.characters.proofs.RowLaws.{flat_rows}
use Rattle.records.specs.Records.{header}
use Rattle.notebook.specs.Canonical.{head_row}
use Rattle.notebook.proofs.Accepted.{no_refusal, IsLine, head_line, head_length, row_cut, rows_cut}
use Rattle.division.specs.Pieces.{RowKind, head, end_head, body, end, broken, kind_of, judged, broken_from, broken_line, Piece, body_of, pieces_in, opens, starts_well, split_rows, split}

-- ---- chunks, and their bytes

pub record Chunk : Type 0 where
  pub provider : Bool
  pub rows : List (List ℕ)
  -- a 1Ah follows
  pub ended : Bool

abbrev pub mark : Bool → List ℕ
mark true = end_mark
mark false = []

unfoldable pub chunk_bytes : Chunk → List ℕ
chunk_bytes x = head_row x.provider ++ (flat x.rows ++ mark x.ended)

abbrev pub piece_of : Chunk → Piece
piece_of x = record { provider = x.provider; rows = x.rows }

-- a row after line 1: a line, and no line 1
abbrev pub Body : List ℕ → Type 0
Body r = kind_of r ≡ body

abbrev pub Good : Chunk → Type 0
Good x = All Body x.rows

-- ---- the kinds of rows, both ways

pub kind_head : (d : Bool) → kind_of (head_row d) ≡ head d
unfolding kind_of header bytes
kind_head true = refl
kind_head false = refl

kind_end_head : (d : Bool) → kind_of (0x1a ∷ head_row d) ≡ end_head d
unfolding kind_of is_line header bytes
kind_end_head true = refl
kind_end_head false = refl

kind_end : kind_of end_mark ≡ end
unfolding kind_of is_line header bytes
kind_end = refl

-- what a row of a kind is
abbrev Spelled : List ℕ → RowKind → Type 0
Spelled r (head d) = r ≡ head_row d
Spelled r (end_head d) = r ≡ 0x1a ∷ head_row d
Spelled r body = IsLine r
Spelled r end = r ≡ end_mark
Spelled r broken = Unit {0}

spelled : (r : List ℕ) → Spelled r (kind_of r)
unfolding kind_of
spelled r =
    go (same r (head_row true)) refl (same r (head_row false)) refl (is_line r) refl (same r end_mark) refl
    (same r (0x1a ∷ head_row true)) refl (same r (0x1a ∷ head_row false)) refl
  where
    go : (a : Bool) → same r (head_row true) ≡ a → (b : Bool) → same r (head_row false) ≡ b → (c : Bool) → is_line r ≡ c → (d : Bool) → same r end_mark ≡ d
        → (e : Bool) → same r (0x1a ∷ head_row true) ≡ e → (f : Bool) → same r (0x1a ∷ head_row false) ≡ f
        → Spelled r (cond a (head true) (cond b (head false) (cond c body (cond d end (cond e (end_head true) (cond f (end_head false) broken))))))
    go true p b q c u d v e w f x = same_true r (head_row true) p
    go false p true q c u d v e w f x = same_true r (head_row false) q
    go false p false q true u d v e w f x = u
    go false p false q false u true v e w f x = same_true r end_mark v
    go false p false q false u false v true w f x = same_true r (0x1a ∷ head_row true) w
    go false p false q false u false v false w true x = same_true r (0x1a ∷ head_row false) x
    go false p false q false u false v false w false x = tt

pub body_line : (r : List ℕ) → Body r → IsLine r
body_line r e = subst (Spelled r) e (spelled r)

pub end_is : (r : List ℕ) → kind_of r ≡ end → r ≡ end_mark
end_is r e = subst (Spelled r) e (spelled r)

-- a row with a line 1, after a 1Ah or none
pub head_bytes : (r : List ℕ) → opens (kind_of r) ≡ true → 13 ≤ length r
head_bytes r h = go (kind_of r) (spelled r) h
  where
    go : (k : RowKind) → Spelled r k → opens k ≡ true → 13 ≤ length r
    go (head d) e h = omega (arith, ap length e, head_length d)
    go (end_head d) e h = omega (arith, ap length e, head_length d)
    go body e h = absurd (false≢true h)
    go end e h = absurd (false≢true h)
    go broken e h = absurd (false≢true h)

pub bodies_lines : (rs : List (List ℕ)) → All Body rs → All IsLine rs
bodies_lines [] h = tt
bodies_lines (r ∷ rs) (h, t) = (body_line r h, bodies_lines rs t)

-- a line that is no line 1
pub body_is : (r : List ℕ) → IsLine r → ((d : Bool) → same r (head_row d) ≡ false) → Body r
unfolding kind_of
body_is r l n = rw (n true, n false, l)

-- ---- the rows of chunks: a 1Ah stands in front of the next line 1, or alone at the end

rows_of : Bool → List Chunk → List (List ℕ)
rows_of false [] = []
rows_of true [] = end_mark ∷ []
rows_of e (x ∷ xs) = (mark e ++ head_row x.provider) ∷ (x.rows ++ rows_of x.ended xs)

rows_front : (e : Bool) (d : Bool) (s : List ℕ) → rows ((mark e ++ head_row d) ++ s) ≡ (mark e ++ head_row d) ∷ rows s
rows_front false d s = row_cut (head_row d) s (head_line d)
rows_front true d s = ap (cons_row 0x1a) (row_cut (head_row d) s (head_line d))

-- the bytes of chunks after a 1Ah or none, line 1 first
bytes_cons : (e : Bool) (x : Chunk) (xs : List Chunk)
    → mark e ++ flat (map chunk_bytes (x ∷ xs)) ≡ (mark e ++ head_row x.provider) ++ (flat x.rows ++ (mark x.ended ++ flat (map chunk_bytes xs)))
unfolding chunk_bytes
bytes_cons e x xs =
    let h : List ℕ = head_row x.provider in
    let m : List ℕ = mark x.ended in
    let s : List ℕ = flat (map chunk_bytes xs) in
    let a : (h ++ (flat x.rows ++ m)) ++ s ≡ h ++ (flat x.rows ++ (m ++ s)) =
    append_assoc h (flat x.rows ++ m) s ∙ ap (λ (t : List ℕ). h ++ t) (append_assoc (flat x.rows) m s) in
    ap (λ (t : List ℕ). mark e ++ t) a ∙ sym (append_assoc (mark e) h (flat x.rows ++ (m ++ s)))

chunk_rows : (e : Bool) (xs : List Chunk) → All Good xs → rows (mark e ++ flat (map chunk_bytes xs)) ≡ rows_of e xs
unfolding rows_of
chunk_rows true [] h = refl
chunk_rows false [] h = refl
chunk_rows e (x ∷ xs) (h, t) =
    ap rows (bytes_cons e x xs)
    ∙ rows_front e x.provider (flat x.rows ++ (mark x.ended ++ flat (map chunk_bytes xs)))
    ∙ ap (λ (rs : List (List ℕ)). (mark e ++ head_row x.provider) ∷ rs) (rows_cut x.rows (mark x.ended ++ flat (map chunk_bytes xs)) (bodies_lines x.rows h)
    ∙ ap (λ (rs : List (List ℕ)). x.rows ++ rs) (chunk_rows x.ended xs t))

-- and back: the bytes of these rows
pub flat_append : (xs ys : List (List ℕ)) → flat (xs ++ ys) ≡ flat xs ++ flat ys
flat_append [] ys = refl
flat_append (x ∷ xs) ys = ap (λ (t : List ℕ). x ++ t) (flat_append xs ys) ∙ sym (append_assoc x (flat xs) (flat ys))

rows_bytes : (e : Bool) (xs : List Chunk) → flat (rows_of e xs) ≡ mark e ++ flat (map chunk_bytes xs)
unfolding rows_of
rows_bytes true [] = refl
rows_bytes false [] = refl
rows_bytes e (x ∷ xs) =
    ap (λ (t : List ℕ). (mark e ++ head_row x.provider) ++ t)
    (flat_append x.rows (rows_of x.ended xs) ∙ ap (λ (t : List ℕ). flat x.rows ++ t) (rows_bytes x.ended xs))
    ∙ sym (bytes_cons e x xs)

-- ---- split: from chunks to pieces

kind_front : (e : Bool) (d : Bool) → opens (kind_of (mark e ++ head_row d)) ≡ true
kind_front true d = ap opens (kind_end_head d)
kind_front false d = ap opens (kind_head d)

-- the first row of chunks is of no body
body_none : (e : Bool) (xs : List Chunk) → body_of (rows_of e xs) ≡ []
unfolding rows_of body_of
body_none true [] = rw kind_end
body_none false [] = refl
body_none true (x ∷ xs) = rw (kind_end_head x.provider)
body_none false (x ∷ xs) = rw (kind_head x.provider)

body_of_lem : (bs : List (List ℕ)) (e : Bool) (xs : List Chunk) → All Body bs → body_of (bs ++ rows_of e xs) ≡ bs
unfolding body_of
body_of_lem [] e xs h = body_none e xs
body_of_lem (b ∷ bs) e xs (h, t) = rw h (ap (λ (rs : List (List ℕ)). b ∷ rs) (body_of_lem bs e xs t))

pieces_skip : (bs rs : List (List ℕ)) → All Body bs → pieces_in (bs ++ rs) ≡ pieces_in rs
unfolding pieces_in
pieces_skip [] rs h = refl
pieces_skip (b ∷ bs) rs (h, t) = rw h (pieces_skip bs rs t)

pieces_of : (e : Bool) (xs : List Chunk) → All Good xs → pieces_in (rows_of e xs) ≡ map piece_of xs
unfolding rows_of pieces_in
pieces_of true [] h = rw kind_end
pieces_of false [] h = refl
pieces_of true (x ∷ xs) (h, t) =
    rw (kind_end_head x.provider, body_of_lem x.rows x.ended xs h, pieces_skip x.rows (rows_of x.ended xs) h)
    (ap (λ (ps : List Piece). piece_of x ∷ ps) (pieces_of x.ended xs t))
pieces_of false (x ∷ xs) (h, t) =
    rw (kind_head x.provider, body_of_lem x.rows x.ended xs h, pieces_skip x.rows (rows_of x.ended xs) h)
    (ap (λ (ps : List Piece). piece_of x ∷ ps) (pieces_of x.ended xs t))

sound_skip : (bs rs : List (List ℕ)) → All Body bs → ((n : ℕ) → broken_from true n rs ≡ 0) → (n : ℕ) → broken_from true n (bs ++ rs) ≡ 0
unfolding broken_from
sound_skip [] rs h f n = f n
sound_skip (b ∷ bs) rs (h, t) f n = rw h (sound_skip bs rs t f (n + 1))

sound_from : (e : Bool) (xs : List Chunk) → All Good xs → (n : ℕ) → broken_from true n (rows_of e xs) ≡ 0
unfolding rows_of broken_from
sound_from true [] h n = rw kind_end
sound_from false [] h n = refl
sound_from true (x ∷ xs) (h, t) n = rw (kind_end_head x.provider) (sound_skip x.rows (rows_of x.ended xs) h (sound_from x.ended xs t) (n + 1))
sound_from false (x ∷ xs) (h, t) n = rw (kind_head x.provider) (sound_skip x.rows (rows_of x.ended xs) h (sound_from x.ended xs t) (n + 1))

split_rows_lem : (rs : List (List ℕ)) → broken_line rs ≡ 0 → starts_well rs ≡ true → split_rows rs ≡ ok (pieces_in rs)
unfolding split_rows
split_rows_lem rs b s = rw (eq-eqb (broken_line rs) 0 b, s)

-- WHAT IS PUT TOGETHER FROM PIECES is split into them again
pub split_bytes : (x : Chunk) (xs : List Chunk) → All Good (x ∷ xs) → split (flat (map chunk_bytes (x ∷ xs))) ≡ ok (map piece_of (x ∷ xs))
unfolding split rows_of broken_line broken_from
split_bytes x xs h =
    let b : broken_from true 2 (x.rows ++ rows_of x.ended xs) ≡ 0 = sound_skip x.rows (rows_of x.ended xs) h.0 (sound_from x.ended xs h.1) 2 in
    ap split_rows (chunk_rows false (x ∷ xs) h)
    ∙ split_rows_lem (rows_of false (x ∷ xs)) (rw (kind_head x.provider) b) (kind_front false x.provider)
    ∙ ap ok (pieces_of false (x ∷ xs) h)

-- ---- split: from pieces to chunks

-- rows that a list of bytes is cut into: none is empty, and a 1Ah alone is the last
abbrev Cut : List (List ℕ) → Type 0
Cut [] = Unit {0}
Cut (r ∷ rs) = ((1 ≤ length r) × (r ≡ end_mark → rs ≡ [])) × Cut rs

cut_cons : (a : ℕ) (rs : List (List ℕ)) → Cut rs → Cut (cons_row a rs)
cut_cons a [] h = ((omega arith, λ e. refl), tt)
cut_cons a (r ∷ rs) ((l, m), t) = ((omega arith, λ e. let z : length r ≡ 0 = ap length (tail-eq_of_cons-eq e) in absurd (omega arith)), t)

rows_are_cut : (s : List ℕ) → Cut (rows s)
rows_are_cut [] = tt
rows_are_cut (a ∷ s) = go (eqb a 0x0a) refl (rows_are_cut s)
  where
    go : (b : Bool) → eqb a 0x0a ≡ b → Cut (rows s) → Cut (cond b ((a ∷ []) ∷ rows s) (cons_row a (rows s)))
    go true p i = ((omega arith, λ e. let z : a ≡ 0x1a = head-eq_of_cons-eq e in absurd (omega (arith, eqb-true a 0x0a p))), i)
    go false p i = cut_cons a (rows s) i

-- the rows of a body, and of chunks after it
record Behind (rs : List (List ℕ)) : Type 0 where
  front : List (List ℕ)
  ended : Bool
  chunks : List Chunk
  shape : rs ≡ front ++ rows_of ended chunks
  bodies : All Body front
  good : All Good chunks

-- one row more: a line 1 opens a chunk, after a 1Ah or none
behind_head_lem : {rs : List (List ℕ)} (e d : Bool) → Behind rs → Behind ((mark e ++ head_row d) ∷ rs)
unfolding rows_of
behind_head_lem {rs} e d b = record {
  front = [];
  ended = e;
  chunks = record { provider = d; rows = b.front; ended = b.ended } ∷ b.chunks;
  shape = first e;
  bodies = tt;
  good = (b.bodies, b.good);
}
  where
    first : (e : Bool) → (mark e ++ head_row d) ∷ rs ≡ rows_of e (record { provider = d; rows = b.front; ended = b.ended } ∷ b.chunks)
    first true = ap (λ (x : List (List ℕ)). (0x1a ∷ head_row d) ∷ x) b.shape
    first false = ap (λ (x : List (List ℕ)). head_row d ∷ x) b.shape

behind : (rs : List (List ℕ)) (n : ℕ) → 1 ≤ n → Cut rs → broken_from true n rs ≡ 0 → Behind rs
unfolding broken_from rows_of
behind [] n h c e = record { front = []; ended = false; chunks = []; shape = refl; bodies = tt; good = tt }
behind (r ∷ rs) n h ((l, m), c) e = go (kind_of r) refl (spelled r) (λ q. behind rs (n + 1) (omega arith) c q) e
  where
    go : (k : RowKind) → kind_of r ≡ k → Spelled r (kind_of r) → (broken_from true (n + 1) rs ≡ 0 → Behind rs)
        → judged true n (λ b. broken_from b (n + 1) rs) k ≡ 0 → Behind (r ∷ rs)
    go (head d) p s ih q = subst (λ (x : List ℕ). Behind (x ∷ rs)) (sym (subst (Spelled r) p s)) (behind_head_lem false d (ih q))
    go (end_head d) p s ih q = subst (λ (x : List ℕ). Behind (x ∷ rs)) (sym (subst (Spelled r) p s)) (behind_head_lem true d (ih q))
    go body p s ih q =
        let b : Behind rs = ih q in
        record {
          front = r ∷ b.front;
          ended = b.ended;
          chunks = b.chunks;
          shape = ap (λ (x : List (List ℕ)). r ∷ x) b.shape;
          bodies = (p, b.bodies);
          good = b.good;
        }
    go end p s ih q =
        let w : r ≡ end_mark = subst (Spelled r) p s in
        let z : r ∷ rs ≡ end_mark ∷ [] = let u : rs ≡ [] = m w in cc in
        record { front = []; ended = true; chunks = []; shape = z; bodies = tt; good = tt }
    go broken p s ih q = absurd (omega arith)

pub record Chunked (s : List ℕ) (ps : List Piece) : Type 0 where
  pub first : Chunk
  pub others : List Chunk
  pub bytes : s ≡ flat (map chunk_bytes (first ∷ others))
  pub good : All Good (first ∷ others)
  pub pieces : ps ≡ map piece_of (first ∷ others)

-- AND NOTHING ELSE IS SPLIT into them
pub split_is : (s : List ℕ) (ps : List Piece) → split s ≡ ok ps → Chunked s ps
unfolding split split_rows broken_line broken_from rows_of
split_is s ps e = start (rows s) refl (rows_are_cut s) e
  where
    -- line 1 of the first piece, and what follows
    made : (d : Bool) (rs : List (List ℕ)) → rows s ≡ head_row d ∷ rs → Behind rs → ps ≡ pieces_in (head_row d ∷ rs) → Chunked s ps
    made d rs q b p =
        let x : Chunk = record { provider = d; rows = b.front; ended = b.ended } in
        let g : All Good (x ∷ b.chunks) = (b.bodies, b.good) in
        let w : head_row d ∷ rs ≡ rows_of false (x ∷ b.chunks) = ap (λ (y : List (List ℕ)). head_row d ∷ y) b.shape in
        record {
          first = x;
          others = b.chunks;
          bytes = sym (flat_rows s) ∙ ap flat (q ∙ w) ∙ rows_bytes false (x ∷ b.chunks);
          good = g;
          pieces = p ∙ ap pieces_in w ∙ pieces_of false (x ∷ b.chunks) g;
        }

    row : (r : List ℕ) (rs : List (List ℕ)) → rows s ≡ r ∷ rs → Cut (r ∷ rs) → (k : RowKind) → kind_of r ≡ k → Spelled r (kind_of r)
        → judged false 1 (λ b. broken_from b 2 rs) k ≡ 0 → opens k ≡ true → ps ≡ pieces_in (r ∷ rs) → Chunked s ps
    row r rs q c (head d) p w z o u =
        let y : r ≡ head_row d = subst (Spelled r) p w in
        made d rs (q ∙ ap (λ (x : List ℕ). x ∷ rs) y) (behind rs 2 (omega arith) c.1 z) (u ∙ ap (λ (x : List ℕ). pieces_in (x ∷ rs)) y)
    row r rs q c (end_head d) p w z o u = absurd (omega arith)
    row r rs q c body p w z o u = absurd (false≢true o)
    row r rs q c end p w z o u = absurd (omega arith)
    row r rs q c broken p w z o u = absurd (omega arith)

    start : (rs : List (List ℕ)) → rows s ≡ rs → Cut rs
        → cond (eqb (broken_line rs) 0) (cond (starts_well rs) (ok (pieces_in rs)) (refused 19 0)) (refused 2 (broken_line rs)) ≡ ok ps → Chunked s ps
    start [] q c e = absurd (no_refusal e)
    start (r ∷ rs) q c e = by (eqb (broken_line (r ∷ rs)) 0) refl (starts_well (r ∷ rs)) refl e
      where
        by : (x : Bool) → eqb (broken_line (r ∷ rs)) 0 ≡ x → (y : Bool) → starts_well (r ∷ rs) ≡ y
            → cond x (cond y (ok (pieces_in (r ∷ rs))) (refused 19 0)) (refused 2 (broken_line (r ∷ rs))) ≡ ok ps → Chunked s ps
        by true a true b e = row r rs q c (kind_of r) refl (spelled r) (eqb-true _ _ a) b (let h : ps ≡ pieces_in (r ∷ rs) = cc in h)
        by true a false b e = absurd (no_refusal e)
        by false a y b e = absurd (no_refusal e)

-- ---- one piece

pub split_one : (x : Chunk) → Good x → split (chunk_bytes x) ≡ ok (piece_of x ∷ [])
split_one x h = ap split (sym (append-nil (chunk_bytes x))) ∙ split_bytes x [] (h, tt)

pub record ChunkOf (s : List ℕ) (p : Piece) : Type 0 where
  pub chunk : Chunk
  pub bytes : s ≡ chunk_bytes chunk
  pub good : Good chunk
  pub piece : p ≡ piece_of chunk

pub one_is_lem : (s : List ℕ) (p : Piece) → split s ≡ ok (p ∷ []) → ChunkOf s p
one_is_lem s p e = let c : Chunked s (p ∷ []) = split_is s (p ∷ []) e in go c.first c.others c.bytes c.good c.pieces
  where
    go : (x : Chunk) (xs : List Chunk) → s ≡ flat (map chunk_bytes (x ∷ xs)) → All Good (x ∷ xs) → p ∷ [] ≡ map piece_of (x ∷ xs) → ChunkOf s p
    go x [] b g q = record { chunk = x; bytes = b ∙ append-nil (chunk_bytes x); good = g.0; piece = head-eq_of_cons-eq q }
    go x (y ∷ ys) b g q = absurd (nil≢cons (tail-eq_of_cons-eq q))

-- ---- lengths

pub chunk_length : (x : Chunk) → length (chunk_bytes x) ≡ 13 + (length (flat x.rows) + length (mark x.ended))
unfolding chunk_bytes
chunk_length x =
    omega (
      arith,
      length-append (head_row x.provider) (flat x.rows ++ mark x.ended),
      length-append (flat x.rows) (mark x.ended),
      head_length x.provider,
    )

-- ---- bytes are of chunks in one way only

no_mark_first : (xs : List Chunk) (s : List ℕ) → flat (map chunk_bytes xs) ≡ 0x1a ∷ s → ⊥
unfolding chunk_bytes header bytes
no_mark_first [] s e = nil≢cons e
no_mark_first (x ∷ xs) s e = go x.provider e
  where
    go : (d : Bool) → (head_row d ++ (flat x.rows ++ mark x.ended)) ++ flat (map chunk_bytes xs) ≡ 0x1a ∷ s → ⊥
    go true e = let z : ◌≡◌ {A = ℕ} 74 0x1a = head-eq_of_cons-eq e in omega arith
    go false e = let z : ◌≡◌ {A = ℕ} 74 0x1a = head-eq_of_cons-eq e in omega arith

cancel : (a s t : List ℕ) → a ++ s ≡ a ++ t → s ≡ t
cancel a s t e = sym (drop-append_seam a s) ∙ ap (drop (length a)) e ∙ drop-append_seam a t

three : {d e : Bool} {r s : List (List ℕ)} {m n : Bool} → d ≡ e → r ≡ s → m ≡ n
    → ◌≡◌ {A = Chunk} (record { provider = d; rows = r; ended = m }) (record { provider = e; rows = s; ended = n })
three p q r = cc

chunks_same : (xs ys : List Chunk) → map piece_of xs ≡ map piece_of ys → flat (map chunk_bytes xs) ≡ flat (map chunk_bytes ys) → xs ≡ ys
chunks_same [] [] p e = refl
chunks_same [] (y ∷ ys) p e = absurd (nil≢cons p)
chunks_same (x ∷ xs) [] p e = absurd (nil≢cons (sym p))
chunks_same (x ∷ xs) (y ∷ ys) p e =
    let q : piece_of x ≡ piece_of y = head-eq_of_cons-eq p in
    let a : x.provider ≡ y.provider = ap (λ (z : Piece). z.provider) q in
    let b : x.rows ≡ y.rows = ap (λ (z : Piece). z.rows) q in
    let s : List ℕ = flat (map chunk_bytes xs) in
    let t : List ℕ = flat (map chunk_bytes ys) in
    let u : head_row y.provider ++ (flat y.rows ++ (mark x.ended ++ s)) ≡ head_row y.provider ++ (flat y.rows ++ (mark y.ended ++ t)) =
    ap (λ (d : Bool). head_row d ++ (flat y.rows ++ (mark x.ended ++ s))) (sym a)
    ∙ ap (λ (z : List (List ℕ)). head_row x.provider ++ (flat z ++ (mark x.ended ++ s))) (sym b)
    ∙ sym (bytes_cons false x xs) ∙ e ∙ bytes_cons false y ys in
    let w : mark x.ended ++ s ≡ mark y.ended ++ t =
    cancel (flat y.rows) (mark x.ended ++ s) (mark y.ended ++ t) (cancel (head_row y.provider) _ _ u) in
    go x.ended refl y.ended refl w (chunks_same xs ys (tail-eq_of_cons-eq p)) a b
  where
    go : (i : Bool) → x.ended ≡ i → (j : Bool) → y.ended ≡ j → mark i ++ flat (map chunk_bytes xs) ≡ mark j ++ flat (map chunk_bytes ys)
        → (flat (map chunk_bytes xs) ≡ flat (map chunk_bytes ys) → xs ≡ ys) → x.provider ≡ y.provider → x.rows ≡ y.rows → x ∷ xs ≡ y ∷ ys
    go true k true l w ih a b = let r : xs ≡ ys = ih (tail-eq_of_cons-eq w) in let m : x ≡ y = three a b (k ∙ sym l) in cc
    go false k false l w ih a b = let r : xs ≡ ys = ih w in let m : x ≡ y = three a b (k ∙ sym l) in cc
    go true k false l w ih a b = absurd (no_mark_first ys _ (sym w))
    go false k true l w ih a b = absurd (no_mark_first xs _ w)

pub chunks_once : (xs ys : List Chunk) → All Good xs → All Good ys → flat (map chunk_bytes xs) ≡ flat (map chunk_bytes ys) → xs ≡ ys
unfolding split split_rows broken_line
chunks_once [] [] g h e = refl
chunks_once [] (y ∷ ys) g h e = absurd (no_refusal (ap split e ∙ split_bytes y ys h))
chunks_once (x ∷ xs) [] g h e = absurd (no_refusal (ap split (sym e) ∙ split_bytes x xs g))
chunks_once (x ∷ xs) (y ∷ ys) g h e =
    let q : ok (map piece_of (x ∷ xs)) ≡ ok (map piece_of (y ∷ ys)) = sym (split_bytes x xs g) ∙ ap split e ∙ split_bytes y ys h in
    let p : map piece_of (x ∷ xs) ≡ map piece_of (y ∷ ys) = cc in
    chunks_same (x ∷ xs) (y ∷ ys) p e
