-- What joining refuses with, and at which line: the joined file has no more line ends than the pieces, begins with a line 1 and has no record 911
-- (`join_refuses`). Assumes nothing.
use Prim.Native.Nat.{ℕ, zero, suc, ◌+◌, ◌≤◌, ◌<◌}
use native.Mathlib.Omega.{arith}
use mathlib.Core.Path.{◌≡◌, refl, sym, ap, ◌∙◌, subst}
use mathlib.Core.Bool.{Bool, true, false, cond, not}
use Rattle.std.specs.Prelude.{Option, Some, None}
use mathlib.Core.List.{List, [], ◌∷◌, ◌++◌, map, append_assoc, append-nil, head-eq_of_cons-eq, tail-eq_of_cons-eq, nil≢cons}
use borrow.Author.Tests.{eqb-true, eqb-false, ne_eqb, leb-true, le-leb, lt-leb}
use lib.Dec.{eqb, leb}
use lib.ListN.{length, length-append}
use Rattle.lists.specs.Lists.{bytes, same, All, Res, ok, refused, member}
use Rattle.lists.proofs.Tests.{cond_case, both, same_true, not_true'}
use Rattle.characters.specs.Text.{text}
use Rattle.characters.specs.Rows.{rows, flat, is_line, end_mark, cons_row}
use Rattle.characters.proofs.RowLaws.{First, first_row, flat_rows}
use Rattle.records.specs.Records.{header, is_mark}
use Rattle.order.specs.State.{start}
use Rattle.notebook.specs.Notebook.{Notebook, records_from, notebook_of, read_rows, read_file}
use Rattle.notebook.specs.Canonical.{head_row}
use Rattle.notebook.proofs.Accepted.{IsLine, head_line, row_cut, rows_flat}
use Rattle.division.specs.Marks.{Mark, read_mark}
use Rattle.division.specs.Pieces.{RowKind, head, end_head, body, end, broken, kind_of, judged, broken_from, broken_line, Piece, starts_well, split_rows, split, file_of}
use Rattle.division.specs.Join.{unmarked, Part, row_before, last_mark, part_of, part_with, all_parts, find_part, rows_of_part, gather, join_parts, join_pieces}
use Rattle.division.specs.Join.{or_set, join_split, joined_file, checked_file, then_checked, join_file}
use Rattle.division.proofs.Chunks.{Chunk, mark, chunk_bytes, piece_of, Body, Good, body_line, Chunked, split_is}
use Rattle.division.proofs.Orders.{all_append, all_map}
use Rattle.division.proofs.Parts.{no_none, some_inj, Joined, parts_joined}
use Rattle.refusals.specs.Refusals.{line_ends, AtLine, Given}
use Rattle.refusals.proofs.LineEnds.{skip_byte, line_ends_lem, lines_ends}
use Rattle.refusals.proofs.Reading.{Refuses, Covers, covered, without_line, with_line, RowsRefused, weaker, book_refuses}

-- ---- number 2: the rows before the broken one end in 0Dh 0Ah

-- a 1Ah alone is the last row
abbrev MarkLast : List (List ℕ) → Type 0
MarkLast [] = Unit {0}
MarkLast (r ∷ rs) = (r ≡ end_mark → rs ≡ []) × MarkLast rs

mark_last : (s : List ℕ) → MarkLast (rows s)
mark_last [] = tt
mark_last (a ∷ []) = go (eqb a 0x0a)
  where
    go : (x : Bool) → MarkLast (cond x ((a ∷ []) ∷ []) ((a ∷ []) ∷ []))
    go true = (λ e. refl, tt)
    go false = (λ e. refl, tt)
mark_last (a ∷ b ∷ s) = go (eqb a 0x0a) refl (first_row b s) (mark_last (b ∷ s))
  where
    go : (x : Bool) → eqb a 0x0a ≡ x → First (b ∷ s) → MarkLast (rows (b ∷ s)) → MarkLast (cond x ((a ∷ []) ∷ rows (b ∷ s)) (cons_row a (rows (b ∷ s))))
    go true q f i = (λ e. let z : a ≡ 0x1a = head-eq_of_cons-eq e in absurd (omega (arith, eqb-true a 0x0a q)), i)
    go false q f i =
        subst (λ (rs : List (List ℕ)). MarkLast (cons_row a rs)) (sym f.cut)
        (λ e. absurd (nil≢cons (sym (tail-eq_of_cons-eq e))), (subst MarkLast f.cut i).1)

-- what stands before t in a row of a kind
abbrev Ends : List ℕ → RowKind → Type 0
Ends r (head d) = (t : List ℕ) → line_ends (r ++ t) ≡ suc (line_ends t)
Ends r (end_head d) = (t : List ℕ) → line_ends (r ++ t) ≡ suc (line_ends t)
Ends r body = (t : List ℕ) → line_ends (r ++ t) ≡ suc (line_ends t)
Ends r end = r ≡ end_mark
Ends r broken = Unit {0}

kind_ends : (r : List ℕ) → Ends r (kind_of r)
unfolding kind_of
kind_ends r =
    cond_case (Ends r) (same r (head_row true)) _ _ (λ e. headed true (same_true _ _ e))
    (λ _. cond_case (Ends r) (same r (head_row false)) _ _ (λ e. headed false (same_true _ _ e))
    (λ _. cond_case (Ends r) (is_line r) _ _ (λ e t. line_ends_lem r t e)
    (λ _. cond_case (Ends r) (same r end_mark) _ _ (λ e. same_true _ _ e)
    (λ _. cond_case (Ends r) (same r (0x1a ∷ head_row true)) _ _ (λ e. ended true (same_true _ _ e))
    (λ _. cond_case (Ends r) (same r (0x1a ∷ head_row false)) _ _ (λ e. ended false (same_true _ _ e)) (λ _. tt))))))
  where
    headed : (d : Bool) → r ≡ head_row d → (t : List ℕ) → line_ends (r ++ t) ≡ suc (line_ends t)
    headed d e t = ap (λ (x : List ℕ). line_ends (x ++ t)) e ∙ line_ends_lem (head_row d) t (head_line d)

    ended : (d : Bool) → r ≡ 0x1a ∷ head_row d → (t : List ℕ) → line_ends (r ++ t) ≡ suc (line_ends t)
    ended d e t = ap (λ (x : List ℕ). line_ends (x ++ t)) e ∙ skip_byte 0x1a (head_row d ++ t) refl ∙ line_ends_lem (head_row d) t (head_line d)

broken_from_lem : (rs : List (List ℕ)) (begun : Bool) (n : ℕ) → MarkLast rs → broken_from begun n rs ≤ n + line_ends (flat rs)
unfolding broken_from
broken_from_lem [] begun n m = omega arith
broken_from_lem (r ∷ rs) begun n (m, ms) = go (kind_of r) (kind_ends r) begun (λ b. broken_from_lem rs b (n + 1) ms)
  where
    after : (b : Bool) → ((t : List ℕ) → line_ends (r ++ t) ≡ suc (line_ends t)) → ((b : Bool) → broken_from b (n + 1) rs ≤ n + 1 + line_ends (flat rs))
        → broken_from b (n + 1) rs ≤ n + line_ends (r ++ flat rs)
    after b e ih = omega (arith, ih b, e (flat rs))

    over : r ≡ end_mark → broken_from true (n + 1) rs ≤ n + line_ends (r ++ flat rs)
    over e = rw (m e) (omega arith)

    go : (k : RowKind) → Ends r k → (b : Bool) → ((b : Bool) → broken_from b (n + 1) rs ≤ n + 1 + line_ends (flat rs))
        → judged b n (λ x. broken_from x (n + 1) rs) k ≤ n + line_ends (r ++ flat rs)
    go (head d) e b ih = after true e ih
    go (end_head d) e true ih = after true e ih
    go (end_head d) e false ih = omega arith
    go body e b ih = after b e ih
    go end e true ih = over e
    go end e false ih = omega arith
    go broken e b ih = omega arith

broken_line_lem : (s : List ℕ) → (broken_line (rows s) ≡ 0 → ⊥) → AtLine s (broken_line (rows s))
unfolding broken_line
broken_line_lem s h = record { from = omega (arith, h); to = by (rows s) (flat_rows s) (mark_last s) }
  where
    by : (rs : List (List ℕ)) → flat rs ≡ s → MarkLast rs → broken_line rs ≤ line_ends s + 1
    by [] e m = omega arith
    by (r ∷ rs) e m = omega (arith, ap line_ends e, broken_from_lem (r ∷ rs) false 1 m)

-- ---- the line ends of pieces: each has line 1 and its rows

lines_of : List Piece → ℕ
lines_of [] = 0
lines_of (x ∷ xs) = suc (length x.rows) + lines_of xs

bodies_lines : (rs : List (List ℕ)) → All Body rs → All IsLine rs
bodies_lines rs h = all_map Body IsLine body_line rs h

chunk_ends : (xs : List Chunk) → All Good xs → line_ends (flat (map chunk_bytes xs)) ≡ lines_of (map piece_of xs)
unfolding line_ends lines_of chunk_bytes
chunk_ends [] h = refl
chunk_ends (x ∷ xs) (h, t) =
    let u : List ℕ = flat (map chunk_bytes xs) in
    omega (
      arith,
      ap line_ends (whole u),
      line_ends_lem (head_row x.provider) (flat x.rows ++ (mark x.ended ++ u)) (head_line x.provider),
      lines_ends x.rows (mark x.ended ++ u) (bodies_lines x.rows h),
      marked x.ended u,
      chunk_ends xs t,
    )
  where
    marked : (e : Bool) (u : List ℕ) → line_ends (mark e ++ u) ≡ line_ends u
    marked true u = skip_byte 0x1a u refl
    marked false u = refl

    whole : (u : List ℕ) → chunk_bytes x ++ u ≡ head_row x.provider ++ (flat x.rows ++ (mark x.ended ++ u))
    whole u = append_assoc (head_row x.provider) (flat x.rows ++ mark x.ended) u
        ∙ ap (λ (t : List ℕ). head_row x.provider ++ t) (append_assoc (flat x.rows) (mark x.ended) u)

-- ---- the joined rows: lines, no record 911, and no more than the pieces have

-- a row that joining keeps
abbrev Kept : List ℕ → Type 0
Kept r = Body r × (is_mark (text r) ≡ false)

abbrev KeptPart : Part → Type 0
KeptPart p = All Kept p.rows

kept_unmarked : (rs : List (List ℕ)) → All Kept rs → unmarked rs ≡ true
unfolding unmarked
kept_unmarked [] h = refl
kept_unmarked (r ∷ rs) ((b, m), t) = rw m (kept_unmarked rs t)

unmarked_kept : (rs : List (List ℕ)) → All Body rs → unmarked rs ≡ true → All Kept rs
unfolding unmarked
unmarked_kept [] h e = tt
unmarked_kept (r ∷ rs) (b, t) e =
    let a = both (not (is_mark (text r))) (unmarked rs) e in ((b, not_true' (is_mark (text r)) a.0), unmarked_kept rs t a.1)

-- the rows of a part are those of its piece before the record 911
part_kept : (d : Bool) (rs : List (List ℕ)) (p : Part) → part_of d rs ≡ Some p → All Body rs → KeptPart p × (length p.rows < length rs)
unfolding part_of
part_kept d [] p e h = absurd (no_none e)
part_kept d (r ∷ rs) p e (b, t) = go (is_mark (text r)) refl (λ q f. part_kept d rs q f t) e
  where
    ends : (us : List (List ℕ)) (m : Option Mark) → last_mark d us m ≡ Some p → KeptPart p × (length p.rows < suc (length us))
    ends [] None f = absurd (no_none f)
    ends [] (Some m) f = subst (λ (q : Part). KeptPart q × (length q.rows < 1)) (some_inj f) (tt, omega arith)
    ends (u ∷ us) m f = absurd (no_none f)

    later : (m : Option Part) → is_mark (text r) ≡ false → ((q : Part) → m ≡ Some q → KeptPart q × (length q.rows < length rs)) → row_before r m ≡ Some p
        → KeptPart p × (length p.rows < suc (length rs))
    later None n ih f = absurd (no_none f)
    later (Some q) n ih f =
        let i = ih q refl in
        subst (λ (z : Part). KeptPart z × (length z.rows < suc (length rs))) (some_inj f) (((b, n), i.0), omega (arith, i.1))

    go : (x : Bool) → is_mark (text r) ≡ x → ((q : Part) → part_of d rs ≡ Some q → KeptPart q × (length q.rows < length rs))
        → cond x (last_mark d rs (read_mark (text r))) (row_before r (part_of d rs)) ≡ Some p → KeptPart p × (length p.rows < suc (length rs))
    go true q ih f = ends rs (read_mark (text r)) f
    go false q ih f = later (part_of d rs) q ih f

-- the rows of the parts with a place from k on
rows_from : ℕ → List Part → ℕ
rows_from k [] = 0
rows_from k (p ∷ ps) = cond (leb k p.mark.place) (length p.rows) 0 + rows_from k ps

parts_kept : (xs : List Piece) (ps : List Part) (k : ℕ) → all_parts xs ≡ Some ps → All (λ x. All Body x.rows) xs
    → All KeptPart ps × (length ps + rows_from k ps ≤ lines_of xs)
unfolding all_parts lines_of rows_from
parts_kept [] ps k e h = subst (λ (z : List Part). All KeptPart z × (length z + rows_from k z ≤ 0)) (some_inj e) (tt, omega arith)
parts_kept (x ∷ xs) ps k e (h, t) = go (part_of x.provider x.rows) refl (all_parts xs) (λ us f. parts_kept xs us k f t) e
  where
    some_of : (c : Bool) (n : ℕ) → cond c n 0 ≤ n
    some_of true n = omega arith
    some_of false n = omega arith

    go : (m : Option Part) → part_of x.provider x.rows ≡ m → (us : Option (List Part))
        → ((vs : List Part) → us ≡ Some vs → All KeptPart vs × (length vs + rows_from k vs ≤ lines_of xs)) → part_with m us ≡ Some ps
        → All KeptPart ps × (length ps + rows_from k ps ≤ suc (length x.rows) + lines_of xs)
    go None q us ih f = absurd (no_none f)
    go (Some p) q None ih f = absurd (no_none f)
    go (Some p) q (Some vs) ih f =
        let i = ih vs refl in
        let y = part_kept x.provider x.rows p q h in
        subst (λ (z : List Part). All KeptPart z × (length z + rows_from k z ≤ suc (length x.rows) + lines_of xs)) (some_inj f)
        ((y.0, i.0), omega (arith, i.1, y.1, some_of (leb k p.mark.place) (length p.rows)))

-- the part that is found at k has no place after k
fewer : (k : ℕ) (ps : List Part) → rows_from (suc k) ps ≤ rows_from k ps
unfolding rows_from
fewer k [] = omega arith
fewer k (p ∷ ps) = omega (arith, go (leb (suc k) p.mark.place) refl, fewer k ps)
  where
    go : (b : Bool) → leb (suc k) p.mark.place ≡ b → cond b (length p.rows) 0 ≤ cond (leb k p.mark.place) (length p.rows) 0
    go true e = rw (le-leb k p.mark.place (omega (arith, leb-true (suc k) p.mark.place e))) (omega arith)
    go false e = omega arith

find_rows : (k : ℕ) (ps : List Part) (p : Part) → find_part k ps ≡ Some p → All KeptPart ps → KeptPart p × (length p.rows + rows_from (suc k) ps ≤ rows_from k ps)
unfolding find_part rows_from
find_rows k [] p e h = absurd (no_none e)
find_rows k (q ∷ qs) p e (h, t) = go (eqb q.mark.place k) refl (λ f. find_rows k qs p f t) e
  where
    go : (b : Bool) → eqb q.mark.place k ≡ b → (find_part k qs ≡ Some p → KeptPart p × (length p.rows + rows_from (suc k) qs ≤ rows_from k qs))
        → cond b (Some q) (find_part k qs) ≡ Some p → KeptPart p × (length p.rows + rows_from (suc k) (q ∷ qs) ≤ rows_from k (q ∷ qs))
    go true r ih f =
        let z : q.mark.place ≡ k = eqb-true _ _ r in
        subst (λ (x : Part). KeptPart x × (length x.rows + rows_from (suc k) (q ∷ qs) ≤ rows_from k (q ∷ qs))) (some_inj f)
        (h, rw (lt-leb (suc k) q.mark.place (omega arith), le-leb k q.mark.place (omega arith)) (omega (arith, fewer k qs)))
    go false r ih f = let i = ih f in (i.0, omega (arith, i.1, fewer k (q ∷ []), fewer k qs))

gather_rows : (ps : List Part) → All KeptPart ps → (n k : ℕ) (ls : List (List ℕ)) → gather ps n k ≡ Some ls → All Kept ls × (length ls ≤ rows_from k ps)
unfolding gather
gather_rows ps h zero k ls e = subst (λ (z : List (List ℕ)). All Kept z × (length z ≤ rows_from k ps)) (some_inj e) (tt, omega arith)
gather_rows ps h (suc n) k ls e = go (find_part k ps) refl (gather ps n (suc k)) (gather_rows ps h n (suc k)) e
  where
    go : (m : Option Part) → find_part k ps ≡ m → (g : Option (List (List ℕ)))
        → ((us : List (List ℕ)) → g ≡ Some us → All Kept us × (length us ≤ rows_from (suc k) ps)) → rows_of_part m g ≡ Some ls
        → All Kept ls × (length ls ≤ rows_from k ps)
    go None q g ih f = absurd (no_none f)
    go (Some p) q None ih f = absurd (no_none f)
    go (Some p) q (Some us) ih f =
        let i = ih us refl in
        let y = find_rows k ps p q h in
        subst (λ (z : List (List ℕ)). All Kept z × (length z ≤ rows_from k ps)) (some_inj f)
        (all_append Kept p.rows us y.0 i.0, omega (arith, length-append p.rows us, y.1, i.1))

record Set (xs : List Piece) (w : Piece) : Type 0 where
  kept : All Kept w.rows
  few : suc (length w.rows) ≤ lines_of xs

abbrev Bodies : Piece → Type 0
Bodies x = All Body x.rows

parts_set : (xs : List Piece) (w : Piece) → All Bodies xs → join_parts (all_parts xs) ≡ Some w → Set xs w
parts_set xs w h e = go (all_parts xs) refl e
  where
    go : (m : Option (List Part)) → all_parts xs ≡ m → join_parts m ≡ Some w → Set xs w
    go None q e = absurd (no_none e)
    go (Some ps) q e =
        let j : Joined ps w = parts_joined ps w e in
        let p = parts_kept xs ps 1 q h in
        let g = gather_rows ps p.0 j.count 1 w.rows j.gathered in
        record { kept = g.0; few = omega (arith, j.two, j.many, p.1, g.1) }

joined_set : (xs : List Piece) (w : Piece) → All Bodies xs → join_pieces xs ≡ Some w → Set xs w
unfolding join_pieces lines_of
joined_set [] w h e = absurd (no_none e)
joined_set (x ∷ []) w h e = go (unmarked x.rows) refl e
  where
    go : (b : Bool) → unmarked x.rows ≡ b → cond b (Some x) (join_parts (all_parts (x ∷ []))) ≡ Some w → Set (x ∷ []) w
    go true q f = subst (Set (x ∷ [])) (some_inj f) (record { kept = unmarked_kept x.rows h.0 q; few = omega arith })
    go false q f = parts_set (x ∷ []) w h f
joined_set (x ∷ y ∷ xs) w h e = parts_set (x ∷ y ∷ xs) w h e

-- ---- the joined file: neither 3 nor 6

rows_read : (d : Bool) (rs : List (List ℕ)) → read_rows (head_row d ∷ rs) ≡ notebook_of d (records_from (start d) rs)
unfolding read_rows header bytes
rows_read true rs = rw (head_line true)
rows_read false rs = rw (head_line false)

abbrev never : List ℕ
never = 0 ∷ 3 ∷ 6 ∷ []

module _ (ns : List ℕ) (c : Covers never ns) (s : List ℕ) where
  file_refuses : (w : Piece) → All Kept w.rows → suc (length w.rows) ≤ line_ends s → Refuses (Given ns s) (read_file (file_of w))
  unfolding read_file file_of line_ends
  file_refuses w h few =
      let d : Bool = w.provider in
      let rs : List (List ℕ) = w.rows in
      let lines : All IsLine rs = all_map Kept IsLine (λ r k. body_line r k.0) rs h in
      let cut : rows (head_row d ++ flat rs) ≡ head_row d ∷ rs =
      row_cut (head_row d) (flat rs) (head_line d) ∙ ap (λ (x : List (List ℕ)). head_row d ∷ x) (rows_flat rs lines) in
      let ends : line_ends (flat rs) ≡ length rs + 0 = ap line_ends (sym (append-nil (flat rs))) ∙ lines_ends rs [] lines in
      cond_case (Refuses (Given ns s)) (leb (length (head_row d ++ flat rs)) 65536) _ _
      (λ _. subst (Refuses (Given ns s)) (sym (ap read_rows cut ∙ rows_read d rs))
      (weaker (RowsRefused (line_ends s) (unmarked rs)) (Given ns s) (told (kept_unmarked rs h)) (notebook_of d (records_from (start d) rs))
      (book_refuses d rs (line_ends s) (omega arith))))
      (λ _. without_line 1 (omega arith) (covered never ns 1 c (omega arith) refl) refl)
    where
      told : unmarked w.rows ≡ true → (n line : ℕ) → RowsRefused (line_ends s) (unmarked w.rows) n line → Given ns s n line
      told u n line x =
          let other : member never n ≡ false = rw (ne_eqb n 0 (λ e. omega (arith, x.low)), ne_eqb n 3 x.three, ne_eqb n 6 (x.six u)) in
          with_line n line x.low x.high (covered never ns n c x.high other) (record { from = x.from; to = x.to })

  -- ---- the input, the set, and the joined file

  split_refuses : member ns 19 ≡ true → Refuses (Given ns s) (split s)
  unfolding split split_rows
  split_refuses m =
      cond_case (Refuses (Given ns s)) (eqb (broken_line (rows s)) 0) _ _
      (λ _. cond_case (Refuses (Given ns s)) (starts_well (rows s)) _ _ (λ _. tt) (λ _. without_line 19 (omega arith) m refl))
      (λ e. with_line 2 (broken_line (rows s)) (omega arith) (omega arith) (covered never ns 2 c (omega arith) refl) (broken_line_lem s (eqb-false _ _ e)))

  chunks_bodies : (xs : List Chunk) → All Good xs → All Bodies (map piece_of xs)
  chunks_bodies [] h = tt
  chunks_bodies (x ∷ xs) (h, t) = (h, chunks_bodies xs t)

  set_refuses : member ns 19 ≡ true → (ps : List Piece) → Chunked s ps → Refuses (Given ns s) (then_checked (or_set (join_pieces ps)))
  set_refuses m ps k = go (join_pieces ps) refl
    where
      checked : (w : List ℕ) (res : Res Notebook) → Refuses (Given ns s) res → Refuses (Given ns s) (checked_file w res)
      checked w (ok b) h = tt
      checked w (refused n line) h = h

      bodies : All Bodies ps
      bodies = subst (All Bodies) (sym k.pieces) (chunks_bodies (k.first ∷ k.others) k.good)

      ends : line_ends s ≡ lines_of ps
      ends = ap line_ends k.bytes ∙ chunk_ends (k.first ∷ k.others) k.good ∙ ap lines_of (sym k.pieces)

      go : (o : Option Piece) → join_pieces ps ≡ o → Refuses (Given ns s) (then_checked (or_set o))
      go None q = without_line 19 (omega arith) m refl
      go (Some w) q =
          let j : Set ps w = joined_set ps w bodies q in
          checked (file_of w) (read_file (file_of w)) (file_refuses w j.kept (omega (arith, j.few, ends)))

  pub join_refuses : member ns 19 ≡ true → Refuses (Given ns s) (join_file s)
  unfolding join_file joined_file
  join_refuses m =
      cond_case (λ (r : Res (List ℕ)). Refuses (Given ns s) (then_checked r)) (leb (length s) 131072) _ _
      (λ _. by (split s) refl (split_refuses m))
      (λ _. without_line 1 (omega arith) (covered never ns 1 c (omega arith) refl) refl)
    where
      by : (r : Res (List Piece)) → split s ≡ r → Refuses (Given ns s) r → Refuses (Given ns s) (then_checked (join_split r))
      by (ok ps) q h = set_refuses m ps (split_is s ps q)
      by (refused n line) q h = h
