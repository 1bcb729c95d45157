-- Every sound list has at least as many pieces as the list that cutting finds. A sound list is a division of the joined rows, each row no
-- shorter than its canonical row, so the packing of the canonical rows is ahead of it. Assumes nothing.
use Prim.Native.Nat.{ℕ, suc, ◌+◌, ◌≤◌}
use native.Mathlib.Omega.{arith}
use native.Mathlib.Nat.{le_refl}
use mathlib.Core.Path.{◌≡◌, refl, sym, ap, ◌∙◌, subst}
use mathlib.Core.Bool.{Bool, true, false, cond}
use Rattle.std.specs.Prelude.{Option, Some, None}
use mathlib.Core.List.{List, [], ◌∷◌, ◌++◌, map}
use lib.Dec.{leb}
use lib.ListN.{length, length-append}
use Rattle.lists.specs.Lists.{All, Res, ok, refused}
use Rattle.lists.proofs.Tests.{all_both}
use Rattle.characters.specs.Text.{text}
use Rattle.characters.specs.Rows.{flat, line_end}
use Rattle.records.specs.Records.{Record}
use Rattle.notebook.specs.Notebook.{Notebook, read_file}
use Rattle.notebook.specs.Canonical.{record_rows, write_file}
use Rattle.notebook.proofs.Accepted.{no_refusal, line_bytes, Lines, none as no_lines, more, LinesRead, lines_read}
use Rattle.notebook.proofs.WrittenLaws.{row_short, lines_short}
use Rattle.packing.specs.Packing.{total}
use Rattle.packing.specs.Divisions.{concat, Fits}
use Rattle.digits.specs.Digits.{digit_count}
use Rattle.packing.specs.Widths.{over, Plan, in_one, in_runs as divided, no_plan, plan}
use Rattle.packing.proofs.Packing.{Pairs, nil, cons, Way, way_of, lighter}
use Rattle.packing.proofs.Widths.{AtMost, plan_whole, way_fewest}
use Rattle.division.specs.Pieces.{Piece, split, split_rows, broken_line, file_of}
use Rattle.division.proofs.Chunks.{Chunk, chunk_bytes, chunk_length, piece_of, Body, Good, flat_append, body_line, bodies_lines, split_bytes, ChunkOf, one_is_lem}
use Rattle.division.proofs.MarkLaws.{read_length, read_count}
use Rattle.division.specs.Cut.{numbered, planned, cutting}
use Rattle.division.specs.Join.{unmarked, Part, all_parts, join_parts, join_pieces, or_set, join_split, joined_file, checked_file, then_checked, join_file}
use Rattle.division.specs.Demand.{OnePiece, Within, Sound}
use Rattle.division.proofs.Orders.{all_append, all_left, all_right, map_length}
use Rattle.division.proofs.Parts.{no_none, some_inj, Runs, Gathered, gather_runs, IsPart, PartsOf, over as no_parts, more as more_part, parts_are, Joined, parts_joined}
use Rattle.division.proofs.Own.{total_flat}

-- ---- pieces that stand for themselves are the bytes of chunks

pub record Chunks (ps : List (List ℕ)) : Type 0 where
  pub chunks : List Chunk
  pub bytes : ps ≡ map chunk_bytes chunks
  pub good : All Good chunks

pub chunked : (ps : List (List ℕ)) → All OnePiece ps → Chunks ps
chunked [] h = record { chunks = []; bytes = refl; good = tt }
chunked (p ∷ ps) (h, t) =
    let r : Chunks ps = chunked ps t in
    let c : ChunkOf p h.piece = one_is_lem p h.piece h.is in
    let a : p ≡ chunk_bytes c.chunk = c.bytes in
    let b : ps ≡ map chunk_bytes r.chunks = r.bytes in
    record { chunks = c.chunk ∷ r.chunks; bytes = (let s : p ∷ ps ≡ chunk_bytes c.chunk ∷ map chunk_bytes r.chunks = cc in s); good = (c.good, r.good) }

-- ---- what a part takes of the capacity

record Small (c : ℕ) (p : Part) : Type 0 where
  rows : All Body p.rows
  fits : over (digit_count p.mark.count) p.mark.place + total length p.rows ≤ c
  count : p.mark.count ≤ 999

small_part : (c : ℕ) (x : Chunk) (p : Part) → Good x → length (chunk_bytes x) ≤ c → IsPart x.provider x.rows p → Small c p
unfolding over
small_part c x p g h r =
    let a : All Body (p.rows ++ (r.last ∷ [])) = subst (All Body) r.shape g in
    let l : All Body (r.last ∷ []) = all_right Body p.rows (r.last ∷ []) a in
    let s : length r.last ≡ length (text r.last) + 2 =
    ap length (line_bytes r.last (body_line r.last l.0)) ∙ length-append (text r.last) line_end in
    record {
      rows = all_left Body p.rows (r.last ∷ []) a;
      fits = omega (
        arith,
        chunk_length x,
        ap (λ (t : List (List ℕ)). length (flat t)) r.shape,
        ap length (flat_append p.rows (r.last ∷ [])),
        length-append (flat p.rows) (flat (r.last ∷ [])),
        length-append r.last [],
        s,
        total_flat p.rows,
        read_length (text r.last) p.mark r.marked,
      );
      count = read_count (text r.last) p.mark r.marked;
    }

small_parts : (c : ℕ) (zs : List Chunk) (ps : List Part) → All Good zs → All (Within c) (map chunk_bytes zs) → PartsOf (map piece_of zs) ps
    → All (Small c) ps × (length ps ≡ length zs)
small_parts c [] ps g h no_parts = (tt, refl)
small_parts c (z ∷ zs) ps (g, u) (h, t) (more_part {p = p} {ps = qs} i is) =
    let r : All (Small c) qs × (length qs ≡ length zs) = small_parts c zs qs u t is in
    ((small_part c z p g h.fits i, r.0), ap suc r.1)

-- ---- the runs of the joined rows fit

abbrev Of : ℕ → ℕ → Part → Type 0
Of c n p = Small c p × (p.mark.count ≡ n)

runs_fit : (c n k : ℕ) (xs : List (List (List ℕ))) → Runs (Of c n) k xs → Fits length (over (digit_count n)) c k xs × All Body (concat xs)
unfolding Fits concat
runs_fit c n k [] r = (tt, tt)
runs_fit c n k (x ∷ xs) (r, t) =
    let i : Fits length (over (digit_count n)) c (suc k) xs × All Body (concat xs) = runs_fit c n (suc k) xs t in
    let p : Part = r.part in
    let f : over (digit_count p.mark.count) p.mark.place + total length p.rows ≤ c = r.holds.0.fits in
    let a : over (digit_count n) p.mark.place + total length p.rows ≤ c =
    subst (λ (m : ℕ). over (digit_count m) p.mark.place + total length p.rows ≤ c) r.holds.1 f in
    let b : over (digit_count n) k + total length p.rows ≤ c = subst (λ (m : ℕ). over (digit_count n) m + total length p.rows ≤ c) r.place a in
    let d : over (digit_count n) k + total length x ≤ c = subst (λ (m : List (List ℕ)). over (digit_count n) k + total length m ≤ c) r.rows b in
    ((d, i.0), all_append Body x (concat xs) (subst (All Body) r.rows r.holds.0.rows) i.1)

-- a division of the joined rows into n runs
record Divided (c n : ℕ) (ls : List (List ℕ)) : Type 0 where
  two : 2 ≤ n
  most : n ≤ 999
  rows : All Body ls
  opens : over (digit_count n) 1 ≤ c
  way : Way length (over (digit_count n)) c 1 (over (digit_count n) 1) ls n

first_count : (c n : ℕ) (ps : List Part) → 1 ≤ length ps → All (Of c n) ps → n ≤ 999
first_count c n [] h a = absurd (omega arith)
first_count c n (p ∷ ps) h ((s, e), t) = omega (arith, s.count)

divided_by : (c : ℕ) (ps : List Part) (w : Piece) → All (Small c) ps → Joined ps w → Divided c (length ps) w.rows
unfolding Fits
divided_by c ps w a j =
    let o : All (Of c j.count) ps = all_both (Small c) (λ p. p.mark.count ≡ j.count) ps a j.alike in
    let g : Gathered (Of c j.count) j.count 1 w.rows = gather_runs (Of c j.count) ps o j.count 1 w.rows j.gathered in
    let f : Fits length (over (digit_count j.count)) c 1 g.runs × All Body (concat g.runs) = runs_fit c j.count 1 g.runs g.each in
    subst (λ (n : ℕ). Divided c n w.rows) (sym j.many)
    (go j.count g.runs g.all g.many j.two (first_count c j.count ps (omega (arith, j.two, j.many)) o) f.0 f.1)
  where
    go : (n : ℕ) (xs : List (List (List ℕ))) → concat xs ≡ w.rows → length xs ≡ n → 2 ≤ n → n ≤ 999 → Fits length (over (digit_count n)) c 1 xs → All Body (concat xs)
        → Divided c n w.rows
    go n [] e m t h f b = absurd (omega arith)
    go n (x ∷ xs) e m t h f b = record {
      two = t;
      most = h;
      rows = subst (All Body) e b;
      opens = omega (arith, f.0);
      way = subst (λ (z : List (List ℕ)). Way length (over (digit_count n)) c 1 (over (digit_count n) 1) z n) e
          (subst (λ (z : ℕ). Way length (over (digit_count n)) c 1 (over (digit_count n) 1) (concat (x ∷ xs)) z) (omega arith) (way_of length (over (digit_count n)) c 1 x xs f));
    }

-- ---- the canonical rows beside the rows that were read

rows_pairs : {d : Bool} {rs : List Record} {ls : List (List ℕ)} → Lines d rs ls → Pairs (λ a b. length a ≤ length b) (record_rows rs) ls
unfolding record_rows
rows_pairs no_lines = nil
rows_pairs (more x xs) = cons (row_short x) (rows_pairs xs)

-- ---- joining's steps backwards

record JoinedFrom (s file : List ℕ) : Type 0 where
  pieces : List Piece
  piece : Piece
  cut : split s ≡ ok pieces
  joins : join_pieces pieces ≡ Some piece
  is : file_of piece ≡ file

joined_from : (s file : List ℕ) → join_file s ≡ ok file → JoinedFrom s file
unfolding join_file joined_file
joined_from s file e = sized (leb (length s) 131072) e
  where
    checked : (w : List ℕ) (r : Res Notebook) → checked_file w r ≡ ok file → w ≡ file
    checked w (ok b) e = let q : w ≡ file = cc in q
    checked w (refused n line) e = absurd (no_refusal e)

    set : (ps : List Piece) → split s ≡ ok ps → (m : Option Piece) → join_pieces ps ≡ m → then_checked (or_set m) ≡ ok file → JoinedFrom s file
    set ps p None q e = absurd (no_refusal e)
    set ps p (Some w) q e = record { pieces = ps; piece = w; cut = p; joins = q; is = checked (file_of w) (read_file (file_of w)) e }

    cut : (r : Res (List Piece)) → split s ≡ r → then_checked (join_split r) ≡ ok file → JoinedFrom s file
    cut (ok ps) p e = set ps p (join_pieces ps) refl e
    cut (refused n line) p e = absurd (no_refusal e)

    sized : (x : Bool) → then_checked (cond x (join_split (split s)) (refused 1 0)) ≡ ok file → JoinedFrom s file
    sized true e = cut (split s) refl e
    sized false e = absurd (no_refusal e)

split_nothing : split [] ≡ refused 2 1
unfolding split split_rows broken_line
split_nothing = refl

-- ---- the fewest

module _ (i : List ℕ) (b : Notebook) (c : ℕ) where
  abbrev ls : List (List ℕ)
  ls = record_rows b.records

  -- the plan has at most n pieces, and so has the list
  pub record Listed (n : ℕ) : Type 0 where
    pub list : List (List ℕ)
    pub is : cutting i c b ≡ Some list
    pub few : length list ≤ n

  numbered_length : (d : Bool) (n k : ℕ) (xs : List (List (List ℕ))) → length (numbered d i n k xs) ≡ length xs
  unfolding numbered
  numbered_length d n k [] = refl
  numbered_length d n k (x ∷ xs) = ap suc (numbered_length d n (suc k) xs)

  listed : (n : ℕ) → AtMost n (plan length c ls) → Listed n
  unfolding cutting
  listed n a = go (plan length c ls) refl a
    where
      go : (p : Plan (List ℕ)) → plan length c ls ≡ p → AtMost n p → Listed n
      go in_one q h = record { list = write_file b ∷ []; is = ap (planned i b) q; few = h }
      go (divided xs) q h =
          record { list = numbered b.provider i (length xs) 1 xs; is = ap (planned i b) q; few = omega (arith, numbered_length b.provider (length xs) 1 xs) }
      go no_plan q h = absurd h

  -- the rows of the joined file are the records' rows
  rows_read : (w : Piece) → All Body w.rows → read_file (file_of w) ≡ ok b → Lines b.provider b.records w.rows
  unfolding file_of
  rows_read w a e =
      let r : LinesRead w.provider w.rows b = lines_read w.provider w.rows b (bodies_lines w.rows a) e in
      subst (λ (d : Bool). Lines d b.records w.rows) r.way r.lines

  several : (zs : List Chunk) (w : Piece) (ps : List Part) → All Good zs → All (Within c) (map chunk_bytes zs) → all_parts (map piece_of zs) ≡ Some ps
      → join_parts (Some ps) ≡ Some w → read_file (file_of w) ≡ ok b → AtMost (length zs) (plan length c ls)
  several zs w ps g h p j e =
      let s : All (Small c) ps × (length ps ≡ length zs) = small_parts c zs ps g h (parts_are (map piece_of zs) ps p) in
      let d : Divided c (length ps) w.rows = divided_by c ps w s.0 (parts_joined ps w j) in
      let r : Lines b.provider b.records w.rows = rows_read w d.rows e in
      let y : Way length (over (digit_count (length ps))) c 1 (over (digit_count (length ps)) 1) ls (length ps) =
      lighter length length (over (digit_count (length ps))) (over (digit_count (length ps))) c c (λ k. le_refl _) (le_refl c) (over (digit_count (length ps)) 1)
      (rows_pairs r) (le_refl _) d.way in
      subst (λ (n : ℕ). AtMost n (plan length c ls)) s.1 (way_fewest length c ls (length ps) d.two d.most d.opens y)

  single : (x : Chunk) → Good x → length (chunk_bytes x) ≤ c → read_file (file_of (piece_of x)) ≡ ok b → AtMost 1 (plan length c ls)
  single x g h e =
      let r : Lines b.provider b.records x.rows = rows_read (piece_of x) g e in
      rw (plan_whole length c ls (omega (arith, chunk_length x, lines_short r, total_flat ls))) (le_refl 1)

  joined_least : (zs : List Chunk) (w : Piece) → All Good zs → All (Within c) (map chunk_bytes zs) → join_pieces (map piece_of zs) ≡ Some w → read_file (file_of w) ≡ ok b
      → AtMost (length zs) (plan length c ls)
  unfolding join_pieces
  joined_least zs w g h j e = go zs g h j
    where
      many : (zs : List Chunk) → All Good zs → All (Within c) (map chunk_bytes zs) → (m : Option (List Part)) → all_parts (map piece_of zs) ≡ m → join_parts m ≡ Some w
          → AtMost (length zs) (plan length c ls)
      many zs g h None p j = absurd (no_none j)
      many zs g h (Some ps) p j = several zs w ps g h p j e

      go : (zs : List Chunk) → All Good zs → All (Within c) (map chunk_bytes zs) → join_pieces (map piece_of zs) ≡ Some w → AtMost (length zs) (plan length c ls)
      go [] g h j = absurd (no_none j)
      go (x ∷ []) g h j = by (unmarked x.rows) j
        where
          by : (u : Bool) → cond u (Some (piece_of x)) (join_parts (all_parts (piece_of x ∷ []))) ≡ Some w → AtMost 1 (plan length c ls)
          by true j = single x g.0 h.0.fits (ap (λ (z : Piece). read_file (file_of z)) (some_inj j) ∙ e)
          by false j = many (x ∷ []) g h (all_parts (piece_of x ∷ [])) refl j
      go (x ∷ y ∷ xs) g h j = many (x ∷ y ∷ xs) g h (all_parts (map piece_of (x ∷ y ∷ xs))) refl j

  -- A SOUND LIST HAS NO FEWER PIECES than the list that cutting finds of the notebook of its joined file
  pub least : (f : List ℕ) (qs : List (List ℕ)) (s : Sound f c qs) → s.same.one ≡ b → Listed (length qs)
  least f qs s q =
      let z : Chunks qs = chunked qs s.pieces in
      let j : JoinedFrom (flat qs) s.file = joined_from (flat qs) s.file s.joins in
      let r : read_file (file_of j.piece) ≡ ok b = ap read_file j.is ∙ s.same.read_one ∙ ap ok q in
      let c' : split (flat (map chunk_bytes z.chunks)) ≡ ok j.pieces = subst (λ (t : List (List ℕ)). split (flat t) ≡ ok j.pieces) z.bytes j.cut in
      let k : join_pieces (map piece_of z.chunks) ≡ Some j.piece = ap join_pieces (same_pieces z.chunks j.pieces z.good c') ∙ j.joins in
      let n : length z.chunks ≡ length qs = sym (ap length z.bytes ∙ map_length chunk_bytes z.chunks) in
      listed (length qs) (subst (λ (m : ℕ). AtMost m (plan length c ls)) n
      (joined_least z.chunks j.piece z.good (subst (All (Within c)) z.bytes s.fits) k r))
    where
      same_pieces : (xs : List Chunk) (ps : List Piece) → All Good xs → split (flat (map chunk_bytes xs)) ≡ ok ps → map piece_of xs ≡ ps
      same_pieces [] ps g e = absurd (no_refusal (sym split_nothing ∙ e))
      same_pieces (x ∷ xs) ps g e = let q : ok (map piece_of (x ∷ xs)) ≡ ok ps = sym (split_bytes x xs g) ∙ e in let u : map piece_of (x ∷ xs) ≡ ps = cc in u
