-- The pieces that cutting finds of a notebook: they are sound for every file that carries it, and joining them in any order gives the notebook's file.
-- Assumes nothing.
use Prim.Native.Nat.{ℕ, suc, ◌+◌, ◌*◌, ◌≤◌}
use native.Mathlib.Omega.{arith}
use mathlib.Core.Path.{◌≡◌, refl, sym, ap, ◌∙◌, subst}
use mathlib.Core.Bool.{Bool, true, false}
use Rattle.std.specs.Prelude.{Some}
use mathlib.Core.List.{List, [], ◌∷◌, ◌++◌, map, append-nil, append_assoc}
use borrow.Author.Tests.{le-leb}
use lib.ListN.{length, length-append}
use Rattle.lists.specs.Lists.{All, ok}
use Rattle.characters.specs.Text.{text}
use Rattle.characters.specs.Rows.{flat}
use Rattle.records.specs.Records.{Record, is_mark}
use Rattle.notebook.specs.Notebook.{Notebook, read_file}
use Rattle.notebook.specs.Same.{CarrySame}
use Rattle.notebook.specs.Canonical.{head_row, record_rows, write_file}
use Rattle.notebook.proofs.Accepted.{head_length, Lines, none as no_lines, more, accepted}
use Rattle.notebook.proofs.WrittenLaws.{lines_written, written_small, written_carries}
use Rattle.packing.specs.Packing.{total}
use Rattle.packing.specs.Divisions.{concat, Fits}
use Rattle.digits.specs.Digits.{digit_count}
use Rattle.digits.proofs.Numbers.{to_999}
use Rattle.packing.specs.Widths.{over, Plan, in_one, in_runs as divided, no_plan, plan}
use Rattle.packing.proofs.Widths.{Divides, Planned, plan_good}
use Rattle.division.specs.Marks.{valid_id, mark_row, mark_line, read_mark}
use Rattle.division.specs.Pieces.{Piece, split, file_of}
use Rattle.division.proofs.Chunks.{Chunk, mark, chunk_bytes, piece_of, Body, Good, flat_append, split_bytes, split_one}
use Rattle.division.proofs.MarkLaws.{read_written, written_is, mark_text, mark_body, mark_length}
use Rattle.division.proofs.Bodies.{read_unmarked, read_body}
use Rattle.division.specs.Cut.{piece_bytes, numbered, planned, cutting}
use Rattle.division.specs.Join.{unmarked, Part, part_of, all_parts, join_parts, join_pieces, joined_file, join_file}
use Rattle.division.specs.Orders.{Perm}
use Rattle.division.specs.Demand.{OnePiece, Within, Sound}
use Rattle.division.proofs.Orders.{all_append, all_map, all_left, all_right, map_length, perm_refl, perm_all, perm_length, perm_map, perm_flat, perm_unmap, perm_one}
use Rattle.division.proofs.Parts.{no_none, some_inj, part, parts, parts_distinct, parts_alike, parts_length, Alike, join_alike, gather_perm, gather_parts, part_of_lem}

-- ---- lengths of rows

pub total_flat : (rs : List (List ℕ)) → total length rs ≡ length (flat rs)
unfolding total
total_flat [] = refl
total_flat (r ∷ rs) = omega (arith, length-append r (flat rs), total_flat rs)

-- ---- one piece as it is written

abbrev row_of : Part → List ℕ
row_of p = mark_row p.mark.ident p.mark.count p.mark.place

abbrev chunk_of : Part → Chunk
chunk_of p = record { provider = p.provider; rows = p.rows ++ (row_of p ∷ []); ended = false }

abbrev bytes_of : Part → List ℕ
bytes_of p = piece_bytes p.provider p.mark.ident p.mark.count p.mark.place p.rows

piece_chunk : (p : Part) → bytes_of p ≡ chunk_bytes (chunk_of p)
unfolding piece_bytes chunk_bytes
piece_chunk p =
    ap (λ (t : List ℕ). head_row p.provider ++ t)
    (sym (append-nil (flat (p.rows ++ (row_of p ∷ []))) ∙ flat_append p.rows (row_of p ∷ []) ∙ ap (λ (t : List ℕ). flat p.rows ++ t) (append-nil (row_of p))))

-- a row that may stand in a piece
abbrev Free : List ℕ → Type 0
Free r = Body r × (is_mark (text r) ≡ false)

free_bodies : (rs : List (List ℕ)) → All Free rs → All Body rs
free_bodies [] h = tt
free_bodies (r ∷ rs) (h, t) = (h.0, free_bodies rs t)

free_unmarked : (rs : List (List ℕ)) → All Free rs → unmarked rs ≡ true
unfolding unmarked
free_unmarked [] h = refl
free_unmarked (r ∷ rs) (h, t) = rw h.1 (free_unmarked rs t)

record Own (p : Part) : Type 0 where
  rows : All Free p.rows
  valid : valid_id p.mark.ident ≡ true
  count : p.mark.count ≤ 999
  place : p.mark.place ≤ 999

own_good : (p : Part) → Own p → Good (chunk_of p)
own_good p o =
    all_append Body p.rows (row_of p ∷ []) (free_bodies p.rows o.rows)
    (mark_body p.mark.ident p.mark.count p.mark.place o.valid o.count o.place, tt)

own_part : (p : Part) → Own p → part_of p.provider (chunk_of p).rows ≡ Some p
own_part p o =
    let t : text (row_of p) ≡ mark_line p.mark.ident p.mark.count p.mark.place =
    mark_text p.mark.ident p.mark.count p.mark.place o.valid o.count o.place in
    part_of_lem p.provider p.rows (row_of p) p.mark (free_unmarked p.rows o.rows)
    (ap is_mark t ∙ written_is p.mark.ident p.mark.count p.mark.place o.valid o.count o.place)
    (ap read_mark t ∙ read_written p.mark.ident p.mark.count p.mark.place o.valid o.count o.place)

piece_length : (p : Part) → Own p → length (bytes_of p) ≡ over (digit_count p.mark.count) p.mark.place + total length p.rows
unfolding piece_bytes over
piece_length p o =
    omega (
      arith,
      length-append (head_row p.provider) (flat p.rows ++ row_of p),
      length-append (flat p.rows) (row_of p),
      head_length p.provider,
      mark_length p.mark.ident p.mark.count p.mark.place o.valid o.count o.place,
      total_flat p.rows,
    )

-- ---- all pieces

own_parts : (ps : List Part) → All Own ps → all_parts (map piece_of (map chunk_of ps)) ≡ Some ps
unfolding all_parts
own_parts [] h = refl
own_parts (p ∷ ps) (h, t) = rw (own_part p h, own_parts ps t)

own_chunks : (ps : List Part) → All Own ps → All Good (map chunk_of ps)
own_chunks [] h = tt
own_chunks (p ∷ ps) (h, t) = (own_good p h, own_chunks ps t)

map_pieces : (ps : List Part) → map bytes_of ps ≡ map chunk_bytes (map chunk_of ps)
map_pieces [] = refl
map_pieces (p ∷ ps) = let a : bytes_of p ≡ chunk_bytes (chunk_of p) = piece_chunk p in let b : map bytes_of ps ≡ map chunk_bytes (map chunk_of ps) = map_pieces ps in cc

own_pieces : (ps : List Part) → All Own ps → All OnePiece (map bytes_of ps)
own_pieces [] h = tt
own_pieces (p ∷ ps) (h, t) = (record { piece = piece_of (chunk_of p); is = ap split (piece_chunk p) ∙ split_one (chunk_of p) (own_good p h) }, own_pieces ps t)

-- a piece that, with a 1Ah after it or without, is one piece to joining, whose record 911 has the ID i
pub record Marked (i p : List ℕ) : Type 0 where
  pub provider : Bool
  pub rows : List (List ℕ)
  pub good : All Body rows
  pub bytes : (e : Bool) → p ++ mark e ≡ chunk_bytes (record { provider = provider; rows = rows; ended = e })
  pub part : Part
  pub is : part_of provider rows ≡ Some part
  pub ident : part.mark.ident ≡ i

own_ended : (p : Part) (e : Bool) → bytes_of p ++ mark e ≡ chunk_bytes (record { provider = p.provider; rows = p.rows ++ (row_of p ∷ []); ended = e })
unfolding chunk_bytes
own_ended p e = ap (λ (t : List ℕ). t ++ mark e) (piece_chunk p) ∙ go e
  where
    rs : List (List ℕ)
    rs = p.rows ++ (row_of p ∷ [])

    go : (e : Bool) → chunk_bytes (chunk_of p) ++ mark e ≡ head_row p.provider ++ (flat rs ++ mark e)
    go e =
        append_assoc (head_row p.provider) (flat rs ++ []) (mark e)
        ∙ ap (λ (t : List ℕ). head_row p.provider ++ (t ++ mark e)) (append-nil (flat rs))

own_marked : (i : List ℕ) (ps : List Part) → All Own ps → All (λ p. p.mark.ident ≡ i) ps → All (Marked i) (map bytes_of ps)
own_marked i [] h g = tt
own_marked i (p ∷ ps) (h, t) (g, u) =
    (record { provider = p.provider; rows = (chunk_of p).rows; good = own_good p h; bytes = own_ended p; part = p; is = own_part p h; ident = g }, own_marked i ps t u)

-- cutting's own numbering
pub numbered_bytes : (d : Bool) (i : List ℕ) (n k : ℕ) (ys : List (List (List ℕ))) → numbered d i n k ys ≡ map bytes_of (parts d i n k ys)
unfolding numbered
numbered_bytes d i n k [] = refl
numbered_bytes d i n k (y ∷ ys) = ap (λ (t : List (List ℕ)). piece_bytes d i n k y ∷ t) (numbered_bytes d i n (suc k) ys)

abbrev AllFree : List (List ℕ) → Type 0
AllFree y = All Free y

parts_own : (d : Bool) (i : List ℕ) (n k : ℕ) (ys : List (List (List ℕ))) → valid_id i ≡ true → n ≤ 999 → k + length ys ≤ 1000 → All AllFree ys
    → All Own (parts d i n k ys)
parts_own d i n k [] v h l a = tt
parts_own d i n k (y ∷ ys) v h l (a, t) =
    (record { rows = a; valid = v; count = h; place = omega arith }, parts_own d i n (suc k) ys v h (omega arith) t)

over_small : (n k : ℕ) → n ≤ 999 → k ≤ 999 → over (digit_count n) k ≤ 41
unfolding over
over_small n k h g = omega (arith, to_999 n h, to_999 k g)

parts_total : (d : Bool) (i : List ℕ) (n k : ℕ) (ys : List (List (List ℕ))) → valid_id i ≡ true → n ≤ 999 → k + length ys ≤ 1000 → All AllFree ys
    → length (flat (map bytes_of (parts d i n k ys))) ≤ 41 * length ys + length (flat (concat ys))
unfolding concat
parts_total d i n k [] v h l a = omega arith
parts_total d i n k (y ∷ ys) v h l (a, t) =
    let p : Part = part d i n k y in
    omega (
      arith,
      length-append (bytes_of p) (flat (map bytes_of (parts d i n (suc k) ys))),
      piece_length p (record { rows = a; valid = v; count = h; place = omega arith }),
      total_flat y,
      over_small n k h (omega arith),
      parts_total d i n (suc k) ys v h (omega arith) t,
      ap length (flat_append y (concat ys)),
      length-append (flat y) (flat (concat ys)),
    )

parts_fit : (d : Bool) (i : List ℕ) (n k c : ℕ) (ys : List (List (List ℕ))) → valid_id i ≡ true → n ≤ 999 → k + length ys ≤ 1000 → All AllFree ys
    → Fits length (over (digit_count n)) c k ys → All (Within c) (map bytes_of (parts d i n k ys))
unfolding Fits
parts_fit d i n k c [] v h l a f = tt
parts_fit d i n k c (y ∷ ys) v h l (a, t) (f, g) =
    let p : Part = part d i n k y in (
      record { fits = omega (arith, piece_length p (record { rows = a; valid = v; count = h; place = omega arith })) },
      parts_fit d i n (suc k) c ys v h (omega arith) t g,
    )

-- ---- joined

split_all : (xs : List Chunk) → 1 ≤ length xs → All Good xs → split (flat (map chunk_bytes xs)) ≡ ok (map piece_of xs)
split_all [] h g = absurd (omega arith)
split_all (x ∷ xs) h g = split_bytes x xs g

join_many : (xs : List Piece) → 2 ≤ length xs → join_pieces xs ≡ join_parts (all_parts xs)
unfolding join_pieces
join_many [] h = absurd (omega arith)
join_many (x ∷ []) h = absurd (omega arith)
join_many (x ∷ y ∷ xs) h = refl

joined_split : (s : List ℕ) (ps : List Piece) (p : Piece) → length s ≤ 131072 → split s ≡ ok ps → join_pieces ps ≡ Some p → joined_file s ≡ ok (file_of p)
unfolding joined_file
joined_split s ps p h e j = rw (le-leb (length s) 131072 h, e, j)

join_file_lem : (s w : List ℕ) (b : Notebook) → joined_file s ≡ ok w → read_file w ≡ ok b → join_file s ≡ ok w
unfolding join_file
join_file_lem s w b e r = rw (e, r)

-- pieces that are numbered 1 to n, in any order
module _ (d : Bool) (i : List ℕ) (ys : List (List (List ℕ))) (v : valid_id i ≡ true) (two : 2 ≤ length ys) (most : length ys ≤ 999) (a : All AllFree ys) where
  join_own : (ps : List Part) → Perm (parts d i (length ys) 1 ys) ps → join_pieces (map piece_of (map chunk_of ps)) ≡ Some (record { provider = d; rows = concat ys })
  join_own ps w =
      let o : All Own ps = perm_all Own w (parts_own d i (length ys) 1 ys v most (omega arith) a) in
      let l : length ps ≡ length ys = perm_length w ∙ parts_length d i (length ys) 1 ys in
      join_many (map piece_of (map chunk_of ps)) (omega (arith, map_length piece_of (map chunk_of ps), map_length chunk_of ps))
      ∙ ap join_parts (own_parts ps o)
      ∙ join_alike d i (length ys) ps (concat ys) (perm_all (Alike d i (length ys)) w (parts_alike d i (length ys) 1 ys)) two l
      (gather_perm (length ys) 1 w (parts_distinct d i (length ys) ys 1) ∙ gather_parts d i (length ys) ys)

  joined_own : (ps : List Part) → Perm (parts d i (length ys) 1 ys) ps → length (flat (map bytes_of ps)) ≤ 131072
      → joined_file (flat (map bytes_of ps)) ≡ ok (head_row d ++ flat (concat ys))
  unfolding file_of
  joined_own ps w h =
      let o : All Own ps = perm_all Own w (parts_own d i (length ys) 1 ys v most (omega arith) a) in
      let l : length ps ≡ length ys = perm_length w ∙ parts_length d i (length ys) 1 ys in
      joined_split (flat (map bytes_of ps)) (map piece_of (map chunk_of ps)) (record { provider = d; rows = concat ys }) h
      (ap (λ (t : List (List ℕ)). split (flat t)) (map_pieces ps) ∙ split_all (map chunk_of ps) (omega (arith, map_length chunk_of ps)) (own_chunks ps o))
      (join_own ps w)

-- ---- the runs of a plan

free_lines : {d : Bool} {rs : List Record} {ls : List (List ℕ)} → Lines d rs ls → All Free ls
free_lines no_lines = tt
free_lines (more x xs) = ((read_body x, read_unmarked x), free_lines xs)

free_runs : (xs : List (List (List ℕ))) → All Free (concat xs) → All AllFree xs
unfolding concat
free_runs [] a = tt
free_runs (x ∷ xs) a = (all_left Free x (concat xs) a, free_runs xs (all_right Free x (concat xs) a))

module _ (f i : List ℕ) (b : Notebook) (c : ℕ) (e : read_file f ≡ ok b) where
  -- the canonical rows of the notebook
  abbrev ls : List (List ℕ)
  ls = record_rows b.records

  all_free : All Free ls
  all_free = free_lines (lines_written (accepted f b e).taken.lines)

  size : 13 + length (flat ls) ≤ 65536
  unfolding write_file
  size = omega (arith, written_small f b e, length-append (head_row b.provider) (flat ls), head_length b.provider)

  -- ---- one piece

  abbrev only : Chunk
  only = record { provider = b.provider; rows = ls; ended = false }

  only_bytes : write_file b ≡ chunk_bytes only
  unfolding write_file chunk_bytes
  only_bytes = ap (λ (t : List ℕ). head_row b.provider ++ t) (sym (append-nil (flat ls)))

  split_whole : split (write_file b) ≡ ok (piece_of only ∷ [])
  split_whole = ap split only_bytes ∙ split_one only (free_bodies ls all_free)

  restore_whole : join_file (flat (write_file b ∷ [])) ≡ ok (write_file b)
  unfolding join_pieces file_of write_file
  restore_whole =
      let n : flat (write_file b ∷ []) ≡ write_file b = append-nil (write_file b) in
      let j : join_pieces (piece_of only ∷ []) ≡ Some (piece_of only) = rw (free_unmarked ls all_free) in
      let q : joined_file (write_file b) ≡ ok (write_file b) =
      joined_split (write_file b) (piece_of only ∷ []) (piece_of only) (omega (arith, written_small f b e)) split_whole j in
      ap join_file n ∙ join_file_lem (write_file b) (write_file b) b q (written_carries f b e)

  sound_whole : (g : List ℕ) → CarrySame (write_file b) g → 13 + total length ls ≤ c → Sound g c (write_file b ∷ [])
  unfolding write_file
  sound_whole g s h = record {
    pieces = (record { piece = piece_of only; is = split_whole }, tt);
    fits = (record { fits = omega (arith, length-append (head_row b.provider) (flat ls), head_length b.provider, total_flat ls) }, tt);
    file = write_file b;
    joins = restore_whole;
    same = s;
  }

  -- ---- two or more

  module _ (v : valid_id i ≡ true) (xs : List (List (List ℕ))) (g : Divides length c ls xs) where
    runs_free : All AllFree xs
    runs_free = free_runs xs (subst (All Free) (sym g.all) all_free)

    abbrev own : List Part
    own = parts b.provider i (length xs) 1 xs

    own_size : (ps : List Part) → Perm own ps → length (flat (map bytes_of ps)) ≤ 131072
    own_size ps m =
        omega (
          arith,
          perm_flat (perm_map bytes_of m),
          parts_total b.provider i (length xs) 1 xs v g.most (omega (arith, g.most)) runs_free,
          g.most,
          ap (λ (t : List (List ℕ)). length (flat t)) g.all,
          size,
        )

    restore_split : (ps : List Part) → Perm own ps → join_file (flat (map bytes_of ps)) ≡ ok (write_file b)
    unfolding write_file
    restore_split ps m =
        let q : joined_file (flat (map bytes_of ps)) ≡ ok (write_file b) =
        joined_own b.provider i xs v g.two g.most runs_free ps m (own_size ps m)
        ∙ ap (λ (t : List (List ℕ)). ok (head_row b.provider ++ flat t)) g.all in
        join_file_lem (flat (map bytes_of ps)) (write_file b) b q (written_carries f b e)

    sound_split : (h : List ℕ) → CarrySame (write_file b) h → Sound h c (map bytes_of own)
    sound_split h s = record {
      pieces = own_pieces own (parts_own b.provider i (length xs) 1 xs v g.most (omega (arith, g.most)) runs_free);
      fits = parts_fit b.provider i (length xs) 1 c xs v g.most (omega (arith, g.most)) runs_free g.fits;
      file = write_file b;
      joins = restore_split own (perm_refl own);
      same = s;
    }

  -- ---- by the plan's cases

  by_plan : (P : List (List ℕ) → Type 0) → (13 + total length ls ≤ c → P (write_file b ∷ []))
      → ((xs : List (List (List ℕ))) → Divides length c ls xs → P (map bytes_of (parts b.provider i (length xs) 1 xs)))
      → (ps : List (List ℕ)) → cutting i c b ≡ Some ps → P ps
  unfolding cutting
  by_plan P single several ps k = go (plan length c ls) (plan_good length c ls) k
    where
      go : (p : Plan (List ℕ)) → Planned length c ls p → planned i b p ≡ Some ps → P ps
      go in_one h q = subst P (some_inj q) (single h)
      go (divided xs) h q = subst P (sym (numbered_bytes b.provider i (length xs) 1 xs) ∙ some_inj q) (several xs h)
      go no_plan h q = absurd (no_none q)

  module _ (v : valid_id i ≡ true) where
    -- PIECES OF MORE THAN ONE have the ID
    pub marked : (ps : List (List ℕ)) → cutting i c b ≡ Some ps → 2 ≤ length ps → All (Marked i) ps
    marked = by_plan (λ ps. 2 ≤ length ps → All (Marked i) ps) (λ h l. absurd (omega (arith, l))) several
      where
        several : (xs : List (List (List ℕ))) → Divides length c ls xs → 2 ≤ length (map bytes_of (parts b.provider i (length xs) 1 xs))
            → All (Marked i) (map bytes_of (parts b.provider i (length xs) 1 xs))
        several xs g l =
            own_marked i (own v xs g) (parts_own b.provider i (length xs) 1 xs v g.most (omega (arith, g.most)) (runs_free v xs g))
            (all_map (Alike b.provider i (length xs)) (λ p. p.mark.ident ≡ i) (λ p a. a.ident) (own v xs g) (parts_alike b.provider i (length xs) 1 xs))

    -- WHAT CUTTING FINDS IS SOUND
    pub sound : (g : List ℕ) → CarrySame (write_file b) g → (ps : List (List ℕ)) → cutting i c b ≡ Some ps → Sound g c ps
    sound g s = by_plan (Sound g c) (sound_whole g s) (λ xs d. sound_split v xs d g s)

    -- IN ANY ORDER it is joined to the notebook's file
    pub restores : (ps qs : List (List ℕ)) → cutting i c b ≡ Some ps → Perm ps qs → join_file (flat qs) ≡ ok (write_file b)
    restores ps qs k = by_plan (λ ps. Perm ps qs → join_file (flat qs) ≡ ok (write_file b)) single several ps k
      where
        single : 13 + total length ls ≤ c → Perm (write_file b ∷ []) qs → join_file (flat qs) ≡ ok (write_file b)
        single h m = rw (perm_one m) restore_whole

        several : (xs : List (List (List ℕ))) → Divides length c ls xs → Perm (map bytes_of (parts b.provider i (length xs) 1 xs)) qs
            → join_file (flat qs) ≡ ok (write_file b)
        several xs g m =
            let u : (l : List Part) × (qs ≡ map bytes_of l) × Perm (parts b.provider i (length xs) 1 xs) l =
            perm_unmap bytes_of (parts b.provider i (length xs) 1 xs) m in
            rw u.1 (restore_split v xs g u.0 u.2)
