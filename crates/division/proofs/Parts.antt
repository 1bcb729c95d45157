-- Joining by places: the order in which pieces lie does not matter, n pieces of which each place is found are the pieces 1 to n, and what the
-- joined rows say of the pieces. Assumes nothing.
use Prim.Native.Nat.{ℕ, zero, suc, ◌+◌, ◌≤◌, ◌<◌}
use native.Mathlib.Omega.{arith}
use mathlib.Core.Path.{◌≡◌, refl, sym, ap, ◌∙◌, subst}
use mathlib.Core.Bool.{Bool, true, false, cond, not, ◌&&◌, beq}
use Rattle.std.specs.Prelude.{Option, Some, None}
use mathlib.Core.List.{List, [], ◌∷◌, ◌++◌, append_assoc}
use borrow.Author.Tests.{eqb-true, eqb-false, eq-eqb, ne_eqb, leb-true, le-leb}
use lib.Dec.{leb, eqb}
use lib.ListN.{length, length-append}
use Rattle.lists.specs.Lists.{same, All}
use Rattle.lists.proofs.Tests.{both, same_refl, same_true, not_true'}
use Rattle.characters.specs.Text.{text}
use Rattle.characters.specs.Rows.{flat}
use Rattle.records.specs.Records.{is_mark}
use Rattle.packing.specs.Divisions.{concat}
use Rattle.division.specs.Marks.{Mark, read_mark}
use Rattle.division.specs.Pieces.{Piece}
use Rattle.division.specs.Join.{unmarked, Part, row_before, last_mark, part_of, part_with, all_parts, agree, find_part, rows_of_part, gather, one_piece, join_parts}
use Rattle.division.specs.Orders.{Insert, here, there, Perm, nil, cons}
use Rattle.division.proofs.Orders.{all_append, all_map}
use Rattle.division.proofs.Chunks.{flat_append}

pub no_none : {A : Type 0} {a : A} → ◌≡◌ {A = Option A} None (Some a) → ⊥
no_none e = let z : ◌≡◌ {A = ℕ} 0 1 = cc in omega arith

pub some_inj : {A : Type 0} {a b : A} → Some a ≡ Some b → a ≡ b
some_inj e = cc

-- ---- the order does not matter

-- no two places are equal
abbrev Distinct : List Part → Type 0
Distinct [] = Unit {0}
Distinct (p ∷ ps) = (find_part p.mark.place ps ≡ None) × Distinct ps

find_hit : (k : ℕ) (p : Part) (ps : List Part) → p.mark.place ≡ k → find_part k (p ∷ ps) ≡ Some p
unfolding find_part
find_hit k p ps h = rw (eq-eqb p.mark.place k h)

find_miss : (k : ℕ) (p : Part) (ps : List Part) → (p.mark.place ≡ k → ⊥) → find_part k (p ∷ ps) ≡ find_part k ps
unfolding find_part
find_miss k p ps h = rw (ne_eqb p.mark.place k h)

insert_other : {p : Part} {ps l : List Part} (k : ℕ) → Insert p ps l → (p.mark.place ≡ k → ⊥) → find_part k l ≡ find_part k ps
insert_other {p} k (here {xs = ps}) h = find_miss k p ps h
insert_other {p} k (there {x = q} {xs = qs} {l = l} i) h = go (eqb q.mark.place k) refl (insert_other k i h)
  where
    go : (b : Bool) → eqb q.mark.place k ≡ b → find_part k l ≡ find_part k qs → find_part k (q ∷ l) ≡ find_part k (q ∷ qs)
    go true e ih = find_hit k q l (eqb-true _ _ e) ∙ sym (find_hit k q qs (eqb-true _ _ e))
    go false e ih = find_miss k q l (eqb-false _ _ e) ∙ ih ∙ sym (find_miss k q qs (eqb-false _ _ e))

insert_found : {p : Part} {ps l : List Part} (k : ℕ) → Insert p ps l → p.mark.place ≡ k → find_part k ps ≡ None → find_part k l ≡ Some p
insert_found {p} k (here {xs = ps}) h n = find_hit k p ps h
insert_found {p} k (there {x = q} {xs = qs} {l = l} i) h n = go (eqb q.mark.place k) refl (insert_found k i h)
  where
    go : (b : Bool) → eqb q.mark.place k ≡ b → (find_part k qs ≡ None → find_part k l ≡ Some p) → find_part k (q ∷ l) ≡ Some p
    go true e ih = absurd (no_none (sym n ∙ find_hit k q qs (eqb-true _ _ e)))
    go false e ih = find_miss k q l (eqb-false _ _ e) ∙ ih (sym (find_miss k q qs (eqb-false _ _ e)) ∙ n)

find_perm : {ps qs : List Part} (k : ℕ) → Perm ps qs → Distinct ps → find_part k qs ≡ find_part k ps
find_perm k nil d = refl
find_perm k (cons {a = p} {xs = ps} {ys = ys} {l = l} i w) (n, d) = go (eqb p.mark.place k) refl (find_perm k w d)
  where
    go : (b : Bool) → eqb p.mark.place k ≡ b → find_part k ys ≡ find_part k ps → find_part k l ≡ find_part k (p ∷ ps)
    go true e ih =
        let q : p.mark.place ≡ k = eqb-true _ _ e in
        insert_found k i q (ih ∙ subst (λ (z : ℕ). find_part z ps ≡ None) q n) ∙ sym (find_hit k p ps q)
    go false e ih = insert_other k i (eqb-false _ _ e) ∙ ih ∙ sym (find_miss k p ps (eqb-false _ _ e))

pub gather_perm : {ps qs : List Part} (n k : ℕ) → Perm ps qs → Distinct ps → gather qs n k ≡ gather ps n k
unfolding gather
gather_perm zero k w d = refl
gather_perm (suc n) k w d = rw (find_perm k w d, gather_perm n (suc k) w d)

-- ---- pieces numbered in order

abbrev pub part : Bool → List ℕ → ℕ → ℕ → List (List ℕ) → Part
part d i n k x = record { provider = d; mark = record { ident = i; count = n; place = k }; rows = x }

-- the runs as parts k, k + 1, .. of n
abbrev pub parts : Bool → List ℕ → ℕ → ℕ → List (List (List ℕ)) → List Part
parts d i n k [] = []
parts d i n k (x ∷ xs) = part d i n k x ∷ parts d i n (suc k) xs

module _ (d : Bool) (i : List ℕ) (n : ℕ) where
  find_later : (xs : List (List (List ℕ))) (j k : ℕ) → j < k → find_part j (parts d i n k xs) ≡ None
  unfolding find_part
  find_later [] j k h = refl
  find_later (x ∷ xs) j k h =
      find_miss j (part d i n k x) (parts d i n (suc k) xs) (λ e. omega arith) ∙ find_later xs j (suc k) (omega arith)

  pub parts_distinct : (xs : List (List (List ℕ))) (k : ℕ) → Distinct (parts d i n k xs)
  parts_distinct [] k = tt
  parts_distinct (x ∷ xs) k = (find_later xs k (suc k) (omega arith), parts_distinct xs (suc k))

  abbrev Before : ℕ → Part → Type 0
  Before k p = p.mark.place < k

  find_past : (ps qs : List Part) (k : ℕ) → All (Before k) ps → find_part k (ps ++ qs) ≡ find_part k qs
  find_past [] qs k h = refl
  find_past (p ∷ ps) qs k (h, t) = find_miss k p (ps ++ qs) (λ e. omega arith) ∙ find_past ps qs k t

  gather_from : (xs : List (List (List ℕ))) (ps : List Part) (k : ℕ) → All (Before k) ps
      → gather (ps ++ parts d i n k xs) (length xs) k ≡ Some (concat xs)
  unfolding gather concat
  gather_from [] ps k h = refl
  gather_from (x ∷ xs) ps k h =
      let p : Part = part d i n k x in
      let a : All (Before (suc k)) (ps ++ (p ∷ [])) =
      all_append (Before (suc k)) ps (p ∷ []) (all_map (Before k) (Before (suc k)) (λ p h. omega arith) ps h) (omega arith, tt) in
      let later : gather (ps ++ parts d i n k (x ∷ xs)) (length xs) (suc k) ≡ Some (concat xs) =
      subst (λ (z : List Part). gather z (length xs) (suc k) ≡ Some (concat xs)) (append_assoc ps (p ∷ []) (parts d i n (suc k) xs))
      (gather_from xs (ps ++ (p ∷ [])) (suc k) a) in
      rw (find_past ps (parts d i n k (x ∷ xs)) k h ∙ find_hit k p (parts d i n (suc k) xs) refl, later)

  pub gather_parts : (xs : List (List (List ℕ))) → gather (parts d i n 1 xs) (length xs) 1 ≡ Some (concat xs)
  gather_parts xs = gather_from xs [] 1 tt

-- ---- parts that are alike are joined

pub record Alike (d : Bool) (i : List ℕ) (n : ℕ) (p : Part) : Type 0 where
  pub way : p.provider ≡ d
  pub ident : p.mark.ident ≡ i
  pub count : p.mark.count ≡ n

pub parts_alike : (d : Bool) (i : List ℕ) (n k : ℕ) (ys : List (List (List ℕ))) → All (Alike d i n) (parts d i n k ys)
parts_alike d i n k [] = tt
parts_alike d i n k (y ∷ ys) = (record { way = refl; ident = refl; count = refl }, parts_alike d i n (suc k) ys)

pub parts_length : (d : Bool) (i : List ℕ) (n k : ℕ) (ys : List (List (List ℕ))) → length (parts d i n k ys) ≡ length ys
parts_length d i n k [] = refl
parts_length d i n k (y ∷ ys) = ap suc (parts_length d i n (suc k) ys)

same_way : (d e : Bool) → d ≡ e → beq d e ≡ true
same_way true true h = refl
same_way true false h = cc
same_way false true h = cc
same_way false false h = refl

agree_alike : (d : Bool) (i : List ℕ) (n : ℕ) (p : Part) (ps : List Part) → Alike d i n p → All (Alike d i n) ps → agree p ps ≡ true
unfolding agree
agree_alike d i n p [] h t = refl
agree_alike d i n p (q ∷ qs) h (g, t) =
    let a : p.provider ≡ q.provider = h.way ∙ sym g.way in
    let b : p.mark.ident ≡ q.mark.ident = h.ident ∙ sym g.ident in
    let c : p.mark.count ≡ q.mark.count = h.count ∙ sym g.count in
    let s : same p.mark.ident q.mark.ident ≡ true = ap (same p.mark.ident) (sym b) ∙ same_refl p.mark.ident in
    rw (same_way p.provider q.provider a, s, eq-eqb p.mark.count q.mark.count c, agree_alike d i n p qs h t)

pub join_alike : (d : Bool) (i : List ℕ) (n : ℕ) (ps : List Part) (ls : List (List ℕ)) → All (Alike d i n) ps → 2 ≤ n → length ps ≡ n
    → gather ps n 1 ≡ Some ls → join_parts (Some ps) ≡ Some (record { provider = d; rows = ls })
join_alike d i n [] ls a h l g = absurd (omega arith)
join_alike d i n (p ∷ ps) ls a h l g =
    let c : p.mark.count ≡ n = a.0.count in
    let g' : gather (p ∷ ps) p.mark.count 1 ≡ Some ls = subst (λ (z : ℕ). gather (p ∷ ps) z 1 ≡ Some ls) (sym c) g in
    rw (agree_alike d i n p ps a.0 a.1, le-leb 2 p.mark.count (omega arith), eq-eqb (suc (length ps)) p.mark.count (l ∙ sym c), g')
    (ap (λ (z : Bool). Some (record { provider = z; rows = ls })) a.0.way)

-- ---- what the joined rows say of the pieces

-- run k is the rows of a part with place k, of which P holds
pub record Run (P : Part → Type 0) (k : ℕ) (x : List (List ℕ)) : Type 0 where
  pub part : Part
  pub holds : P part
  pub place : part.mark.place ≡ k
  pub rows : part.rows ≡ x

abbrev pub Runs : (Part → Type 0) → ℕ → List (List (List ℕ)) → Type 0
Runs P k [] = Unit {0}
Runs P k (x ∷ xs) = Run P k x × Runs P (suc k) xs

pub record Gathered (P : Part → Type 0) (n k : ℕ) (ls : List (List ℕ)) : Type 0 where
  pub runs : List (List (List ℕ))
  pub all : concat runs ≡ ls
  pub many : length runs ≡ n
  pub each : Runs P k runs

-- what is found, and the parts without it
record Found (k : ℕ) (ps : List Part) (p : Part) : Type 0 where
  place : p.mark.place ≡ k
  others : List Part
  insert : Insert p others ps

found : (k : ℕ) (ps : List Part) (p : Part) → find_part k ps ≡ Some p → Found k ps p
unfolding find_part
found k [] p e = absurd (no_none e)
found k (q ∷ qs) p e = go (eqb q.mark.place k) refl (found k qs p) e
  where
    go : (b : Bool) → eqb q.mark.place k ≡ b → (find_part k qs ≡ Some p → Found k qs p) → cond b (Some q) (find_part k qs) ≡ Some p → Found k (q ∷ qs) p
    go true r ih e = subst (Found k (q ∷ qs)) (some_inj e) (record { place = eqb-true _ _ r; others = qs; insert = here })
    go false r ih e = let f : Found k qs p = ih e in record { place = f.place; others = q ∷ f.others; insert = there f.insert }

insert_holds : (P : Part → Type 0) {p : Part} {qs ps : List Part} → Insert p qs ps → All P ps → P p
insert_holds P here (h, t) = h
insert_holds P (there i) (h, t) = insert_holds P i t

-- the part at k, and the rows after it
record Step (ps : List Part) (n k : ℕ) (ls : List (List ℕ)) : Type 0 where
  part : Part
  found : find_part k ps ≡ Some part
  rest : List (List ℕ)
  gathered : gather ps n (suc k) ≡ Some rest
  all : part.rows ++ rest ≡ ls

step : (ps : List Part) (n k : ℕ) (ls : List (List ℕ)) → gather ps (suc n) k ≡ Some ls → Step ps n k ls
unfolding gather
step ps n k ls e = go (find_part k ps) refl (gather ps n (suc k)) refl e
  where
    go : (m : Option Part) → find_part k ps ≡ m → (g : Option (List (List ℕ))) → gather ps n (suc k) ≡ g → rows_of_part m g ≡ Some ls → Step ps n k ls
    go None p g q e = absurd (no_none e)
    go (Some x) p None q e = absurd (no_none e)
    go (Some x) p (Some g) q e = record { part = x; found = p; rest = g; gathered = q; all = some_inj e }

pub gather_runs : (P : Part → Type 0) (ps : List Part) → All P ps → (n k : ℕ) (ls : List (List ℕ)) → gather ps n k ≡ Some ls → Gathered P n k ls
unfolding gather concat
gather_runs P ps a zero k ls e = record { runs = []; all = some_inj e; many = refl; each = tt }
gather_runs P ps a (suc n) k ls e =
    let s : Step ps n k ls = step ps n k ls e in
    let f : Found k ps s.part = found k ps s.part s.found in
    let r : Gathered P n (suc k) s.rest = gather_runs P ps a n (suc k) s.rest s.gathered in
    record {
      runs = s.part.rows ∷ r.runs;
      all = ap (λ (z : List (List ℕ)). s.part.rows ++ z) r.all ∙ s.all;
      many = ap suc r.many;
      each = (record { part = s.part; holds = insert_holds P f.insert a; place = f.place; rows = refl }, r.each);
    }

-- ---- "k takes each value 1 to n once": n pieces in which each place from 1 to n is found are the pieces 1 to n in some order

-- the parts have the places k, k + 1, ..
abbrev pub Placed : ℕ → List Part → Type 0
Placed k [] = Unit {0}
Placed k (p ∷ ps) = (p.mark.place ≡ k) × Placed (suc k) ps

pub record EachOnce (k : ℕ) (ps : List Part) : Type 0 where
  pub sorted : List Part
  pub places : Placed k sorted
  pub order : Perm sorted ps

-- a part with an earlier place is not looked at
gather_without : {p : Part} {qs ps : List Part} (n k : ℕ) → Insert p qs ps → p.mark.place < k → gather ps n k ≡ gather qs n k
unfolding gather
gather_without zero k i h = refl
gather_without {p} {qs} {ps} (suc n) k i h = rw (insert_other k i (λ e. omega arith), gather_without n (suc k) i (omega arith))

insert_size : {p : Part} {qs ps : List Part} → Insert p qs ps → length ps ≡ suc (length qs)
insert_size here = refl
insert_size (there i) = ap suc (insert_size i)

pub each_once : (n k : ℕ) (ps : List Part) (ls : List (List ℕ)) → length ps ≡ n → gather ps n k ≡ Some ls → EachOnce k ps
each_once zero k [] ls l e = record { sorted = []; places = tt; order = nil }
each_once zero k (p ∷ ps) ls l e = absurd (omega arith)
each_once (suc n) k ps ls l e =
    let s : Step ps n k ls = step ps n k ls e in
    let f : Found k ps s.part = found k ps s.part s.found in
    let r : EachOnce (suc k) f.others =
    each_once n (suc k) f.others s.rest (omega (arith, insert_size f.insert))
    (sym (gather_without n (suc k) f.insert (omega (arith, f.place))) ∙ s.gathered) in
    record { sorted = s.part ∷ r.sorted; places = (f.place, r.places); order = cons f.insert r.order }

-- ---- a part is all of its piece

pub record IsPart (d : Bool) (rs : List (List ℕ)) (p : Part) : Type 0 where
  pub last : List ℕ
  pub shape : rs ≡ p.rows ++ (last ∷ [])
  pub marked : read_mark (text last) ≡ Some p.mark
  pub way : p.provider ≡ d

pub part_is : (d : Bool) (rs : List (List ℕ)) (p : Part) → part_of d rs ≡ Some p → IsPart d rs p
unfolding part_of
part_is d [] p e = absurd (no_none e)
part_is d (r ∷ rs) p e = go (is_mark (text r)) (part_is d rs) e
  where
    ends : (us : List (List ℕ)) (m : Option Mark) → read_mark (text r) ≡ m → last_mark d us m ≡ Some p → IsPart d (r ∷ us) p
    ends [] None q f = absurd (no_none f)
    ends [] (Some m) q f = subst (IsPart d (r ∷ [])) (some_inj f) (record { last = r; shape = refl; marked = q; way = refl })
    ends (u ∷ us) m q f = absurd (no_none f)

    later : (m : Option Part) → ((q : Part) → m ≡ Some q → IsPart d rs q) → row_before r m ≡ Some p → IsPart d (r ∷ rs) p
    later None ih f = absurd (no_none f)
    later (Some q) ih f =
        let s : IsPart d rs q = ih q refl in
        subst (IsPart d (r ∷ rs)) (some_inj f) (record { last = s.last; shape = ap (λ (y : List (List ℕ)). r ∷ y) s.shape; marked = s.marked; way = s.way })

    go : (b : Bool) → ((q : Part) → part_of d rs ≡ Some q → IsPart d rs q) → cond b (last_mark d rs (read_mark (text r))) (row_before r (part_of d rs)) ≡ Some p
        → IsPart d (r ∷ rs) p
    go true ih f = ends rs (read_mark (text r)) refl f
    go false ih f = later (part_of d rs) ih f

pub part_of_lem : (d : Bool) (rs : List (List ℕ)) (l : List ℕ) (m : Mark) → unmarked rs ≡ true → is_mark (text l) ≡ true → read_mark (text l) ≡ Some m
    → part_of d (rs ++ (l ∷ [])) ≡ Some (record { provider = d; mark = m; rows = rs })
unfolding part_of unmarked
part_of_lem d [] l m u i e = rw (i, e)
part_of_lem d (r ∷ rs) l m u i e =
    let a : (not (is_mark (text r)) ≡ true) × (unmarked rs ≡ true) = both (not (is_mark (text r))) (unmarked rs) u in
    rw (not_true' (is_mark (text r)) a.0, part_of_lem d rs l m a.1 i e)

-- the parts of pieces, one by one
pub data PartsOf : List Piece → List Part → Type 0 where
  over : PartsOf [] []
  more : {x : Piece} {p : Part} {xs : List Piece} {ps : List Part} → IsPart x.provider x.rows p → PartsOf xs ps → PartsOf (x ∷ xs) (p ∷ ps)

pub parts_are : (xs : List Piece) (ps : List Part) → all_parts xs ≡ Some ps → PartsOf xs ps
unfolding all_parts
parts_are [] ps e = subst (PartsOf []) (some_inj e) over
parts_are (x ∷ xs) ps e = go (part_of x.provider x.rows) refl (all_parts xs) refl (parts_are xs) e
  where
    go : (m : Option Part) → part_of x.provider x.rows ≡ m → (us : Option (List Part)) → all_parts xs ≡ us
        → ((us : List Part) → all_parts xs ≡ Some us → PartsOf xs us) → part_with m us ≡ Some ps → PartsOf (x ∷ xs) ps
    go None p us q ih e = absurd (no_none e)
    go (Some y) p None q ih e = absurd (no_none e)
    go (Some y) p (Some us) q ih e = subst (PartsOf (x ∷ xs)) (some_inj e) (more (part_is x.provider x.rows y p) (ih us q))

-- ---- what parts that are joined have in common

pub record Joined (ps : List Part) (w : Piece) : Type 0 where
  pub ident : List ℕ
  pub count : ℕ
  pub one_id : All (λ p. p.mark.ident ≡ ident) ps
  pub alike : All (λ p. p.mark.count ≡ count) ps
  pub two : 2 ≤ count
  pub many : length ps ≡ count
  pub gathered : gather ps count 1 ≡ Some w.rows

agree_marks : (p : Part) (qs : List Part) → agree p qs ≡ true
    → All (λ q. q.mark.ident ≡ p.mark.ident) qs × All (λ q. q.mark.count ≡ p.mark.count) qs
unfolding agree
agree_marks p [] e = (tt, tt)
agree_marks p (q ∷ qs) e =
    let a = both (beq p.provider q.provider && (same p.mark.ident q.mark.ident && eqb p.mark.count q.mark.count)) (agree p qs) e in
    let b = both (beq p.provider q.provider) (same p.mark.ident q.mark.ident && eqb p.mark.count q.mark.count) a.0 in
    let c = both (same p.mark.ident q.mark.ident) (eqb p.mark.count q.mark.count) b.1 in
    let t = agree_marks p qs a.1 in
    ((sym (same_true _ _ c.0), t.0), (sym (eqb-true _ _ c.1), t.1))

whole_rows : (d : Bool) (m : Option (List (List ℕ))) (w : Piece) → one_piece d m ≡ Some w → m ≡ Some w.rows
whole_rows d None w e = absurd (no_none e)
whole_rows d (Some rs) w e = ap (λ (x : Piece). Some x.rows) (some_inj e)

pub parts_joined : (ps : List Part) (w : Piece) → join_parts (Some ps) ≡ Some w → Joined ps w
parts_joined [] w e = absurd (no_none e)
parts_joined (p ∷ ps) w e = go (agree p ps && (leb 2 p.mark.count && eqb (suc (length ps)) p.mark.count)) refl e
  where
    go : (b : Bool) → agree p ps && (leb 2 p.mark.count && eqb (suc (length ps)) p.mark.count) ≡ b
        → cond b (one_piece p.provider (gather (p ∷ ps) p.mark.count 1)) None ≡ Some w → Joined (p ∷ ps) w
    go false q e = absurd (no_none e)
    go true q e =
        let a = both (agree p ps) (leb 2 p.mark.count && eqb (suc (length ps)) p.mark.count) q in
        let b = both (leb 2 p.mark.count) (eqb (suc (length ps)) p.mark.count) a.1 in
        let m = agree_marks p ps a.0 in
        record {
          ident = p.mark.ident;
          count = p.mark.count;
          one_id = (refl, m.0);
          alike = (refl, m.1);
          two = leb-true _ _ b.0;
          many = eqb-true _ _ b.1;
          gathered = whole_rows p.provider (gather (p ∷ ps) p.mark.count 1) w e;
        }

-- parts that are joined have the places 1 to n, each once
pub set_once : (ps : List Part) (w : Piece) → join_parts (Some ps) ≡ Some w → EachOnce 1 ps
set_once ps w e = let j : Joined ps w = parts_joined ps w e in each_once j.count 1 ps w.rows j.many j.gathered

-- ---- the joined rows are no longer than those of the pieces

-- the bytes of the pieces' rows
abbrev pub bytes_in : List Part → ℕ
bytes_in [] = 0
bytes_in (p ∷ ps) = length (flat p.rows) + bytes_in ps

insert_bytes : {p : Part} {qs ps : List Part} → Insert p qs ps → bytes_in ps ≡ length (flat p.rows) + bytes_in qs
insert_bytes here = refl
insert_bytes (there i) = omega (arith, insert_bytes i)

-- a piece that was found is not found again
pub gather_bytes : (n k : ℕ) (ps : List Part) (ls : List (List ℕ)) → gather ps n k ≡ Some ls → length (flat ls) ≤ bytes_in ps
unfolding gather
gather_bytes zero k ps ls e = omega (arith, ap (λ (z : List (List ℕ)). length (flat z)) (some_inj e))
gather_bytes (suc n) k ps ls e =
    let s : Step ps n k ls = step ps n k ls e in
    let f : Found k ps s.part = found k ps s.part s.found in
    let r : length (flat s.rest) ≤ bytes_in f.others =
    gather_bytes n (suc k) f.others s.rest (sym (gather_without n (suc k) f.insert (omega (arith, f.place))) ∙ s.gathered) in
    let a : length (flat ls) ≡ length (flat s.part.rows) + length (flat s.rest) =
    ap (λ (z : List (List ℕ)). length (flat z)) (sym s.all) ∙ (ap length (flat_append s.part.rows s.rest) ∙ length-append (flat s.part.rows) (flat s.rest)) in
    omega (arith, a, r, insert_bytes f.insert)
