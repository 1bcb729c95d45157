-- The pieces of a set in their tables, as they lie. Assumes nothing.
use Prim.Native.Nat.{ℕ, zero, suc, ◌+◌, ◌-◌, ◌≤◌, ◌<◌}
use mathlib.Core.Path.{◌≡◌, refl, sym, ap, ap₂, ◌∙◌, subst}
use mathlib.Core.Bool.{Bool, true, false, ◌&&◌, beq, and-false}
use mathlib.Core.Logic.{◌⊎◌, inl, inr}
use mathlib.Core.List.{List, [], ◌∷◌, ◌++◌, append_assoc, append-nil}
use native.Mathlib.Omega.{arith}
use borrow.Author.Tests.{eq-eqb, ne_eqb, eqb-true, eqb-false}
use lib.Dec.{eqb}
use lib.ListN.{length, get_or, take, drop, length-append}
use lib.Seq.{length-take-le, take-suc-set, get_or-take, get_or-set_same, get_or-set_other}
use Rattle.std.specs.Prelude.{Some, None, Ok, Err, ⊤, Option}
use Rattle.std.specs.Bool.{then_some}
use Rattle.lists.specs.Lists.{same}
use Rattle.lists.proofs.Tests.{same_refl}
use Rattle.characters.specs.Rows.{rows, flat}
use Rattle.replies.specs.declared.refusal.Refusal.{Refusal}
use Rattle.replies.specs.declared.refusal.Refusal.TheVariants.{Set}
use Rattle.division.specs.Pieces.{Piece, body_of, pieces_in}
use Rattle.division.specs.Join.{Part, part_of, part_with, all_parts, agree}
use Rattle.search.specs.Places.{CountIs}
use Rattle.search.specs.Search.{ks_of, piece_after}
use Rattle.search.proofs.Pieces.{count_one, count_most, piece_found, piece_missing}
use Rattle.join.specs.declared.rows.Opening.{Opening}
use Rattle.join.specs.declared.member.Span.{Span}
use Rattle.join.specs.declared.member.Member.{Member}
use Rattle.join.specs.declared.set.Members.{Members}
use Rattle.join.specs.Spans.{unbroken, goes_on, part_by, ident_at, Opened, Ended, NextMeans, NextIs, like, agreed, is_set, bytes_of, part_at, MemberAt, MemberIs, rows_at, Stored, Bounds, Listed, First, Collected, CollectIs, SpotIs}

-- ---- parts after others

abbrev after : List Part → Option (List Part) → Option (List Part)
after seen None = None
after seen (Some ps) = Some (seen ++ ps)

after_none : (o : Option (List Part)) → o ≡ after [] o
after_none None = refl
after_none (Some ps) = refl

after_with : (seen : List Part) (p : Part) (o : Option (List Part)) → after seen (part_with (Some p) o) ≡ after (seen ++ p ∷ []) o
after_with seen p None = refl
after_with seen p (Some ps) = ap Some (sym (append_assoc seen (p ∷ []) ps))

pub agree_append : (q : Part) (xs ys : List Part) → agree q (xs ++ ys) ≡ (agree q xs && agree q ys)
unfolding agree
agree_append q [] ys = refl
agree_append q (x ∷ xs) ys =
    go (beq q.provider x.provider && (same q.mark.ident x.mark.ident && eqb q.mark.count x.mark.count)) (agree_append q xs ys)
  where
    go : (t : Bool) → agree q (xs ++ ys) ≡ (agree q xs && agree q ys) → (t && agree q (xs ++ ys)) ≡ ((t && agree q xs) && agree q ys)
    go true i = i
    go false i = refl

agreed_after : (d : Bool) (i : List ℕ) (n : ℕ) (seen : List Part) (o : Option (List Part)) → agree (like d i n) seen ≡ true
    → agreed d i n (after seen o) ≡ agreed d i n o
agreed_after d i n seen None e = refl
agreed_after d i n seen (Some ps) e = agree_append (like d i n) seen ps ∙ rw e

not_agreed : (d : Bool) (i : List ℕ) (n : ℕ) (o : Option (List Part)) → agreed d i n o ≡ false → is_set d i n o ≡ false
not_agreed d i n None e = refl
not_agreed d i n (Some ps) e = rw e

-- more than n parts are no set
too_many : (d : Bool) (i : List ℕ) (n : ℕ) (seen : List Part) (o : Option (List Part)) → n < length seen → is_set d i n (after seen o) ≡ false
too_many d i n seen None h = refl
too_many d i n seen (Some ps) h =
    let z : length (seen ++ ps) ≡ n → ⊥ = λ e. omega (arith, length-append seen ps) in
    ap (λ (b : Bool). agree (like d i n) (seen ++ ps) && b) (ne_eqb (length (seen ++ ps)) n z) ∙ and-false (agree (like d i n) (seen ++ ps))

pub agree_self : (d : Bool) (i : List ℕ) (n k : ℕ) (rs : List (List ℕ)) (ps : List Part)
    → agree (like d i n) (part_by d i n k rs ∷ ps) ≡ agree (like d i n) ps
unfolding agree
agree_self d i n k rs ps = rw (go d, same_refl i, eq-eqb n n refl)
  where
    go : (d : Bool) → beq d d ≡ true
    go true = refl
    go false = refl

-- ---- the tables

ks_more : (seen : List Part) (p : Part) → ks_of (seen ++ p ∷ []) ≡ ks_of seen ++ (p.mark.place ∷ [])
ks_more [] p = refl
ks_more (q ∷ seen) p = ap (λ (l : List ℕ). q.mark.place ∷ l) (ks_more seen p)

ks_length : (ps : List Part) → length (ks_of ps) ≡ length ps
ks_length [] = refl
ks_length (p ∷ ps) = ap suc (ks_length ps)

-- one of the pieces before, or the new one
abbrev Either : List Part → Part → ℕ → Part → Type 0
Either seen p i q = ((piece_after i seen ≡ Some q) × (i < length seen)) ⊎ ((i ≡ length seen) × (p ≡ q))

after_more : (seen : List Part) (p : Part) (i : ℕ) (q : Part) → piece_after i (seen ++ p ∷ []) ≡ Some q → Either seen p i q
after_more [] p zero q e = inr (refl, cc)
after_more [] p (suc i) q e = let z : ◌≡◌ {A = ℕ} 0 1 = cc in absurd (omega arith)
after_more (x ∷ seen) p zero q e = inl (e, omega arith)
after_more (x ∷ seen) p (suc i) q e = go (after_more seen p i q e)
  where
    go : Either seen p i q → Either (x ∷ seen) p (suc i) q
    go (inl (f, h)) = inl (f, omega arith)
    go (inr (f, h)) = inr (ap suc f, h)

none_after : (i : ℕ) (p : Part) → piece_after i [] ≡ Some p → ⊥
none_after i p e = cc

module _ {N : ℕ} {t t' : Members N} {m : Member} (h : t.count < N) (st : Stored t t' m) where
  rows_here : rows_at t' t.count ≡ m.rows
  rows_here =
      let z : t.count < length t.rows = omega (arith, t.rows_room) in
      ap (λ (l : List Span). get_or l t.count (record { from = 0; to = 0 })) st.rows ∙ get_or-set_same t.rows t.count m.rows (record { from = 0; to = 0 }) z

  rows_before : (i : ℕ) → (i ≡ t.count → ⊥) → rows_at t' i ≡ rows_at t i
  rows_before i z =
      ap (λ (l : List Span). get_or l i (record { from = 0; to = 0 })) st.rows ∙ get_or-set_other t.rows t.count i m.rows (record { from = 0; to = 0 }) z

  listed_more : {s : List ℕ} {seen : List Part} (p : Part) → p.mark.place ≡ m.mark.place → flat p.rows ≡ bytes_of s m.rows → Listed s t seen → Listed s t' (seen ++ p ∷ [])
  listed_more {s} {seen} p k w v = record { count = n ∙ sym st.count; numbers = here; bytes = λ i q x. go i q (after_more seen p i q x) }
    where
      n : length (seen ++ p ∷ []) ≡ t.count + 1
      n = omega (arith, length-append seen (p ∷ []), v.count)

      here : take t'.count t'.ks ≡ ks_of (seen ++ p ∷ [])
      here =
          let z : t'.count ≡ suc t.count = omega (arith, st.count) in
          let y : t.count < length t.ks = omega (arith, t.ks_room) in
          ap₂ (λ (j : ℕ) (l : List ℕ). take j l) z st.numbers
          ∙ (take-suc-set t.ks t.count m.mark.place y
          ∙ (ap₂ (λ (l : List ℕ) (j : ℕ). l ++ (j ∷ [])) v.numbers (sym k) ∙ sym (ks_more seen p)))

      go : (i : ℕ) (q : Part) → Either seen p i q → flat q.rows ≡ bytes_of s (rows_at t' i)
      go i q (inl (x, y)) =
          let z : i ≡ t.count → ⊥ = λ r. omega (arith, r, v.count, y) in v.bytes i q x ∙ ap (bytes_of s) (sym (rows_before i z))
      go i q (inr (x, y)) =
          let z : i ≡ t.count = x ∙ v.count in
          sym (ap (λ (r : Part). flat r.rows) y) ∙ (w ∙ ap (bytes_of s) (sym (ap (rows_at t') z ∙ rows_here)))

  bounds_more : {s : List ℕ} → m.rows.from ≤ m.rows.to → m.rows.to ≤ length s → Bounds s t → Bounds s t'
  bounds_more {s} g l v = record { low = λ i x. low i x (eqb i t.count) refl; high = λ i x. high i x (eqb i t.count) refl }
    where
      less : (i : ℕ) → i < t'.count → (i ≡ t.count → ⊥) → i < t.count
      less i x z = omega (arith, x, z, st.count)

      low : (i : ℕ) → i < t'.count → (b : Bool) → eqb i t.count ≡ b → (rows_at t' i).from ≤ (rows_at t' i).to
      low i x true q = let z : rows_at t' i ≡ m.rows = ap (rows_at t') (eqb-true i t.count q) ∙ rows_here in rw z g
      low i x false q = let z : i ≡ t.count → ⊥ = eqb-false i t.count q in rw (rows_before i z) (v.low i (less i x z))

      high : (i : ℕ) → i < t'.count → (b : Bool) → eqb i t.count ≡ b → (rows_at t' i).to ≤ length s
      high i x true q = let z : rows_at t' i ≡ m.rows = ap (rows_at t') (eqb-true i t.count q) ∙ rows_here in rw z l
      high i x false q = let z : i ≡ t.count → ⊥ = eqb-false i t.count q in rw (rows_before i z) (v.high i (less i x z))

-- none
module _ {N : ℕ} (s : List ℕ) {t : Members N} (e : t.count ≡ 0) where
  listed_none : Listed s t []
  listed_none = record { count = sym e; numbers = ap (λ (j : ℕ). take j t.ks) e; bytes = λ i p x. absurd (none_after i p x) }

  bounds_none : Bounds s t
  bounds_none = record { low = λ i h. absurd (omega (arith, h, e)); high = λ i h. absurd (omega (arith, h, e)) }

-- ---- the collecting loop

pub record Collecting {N : ℕ} (s : List ℕ) (x : Member) (t : Members N) (at : ℕ) : Type 0 where
  pub first : First s x
  pub room : x.mark.count ≤ N
  pub inside : at ≤ length s
  pub seen : List Part
  pub parts : all_parts (pieces_in (rows s)) ≡ after seen (all_parts (pieces_in (rows (drop at s))))
  pub agrees : agree (like x.provider (ident_at s x.rows.to) x.mark.count) seen ≡ true
  pub bounds : Bounds s t
  pub listed : Listed s t seen
  pub over : goes_on (rows (drop at s)) ≡ false
  pub whole : unbroken (rows s) ≡ unbroken (rows (drop at s))

pub collect_start : {N : ℕ} {s : List ℕ} {x : Member} {t t' : Members N} → First s x → t.count ≡ 0 → 1 ≤ x.mark.count → x.mark.count ≤ N → Stored t t' x → Collecting s x t' x.stop
unfolding agree
collect_start {N} {s} {x} {t} {t'} g e a b st = record {
  first = g;
  room = b;
  inside = g.high;
  seen = part_at s x g.lines ∷ [];
  parts = g.is ∙ (after_none (part_with (Some (part_at s x g.lines)) (all_parts (pieces_in (rows (drop x.stop s)))))
      ∙ after_with [] (part_at s x g.lines) (all_parts (pieces_in (rows (drop x.stop s)))));
  agrees = agree_self x.provider (ident_at s x.rows.to) x.mark.count x.mark.place g.lines [];
  bounds = bounds_more less st g.low (omega (arith, g.ident, g.high)) (bounds_none s e);
  listed = listed_more less st (part_at s x g.lines) refl g.bytes (listed_none s e);
  over = g.over;
  whole = g.whole;
}
  where
    less : t.count < N
    less = omega (arith, e)

module _ {N : ℕ} {s : List ℕ} {x : Member} {t : Members N} {at : ℕ} (v : Collecting s x t at) where
  pub collect_free : t.count < x.mark.count → t.count < N
  collect_free h = omega (arith, v.room)

  is_whole-set : t.count ≡ x.mark.count → all_parts (pieces_in (rows s)) ≡ Some v.seen → unbroken (rows s) ≡ true → Collected s x t
  is_whole-set e w u = record { seen = v.seen; parts = w; agrees = v.agrees; count = e; bounds = v.bounds; listed = v.listed; whole = u }

  lost : is_set x.provider (ident_at s x.rows.to) x.mark.count (all_parts (pieces_in (rows s))) ≡ false → CollectIs s x t (Err Set)
  lost e = record { means = record { number = refl; none = λ _. e } }

  -- no more pieces
  module _ {w : Option Opening} (f : NextIs s at (Ok w)) (q : w ≡ None) where
    ended : Ended s at
    ended = subst (λ (r : Option Opening). NextMeans s at (Ok r)) q f.means

    all_seen : all_parts (pieces_in (rows s)) ≡ Some v.seen
    unfolding all_parts
    all_seen = v.parts ∙ (ap (λ (p : List Piece). after v.seen (all_parts p)) ended.is ∙ ap Some (append-nil v.seen))

    pub collect_done : t.count ≡ x.mark.count → (u : ⊤) → CollectIs s x t (Ok u)
    collect_done e u = record { means = is_whole-set e all_seen (v.whole ∙ ended.whole) }

    pub collect_few : (t.count ≡ x.mark.count → ⊥) → CollectIs s x t (Err Set)
    collect_few e =
        let z : length v.seen ≡ x.mark.count → ⊥ = λ y. e (sym v.listed.count ∙ y) in
        lost (ap (is_set x.provider (ident_at s x.rows.to) x.mark.count) all_seen
        ∙ (ap (λ (b : Bool). agree (like x.provider (ident_at s x.rows.to) x.mark.count) v.seen && b) (ne_eqb (length v.seen) x.mark.count z)
        ∙ and-false (agree (like x.provider (ident_at s x.rows.to) x.mark.count) v.seen)))

  module _ {w : Option Opening} {o : Opening} (f : NextIs s at (Ok w)) (q : w ≡ Some o) where
    opening : Opened s at o.end o.provider
    opening = subst (λ (r : Option Opening). NextMeans s at (Ok r)) q f.means

    left_is : all_parts (pieces_in (rows (drop at s))) ≡ part_with (part_of o.provider (body_of (rows (drop o.end s)))) (all_parts (pieces_in (rows (drop o.end s))))
    unfolding all_parts
    left_is = ap all_parts opening.is

    pub collect_foreign : {r : Refusal} → MemberIs s o x (Err r) → CollectIs s x t (Err r)
    collect_foreign z = record {
      means = record {
        number = z.means.number;
        none = λ _. not_agreed x.provider (ident_at s x.rows.to) x.mark.count (all_parts (pieces_in (rows s))) (ap (agreed x.provider (ident_at s x.rows.to) x.mark.count) v.parts
            ∙ (agreed_after x.provider (ident_at s x.rows.to) x.mark.count v.seen (all_parts (pieces_in (rows (drop at s)))) v.agrees
            ∙ (ap (agreed x.provider (ident_at s x.rows.to) x.mark.count) left_is ∙ z.means.none (all_parts (pieces_in (rows (drop o.end s)))))));
      };
    }

    module _ {m : Member} (z : MemberIs s o x (Ok m)) where
      abbrev member : MemberAt s o x m
      member = z.means

      abbrev new : Part
      new = part_by x.provider (ident_at s x.rows.to) x.mark.count m.mark.place member.lines

      one_more : all_parts (pieces_in (rows s)) ≡ after (v.seen ++ new ∷ []) (all_parts (pieces_in (rows (drop m.stop s))))
      one_more = v.parts ∙ (ap (after v.seen) (left_is ∙ ap₂ part_with member.is (ap all_parts member.next))
          ∙ after_with v.seen new (all_parts (pieces_in (rows (drop m.stop s)))))

      longer : length (v.seen ++ new ∷ []) ≡ t.count + 1
      longer = omega (arith, v.listed.count, length-append v.seen (new ∷ []))

      pub collect-many : x.mark.count ≤ t.count → CollectIs s x t (Err Set)
      collect-many h = lost (ap (is_set x.provider (ident_at s x.rows.to) x.mark.count) one_more
          ∙ too_many x.provider (ident_at s x.rows.to) x.mark.count (v.seen ++ new ∷ []) (all_parts (pieces_in (rows (drop m.stop s)))) (omega (arith, longer)))

      pub collect-go : {t' : Members N} → t.count < x.mark.count → Stored t t' m → Collecting s x t' m.stop
      unfolding agree
      collect-go {t'} h st = record {
        first = v.first;
        room = v.room;
        inside = member.high;
        seen = v.seen ++ new ∷ [];
        parts = one_more;
        agrees = agree_append (like x.provider (ident_at s x.rows.to) x.mark.count) v.seen (new ∷ [])
            ∙ ap₂ ◌&&◌ v.agrees (agree_self x.provider (ident_at s x.rows.to) x.mark.count m.mark.place member.lines []);
        bounds = bounds_more (collect_free h) st (omega (arith, member.from, member.low)) (omega (arith, member.mid, member.high)) v.bounds;
        listed = listed_more (collect_free h) st new refl member.bytes v.listed;
        over = member.over;
        whole = v.whole ∙ (opening.whole ∙ member.whole);
      }

pub ruleset collect_laws = (collect_start, collect_done, collect_few, collect_foreign, collect-many, collect-go)

-- ---- a piece that is looked for

module _ (ks : List ℕ) {n N k c : ℕ} (v : 1 ≤ n) (f : n ≤ N) (r : length ks ≡ N) (x : CountIs k (take n ks) c) where
  first_n : length (take n ks) ≡ n
  first_n = length-take-le n ks (omega (arith, r))

  pub spot_low : 1 ≤ c
  spot_low = count_one x (omega (arith, first_n, v))

  below : c - 1 < n
  below = omega (arith, spot_low, count_most x, first_n)

  pub spot_room : c - 1 < N
  spot_room = omega (arith, below)

module _ {N k c : ℕ} (t : Members N) (v : 1 ≤ t.count) (x : CountIs k (take t.count t.ks) c) where
  abbrev inside : c - 1 < t.count
  inside = below t.ks v t.fits t.ks_room x

  module _ (ps : List Part) (q : length ps ≡ t.count) (l : take t.count t.ks ≡ ks_of ps) where
    among : CountIs k (ks_of ps) c
    among = subst (λ (z : List ℕ). CountIs k z c) l x

    k_there : get_or t.ks (c - 1) 0 ≡ get_or (ks_of ps) (c - 1) 0
    k_there = sym (get_or-take t.count t.ks (c - 1) 0 inside) ∙ ap (λ (z : List ℕ). get_or z (c - 1) 0) l

    many : 1 ≤ length (ks_of ps)
    many = omega (arith, ks_length ps, q, v)

  spot_nowhere : (get_or t.ks (c - 1) 0 ≡ k → ⊥) → SpotIs t k None
  spot_nowhere e = record { means = λ ps q l. piece_missing ps (among ps q l) (many ps q l) (λ y. e (k_there ps q l ∙ y)) }

  spot_rows : get_or t.ks (c - 1) 0 ≡ k → SpotIs t k (Some (rows_at t (c - 1)))
  spot_rows e = record {
    means = record {
      index = c - 1;
      inside = inside;
      rows = refl;
      found = λ ps q l. piece_found ps (among ps q l) (many ps q l) (sym (k_there ps q l) ∙ e);
    };
  }

  pub spot_is : SpotIs t k (then_some (eqb (get_or t.ks (c - 1) 0) k) (rows_at t (c - 1)))
  spot_is = go (eqb (get_or t.ks (c - 1) 0) k) refl
    where
      go : (b : Bool) → eqb (get_or t.ks (c - 1) 0) k ≡ b → SpotIs t k (then_some b (rows_at t (c - 1)))
      go true e = spot_rows (eqb-true (get_or t.ks (c - 1) 0) k e)
      go false e = spot_nowhere (eqb-false (get_or t.ks (c - 1) 0) k e)

pub ruleset spot_laws = (spot_low, spot_room, spot_is)
