-- The ways through the joined file: line 1 and the rows in the buffer, one piece or a set, the input's refusals. Assumes nothing.
use Prim.Native.Nat.{ℕ, suc, ◌+◌, ◌-◌, ◌≤◌, ◌<◌}
use mathlib.Core.Path.{◌≡◌, refl, sym, ap, ◌∙◌, subst}
use mathlib.Core.Bool.{Bool, true, false, cond, ◌&&◌, beq}
use mathlib.Core.Logic.{inl, inr}
use mathlib.Core.List.{List, [], ◌∷◌, ◌++◌}
use native.Mathlib.Omega.{arith}
use borrow.Author.Tests.{eq-eqb, le-leb}
use lib.Dec.{leb, eqb}
use lib.ListN.{length, take, drop, length-append}
use Rattle.std.specs.Prelude.{Some, None, Result, Ok, Err, ⊤, Option}
use Rattle.lists.specs.Lists.{same, Res, ok}
use Rattle.lists.specs.Searching.{part}
use Rattle.characters.specs.Rows.{rows, flat}
use Rattle.notebook.specs.Canonical.{head_row}
use Rattle.notebook.proofs.Accepted.{head_length}
use Rattle.buffers.specs.Buffers.{Wrote}
use Rattle.buffers.proofs.Runs.{then, front}
use Rattle.replies.specs.declared.refusal.Refusal.{Refusal}
use Rattle.replies.specs.declared.refusal.Refusal.TheVariants.{Large, Set}
use Rattle.division.specs.Pieces.{Piece, body_of, pieces_in, file_of}
use Rattle.division.specs.Join.{unmarked, Part, part_of, part_with, all_parts, agree, gather, one_piece, join_parts, join_pieces, or_set}
use Rattle.join.specs.declared.rows.Opening.{Opening}
use Rattle.pieces.specs.declared.Mark.{Mark}
use Rattle.join.specs.declared.body.Lines.{Lines}
use Rattle.join.specs.declared.member.Span.{Span}
use Rattle.join.specs.declared.member.Member.{Member}
use Rattle.join.specs.declared.set.Members.{Members}
use Rattle.join.specs.Spans.{sound, Opened, Ended, NextMeans, NextIs, FirstIs, PlainLines, part_by, ident_at, MarkedLines, WrongLines, LinesAre, like, is_set, bytes_of, part_at, First, Collected, CollectIs, FillMeans, FillIs, FillRoom, MadeIs, with_head, SetIs, Given, GivenSet}
use Rattle.join.proofs.BodyLaws.{with_mark, without_mark}
use Rattle.join.proofs.SetLaws.{agree_self}

-- ---- a file in the buffer

module _ {D D₁ : List ℕ} {o : ℕ} (d : Bool) (w : Wrote D D₁ 0 o (head_row d)) (v : List ℕ) where
  wide : {D₂ : List ℕ} {x : Res (List ℕ)} → x ≡ ok (head_row d ++ v) → length D₂ ≡ length D₁ → length D₁ < o + length v → MadeIs true (length D) x D₂ (Err Large)
  wide q e h = record { means = inr (refl, refl, (head_row d ++ v, q, omega (arith, length-append (head_row d) v, w.next))); size = e ∙ w.size }

  filled : {D₂ : List ℕ} {x : Res (List ℕ)} {t : ℕ} → x ≡ ok (head_row d ++ v) → Wrote D₁ D₂ o t v → MadeIs true (length D) x D₂ (Ok t)
  filled {D₂} {x} {t} q u =
      let y : Wrote D D₂ 0 t (head_row d ++ v) = then w u in
      record { means = (refl, q ∙ ap ok (sym (front y (omega (arith, y.next, y.high)))), omega (arith, y.high, y.size)); size = y.size }

module _ {D D₁ s : List ℕ} {o : ℕ} {x : Span} (d : Bool) (g : Given D s x) (w : Wrote D D₁ 0 o (head_row d)) where
  pub one_done : {D₂ : List ℕ} {t : ℕ} → Wrote D₁ D₂ o t (take (x.to - x.from) (drop x.from s)) → MadeIs true (length D) (ok (head_row d ++ bytes_of s x)) D₂ (Ok t)
  one_done u = filled d w (bytes_of s x) refl u

pub ruleset one_laws = (one_done)

-- the file that the gathered rows make
joined : (d : Bool) (rs : List (List ℕ)) {w : Option (List (List ℕ))} → w ≡ Some rs → with_head d w ≡ ok (head_row d ++ flat rs)
unfolding file_of
joined d rs e = ap (with_head d) e

module _ {N : ℕ} {D D₁ s : List ℕ} {t : Members N} {o : ℕ} (d : Bool) (w : Wrote D D₁ 0 o (head_row d)) where
  pub found : {D₂ : List ℕ} {r : Result ℕ Refusal} → FillIs D₁ D₂ o s t r → SetIs (length D) d s t D₂ r
  found {D₂} {r} x = record { made = λ ps l. go (gather ps t.count 1) r (x.means ps l); size = x.size ∙ w.size }
    where
      go : (y : Option (List (List ℕ))) (r : Result ℕ Refusal) → FillMeans D₁ D₂ o y r → MadeIs true (length D) (with_head d y) D₂ r
      go y (Ok t) (rs, e, h) = filled d w (flat rs) (joined d rs e) h
      go y (Err r) (inl (q, e)) = record { means = inl (q, λ _. ap (with_head d) e); size = x.size ∙ w.size }
      go y (Err r) (inr (q, (rs, e, h))) =
          let m = wide d w (flat rs) (joined d rs e) x.size h in
          subst (λ (j : Refusal). MadeIs true (length D) (with_head d y) D₂ (Err j)) (sym q) m

  pub found_room : GivenSet D s t → FillRoom D₁ o s t
  found_room g = record {
    bounds = g.bounds;
    some = g.some;
    count = g.count;
    room = omega (arith, w.high, w.size);
    start = omega (arith, w.next, head_length d);
    small = g.small;
  }

pub ruleset found_laws = (found, found_room)

-- ---- a set like its first piece

-- a part is compared by its direction, ID and count alone
like_same : (p : Part) (ps : List Part) → agree p ps ≡ agree (like p.provider p.mark.ident p.mark.count) ps
unfolding agree
like_same p [] = refl
like_same p (q ∷ ps) =
    ap (λ (t : Bool). (beq p.provider q.provider && (same p.mark.ident q.mark.ident && eqb p.mark.count q.mark.count)) && t) (like_same p ps)

module _ (D : List ℕ) {s : List ℕ} {x : Member} (g : First s x) where
  abbrev first_of : Part
  first_of = part_at s x g.lines

  abbrev others : Option (List Part)
  others = all_parts (pieces_in (rows (drop x.stop s)))

  abbrev agrees : List Part → Bool
  agrees ps = agree (like x.provider (ident_at s x.rows.to) x.mark.count) ps

  abbrev test : List Part → Bool
  test ps = agrees ps && (leb 2 x.mark.count && eqb (suc (length ps)) x.mark.count)

  by_test : (o : Option (List Part)) (ps : List Part) → o ≡ Some ps → join_parts (part_with (Some first_of) o)
      ≡ cond (test ps) (one_piece x.provider (gather (first_of ∷ ps) x.mark.count 1)) None
  by_test o ps e =
      ap (λ (y : Option (List Part)). join_parts (part_with (Some first_of) y)) e
      ∙ ap (λ (t : Bool). cond (t && (leb 2 x.mark.count && eqb (suc (length ps)) x.mark.count)) (one_piece x.provider (gather (first_of ∷ ps) x.mark.count 1)) None)
      (like_same first_of ps)

  abbrev Set-made : List ℕ → Result ℕ Refusal → Type 0
  Set-made d r = MadeIs (sound (rows s)) (length D) (or_set (join_parts (all_parts (pieces_in (rows s))))) d r

  module _ {N : ℕ} {t : Members N} where
    -- no set: is_set says so of the same parts
    pub set_lost : {r : Refusal} → 1 < x.mark.count → CollectIs s x t (Err r) → Set-made D (Err r)
    set_lost more v = record {
      means = inl (
        v.means.number,
        λ w. ap (λ (o : Option (List Part)). or_set (join_parts o)) g.is
            ∙ ap or_set (go others (ap (is_set x.provider (ident_at s x.rows.to) x.mark.count) (sym g.is) ∙ v.means.none (sym g.sound ∙ w))),
      );
      size = refl;
    }
      where
        go : (o : Option (List Part)) → is_set x.provider (ident_at s x.rows.to) x.mark.count (part_with (Some first_of) o) ≡ false
            → join_parts (part_with (Some first_of) o) ≡ None
        go None e = refl
        go (Some ps) e =
            let h : (agrees ps && eqb (suc (length ps)) x.mark.count) ≡ false =
            ap (λ (b : Bool). b && eqb (suc (length ps)) x.mark.count) (sym (agree_self x.provider (ident_at s x.rows.to) x.mark.count x.mark.place g.lines ps)) ∙ e in
            let u : test ps ≡ false = rw (le-leb 2 x.mark.count more) h in
            by_test (Some ps) ps refl ∙ ap (λ (b : Bool). cond b (one_piece x.provider (gather (first_of ∷ ps) x.mark.count 1)) None) u

    module _ (more : 1 < x.mark.count) {u : ⊤} (v : CollectIs s x t (Ok u)) where
      abbrev collected : Collected s x t
      collected = v.means

      pub set_given : 13 ≤ length D → GivenSet D s t
      set_given l = record {
        line = l;
        small = g.small;
        bounds = collected.bounds;
        some = omega (arith, collected.count, more);
        count = omega (arith, collected.count, g.count);
      }

      joins : join_parts (all_parts (pieces_in (rows s))) ≡ one_piece x.provider (gather collected.seen t.count 1)
      joins = ap join_parts g.is ∙ (go others (sym g.is ∙ collected.parts) ∙ ap (λ (n : ℕ). one_piece x.provider (gather collected.seen n 1)) (sym collected.count))
        where
          go : (o : Option (List Part)) → part_with (Some first_of) o ≡ Some collected.seen
              → join_parts (part_with (Some first_of) o) ≡ one_piece x.provider (gather collected.seen x.mark.count 1)
          go None e = cc
          go (Some ps) e =
              let h : first_of ∷ ps ≡ collected.seen = cc in
              let y : agrees ps ≡ true =
              sym (agree_self x.provider (ident_at s x.rows.to) x.mark.count x.mark.place g.lines ps) ∙ (ap agrees h ∙ collected.agrees) in
              let c : eqb (suc (length ps)) x.mark.count ≡ true = eq-eqb (suc (length ps)) x.mark.count (ap length h ∙ (collected.listed.count ∙ collected.count)) in
              by_test (Some ps) ps refl ∙ (rw (y, le-leb 2 x.mark.count more, c) (ap (λ (z : List Part). one_piece x.provider (gather z x.mark.count 1)) h))

      pub set_done : {D₁ : List ℕ} {r : Result ℕ Refusal} → SetIs (length D) x.provider s t D₁ r → Set-made D₁ r
      set_done {D₁} {r} m =
          let b : true ≡ sound (rows s) = sym (g.sound ∙ collected.whole) in
          let z : MadeIs true (length D) (or_set (join_parts (all_parts (pieces_in (rows s))))) D₁ r =
          subst (λ (o : Option Piece). MadeIs true (length D) (or_set o) D₁ r) (sym joins) (m.made collected.seen collected.listed) in
          subst (λ (c : Bool). MadeIs c (length D) (or_set (join_parts (all_parts (pieces_in (rows s))))) D₁ r) b z

pub ruleset set_laws = (set_lost, set_given, set_done)

-- ---- one piece, or a set

several : (x : Piece) (xs : List Piece) → unmarked x.rows ≡ false → join_pieces (x ∷ xs) ≡ join_parts (all_parts (x ∷ xs))
unfolding join_pieces
several x [] e = rw e
several x (y ∷ xs) e = refl

module _ (D : List ℕ) {s : List ℕ} {o : Opening} (x : FirstIs s (Ok o)) where
  abbrev Pieces-made : List ℕ → Result ℕ Refusal → Type 0
  Pieces-made d r = MadeIs (sound (rows s)) (length D) (or_set (join_pieces (pieces_in (rows s)))) d r

  opening : Opened s 0 o.end o.provider
  opening = x.means.opened

  abbrev first-piece : Piece
  first-piece = record { provider = o.provider; rows = body_of (rows (drop o.end s)) }

  nineteen : join_pieces (pieces_in (rows s)) ≡ None → Pieces-made D (Err Set)
  nineteen e = record { means = inl (refl, λ _. ap or_set e); size = refl }

  by_parts : all_parts (pieces_in (rows s)) ≡ part_with (part_of o.provider (body_of (rows (drop o.end s)))) (all_parts (pieces_in (rows (drop o.end s))))
  unfolding all_parts
  by_parts = ap all_parts opening.is

  pub pieces_wrong : {r : Refusal} → LinesAre s o.end (Err r) → Pieces-made D (Err r)
  unfolding all_parts
  pieces_wrong {r} v =
      let w : WrongLines s o.end r = v.mean in
      let z : Pieces-made D (Err Set) =
      nineteen (ap join_pieces opening.is
      ∙ (several first-piece (pieces_in (rows (drop o.end s))) w.marked
      ∙ ap (λ (p : Option Part). join_parts (part_with p (all_parts (pieces_in (rows (drop o.end s)))))) (w.none o.provider))) in
      subst (λ (j : Refusal). Pieces-made D (Err j)) (sym w.number) z

  module _ {l : Lines} (v : LinesAre s o.end (Ok l)) where
    module _ {m : Mark} (q : l.mark ≡ Some m) where
      marked : MarkedLines s o.end l.end l.stop m.count m.place
      marked = with_mark v q

      pub pieces_first : length s ≤ 131072
          → First s (record { provider = o.provider; mark = m; rows = record { from = o.end; to = l.end }; stop = l.stop })
      pieces_first h = record {
        small = h;
        count = marked.count;
        number = marked.place;
        low = marked.low;
        ident = marked.ident;
        high = marked.high;
        lines = marked.lines;
        bytes = marked.bytes;
        is = by_parts ∙ (ap (λ (p : Option Part). part_with p (all_parts (pieces_in (rows (drop o.end s))))) (marked.is o.provider)
            ∙ ap (λ (ps : List Piece). part_with (Some (part_by o.provider (ident_at s l.end) m.count m.place marked.lines)) (all_parts ps)) marked.next);
        over = marked.over;
        sound = x.means.sound ∙ sym opening.whole;
        whole = opening.whole ∙ marked.whole;
      }

      pub pieces_set : {D₁ : List ℕ} {r : Result ℕ Refusal}
          → MadeIs (sound (rows s)) (length D) (or_set (join_parts (all_parts (pieces_in (rows s))))) D₁ r → Pieces-made D₁ r
      pieces_set {D₁} {r} y =
          let z : join_pieces (pieces_in (rows s)) ≡ join_parts (all_parts (pieces_in (rows s))) =
          ap join_pieces opening.is ∙ (several first-piece (pieces_in (rows (drop o.end s))) marked.marked
          ∙ ap (λ (ps : List Piece). join_parts (all_parts ps)) (sym opening.is)) in
          subst (λ (p : Option Piece). MadeIs (sound (rows s)) (length D) (or_set p) D₁ r) (sym z) y

    module _ (q : l.mark ≡ None) where
      plain : PlainLines s o.end l.end l.stop
      plain = without_mark v q

      module _ {w : Option Opening} (y : NextIs s l.stop (Ok w)) where
        pub pieces_more : {p : Opening} → w ≡ Some p → Pieces-made D (Err Set)
        unfolding join_pieces all_parts
        pieces_more {p} u =
            let z : Opened s l.stop p.end p.provider = subst (λ (r : Option Opening). NextMeans s l.stop (Ok r)) u y.means in
            let b : Piece = record { provider = p.provider; rows = body_of (rows (drop p.end s)) } in
            let xs : List Piece = pieces_in (rows (drop p.end s)) in
            let w : pieces_in (rows s) ≡ first-piece ∷ b ∷ xs = opening.is ∙ ap (λ (ps : List Piece). first-piece ∷ ps) (plain.next ∙ z.is) in
            nineteen (ap join_pieces w ∙ ap (λ (i : Option Part). join_parts (part_with i (all_parts (b ∷ xs)))) (plain.none o.provider))

        pub pieces_one : {D₁ : List ℕ} {r : Result ℕ Refusal} → w ≡ None
            → MadeIs true (length D) (ok (head_row o.provider ++ bytes_of s (record { from = o.end; to = l.end }))) D₁ r → Pieces-made D₁ r
        unfolding join_pieces file_of
        pieces_one {D₁} {r} u z =
            let i : Ended s l.stop = subst (λ (r : Option Opening). NextMeans s l.stop (Ok r)) u y.means in
            let w : pieces_in (rows s) ≡ first-piece ∷ [] = opening.is ∙ ap (λ (ps : List Piece). first-piece ∷ ps) (plain.next ∙ i.is) in
            let f : or_set (join_pieces (pieces_in (rows s))) ≡ ok (head_row o.provider ++ bytes_of s (record { from = o.end; to = l.end })) =
            ap (λ (ps : List Piece). or_set (join_pieces ps)) w
            ∙ rw plain.plain (ap (λ (b : List ℕ). ok (head_row o.provider ++ b)) (plain.bytes ∙ ap (λ (e : ℕ). part s o.end e) (sym plain.all))) in
            let b : true ≡ sound (rows s) = sym (x.means.sound ∙ (plain.whole ∙ i.whole)) in
            let m : MadeIs true (length D) (or_set (join_pieces (pieces_in (rows s)))) D₁ r = subst (λ (k : Res (List ℕ)). MadeIs true (length D) k D₁ r) (sym f) z in
            subst (λ (c : Bool). MadeIs c (length D) (or_set (join_pieces (pieces_in (rows s)))) D₁ r) b m

pub ruleset pieces_laws = (pieces_wrong, pieces_first, pieces_set, pieces_more, pieces_one)
