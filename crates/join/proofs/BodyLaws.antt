-- The rows of a piece as a run of bytes, with or without a record 911 at its end. Assumes nothing.
use Prim.Native.Nat.{ℕ, ◌+◌, ◌-◌, ◌≤◌}
use mathlib.Core.Path.{◌≡◌, refl, sym, ap, ap₂, ◌∙◌, subst}
use mathlib.Core.Bool.{Bool, true, false, cond, not, ◌&&◌, false≢true}
use mathlib.Core.List.{List, [], ◌∷◌, ◌++◌, append_assoc, append-nil}
use native.Mathlib.Omega.{arith}
use borrow.Author.Tests.{not-true}
use lib.ListN.{length, take, drop, length-append}
use lib.Seq.{take-take}
use Rattle.lists.specs.Lists.{same}
use Rattle.lists.specs.Searching.{part}
use Rattle.lists.proofs.Tests.{both, same_true}
use Rattle.lists.proofs.Cuts.{take_up_to}
use Rattle.characters.specs.Text.{is_stop, text}
use Rattle.characters.specs.Rows.{rows, flat, line_end, is_line, end_mark}
use Rattle.records.specs.Records.{is_mark}
use Rattle.notebook.specs.Canonical.{head_row}
use Rattle.lists.proofs.Parts.{part_length, part_none, part_join, part_part}
use Rattle.pieces.specs.declared.Row.{Row}
use Rattle.pieces.specs.declared.Row.TheVariants.{Head, EndHead, Body, End, Broken}
use Rattle.division.specs.Marks.{Mark, read_mark}
use Rattle.division.specs.Pieces.{RowKind, head, end_head, body, end, broken, kind_of, body_step, body_of, opened, pieces_in}
use Rattle.pieces.specs.Answers.{RowAt, as_kind, KindIs, as_mark, Most, Reaches, MarkIs}
use Rattle.std.specs.Prelude.{Some, None, Ok, Err, Option}
use Rattle.replies.specs.declared.refusal.Refusal.{Refusal}
use Rattle.replies.specs.declared.refusal.Refusal.TheVariants.{Set}
use Rattle.pieces.specs.declared.Mark.{Mark as Numbers}
use Rattle.division.specs.Join.{unmarked, Part, row_before, last_mark, part_of}
use Rattle.join.specs.declared.body.Lines.{Lines}
use Rattle.join.specs.Spans.{is_whole, unbroken, is_body, goes_on, LineAt, PlainLines, part_by, ident_at, MarkedLines, LastIs, MarkMeans, LinesAre}
use Rattle.join.proofs.WalkLaws.{goes_over, goes_head, goes_end_head, goes_end, goes_broken, unbroken_step}

-- ---- a row of kind body is a line; its text is all but two bytes

pub body_line : (r : List ℕ) → is_body (kind_of r) ≡ true → is_line r ≡ true
unfolding kind_of
body_line r e =
    go (same r (head_row true)) (same r (head_row false)) (is_line r) (same r end_mark) (same r (0x1a ∷ head_row true)) (same r (0x1a ∷ head_row false)) e
  where
    go : (a b c d x y : Bool)
        → is_body (cond a (head true) (cond b (head false) (cond c body (cond d end (cond x (end_head true) (cond y (end_head false) broken)))))) ≡ true → c ≡ true
    go true b c d x y e = absurd (false≢true e)
    go false true c d x y e = absurd (false≢true e)
    go false false true d x y e = refl
    go false false false true x y e = absurd (false≢true e)
    go false false false false true y e = absurd (false≢true e)
    go false false false false false true e = absurd (false≢true e)
    go false false false false false false e = absurd (false≢true e)

line_length : (r : List ℕ) → is_line r ≡ true → length r ≡ length (text r) + 2
unfolding is_line
line_length r e = ap length (same_true r (text r ++ line_end) e) ∙ length-append (text r) line_end

module _ {s : List ℕ} {at e : ℕ} (x : LineAt s at e) where
  two : length (text (part s at e)) + 2 ≡ e - at
  two = omega (arith, line_length (part s at e) x.line, part_length s at e (omega (arith, x.row.more)) x.row.inside)

  pub line_room : at + 2 ≤ e
  line_room = omega (arith, two, x.row.more)

  pub line_two : 2 ≤ e
  line_two = omega (arith, line_room)

  pub line_before : at ≤ e - 2
  line_before = omega (arith, line_room)

  pub line_high : e - 2 ≤ length s
  line_high = omega (arith, x.row.inside)

  pub line_text : text (part s at e) ≡ part s at (e - 2)
  line_text =
      let n : length (text (part s at e)) ≡ e - 2 - at = omega (arith, two) in
      sym (take_up_to is_stop (part s at e)) ∙ (ap (λ (j : ℕ). take j (part s at e)) n ∙ take-take (e - 2 - at) (e - at) (drop at s) (omega arith))

-- ---- the last record 911

last_none : (d : Bool) (rs : List (List ℕ)) → last_mark d rs None ≡ None
last_none d [] = refl
last_none d (r ∷ rs) = refl

body_on : (rs : List (List ℕ)) (d : Bool) (m : Option Mark) → goes_on rs ≡ true → last_mark d (body_of rs) m ≡ None
unfolding body_of
body_on [] d m e = absurd (false≢true e)
body_on (r ∷ rs) d m e = go (kind_of r) e
  where
    go : (k : RowKind) → is_body k ≡ true → last_mark d (body_step r (body_of rs) k) m ≡ None
    go (head x) e = absurd (false≢true e)
    go (end_head x) e = absurd (false≢true e)
    go body e = refl
    go end e = absurd (false≢true e)
    go broken e = absurd (false≢true e)

pub body_over : (rs : List (List ℕ)) → goes_on rs ≡ false → body_of rs ≡ []
unfolding body_of
body_over [] e = refl
body_over (r ∷ rs) e = go (kind_of r) e
  where
    go : (k : RowKind) → is_body k ≡ false → body_step r (body_of rs) k ≡ []
    go (head x) e = refl
    go (end_head x) e = refl
    go body e = absurd (false≢true (sym e))
    go end e = refl
    go broken e = refl

module _ {s : List ℕ} {at e : ℕ} (x : LineAt s at e) {m : Option Numbers} (p : MarkIs (take (e - 2 - at) (drop at s)) m) where
  read : {j : Option Numbers} → m ≡ j → read_mark (text (part s at e)) ≡ as_mark (part (part s at (e - 2)) 4 18) j
  read q = ap read_mark (line_text x) ∙ (p.is ∙ ap (as_mark (part (part s at (e - 2)) 4 18)) q)

  wrong : ((d : Bool) → last_mark d (body_of (rows (drop e s))) (read_mark (text (part s at e))) ≡ None) → LastIs s at e (Err Set)
  wrong f = record { means = record { number = refl; none = f } }

  pub last_unread : m ≡ None → LastIs s at e (Err Set)
  last_unread q = wrong (λ d. ap (last_mark d (body_of (rows (drop e s)))) (read q) ∙ last_none d (body_of (rows (drop e s))))

  module _ {y : Bool} (g : y ≡ goes_on (rows (drop e s))) where
    pub last_on : y ≡ true → LastIs s at e (Err Set)
    last_on t = wrong (λ d. body_on (rows (drop e s)) d (read_mark (text (part s at e))) (sym g ∙ t))

    pub last_read : {n : Numbers} → m ≡ Some n → y ≡ false → LastIs s at e (Ok n)
    last_read {n} q t =
        let c : (n.count ≤ 999) × (n.place ≤ 999) = subst Most q p.most in
        let h : 18 ≤ length (part s at (e - 2)) = subst (Reaches (part s at (e - 2))) q p.reaches in
        let l : length (part s at (e - 2)) ≡ e - 2 - at = part_length s at (e - 2) (line_before x) (line_high x) in
        let w : part (part s at (e - 2)) 4 18 ≡ ident_at s at = part_part s at (e - 2) 4 18 (omega arith) (omega (arith, line_room x)) in
        record {
          means = record {
            ident = omega (arith, line_room x);
            count = c.0;
            place = c.1;
            read = read q ∙ ap (λ (i : List ℕ). as_mark i (Some n)) w;
            last = sym g ∙ t;
          };
        }

pub ruleset last_laws = (line_two, line_before, line_high, last_unread, last_on, last_read)

-- ---- the rows before a position: lines of the piece, none of them a record 911

pub all_body : List (List ℕ) → Bool
all_body [] = true
all_body (r ∷ rs) = is_body (kind_of r) && all_body rs

body_front : (rs xs : List (List ℕ)) → all_body rs ≡ true → body_of (rs ++ xs) ≡ rs ++ body_of xs
unfolding all_body body_of
body_front [] xs e = refl
body_front (r ∷ rs) xs e =
    let p : (is_body (kind_of r) ≡ true) × (all_body rs ≡ true) = both (is_body (kind_of r)) (all_body rs) e in
    go (kind_of r) p.0 (body_front rs xs p.1)
  where
    go : (k : RowKind) → is_body k ≡ true → body_of (rs ++ xs) ≡ rs ++ body_of xs → body_step r (body_of (rs ++ xs)) k ≡ r ∷ (rs ++ body_of xs)
    go (head x) e i = absurd (false≢true e)
    go (end_head x) e i = absurd (false≢true e)
    go body e i = ap (λ (t : List (List ℕ)). r ∷ t) i
    go end e i = absurd (false≢true e)
    go broken e i = absurd (false≢true e)

pieces_front : (rs xs : List (List ℕ)) → all_body rs ≡ true → pieces_in (rs ++ xs) ≡ pieces_in xs
unfolding all_body pieces_in
pieces_front [] xs e = refl
pieces_front (r ∷ rs) xs e =
    let p : (is_body (kind_of r) ≡ true) × (all_body rs ≡ true) = both (is_body (kind_of r)) (all_body rs) e in
    go (kind_of r) p.0 (pieces_front rs xs p.1)
  where
    go : (k : RowKind) → is_body k ≡ true → pieces_in (rs ++ xs) ≡ pieces_in xs → opened (body_of (rs ++ xs)) (pieces_in (rs ++ xs)) k ≡ pieces_in xs
    go (head x) e i = absurd (false≢true e)
    go (end_head x) e i = absurd (false≢true e)
    go body e i = i
    go end e i = absurd (false≢true e)
    go broken e i = absurd (false≢true e)

unbroken_front : (rs xs : List (List ℕ)) → all_body rs ≡ true → unbroken (rs ++ xs) ≡ unbroken xs
unfolding all_body unbroken
unbroken_front [] xs e = refl
unbroken_front (r ∷ rs) xs e =
    let p : (is_body (kind_of r) ≡ true) × (all_body rs ≡ true) = both (is_body (kind_of r)) (all_body rs) e in
    go (kind_of r) p.0 (unbroken_front rs xs p.1)
  where
    go : (k : RowKind) → is_body k ≡ true → unbroken (rs ++ xs) ≡ unbroken xs → (is_whole k && unbroken (rs ++ xs)) ≡ unbroken xs
    go (head x) e i = absurd (false≢true e)
    go (end_head x) e i = absurd (false≢true e)
    go body e i = i
    go end e i = absurd (false≢true e)
    go broken e i = absurd (false≢true e)

body_snoc : (rs : List (List ℕ)) (r : List ℕ) → all_body rs ≡ true → is_body (kind_of r) ≡ true → all_body (rs ++ r ∷ []) ≡ true
unfolding all_body
body_snoc [] r e h = rw h
body_snoc (x ∷ rs) r e h =
    let p : (is_body (kind_of x) ≡ true) × (all_body rs ≡ true) = both (is_body (kind_of x)) (all_body rs) e in
    rw p.0 (body_snoc rs r p.1 h)

unmarked_front : (rs xs : List (List ℕ)) → unmarked rs ≡ true → unmarked (rs ++ xs) ≡ unmarked xs
unfolding unmarked
unmarked_front [] xs e = refl
unmarked_front (r ∷ rs) xs e =
    let p : (not (is_mark (text r)) ≡ true) × (unmarked rs ≡ true) = both (not (is_mark (text r))) (unmarked rs) e in
    rw p.0 (unmarked_front rs xs p.1)

pub flat_append : (a b : List (List ℕ)) → flat (a ++ b) ≡ flat a ++ flat b
flat_append [] b = refl
flat_append (r ∷ a) b = ap (λ (t : List ℕ). r ++ t) (flat_append a b) ∙ sym (append_assoc r (flat a) (flat b))

-- rows more at the front of a part
infront : List (List ℕ) → Option Part → Option Part
infront [] o = o
infront (r ∷ rs) o = row_before r (infront rs o)

part_front : (d : Bool) (rs xs : List (List ℕ)) → unmarked rs ≡ true → part_of d (rs ++ xs) ≡ infront rs (part_of d xs)
unfolding unmarked part_of infront
part_front d [] xs e = refl
part_front d (r ∷ rs) xs e =
    let p : (not (is_mark (text r)) ≡ true) × (unmarked rs ≡ true) = both (not (is_mark (text r))) (unmarked rs) e in
    rw (not-true (is_mark (text r)) p.0) (ap (row_before r) (part_front d rs xs p.1))

front_none : (rs : List (List ℕ)) → infront rs None ≡ None
unfolding infront
front_none [] = refl
front_none (r ∷ rs) = ap (row_before r) (front_none rs)

front_some : (rs xs : List (List ℕ)) (d : Bool) (m : Mark)
    → infront rs (Some (record { provider = d; mark = m; rows = xs })) ≡ Some (record { provider = d; mark = m; rows = rs ++ xs })
unfolding infront
front_some [] xs d m = refl
front_some (r ∷ rs) xs d m = ap (row_before r) (front_some rs xs d m)

pub record Before (s : List ℕ) (from at : ℕ) : Type 0 where
  pub low : from ≤ at
  pub high : at ≤ length s
  pub front : List (List ℕ)
  pub cut : rows (drop from s) ≡ front ++ rows (drop at s)
  pub bodies : all_body front ≡ true
  pub plain : unmarked front ≡ true
  pub bytes : flat front ≡ part s from at

pub lines_start : (s : List ℕ) (from : ℕ) → from ≤ length s → Before s from from
unfolding all_body unmarked
lines_start s from h = record { low = omega arith; high = h; front = []; cut = refl; bodies = refl; plain = refl; bytes = sym (part_none s from) }

module _ {s : List ℕ} {from at : ℕ} (v : Before s from at) where
  whole_body : body_of (rows (drop from s)) ≡ v.front ++ body_of (rows (drop at s))
  whole_body = ap body_of v.cut ∙ body_front v.front (rows (drop at s)) v.bodies

  whole_pieces : pieces_in (rows (drop from s)) ≡ pieces_in (rows (drop at s))
  whole_pieces = ap pieces_in v.cut ∙ pieces_front v.front (rows (drop at s)) v.bodies

  whole_unbroken : unbroken (rows (drop from s)) ≡ unbroken (rows (drop at s))
  whole_unbroken = ap unbroken v.cut ∙ unbroken_front v.front (rows (drop at s)) v.bodies

  -- nothing of the piece is left
  over : goes_on (rows (drop at s)) ≡ false → LinesAre s from (Ok (record { end = at; stop = at; mark = None }))
  unfolding part_of
  over e =
      let b : body_of (rows (drop from s)) ≡ v.front ++ [] = whole_body ∙ ap (λ (t : List (List ℕ)). v.front ++ t) (body_over (rows (drop at s)) e) in
      let f : body_of (rows (drop from s)) ≡ v.front = b ∙ append-nil v.front in
      record {
        mean = record {
          all = refl;
          low = v.low;
          high = v.high;
          plain = ap unmarked f ∙ v.plain;
          none = λ d. ap (part_of d) b ∙ (part_front d v.front [] v.plain ∙ front_none v.front);
          bytes = ap flat f ∙ v.bytes;
          next = whole_pieces;
          over = e;
          whole = whole_unbroken;
        };
      }

  pub lines_out : length s ≤ at → LinesAre s from (Ok (record { end = at; stop = at; mark = None }))
  lines_out h = over (sym (goes_over s at h))

  module _ {e : ℕ} {k : Row} (x : RowAt s at e) (p : KindIs (take (e - at) (drop at s)) k) where
    pub lines_other : (k ≡ Body → ⊥) → LinesAre s from (Ok (record { end = at; stop = at; mark = None }))
    lines_other f = over (go k refl)
      where
        go : (j : Row) → k ≡ j → goes_on (rows (drop at s)) ≡ false
        go (Head d) q = sym (goes_head s x p q)
        go (EndHead d) q = sym (goes_end_head s x p q)
        go Body q = absurd (f q)
        go End q = sym (goes_end s x p q)
        go Broken q = sym (goes_broken s x p q)

    module _ (q : k ≡ Body) where
      is_body_lem : is_body (kind_of (part s at e)) ≡ true
      is_body_lem = ap is_body (p.is ∙ ap as_kind q)

      pub lines_line : LineAt s at e
      lines_line = record { row = x; line = body_line (part s at e) is_body_lem }

      pub lines_two : 2 ≤ e
      lines_two = line_two lines_line

      pub lines_before : at ≤ e - 2
      lines_before = line_before lines_line

      pub lines_high : e - 2 ≤ length s
      lines_high = line_high lines_line

      module _ {y : Bool} (z : y ≡ is_mark (take (e - 2 - at) (drop at s))) where
        mark_of : is_mark (text (part s at e)) ≡ y
        mark_of = ap is_mark (line_text lines_line) ∙ sym z

        pub lines_go : y ≡ false → Before s from e
        unfolding unmarked
        lines_go t =
            let r : List ℕ = part s at e in
            record {
              low = omega (arith, v.low, x.more);
              high = x.inside;
              front = v.front ++ r ∷ [];
              cut = v.cut ∙ (ap (λ (w : List (List ℕ)). v.front ++ w) x.cut ∙ sym (append_assoc v.front (r ∷ []) (rows (drop e s))));
              bodies = body_snoc v.front r v.bodies is_body_lem;
              plain = unmarked_front v.front (r ∷ []) v.plain ∙ rw (mark_of ∙ t);
              bytes = flat_append v.front (r ∷ []) ∙ (ap₂ ◌++◌ v.bytes (append-nil r) ∙ part_join s from at e v.low (omega (arith, x.more)));
            }

        module _ (t : y ≡ true) where
          marked-body : body_of (rows (drop from s)) ≡ v.front ++ part s at e ∷ body_of (rows (drop e s))
          unfolding body_of
          marked-body =
              whole_body ∙ ap (λ (w : List (List ℕ)). v.front ++ w) (ap body_of x.cut ∙ ap (body_step (part s at e) (body_of (rows (drop e s)))) (p.is ∙ ap as_kind q))

          not_plain : unmarked (body_of (rows (drop from s))) ≡ false
          unfolding unmarked
          not_plain = ap unmarked marked-body ∙ (unmarked_front v.front (part s at e ∷ body_of (rows (drop e s))) v.plain ∙ rw (mark_of ∙ t))

          by_last : (d : Bool)
              → part_of d (body_of (rows (drop from s))) ≡ infront v.front (last_mark d (body_of (rows (drop e s))) (read_mark (text (part s at e))))
          unfolding part_of
          by_last d = ap (part_of d) marked-body ∙ (part_front d v.front (part s at e ∷ body_of (rows (drop e s))) v.plain ∙ rw (mark_of ∙ t))

          next-pieces : pieces_in (rows (drop from s)) ≡ pieces_in (rows (drop e s))
          unfolding pieces_in
          next-pieces =
              whole_pieces ∙ (ap pieces_in x.cut ∙ ap (opened (body_of (rows (drop e s))) (pieces_in (rows (drop e s)))) (p.is ∙ ap as_kind q))

          pub lines_wrong : {r : Refusal} → LastIs s at e (Err r) → LinesAre s from (Err r)
          lines_wrong m = record {
            mean = record { number = m.means.number; marked = not_plain; none = λ d. by_last d ∙ (ap (infront v.front) (m.means.none d) ∙ front_none v.front) };
          }

          pub lines_marked : {m : Numbers} → LastIs s at e (Ok m) → LinesAre s from (Ok (record { end = at; stop = e; mark = Some m }))
          lines_marked {m} l = record {
            mean = record {
              low = v.low;
              ident = l.means.ident;
              high = x.inside;
              count = l.means.count;
              place = l.means.place;
              marked = not_plain;
              lines = v.front;
              is =
                  λ d. by_last d ∙ (ap₂ (λ (w : List (List ℕ)) (o : Option Mark). infront v.front (last_mark d w o)) (body_over (rows (drop e s)) l.means.last) l.means.read
                  ∙ (front_some v.front [] d (record { ident = ident_at s at; count = m.count; place = m.place })
                  ∙ ap (λ (w : List (List ℕ)). Some (part_by d (ident_at s at) m.count m.place w)) (append-nil v.front)));
              bytes = v.bytes;
              next = next-pieces;
              over = l.means.last;
              whole = whole_unbroken ∙ unbroken_step s x p q;
            };
          }

pub ruleset lines_laws =
    (lines_start, lines_out, lines_other, lines_line, lines_two, lines_before, lines_high, lines_go, lines_wrong, lines_marked)

-- ---- the rows that were read, with a record 911 or without

module _ {s : List ℕ} {from : ℕ} {l : Lines} (v : LinesAre s from (Ok l)) where
  pub with_mark : {n : Numbers} → l.mark ≡ Some n → MarkedLines s from l.end l.stop n.count n.place
  with_mark q = subst (MarkMeans s from l.end l.stop) q v.mean

  pub without_mark : l.mark ≡ None → PlainLines s from l.end l.stop
  without_mark q = subst (MarkMeans s from l.end l.stop) q v.mean
