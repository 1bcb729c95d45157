-- Row by row through the input: the rule of line ends, the first row, the first piece and the next. Assumes nothing.
use Prim.Native.Nat.{ℕ, ◌+◌, ◌-◌, ◌≤◌}
use mathlib.Core.Path.{◌≡◌, refl, sym, ap, ◌∙◌}
use mathlib.Core.Bool.{Bool, true, false, cond, not, ◌&&◌, false≢true}
use mathlib.Core.Logic.{◌⊎◌, inl, inr}
use mathlib.Core.List.{List, [], ◌∷◌, nil≢cons, head-eq_of_cons-eq, tail-eq_of_cons-eq}
use native.Mathlib.Omega.{arith}
use borrow.Author.Tests.{not-true, not-false}
use lib.ListN.{length, take, drop}
use Rattle.lists.proofs.Cuts.{drop_end}
use Rattle.lists.specs.Searching.{part}
use Rattle.characters.specs.Rows.{cons_row, rows, flat, end_mark}
use Rattle.characters.proofs.RowLaws.{flat_rows, first_row}
use Rattle.pieces.specs.declared.Row.{Row}
use Rattle.pieces.specs.declared.Row.TheVariants.{Head, EndHead, Body, End, Broken}
use Rattle.division.specs.Pieces.{RowKind, judged, broken_from, broken_line, body_of, opened, pieces_in}
use Rattle.pieces.specs.Answers.{RowAt, as_kind, KindIs}
use Rattle.division.proofs.Chunks.{end_is}
use Rattle.std.specs.Prelude.{Some, None, Ok, Err}
use Rattle.replies.specs.declared.refusal.Refusal.TheVariants.{Set}
use Rattle.join.specs.Spans.{is_whole, unbroken, is_head, sound, is_body, goes_on, NextIs, FirstIs, LineIs}

pub rows_over : (s : List ℕ) (at : ℕ) → length s ≤ at → rows (drop at s) ≡ []
rows_over s at h = ap rows (drop_end s at h)

-- ---- the rule of line ends

-- a 1Ah is the row, or stands in front of it
abbrev pub Closes : Row → Type 0
Closes k = ((d : Bool) × (k ≡ EndHead d)) ⊎ (k ≡ End)

pub record Walk (s : List ℕ) (begun : Bool) (n at : ℕ) : Type 0 where
  pub inside : at ≤ length s
  pub one : 1 ≤ n
  pub few : n ≤ at + 1
  pub small : length s ≤ 131072
  pub left : broken_line (rows s) ≡ broken_from begun n (rows (drop at s))

pub walk_empty : (s : List ℕ) → length s ≡ 0 → LineIs (broken_line (rows s)) (Some 1)
unfolding broken_line
walk_empty [] h = record { means = (refl, omega arith) }
walk_empty (a ∷ s) h = absurd (omega arith)

pub walk_start : (s : List ℕ) → length s ≤ 131072 → (length s ≡ 0 → ⊥) → Walk s false 1 0
unfolding broken_line
walk_start s b h = record { inside = omega arith; one = omega arith; few = omega arith; small = b; left = go (rows s) refl }
  where
    go : (rs : List (List ℕ)) → rows s ≡ rs → broken_line rs ≡ broken_from false 1 rs
    go [] q = absurd (h (ap length (sym (flat_rows s) ∙ ap flat q)))
    go (r ∷ rs) q = refl

module _ {s : List ℕ} {begun : Bool} {n at : ℕ} (v : Walk s begun n at) where
  pub walk_out : length s ≤ at → LineIs (broken_line (rows s)) None
  unfolding broken_from
  walk_out h = record { means = v.left ∙ rw (rows_over s at h) }

  module _ {e : ℕ} {k : Row} (x : RowAt s at e) (p : KindIs (take (e - at) (drop at s)) k) where
    abbrev turn : Row → ℕ
    turn j = judged begun n (λ b. broken_from b (n + 1) (rows (drop e s))) (as_kind j)

    step : broken_line (rows s) ≡ turn k
    unfolding broken_from
    step = v.left ∙ ap (broken_from begun n) x.cut ∙ ap (judged begun n (λ b. broken_from b (n + 1) (rows (drop e s)))) p.is

    go_on : {b : Bool} → broken_line (rows s) ≡ broken_from b (n + 1) (rows (drop e s)) → Walk s b (n + 1) e
    go_on q = record { inside = x.inside; one = omega arith; few = omega (arith, v.few, x.more); small = v.small; left = q }

    stop : broken_line (rows s) ≡ n → LineIs (broken_line (rows s)) (Some n)
    stop q = record { means = (sym q, omega (arith, q, v.one)) }

    pub walk_body : k ≡ Body → Walk s begun (n + 1) e
    walk_body q = go_on (step ∙ ap turn q)

    pub walk_head : {d : Bool} → k ≡ Head d → Walk s true (n + 1) e
    walk_head q = go_on (step ∙ ap turn q)

    pub walk_broken : k ≡ Broken → LineIs (broken_line (rows s)) (Some n)
    walk_broken q = stop (step ∙ ap turn q)

    ending : {b : Bool} → Closes k → begun ≡ b → broken_line (rows s) ≡ cond b (broken_from true (n + 1) (rows (drop e s))) n
    ending (inl (d, q)) w = step ∙ (ap turn q ∙ rw w)
    ending (inr q) w = step ∙ (ap turn q ∙ rw w)

    pub walk_early : Closes k → not begun ≡ true → LineIs (broken_line (rows s)) (Some n)
    walk_early q w = stop (ending q (not-true begun w))

    pub walk_end : Closes k → not begun ≡ false → Walk s begun (n + 1) e
    walk_end q w = let b : begun ≡ true = not-false begun w in go_on (ending q b ∙ rw b)

pub ruleset walk_laws = (walk_empty, walk_start, walk_out, walk_body, walk_head, walk_broken, walk_early, walk_end)

-- ---- a row of the same piece

pub goes_over : (s : List ℕ) (at : ℕ) → length s ≤ at → false ≡ goes_on (rows (drop at s))
goes_over s at h = sym (ap goes_on (rows_over s at h))

module _ (s : List ℕ) {at e : ℕ} {k : Row} (x : RowAt s at e) (p : KindIs (take (e - at) (drop at s)) k) where
  on : {y : Bool} → is_body (as_kind k) ≡ y → y ≡ goes_on (rows (drop at s))
  on q = sym (ap goes_on x.cut ∙ (ap is_body p.is ∙ q))

  pub goes_head : {d : Bool} → k ≡ Head d → false ≡ goes_on (rows (drop at s))
  goes_head q = on (ap (λ (j : Row). is_body (as_kind j)) q)

  pub goes_end_head : {d : Bool} → k ≡ EndHead d → false ≡ goes_on (rows (drop at s))
  goes_end_head q = on (ap (λ (j : Row). is_body (as_kind j)) q)

  pub goes_body : k ≡ Body → true ≡ goes_on (rows (drop at s))
  goes_body q = on (ap (λ (j : Row). is_body (as_kind j)) q)

  pub goes_end : k ≡ End → false ≡ goes_on (rows (drop at s))
  goes_end q = on (ap (λ (j : Row). is_body (as_kind j)) q)

  pub goes_broken : k ≡ Broken → false ≡ goes_on (rows (drop at s))
  goes_broken q = on (ap (λ (j : Row). is_body (as_kind j)) q)

-- ---- the next piece

-- a row that is a 1Ah alone is the last
end_last : (l : List ℕ) (rs : List (List ℕ)) → rows (0x1a ∷ l) ≡ end_mark ∷ rs → l ≡ []
end_last [] rs e = refl
end_last (a ∷ l) rs e =
    let f = first_row a l in
    let d : (0x1a ∷ f.byte ∷ f.more) ∷ f.others ≡ end_mark ∷ rs = sym (ap (cons_row 0x1a) f.cut) ∙ e in
    absurd (nil≢cons (sym (tail-eq_of_cons-eq (head-eq_of_cons-eq d))))

module _ (s : List ℕ) {at : ℕ} where
  pub next_over : length s ≤ at → NextIs s at (Ok None)
  unfolding pieces_in unbroken
  next_over h = record { means = record { is = rw (rows_over s at h); whole = rw (rows_over s at h) } }

  module _ {e : ℕ} {k : Row} (x : RowAt s at e) (p : KindIs (take (e - at) (drop at s)) k) where
    pieces_step : {j : Row} → k ≡ j → pieces_in (rows (drop at s)) ≡ opened (body_of (rows (drop e s))) (pieces_in (rows (drop e s))) (as_kind j)
    unfolding pieces_in
    pieces_step q = ap pieces_in x.cut ∙ ap (opened (body_of (rows (drop e s))) (pieces_in (rows (drop e s)))) (p.is ∙ ap as_kind q)

    pub unbroken_step : {j : Row} → k ≡ j → unbroken (rows (drop at s)) ≡ (is_whole (as_kind j) && unbroken (rows (drop e s)))
    unfolding unbroken
    unbroken_step q = ap unbroken x.cut ∙ ap (λ (i : RowKind). is_whole i && unbroken (rows (drop e s))) (p.is ∙ ap as_kind q)

    pub next_head : {d : Bool} → k ≡ Head d → NextIs s at (Ok (Some (record { end = e; provider = d })))
    next_head q = record { means = record { low = x.more; high = x.inside; is = pieces_step q; whole = unbroken_step q } }

    pub next_end_head : {d : Bool} → k ≡ EndHead d → NextIs s at (Ok (Some (record { end = e; provider = d })))
    next_end_head q = record { means = record { low = x.more; high = x.inside; is = pieces_step q; whole = unbroken_step q } }

    pub next_end : k ≡ End → NextIs s at (Ok None)
    unfolding pieces_in unbroken
    next_end q =
        let r : part s at e ≡ end_mark = end_is (part s at e) (p.is ∙ ap as_kind q) in
        let c : rows (drop at s) ≡ end_mark ∷ rows (drop e s) = x.cut ∙ ap (λ (y : List ℕ). y ∷ rows (drop e s)) r in
        let l : drop at s ≡ 0x1a ∷ drop e s = sym (flat_rows (drop at s)) ∙ (ap flat c ∙ ap (λ (y : List ℕ). 0x1a ∷ y) (flat_rows (drop e s))) in
        let z : rows (drop e s) ≡ [] = ap rows (end_last (drop e s) (rows (drop e s)) (ap rows (sym l) ∙ c)) in
        record { means = record { is = pieces_step q ∙ ap pieces_in z; whole = unbroken_step q ∙ ap unbroken z } }

    pub next_body : k ≡ Body → NextIs s at (Err Set)
    next_body q = record { means = record { number = refl; broken = λ o. absurd (false≢true (sym o ∙ sym (goes_body s x p q))) } }

    pub next_broken : k ≡ Broken → NextIs s at (Err Set)
    next_broken q = record { means = record { number = refl; broken = λ o. unbroken_step q } }

pub ruleset next_laws = (next_over, next_head, next_end_head, next_end, next_body, next_broken)

-- ---- the first piece

module _ (s : List ℕ) {e : ℕ} {k : Row} (x : RowAt s 0 e) (p : KindIs (take (e - 0) (drop 0 s)) k) where
  sound_step : {j : Row} → k ≡ j → sound (rows s) ≡ (is_head (as_kind j) && unbroken (rows (drop e s)))
  sound_step q = ap sound x.cut ∙ ap (λ (i : RowKind). is_head i && unbroken (rows (drop e s))) (p.is ∙ ap as_kind q)

  pub first_head : {d : Bool} → k ≡ Head d → FirstIs s (Ok (record { end = e; provider = d }))
  first_head q = record {
    means = record {
      opened = record { low = x.more; high = x.inside; is = pieces_step s x p q; whole = unbroken_step s x p q };
      over = sym (goes_head s x p q);
      sound = sound_step q;
    };
  }
