-- The row at a position, and the ways through the tests of a row's kind. Assumes nothing.
use Prim.Native.Nat.{ℕ, suc, ◌+◌, ◌-◌, ◌≤◌, ◌<◌}
use mathlib.Core.Path.{◌≡◌, refl, sym, ap, ap₂, ◌∙◌}
use mathlib.Core.Bool.{Bool, true, false, cond, ◌&&◌, false≢true}
use mathlib.Core.List.{List, [], ◌∷◌, ◌++◌}
use native.Mathlib.Omega.{arith}
use borrow.Author.Tests.{eq-eqb}
use lib.Dec.{eqb}
use lib.ListN.{length, take, drop, length-drop}
use lib.Seq.{drop-drop, take_all}
use Rattle.std.proofs.Common.{take-append-drop}
use Rattle.lists.specs.Lists.{bytes, same, up_to, is}
use Rattle.lists.specs.Searching.{find_from}
use Rattle.lists.proofs.Tests.{same_true}
use Rattle.lists.proofs.Cuts.{drop_end, rest_all, up_to_le, up_to_split}
use Rattle.lists.proofs.Loops.{find_high}
use Rattle.characters.specs.Text.{is_stop, text}
use Rattle.characters.specs.Rows.{cons_row, rows, line_end, is_line, end_mark}
use Rattle.records.specs.Records.{header}
use Rattle.notebook.specs.Canonical.{head_row}
use Rattle.std.specs.Prelude.{Option, Some, None}
use Rattle.heading.specs.Reading.{heading_of}
use Rattle.heading.proofs.Laws.{heading_is, heading_not}
use Rattle.pieces.specs.declared.Row.TheVariants.{Head, EndHead, Body, End, Broken}
use Rattle.division.specs.Pieces.{RowKind, head, end_head, end, broken, kind_of}
use Rattle.pieces.specs.Answers.{RowAt, KindIs}

-- ---- the first row, by where the first 0Ah stands

rows_feed : (l : List ℕ) → length (up_to (is 0x0a) l) < length l
    → rows l ≡ take (suc (length (up_to (is 0x0a) l))) l ∷ rows (drop (suc (length (up_to (is 0x0a) l))) l)
rows_feed [] h = absurd (omega arith)
rows_feed (a ∷ l) h = go (eqb a 0x0a) (rows_feed l) h
  where
    go : (b : Bool)
        → (length (up_to (is 0x0a) l) < length l → rows l ≡ take (suc (length (up_to (is 0x0a) l))) l ∷ rows (drop (suc (length (up_to (is 0x0a) l))) l))
        → length (cond b [] (a ∷ up_to (is 0x0a) l)) < suc (length l)
        → cond b ((a ∷ []) ∷ rows l) (cons_row a (rows l))
        ≡ take (suc (length (cond b [] (a ∷ up_to (is 0x0a) l)))) (a ∷ l) ∷ rows (drop (suc (length (cond b [] (a ∷ up_to (is 0x0a) l)))) (a ∷ l))
    go true i h = refl
    go false i h = ap (cons_row a) (i (omega arith))

rows_rest : (a : ℕ) (l : List ℕ) → length (a ∷ l) ≤ length (up_to (is 0x0a) (a ∷ l)) → rows (a ∷ l) ≡ (a ∷ l) ∷ []
rows_rest a [] h = go (eqb a 0x0a)
  where
    go : (b : Bool) → cond b ((a ∷ []) ∷ []) ((a ∷ []) ∷ []) ≡ (a ∷ []) ∷ []
    go true = refl
    go false = refl
rows_rest a (b ∷ l) h = go (eqb a 0x0a) (rows_rest b l) h
  where
    go : (x : Bool) → (length (b ∷ l) ≤ length (up_to (is 0x0a) (b ∷ l)) → rows (b ∷ l) ≡ (b ∷ l) ∷ [])
        → length (a ∷ b ∷ l) ≤ length (cond x [] (a ∷ up_to (is 0x0a) (b ∷ l)))
        → cond x ((a ∷ []) ∷ rows (b ∷ l)) (cons_row a (rows (b ∷ l))) ≡ (a ∷ b ∷ l) ∷ []
    go true i h = absurd (omega arith)
    go false i h = ap (cons_row a) (i (omega arith))

rest_is : (l : List ℕ) → 0 < length l → length l ≤ length (up_to (is 0x0a) l) → rows l ≡ l ∷ []
rest_is [] h g = absurd (omega arith)
rest_is (a ∷ l) h g = rows_rest a l g

module _ (s : List ℕ) {at i : ℕ} (h : at < length s) (p : i ≡ find_from 0x0a s at) where
  by_length : i ≡ at + length (up_to (is 0x0a) (drop at s))
  unfolding find_from
  by_length = p

  pub row_feed : i < length s → RowAt s at (i + 1)
  row_feed g =
      let n : ℕ = length (up_to (is 0x0a) (drop at s)) in
      let e : suc n ≡ i + 1 - at = omega (arith, by_length) in
      let f : at + suc n ≡ i + 1 = omega (arith, by_length) in
      let c : rows (drop at s) ≡ take (suc n) (drop at s) ∷ rows (drop (suc n) (drop at s)) = rows_feed (drop at s) (omega (arith, by_length, length-drop at s)) in
      let d : drop (suc n) (drop at s) ≡ drop (i + 1) s = drop-drop (suc n) at s ∙ ap (λ (j : ℕ). drop j s) f in
      record {
        more = omega (arith, by_length);
        inside = omega arith;
        cut = c ∙ ap₂ (λ (x y : List ℕ). x ∷ rows y) (ap (λ (j : ℕ). take j (drop at s)) e) d;
      }

  pub row_rest : length s ≤ i → RowAt s at i
  row_rest g =
      let z : i ≤ length s = omega (arith, p, find_high 0x0a s at (omega arith)) in
      let q : drop i s ≡ [] = drop_end s i g in
      let t : take (i - at) (drop at s) ≡ drop at s = take_all (i - at) (drop at s) (omega (arith, length-drop at s)) in
      record {
        more = omega arith;
        inside = z;
        cut = rest_is (drop at s) (omega (arith, length-drop at s)) (omega (arith, by_length, length-drop at s)) ∙ rw (t, q);
      }

-- ---- a line: its text, and 0Dh 0Ah

same_behind : (t x y : List ℕ) → same (t ++ x) (t ++ y) ≡ same x y
same_behind [] x y = refl
same_behind (a ∷ t) x y = rw (eq-eqb a a refl) (same_behind t x y)

module _ (r : List ℕ) {e : ℕ} (p : e ≡ 0 + length (text (drop 0 r))) where
  pub line_start : e ≤ length r
  line_start = omega (arith, p, up_to_le is_stop r)

  pub line_end_lem : {x : Bool} → x ≡ same (take (length r - e) (drop e r)) (0x0d ∷ 0x0a ∷ []) → x ≡ is_line r
  unfolding is_line
  line_end_lem q =
      let n : e ≡ length (text r) = omega (arith, p) in
      let d : text r ++ drop e r ≡ r = ap (λ (j : ℕ). text r ++ drop j r) n ∙ up_to_split is_stop r in
      let s : same r (text r ++ line_end) ≡ same (drop e r) line_end = ap (λ (z : List ℕ). same z (text r ++ line_end)) (sym d) ∙ same_behind (text r) (drop e r) line_end in
      q ∙ ap (λ (z : List ℕ). same z line_end) (rest_all e r) ∙ sym s

pub ruleset line_laws = (line_start, line_end_lem)

-- ---- kinds

-- a row that begins with a 1Ah, by what follows it
abbrev behind_mark : List ℕ → RowKind
behind_mark t = cond (same t (head_row true)) (end_head true) (cond (same t (head_row false)) (end_head false) broken)

mark_kind : (t : List ℕ) → kind_of (0x1a ∷ t) ≡ cond (same t []) end (behind_mark t)
unfolding kind_of is_line header bytes
mark_kind t = refl

module _ (r : List ℕ) {t : List ℕ} (p : (same (take 1 r) (0x1a ∷ []) ≡ true) × (t ≡ drop 1 r) × (length t + 1 ≡ length r)) where
  marked : r ≡ 0x1a ∷ t
  marked = sym (take-append-drop 1 r) ∙ rw (same_true (take 1 r) (0x1a ∷ []) p.0, sym p.1)

  after-mark : kind_of r ≡ cond (same t []) end (behind_mark t)
  after-mark = ap kind_of marked ∙ mark_kind t

  pub kind_end : length t < 1 → KindIs r End
  kind_end h = record { is = after-mark ∙ go t h }
    where
      go : (t : List ℕ) → length t < 1 → cond (same t []) end (behind_mark t) ≡ end
      go [] h = refl
      go (a ∷ t) h = absurd (omega arith)

  module _ {x : Option Bool} (h : x ≡ heading_of t) where
    pub kind_end_head : {d : Bool} → x ≡ Some d → KindIs r (EndHead d)
    unfolding header bytes
    kind_end_head {d} q = record { is = after-mark ∙ ap (λ (t : List ℕ). cond (same t []) end (behind_mark t)) (heading_is t h q) ∙ by d }
      where
        by : (d : Bool) → cond (same (head_row d) []) end (behind_mark (head_row d)) ≡ end_head d
        by true = refl
        by false = refl

    pub kind_no_end : 1 ≤ length t → x ≡ None → KindIs r Broken
    kind_no_end l q = record { is = after-mark ∙ rw (longer t l, heading_not t h q true, heading_not t h q false) }
      where
        longer : (t : List ℕ) → 1 ≤ length t → same t [] ≡ false
        longer [] l = absurd (omega arith)
        longer (a ∷ t) l = refl

head_kind : (d : Bool) → kind_of (head_row d) ≡ head d
unfolding kind_of header bytes
head_kind true = refl
head_kind false = refl

module _ (r : List ℕ) {x : Option Bool} (h : x ≡ heading_of r) where
  pub kind_head : {d : Bool} → x ≡ Some d → KindIs r (Head d)
  kind_head {d} q = record { is = ap kind_of (heading_is r h q) ∙ head_kind d }

  module _ (q : x ≡ None) {z : Bool} (w : z ≡ is_line r) where
    pub kind_body : z ≡ true → KindIs r Body
    unfolding kind_of
    kind_body v = record { is = rw (heading_not r h q true, heading_not r h q false, sym w ∙ v) }

    pub kind_broken : same (take 1 r) (0x1a ∷ []) ≡ false → z ≡ false → KindIs r Broken
    unfolding kind_of
    kind_broken p v = record { is = rw (heading_not r h q true, heading_not r h q false, sym w ∙ v) (go r p) }
      where
        go : (r : List ℕ) → same (take 1 r) (0x1a ∷ []) ≡ false
            → cond (same r end_mark) end (cond (same r (0x1a ∷ head_row true)) (end_head true) (cond (same r (0x1a ∷ head_row false)) (end_head false) broken)) ≡ broken
        go [] p = refl
        go (a ∷ r) p = by (eqb a 0x1a) p
          where
            by : (b : Bool) → (b && true) ≡ false
                → cond (b && same r []) end (cond (b && same r (head_row true)) (end_head true) (cond (b && same r (head_row false)) (end_head false) broken)) ≡ broken
            by true p = absurd (false≢true (sym p))
            by false p = refl

pub ruleset kind_laws = (kind_end, kind_end_head, kind_no_end, kind_head, kind_body, kind_broken)
