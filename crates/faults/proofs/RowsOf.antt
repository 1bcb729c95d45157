-- Rows of bytes put one after the other: rows end with their 0Ah, so what follows has rows of its own. Assumes nothing.
use Prim.Native.Nat.{ℕ}
use mathlib.Core.Path.{◌≡◌, refl, sym, ap, ◌∙◌, subst}
use mathlib.Core.Bool.{Bool, true, false, cond, not, ◌&&◌, ◌||◌, and-false, false≢true}
use mathlib.Core.List.{List, [], ◌∷◌, ◌++◌, nil≢cons, head-eq_of_cons-eq, tail-eq_of_cons-eq, append_assoc}
use lib.Dec.{eqb}
use borrow.Author.Tests.{eqb-true}
use Rattle.lists.specs.Lists.{same, All}
use Rattle.lists.proofs.Tests.{neither, same_true}
use Rattle.characters.specs.Text.{is_stop, text}
use Rattle.characters.specs.Scanning.{clean}
use Rattle.characters.specs.Rows.{cons_row, rows, flat, line_end, is_line, end_mark}
use Rattle.characters.proofs.RowLaws.{First, first_row, flat_rows, text_clean}
use Rattle.faults.specs.Faults.{whole_lines}

pub rows_append : (p q : List ℕ) → whole_lines p ≡ true → rows (p ++ q) ≡ rows p ++ rows q
rows_append [] q e = refl
rows_append (a ∷ []) q e = rw e
rows_append (a ∷ b ∷ p) q e = go (eqb a 0x0a) (first_row b p) (rows_append (b ∷ p) q e)
  where
    go : (x : Bool) → First (b ∷ p) → rows (b ∷ p ++ q) ≡ rows (b ∷ p) ++ rows q
        → cond x ((a ∷ []) ∷ rows (b ∷ p ++ q)) (cons_row a (rows (b ∷ p ++ q))) ≡ cond x ((a ∷ []) ∷ rows (b ∷ p)) (cons_row a (rows (b ∷ p))) ++ rows q
    go true f i = ap (λ (l : List (List ℕ)). (a ∷ []) ∷ l) i
    go false f i = ap (cons_row a) (i ∙ ap (λ (l : List (List ℕ)). l ++ rows q) f.cut) ∙ sym (ap (λ (l : List (List ℕ)). cons_row a l ++ rows q) f.cut)

-- ---- a line is one row

line_whole : (t : List ℕ) → whole_lines (t ++ line_end) ≡ true
line_whole [] = refl
line_whole (a ∷ []) = refl
line_whole (a ∷ b ∷ t) = line_whole (b ∷ t)

line_rows : (t : List ℕ) → clean t ≡ true → rows (t ++ line_end) ≡ (t ++ line_end) ∷ []
line_rows [] e = refl
line_rows (a ∷ t) e = go (is_stop a) refl (line_rows t) e
  where
    go : (b : Bool) → is_stop a ≡ b → (clean t ≡ true → rows (t ++ line_end) ≡ (t ++ line_end) ∷ []) → (not b && clean t) ≡ true
        → rows (a ∷ t ++ line_end) ≡ (a ∷ t ++ line_end) ∷ []
    go true p i e = absurd (false≢true e)
    go false p i e =
        let n : eqb a 0x0a ≡ false = (neither (eqb a 0x0d) (eqb a 0x0a) (neither (eqb a 0x0d || eqb a 0x0a) (eqb a 0x1a) p).0).1 in
        rw (n, i e)

pub rows_line : (t q : List ℕ) → clean t ≡ true → rows (t ++ (line_end ++ q)) ≡ (t ++ line_end) ∷ rows q
rows_line t q e = ap rows (sym (append_assoc t line_end q)) ∙ rows_append (t ++ line_end) q (line_whole t)
    ∙ ap (λ (l : List (List ℕ)). l ++ rows q) (line_rows t e)

-- ---- a file by its first row

-- the first row is a line: its text, its line end and the bytes of the others
pub record FirstLine (l r : List ℕ) (rs : List (List ℕ)) : Type 0 where
  pub cut : l ≡ text r ++ (line_end ++ flat rs)
  pub behind : rows (flat rs) ≡ rs

pub first_line : (l r : List ℕ) (rs : List (List ℕ)) → rows l ≡ r ∷ rs → is_line r ≡ true → FirstLine l r rs
unfolding is_line
first_line l r rs e h =
    let f : r ≡ text r ++ line_end = same_true r (text r ++ line_end) h in
    let d : l ≡ text r ++ (line_end ++ flat rs) =
    sym (flat_rows l) ∙ ap flat e ∙ ap (λ (x : List ℕ). x ++ flat rs) f ∙ append_assoc (text r) line_end (flat rs) in
    record { cut = d; behind = tail-eq_of_cons-eq (sym (rows_line (text r) (flat rs) (text_clean r)) ∙ ap rows (sym d) ∙ e) }

-- a row that is 1Ah alone is the last
pub mark_last : (l : List ℕ) (rs : List (List ℕ)) → rows l ≡ end_mark ∷ rs → l ≡ end_mark
mark_last l rs e = by (flat rs) (sym (flat_rows l) ∙ ap flat e)
  where
    by : (m : List ℕ) → l ≡ 0x1a ∷ m → l ≡ end_mark
    by [] d = d
    by (a ∷ m) d =
        let f : First (a ∷ m) = first_row a m in
        let w : end_mark ∷ rs ≡ (0x1a ∷ f.byte ∷ f.more) ∷ f.others = sym e ∙ ap rows d ∙ ap (cons_row 0x1a) f.cut in
        absurd (nil≢cons (tail-eq_of_cons-eq (head-eq_of_cons-eq w)))

-- no row of whole lines is 1Ah alone
abbrev NoMark : List (List ℕ) → Type 0
NoMark rs = All (λ r. same r end_mark ≡ false) rs

feed_alone : (a : ℕ) → eqb a 0x0a ≡ true → same (a ∷ []) end_mark ≡ false
feed_alone a e = subst (λ (x : ℕ). same (x ∷ []) end_mark ≡ false) (sym (eqb-true a 0x0a e)) refl

longer : (a b : ℕ) (s : List ℕ) → same (a ∷ b ∷ s) end_mark ≡ false
longer a b s = and-false (eqb a 0x1a)

pub no_mark : (p : List ℕ) → whole_lines p ≡ true → NoMark (rows p)
no_mark [] e = tt
no_mark (a ∷ []) e = rw e (feed_alone a e, tt)
no_mark (a ∷ b ∷ p) e = go (eqb a 0x0a) refl (first_row b p) (no_mark (b ∷ p) e)
  where
    go : (x : Bool) → eqb a 0x0a ≡ x → First (b ∷ p) → NoMark (rows (b ∷ p)) → NoMark (cond x ((a ∷ []) ∷ rows (b ∷ p)) (cons_row a (rows (b ∷ p))))
    go true q f i = (feed_alone a q, i)
    go false q f i =
        subst (λ (rs : List (List ℕ)). NoMark (cons_row a rs)) (sym f.cut) (longer a f.byte f.more, (subst NoMark f.cut i).1)
