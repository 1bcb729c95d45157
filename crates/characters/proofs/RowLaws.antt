-- Rows are the file, a whole line is the first row, and what is no whole line is a row that is no line. Assumes nothing.
use Prim.Native.Nat.{ℕ, ◌+◌, ◌-◌, ◌≤◌, ◌<◌}
use mathlib.Core.Path.{◌≡◌, refl, sym, ap, ap₂, ◌∙◌}
use mathlib.Core.Bool.{Bool, true, false, cond, not, ◌&&◌, ◌||◌, false≢true}
use mathlib.Core.List.{List, [], ◌∷◌, ◌++◌, append_assoc, nil≢cons, head-eq_of_cons-eq, tail-eq_of_cons-eq}
use native.Mathlib.Omega.{arith}
use borrow.Author.Tests.{eqb-true}
use lib.Dec.{eqb}
use lib.ListN.{length, take, drop, get_or, length-append}
use lib.Seq.{drop-drop, get_or-append_seam, get_or-append-add}
use Rattle.lists.specs.Lists.{same}
use Rattle.lists.specs.Searching.{part}
use Rattle.lists.proofs.Tests.{neither, same_refl, same_true}
use Rattle.lists.proofs.Cuts.{two_on, take_up_to, up_to_split}
use Rattle.characters.specs.Text.{all_chars, is_stop, text}
use Rattle.characters.specs.Scanning.{clean, WholeLine, BrokenRow}
use Rattle.characters.specs.Rows.{cons_row, rows, flat, line_end, is_line, end_mark}

-- ---- rows are the file

cons_flat : (a : ℕ) (rs : List (List ℕ)) → flat (cons_row a rs) ≡ a ∷ flat rs
cons_flat a [] = refl
cons_flat a (r ∷ rs) = refl

pub flat_rows : (s : List ℕ) → flat (rows s) ≡ s
flat_rows [] = refl
flat_rows (a ∷ s) = go (eqb a 0x0a) (flat_rows s)
  where
    go : (b : Bool) → flat (rows s) ≡ s → flat (cond b ((a ∷ []) ∷ rows s) (cons_row a (rows s))) ≡ a ∷ s
    go true i = ap (λ (t : List ℕ). a ∷ t) i
    go false i = cons_flat a (rows s) ∙ ap (λ (t : List ℕ). a ∷ t) i

-- no row is empty, and bytes have a row
pub record First (l : List ℕ) : Type 0 where
  pub byte : ℕ
  pub more : List ℕ
  pub others : List (List ℕ)
  pub cut : rows l ≡ (byte ∷ more) ∷ others

pub first_row : (a : ℕ) (s : List ℕ) → First (a ∷ s)
first_row a s = go (eqb a 0x0a) refl (rows s) refl
  where
    go : (b : Bool) → eqb a 0x0a ≡ b → (rs : List (List ℕ)) → rows s ≡ rs → First (a ∷ s)
    go true p rs q = record { byte = a; more = []; others = rows s; cut = rw p }
    go false p [] q = record { byte = a; more = []; others = []; cut = rw (p, q) }
    go false p (r ∷ rs) q = record { byte = a; more = r; others = rs; cut = rw (p, q) }

-- a row that is 1Ah alone is the last
mark_alone : (l : List ℕ) (rs : List (List ℕ)) → rows l ≡ end_mark ∷ rs → l ≡ end_mark
mark_alone [] rs e = absurd (nil≢cons e)
mark_alone (a ∷ []) rs e = sym (flat_rows (a ∷ [])) ∙ go (eqb a 0x0a) e
  where
    go : (b : Bool) → cond b ((a ∷ []) ∷ []) ((a ∷ []) ∷ []) ≡ end_mark ∷ rs → flat (cond b ((a ∷ []) ∷ []) ((a ∷ []) ∷ [])) ≡ end_mark
    go true e = head-eq_of_cons-eq e
    go false e = head-eq_of_cons-eq e
mark_alone (a ∷ b ∷ s) rs e = go (eqb a 0x0a) refl (first_row b s) e
  where
    go : (x : Bool) → eqb a 0x0a ≡ x → First (b ∷ s) → rows (a ∷ b ∷ s) ≡ end_mark ∷ rs → a ∷ b ∷ s ≡ end_mark
    go true p f e =
        let h : a ∷ [] ≡ end_mark = head-eq_of_cons-eq (rw p at e) in
        let z : a ≡ 0x1a = head-eq_of_cons-eq h in
        absurd (omega (arith, eqb-true a 0x0a p))
    go false p f e =
        let d : (a ∷ f.byte ∷ f.more) ∷ f.others ≡ end_mark ∷ rs = sym (rw p (ap (cons_row a) f.cut)) ∙ e in
        absurd (nil≢cons (sym (tail-eq_of_cons-eq (head-eq_of_cons-eq d))))

-- ---- texts

-- a text is clean
pub text_clean : (l : List ℕ) → clean (text l) ≡ true
text_clean [] = refl
text_clean (a ∷ l) = go (is_stop a) refl (text_clean l)
  where
    go : (b : Bool) → is_stop a ≡ b → clean (text l) ≡ true → clean (cond b [] (a ∷ text l)) ≡ true
    go true e i = refl
    go false e i = rw e i

-- a clean list before a 0Dh is the text
pub text_of : (t u : List ℕ) → clean t ≡ true → text (t ++ 0x0d ∷ u) ≡ t
text_of [] u e = refl
text_of (a ∷ t) u e = go (is_stop a) refl (text_of t u) e
  where
    go : (b : Bool) → is_stop a ≡ b → (clean t ≡ true → text (t ++ 0x0d ∷ u) ≡ t) → (not b && clean t) ≡ true → text (a ∷ (t ++ 0x0d ∷ u)) ≡ a ∷ t
    go true p i e = absurd (false≢true e)
    go false p i e = rw p (ap (λ (x : List ℕ). a ∷ x) (i e))

-- ---- a whole line is the first row, and is a line

pub rows_line : (t r : List ℕ) → clean t ≡ true → rows (t ++ 0x0d ∷ 0x0a ∷ r) ≡ (t ++ line_end) ∷ rows r
rows_line [] r e = refl
rows_line (a ∷ t) r e = go (is_stop a) refl (rows_line t r) e
  where
    go : (b : Bool) → is_stop a ≡ b → (clean t ≡ true → rows (t ++ 0x0d ∷ 0x0a ∷ r) ≡ (t ++ line_end) ∷ rows r)
        → (not b && clean t) ≡ true → rows (a ∷ (t ++ 0x0d ∷ 0x0a ∷ r)) ≡ (a ∷ (t ++ line_end)) ∷ rows r
    go true p i e = absurd (false≢true e)
    go false p i e =
        let n : eqb a 0x0a ≡ false = (neither (eqb a 0x0d) (eqb a 0x0a) (neither (eqb a 0x0d || eqb a 0x0a) (eqb a 0x1a) p).0).1 in
        rw (n, i e)

-- what is known of a clean text with its line end
pub line_is : (t : List ℕ) → clean t ≡ true → is_line (t ++ line_end) ≡ true
unfolding is_line
line_is t e = ap (λ (x : List ℕ). same (t ++ line_end) (x ++ line_end)) (text_of t (0x0a ∷ []) e) ∙ same_refl (t ++ line_end)

pub line_text : (t : List ℕ) → clean t ≡ true → text (t ++ line_end) ≡ t
line_text t e = text_of t (0x0a ∷ []) e

pub line_no_mark : (t : List ℕ) → same (t ++ line_end) end_mark ≡ false
line_no_mark [] = refl
line_no_mark (a ∷ []) = go (eqb a 0x1a)
  where
    go : (b : Bool) → (b && false) ≡ false
    go true = refl
    go false = refl
line_no_mark (a ∷ b ∷ t) = go (eqb a 0x1a)
  where
    go : (b : Bool) → (b && false) ≡ false
    go true = refl
    go false = refl

-- the first row is a line exactly where 0Dh 0Ah follow the text
line_first : (l r : List ℕ) (rs : List (List ℕ)) → rows l ≡ r ∷ rs → is_line r ≡ true
    → (length (text l) + 2 ≤ length l) × (get_or l (length (text l)) 0 ≡ 0x0d) × (get_or l (length (text l) + 1) 0 ≡ 0x0a)
unfolding is_line
line_first l r rs e h =
    let t : List ℕ = text r in
    let u : List ℕ = 0x0d ∷ 0x0a ∷ flat rs in
    let d : l ≡ t ++ u = sym (flat_rows l) ∙ ap flat e ∙ ap (λ (x : List ℕ). x ++ flat rs) (same_true r (t ++ line_end) h) ∙ append_assoc t line_end (flat rs) in
    let x : text l ≡ t = ap text d ∙ text_of t (0x0a ∷ flat rs) (text_clean r) in
    let n : length (text l) ≡ length t = ap length x in (
      omega (arith, n, ap length d, length-append t u),
      ap₂ (λ (s : List ℕ) (k : ℕ). get_or s k 0) d n ∙ get_or-append_seam t 0x0d (0x0a ∷ flat rs) 0,
      ap₂ (λ (s : List ℕ) (k : ℕ). get_or s k 0) d (ap (λ (k : ℕ). k + 1) n) ∙ get_or-append-add t u 1 0,
    )

-- ---- a row at a position

-- no line and no 1Ah: the first row is broken
pub broken : (l : List ℕ) → 1 ≤ length l
    → (length (text l) + 2 ≤ length l → get_or l (length (text l)) 0 ≡ 0x0d → get_or l (length (text l) + 1) 0 ≡ 0x0a → ⊥)
    → (l ≡ end_mark → ⊥) → BrokenRow (rows l)
broken [] h f g = absurd (omega arith)
broken (a ∷ s) h f g =
    let r : First (a ∷ s) = first_row a s in
    rw r.cut (go (is_line (r.byte ∷ r.more)) refl (same (r.byte ∷ r.more) end_mark) refl r.cut)
  where
    go : {x : List ℕ} {rs : List (List ℕ)} (b : Bool) → is_line x ≡ b → (c : Bool) → same x end_mark ≡ c → rows (a ∷ s) ≡ x ∷ rs → (is_line x ≡ false) × (same x end_mark ≡ false)
    go {x} {rs} true p c q e = let w = line_first (a ∷ s) x rs e p in absurd (f w.0 w.1 w.2)
    go {x} {rs} false p true q e = absurd (g (mark_alone (a ∷ s) rs (e ∙ ap (λ (y : List ℕ). y ∷ rs) (same_true x end_mark q))))
    go false p false q e = (p, q)

-- the text ends at e, and 0Dh 0Ah follow: a whole line
module _ (s : List ℕ) (at : ℕ) {e : ℕ} {good : Bool} (ends : e ≡ at + length (text (drop at s))) (chars : good ≡ all_chars (text (drop at s))) where
  pub text_part : text (drop at s) ≡ part s at e
  text_part =
      let l : length (text (drop at s)) ≡ e - at = omega (arith, ends) in
      sym (take_up_to is_stop (drop at s)) ∙ ap (λ (j : ℕ). take j (drop at s)) l

  pub whole_at : e + 1 < length s → get_or s e 0 ≡ 0x0d → get_or s (e + 1) 0 ≡ 0x0a → WholeLine s at e good
  whole_at n a b =
      let m : at + length (text (drop at s)) ≡ e = omega (arith, ends) in
      let f : drop (length (text (drop at s))) (drop at s) ≡ 0x0d ∷ 0x0a ∷ drop (e + 2) s =
      drop-drop (length (text (drop at s))) at s ∙ ap (λ (j : ℕ). drop j s) m ∙ two_on s e 0 n ∙ ap₂ (λ (x y : ℕ). x ∷ y ∷ drop (e + 2) s) a b in
      let w : drop at s ≡ part s at e ++ 0x0d ∷ 0x0a ∷ drop (e + 2) s = sym (up_to_split is_stop (drop at s)) ∙ ap₂ ◌++◌ text_part f in
      let c : clean (part s at e) ≡ true = ap clean (sym text_part) ∙ text_clean (drop at s) in
      record {
        low = omega (arith, ends);
        high = omega arith;
        cut = ap rows w ∙ rows_line (part s at e) (drop (e + 2) s) c;
        clear = c;
        chars = chars ∙ ap all_chars text_part;
      }
