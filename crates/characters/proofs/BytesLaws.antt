-- The bytes that the characters of a script take: one list after another, and what their number tells of a whole list. Assumes nothing.
use Prim.Native.Nat.{ℕ, suc, ◌+◌, ◌≤◌}
use mathlib.Core.Path.{◌≡◌, refl, sym, ap, ◌∙◌}
use mathlib.Core.Bool.{Bool, true, false, cond, not, ◌&&◌, ◌||◌, beq, false≢true, and-true, and-false}
use mathlib.Core.List.{List, [], ◌∷◌, ◌++◌}
use native.Mathlib.Omega.{arith}
use native.Mathlib.Nat.{zero-add}
use borrow.Author.Tests.{ne_eqb, eq-eqb, eqb-true, eqb-false}
use lib.Dec.{eqb}
use lib.ListN.{length}
use Rattle.lists.proofs.Tests.{both}
use Rattle.characters.specs.declared.Char.{Char}
use Rattle.characters.specs.declared.Char.TheVariants.{One, Hiragana, Katakana, Either, Other, Bad}
use Rattle.characters.specs.Cells.{is_one, pair_script, is_char}
use Rattle.characters.specs.Text.{chars_are, all_chars}
use Rattle.characters.specs.Scanning.{is_pair, bytes_of}

-- one character of one byte, and what follows it
pub one_first : (p : Char → Bool) (a : ℕ) (l : List ℕ) → is_one a ≡ true → bytes_of p (a ∷ l) ≡ cond (p One) 1 0 + bytes_of p l
one_first p a [] h = rw (h, and-true) (omega arith)
one_first p a (b ∷ r) h = rw h refl

-- ---- one list after another

pub bytes_on : (p : Char → Bool) (x y : List ℕ) → all_chars x ≡ true → bytes_of p (x ++ y) ≡ bytes_of p x + bytes_of p y
bytes_on p [] y e = sym (zero-add (bytes_of p y))
bytes_on p (a ∷ []) y e = one_first p a y e ∙ ap (λ (n : ℕ). n + bytes_of p y) (sym (rw (e, and-true) refl))
bytes_on p (a ∷ b ∷ r) y e = go (is_one a) refl (is_pair a b) refl (bytes_on p (b ∷ r) y) (bytes_on p r y) e
  where
    go : (o : Bool) → is_one a ≡ o → (q : Bool) → is_pair a b ≡ q → (all_chars (b ∷ r) ≡ true → bytes_of p (b ∷ (r ++ y)) ≡ bytes_of p (b ∷ r) + bytes_of p y)
        → (all_chars r ≡ true → bytes_of p (r ++ y) ≡ bytes_of p r + bytes_of p y) → cond o (all_chars (b ∷ r)) (q && all_chars r) ≡ true
        → bytes_of p (a ∷ b ∷ (r ++ y)) ≡ bytes_of p (a ∷ b ∷ r) + bytes_of p y
    go true h q t f g e = rw h (omega (arith, f e))
    go false h true t f g e = rw h (omega (arith, g e))
    go false h false t f g e = absurd (false≢true e)

-- ---- what the number tells

one_most : (b : Bool) → cond b 1 0 ≤ 1
one_most true = omega arith
one_most false = omega arith

two_most : (b : Bool) → cond b 2 0 ≤ 2
two_most true = omega arith
two_most false = omega arith

pub bytes_most : (p : Char → Bool) (l : List ℕ) → bytes_of p l ≤ length l
bytes_most p [] = omega arith
bytes_most p (a ∷ []) = one_most (p One && is_one a)
bytes_most p (a ∷ b ∷ r) = go (is_one a) (bytes_most p (b ∷ r)) (bytes_most p r)
  where
    go : (o : Bool) → bytes_of p (b ∷ r) ≤ suc (length r) → bytes_of p r ≤ length r
        → cond o (cond (p One) 1 0 + bytes_of p (b ∷ r)) (cond (p (pair_script a b)) 2 0 + bytes_of p r) ≤ suc (suc (length r))
    go true f g = omega (arith, one_most (p One), f)
    go false f g = omega (arith, two_most (p (pair_script a b)), g)

-- a question that two others share out between them
pub record Shared (p q r : Char → Bool) : Type 0 where
  pub each : (c : Char) (k : ℕ) → cond (p c) k 0 ≡ cond (q c) k 0 + cond (r c) k 0

-- a test of all six answers
abbrev pub of_all : (Char → Bool) → Bool
of_all t = t One && (t Hiragana && (t Katakana && (t Either && (t Other && t Bad))))

every : (t : Char → Bool) → of_all t ≡ true → (c : Char) → t c ≡ true
every t e c =
    let a = both (t One) (t Hiragana && (t Katakana && (t Either && (t Other && t Bad)))) e in
    let b = both (t Hiragana) (t Katakana && (t Either && (t Other && t Bad))) a.1 in
    let d = both (t Katakana) (t Either && (t Other && t Bad)) b.1 in
    let f = both (t Either) (t Other && t Bad) d.1 in
    let g = both (t Other) (t Bad) f.1 in
    go a.0 b.0 d.0 f.0 g.0 g.1 c
  where
    go : t One ≡ true → t Hiragana ≡ true → t Katakana ≡ true → t Either ≡ true → t Other ≡ true → t Bad ≡ true → (c : Char) → t c ≡ true
    go o h k e x n One = o
    go o h k e x n Hiragana = h
    go o h k e x n Katakana = k
    go o h k e x n Either = e
    go o h k e x n Other = x
    go o h k e x n Bad = n

abbrev pub splits : (Char → Bool) → (Char → Bool) → (Char → Bool) → Char → Bool
splits p q r c = beq (p c) (q c || r c) && not (q c && r c)

-- one computed test of the six
pub shared_by : (p q r : Char → Bool) → of_all (splits p q r) ≡ true → Shared p q r
shared_by p q r e = record { each = λ c k. go (p c) (q c) (r c) k (every (splits p q r) e c) }
  where
    go : (x y z : Bool) (k : ℕ) → (beq x (y || z) && not (y && z)) ≡ true → cond x k 0 ≡ cond y k 0 + cond z k 0
    go true true true k e = absurd (false≢true e)
    go true true false k e = omega arith
    go true false true k e = omega arith
    go true false false k e = absurd (false≢true e)
    go false true true k e = absurd (false≢true e)
    go false true false k e = absurd (false≢true e)
    go false false true k e = absurd (false≢true e)
    go false false false k e = refl

pub bytes_shared : {p q r : Char → Bool} → Shared p q r → (l : List ℕ) → bytes_of p l ≡ bytes_of q l + bytes_of r l
bytes_shared s [] = refl
bytes_shared {p} {q} {r} s (a ∷ []) = go (is_one a)
  where
    go : (o : Bool) → cond (p One && o) 1 0 ≡ cond (q One && o) 1 0 + cond (r One && o) 1 0
    go true = simp and-true (s.each One 1)
    go false = simp and-false
bytes_shared {p} {q} {r} s (a ∷ b ∷ l) = go (is_one a) (bytes_shared s (b ∷ l)) (bytes_shared s l)
  where
    go : (o : Bool) → bytes_of p (b ∷ l) ≡ bytes_of q (b ∷ l) + bytes_of r (b ∷ l) → bytes_of p l ≡ bytes_of q l + bytes_of r l
        → cond o (cond (p One) 1 0 + bytes_of p (b ∷ l)) (cond (p (pair_script a b)) 2 0 + bytes_of p l)
        ≡ cond o (cond (q One) 1 0 + bytes_of q (b ∷ l)) (cond (q (pair_script a b)) 2 0 + bytes_of q l) + cond o (cond (r One) 1 0 + bytes_of r (b ∷ l)) (cond (r (pair_script a b)) 2 0 + bytes_of r l)
    go true f g = omega (arith, s.each One 1, f)
    go false f g = omega (arith, s.each (pair_script a b) 2, g)

-- the same added on both sides
level : (k x y z : ℕ) → z ≡ k + y → eqb x y ≡ eqb (k + x) z
level k x y z e = go (eqb x y) refl
  where
    go : (b : Bool) → eqb x y ≡ b → b ≡ eqb (k + x) z
    go true h = sym (eq-eqb (k + x) z (omega (arith, eqb-true x y h)))
    go false h = sym (ne_eqb (k + x) z (λ q. eqb-false x y h (omega arith)))

-- all characters pass a test exactly if those that pass it take all bytes
pub bytes_all : (p : Char → Bool) → p Bad ≡ false → (l : List ℕ) → all_chars l ≡ true → chars_are p l ≡ eqb (bytes_of p l) (length l)
bytes_all p n [] e = refl
bytes_all p n (a ∷ []) e = rw e (go (p One))
  where
    go : (x : Bool) → (x && true) ≡ eqb (cond (x && true) 1 0) 1
    go true = refl
    go false = refl
bytes_all p n (a ∷ b ∷ r) e = go (is_one a) refl (is_pair a b) refl (bytes_all p n (b ∷ r)) (bytes_all p n r) e
  where
    one : (x : Bool) → chars_are p (b ∷ r) ≡ eqb (bytes_of p (b ∷ r)) (length (b ∷ r)) → (x && chars_are p (b ∷ r)) ≡ eqb (cond x 1 0 + bytes_of p (b ∷ r)) (suc (length (b ∷ r)))
    one true f = f ∙ level 1 (bytes_of p (b ∷ r)) (length (b ∷ r)) (suc (length (b ∷ r))) (omega arith)
    one false f = sym (ne_eqb (0 + bytes_of p (b ∷ r)) (suc (length (b ∷ r))) (λ z. omega (arith, bytes_most p (b ∷ r))))

    two : (x : Bool) → chars_are p r ≡ eqb (bytes_of p r) (length r) → (x && chars_are p r) ≡ eqb (cond x 2 0 + bytes_of p r) (suc (suc (length r)))
    two true f = f ∙ level 2 (bytes_of p r) (length r) (suc (suc (length r))) (omega arith)
    two false f = sym (ne_eqb (0 + bytes_of p r) (suc (suc (length r))) (λ z. omega (arith, bytes_most p r)))

    go : (o : Bool) → is_one a ≡ o → (q : Bool) → is_pair a b ≡ q → (all_chars (b ∷ r) ≡ true → chars_are p (b ∷ r) ≡ eqb (bytes_of p (b ∷ r)) (length (b ∷ r)))
        → (all_chars r ≡ true → chars_are p r ≡ eqb (bytes_of p r) (length r)) → cond o (all_chars (b ∷ r)) (q && all_chars r) ≡ true
        → chars_are p (a ∷ b ∷ r) ≡ eqb (bytes_of p (a ∷ b ∷ r)) (suc (suc (length r)))
    go true h q t f g e = rw h (one (p One) (f e))
    go false h true t f g e = rw h (two (p (pair_script a b)) (g e))
    go false h false t f g e = absurd (false≢true e)

-- what passes a test that no Bad passes is characters
pub are_chars : (p : Char → Bool) → p Bad ≡ false → (l : List ℕ) → all_chars l ≡ false → chars_are p l ≡ false
are_chars p n [] e = absurd (false≢true (sym e))
are_chars p n (a ∷ []) e = rw e (and-false (p One))
are_chars p n (a ∷ b ∷ r) e = go (is_one a) refl (pair_script a b) refl (are_chars p n (b ∷ r)) (are_chars p n r) e
  where
    none : (x : Bool) {y : Bool} → y ≡ false → (x && y) ≡ false
    none x h = rw h (and-false x)

    go : (o : Bool) → is_one a ≡ o → (k : Char) → pair_script a b ≡ k → (all_chars (b ∷ r) ≡ false → chars_are p (b ∷ r) ≡ false) → (all_chars r ≡ false → chars_are p r ≡ false)
        → cond o (all_chars (b ∷ r)) (is_char k && all_chars r) ≡ false → chars_are p (a ∷ b ∷ r) ≡ false
    go true h k t f g e = rw h (none (p One) (f e))
    go false h One t f g e = rw (h, t) (none (p One) (g e))
    go false h Hiragana t f g e = rw (h, t) (none (p Hiragana) (g e))
    go false h Katakana t f g e = rw (h, t) (none (p Katakana) (g e))
    go false h Either t f g e = rw (h, t) (none (p Either) (g e))
    go false h Other t f g e = rw (h, t) (none (p Other) (g e))
    go false h Bad t f g e = rw (h, t, n) refl
