-- Laws of Booleans, of tests of lists, and of faults in their order. Assumes nothing.
use Prim.Native.Nat.{ℕ, zero, suc, ◌≤◌, ◌<◌}
use mathlib.Core.Path.{◌≡◌, refl, sym, ap, ◌∙◌}
use mathlib.Core.Bool.{Bool, true, false, cond, not, ◌&&◌, ◌||◌, and-false, or-false, false≢true, true≢false}
use mathlib.Core.Logic.{◌⊎◌, inl, inr}
use mathlib.Core.List.{List, [], ◌∷◌, ◌++◌}
use native.Mathlib.Omega.{arith}
use borrow.Author.Tests.{le-leb, lt-leb, eqb-true, eqb-false, eq-eqb, ne_eqb}
use lib.Dec.{eqb}
use lib.ListN.{length}
use Rattle.std.specs.List.{list_all}
use Rattle.lists.specs.Lists.{within, empty, all, same, member, All, ◌or_else◌, unless}

-- ---- Booleans

pub cond_case : {A : Type 0} (P : A → Type 0) (b : Bool) (x y : A) → (b ≡ true → P x) → (b ≡ false → P y) → P (cond b x y)
cond_case P true x y f g = f refl
cond_case P false x y f g = g refl

pub both : (a b : Bool) → (a && b) ≡ true → (a ≡ true) × (b ≡ true)
both true b e = (refl, e)
both false b e = absurd (false≢true e)

pub and_same : (b : Bool) → (b && true) ≡ b
and_same true = refl
and_same false = refl

pub either : (a b : Bool) → (a || b) ≡ true → (a ≡ true) ⊎ (b ≡ true)
either true b e = inl refl
either false b e = inr e

pub neither : (a b : Bool) → (a || b) ≡ false → (a ≡ false) × (b ≡ false)
neither true b e = absurd (true≢false e)
neither false b e = (refl, e)

pub or_first : (a b : Bool) → a ≡ true → (a || b) ≡ true
or_first true b e = refl
or_first false b e = absurd (false≢true e)

pub or_second : (a b : Bool) → a ≡ false → (a || b) ≡ true → b ≡ true
or_second true b p e = absurd (true≢false p)
or_second false b p e = e

pub not_true' : (a : Bool) → not a ≡ true → a ≡ false
not_true' true e = absurd (false≢true e)
not_true' false e = refl

pub not_false' : (a : Bool) → not a ≡ false → a ≡ true
not_false' true e = refl
not_false' false e = absurd (true≢false e)

pub or_assoc : (a b c : Bool) → ((a || b) || c) ≡ (a || (b || c))
or_assoc true b c = refl
or_assoc false b c = refl

-- ---- one of a list

-- it is one of a longer list
pub member_more : (xs ys : List ℕ) (n : ℕ) → member xs n ≡ true → member (xs ++ ys) n ≡ true
member_more [] ys n h = absurd (false≢true h)
member_more (x ∷ xs) ys n h = go (eqb n x) h (member_more xs ys n)
  where
    go : (b : Bool) → (b || member xs n) ≡ true → (member xs n ≡ true → member (xs ++ ys) n ≡ true) → (b || member (xs ++ ys) n) ≡ true
    go true h f = refl
    go false h f = f h

-- the same from the left, as code joins tests by `|`: b holds, or n is one of the list
abbrev pub or_member : Bool → List ℕ → ℕ → Bool
or_member b [] n = b
or_member b (m ∷ ms) n = or_member (b || eqb n m) ms n

pub or_member_lem : (b : Bool) (ms : List ℕ) (n : ℕ) → or_member b ms n ≡ (b || member ms n)
or_member_lem b [] n = sym (or-false b)
or_member_lem b (m ∷ ms) n = or_member_lem (b || eqb n m) ms n ∙ or_assoc b (eqb n m) (member ms n)

pub member_left : (ms : List ℕ) (n : ℕ) → or_member false ms n ≡ member ms n
member_left ms n = or_member_lem false ms n

-- ---- ranges

pub within_in : (lo hi x : ℕ) → lo ≤ x → x ≤ hi → within lo hi x ≡ true
within_in lo hi x p q = simp (le-leb lo x p, le-leb x hi q)

pub within_below : (lo hi x : ℕ) → x < lo → within lo hi x ≡ false
within_below lo hi x p = simp (lt-leb lo x p)

pub within_above : (lo hi x : ℕ) → hi < x → within lo hi x ≡ false
within_above lo hi x p = simp (lt-leb x hi p, and-false)

-- ---- tests of lists

pub empty_is : (s : List ℕ) → empty s ≡ eqb (length s) 0
empty_is [] = refl
empty_is (b ∷ s) = sym (ne_eqb (suc (length s)) 0 (λ e. omega arith))

pub same_refl : (xs : List ℕ) → same xs xs ≡ true
same_refl [] = refl
same_refl (x ∷ xs) = rw (eq-eqb x x refl) (same_refl xs)

pub same_true : (xs ys : List ℕ) → same xs ys ≡ true → xs ≡ ys
same_true [] [] e = refl
same_true [] (y ∷ ys) e = absurd (false≢true e)
same_true (x ∷ xs) [] e = absurd (false≢true e)
same_true (x ∷ xs) (y ∷ ys) e =
    let p : (eqb x y ≡ true) × (same xs ys ≡ true) = both (eqb x y) (same xs ys) e in
    let q : x ≡ y = eqb-true x y p.0 in
    let r : xs ≡ ys = same_true xs ys p.1 in
    cc

pub all_append : (p : ℕ → Bool) (a b : List ℕ) → all p (a ++ b) ≡ (all p a && all p b)
all_append p [] b = refl
all_append p (x ∷ a) b = go (p x) (all_append p a b)
  where
    go : (y : Bool) → all p (a ++ b) ≡ (all p a && all p b) → (y && all p (a ++ b)) ≡ ((y && all p a) && all p b)
    go true i = i
    go false i = refl

-- it is the library's test, which a chain of iterators answers
pub all_pass : (p : ℕ → Bool) (s : List ℕ) → all p s ≡ list_all p s
all_pass p [] = refl
all_pass p (b ∷ s) = ap (λ (x : Bool). p b && x) (all_pass p s)

pub all_both : {A : Type 0} (P Q : A → Type 0) (xs : List A) → All P xs → All Q xs → All (λ x. P x × Q x) xs
all_both P Q [] h g = tt
all_both P Q (x ∷ xs) (h, t) (g, u) = ((h, g), all_both P Q xs t u)

-- ---- a fact for every number below n, from one computed test

-- the test holds of every number below n
unfoldable pub below : (ℕ → Bool) → ℕ → Bool
below p zero = true
below p (suc n) = p n && below p n

pub below_at : (p : ℕ → Bool) (n : ℕ) → below p n ≡ true → (m : ℕ) → m < n → p m ≡ true
unfolding below
below_at p zero e m h = absurd (omega arith)
below_at p (suc n) e m h =
    let q : (p n ≡ true) × (below p n ≡ true) = both (p n) (below p n) e in
    go q (below_at p n q.1) (eqb m n) refl
  where
    go : (p n ≡ true) × (below p n ≡ true) → ((m : ℕ) → m < n → p m ≡ true) → (b : Bool) → eqb m n ≡ b → p m ≡ true
    go q i true e = rw (eqb-true m n e) q.0
    go q i false e = let ne : m ≡ n → ⊥ = eqb-false m n e in i m (omega arith)

-- ---- faults in their order

pub or_zero_lem : (a b : ℕ) → a or_else b ≡ 0 → (a ≡ 0) × (b ≡ 0)
or_zero_lem zero b e = (refl, e)
or_zero_lem (suc a) b e = absurd (omega arith)

pub both_zero : (a b : ℕ) → a ≡ 0 → b ≡ 0 → a or_else b ≡ 0
both_zero zero b p q = q
both_zero (suc a) b p q = absurd (omega arith)

-- a fault hides what is after it
pub or_stops : (a c : ℕ) → (a ≡ 0 → ⊥) → a or_else c ≡ a
or_stops zero c n = absurd (n refl)
or_stops (suc a) c n = refl

pub unless_zero : (b : Bool) (n : ℕ) → unless b (suc n) ≡ 0 → b ≡ true
unless_zero true n e = refl
unless_zero false n e = absurd (omega arith)

pub zero_unless : (b : Bool) (n : ℕ) → b ≡ true → unless b n ≡ 0
zero_unless true n e = refl
zero_unless false n e = absurd (false≢true e)
