-- Facts that are computed: an equation between two Boolean expressions by all its cases (`taut`), and the same at each place of a list
-- (`at_each`). Assumes nothing.
use Prim.Native.Nat.{ℕ, zero, suc}
use mathlib.Core.Path.{◌≡◌, refl, subst}
use mathlib.Core.Logic.{◌⊎◌, inl, inr}
use mathlib.Core.Bool.{Bool, true, false, ◌&&◌, ◌||◌, false≢true}
use mathlib.Core.List.{List, [], ◌∷◌}
use lib.Dec.{eqb}
use borrow.Author.Tests.{eqb-true}
use Rattle.lists.specs.Lists.{member}
use Rattle.lists.proofs.Tests.{both}

-- ---- all cases of some Booleans

abbrev pub same : Bool → Bool → Bool
same true b = b
same false true = false
same false false = true

same_eq : (a b : Bool) → same a b ≡ true → a ≡ b
same_eq true true e = refl
same_eq true false e = absurd (false≢true e)
same_eq false true e = absurd (false≢true e)
same_eq false false e = refl

-- a Boolean expression in k Booleans
abbrev pub Fn : ℕ → Type 0
Fn zero = Bool
Fn (suc k) = Bool → Fn k

abbrev pub agree : (k : ℕ) → Fn k → Fn k → Bool
agree zero a b = same a b
agree (suc k) f g = agree k (f true) (g true) && agree k (f false) (g false)

abbrev pub Equal : (k : ℕ) → Fn k → Fn k → Type 0
Equal zero a b = a ≡ b
Equal (suc k) f g = (x : Bool) → Equal k (f x) (g x)

pub taut : (k : ℕ) (f g : Fn k) → agree k f g ≡ true → Equal k f g
taut zero a b e = same_eq a b e
taut (suc k) f g e = λ x. by x (both (agree k (f true) (g true)) (agree k (f false) (g false)) e) (taut k (f true) (g true)) (taut k (f false) (g false))
  where
    by : (x : Bool) → (agree k (f true) (g true) ≡ true) × (agree k (f false) (g false) ≡ true)
        → (agree k (f true) (g true) ≡ true → Equal k (f true) (g true))
        → (agree k (f false) (g false) ≡ true → Equal k (f false) (g false)) → Equal k (f x) (g x)
    by true h a b = a h.0
    by false h a b = b h.1

-- ---- the members of a list

-- p is one of these
pub data In (p : ℕ) : List ℕ → Type 0 where
  here : {xs : List ℕ} → In p (p ∷ xs)
  there : {x : ℕ} {xs : List ℕ} → In p xs → In p (x ∷ xs)

-- P holds of each
abbrev pub Each : (ℕ → Type 0) → List ℕ → Type 0
Each P [] = Unit {0}
Each P (x ∷ xs) = P x × Each P xs

pub each : {p : ℕ} {xs : List ℕ} (P : ℕ → Type 0) → Each P xs → In p xs → P p
each P t here = t.0
each P t (there m) = each P t.1 m

-- the test f passes at each
abbrev pub every : (ℕ → Bool) → List ℕ → Bool
every f [] = true
every f (x ∷ xs) = f x && every f xs

pub every_at : {p : ℕ} {xs : List ℕ} (f : ℕ → Bool) → every f xs ≡ true → In p xs → f p ≡ true
every_at {p} f h (here {xs = xs}) = (both (f p) (every f xs) h).0
every_at {p} f h (there {x = x} {xs = xs} m) = every_at f (both (f x) (every f xs) h).1 m

-- two expressions agree at each
pub at_each : {p : ℕ} {xs : List ℕ} (k : ℕ) (f g : ℕ → Fn k) → every (λ x. agree k (f x) (g x)) xs ≡ true → In p xs → Equal k (f p) (g p)
at_each {p} k f g e m = taut k (f p) (g p) (every_at (λ x. agree k (f x) (g x)) e m)

-- what passes the test of membership
pub member_in : (p : ℕ) (xs : List ℕ) → member xs p ≡ true → In p xs
member_in p [] h = absurd (false≢true h)
member_in p (x ∷ xs) h = by (eqb p x) refl h (member_in p xs)
  where
    by : (b : Bool) → eqb p x ≡ b → (b || member xs p) ≡ true → (member xs p ≡ true → In p xs) → In p (x ∷ xs)
    by true e h f = subst (λ y. In p (y ∷ xs)) (eqb-true p x e) here
    by false e h f = there (f h)

-- places of one list that are among others
pub among : {p : ℕ} {xs : List ℕ} (ys : List ℕ) → every (member ys) xs ≡ true → In p xs → In p ys
among {p} ys e m = member_in p ys (every_at (member ys) e m)

pub decide_in : (n : ℕ) (xs : List ℕ) → In n xs ⊎ Each (λ x. eqb n x ≡ false) xs
decide_in n [] = inr tt
decide_in n (x ∷ xs) = by (eqb n x) refl (decide_in n xs)
  where
    by : (b : Bool) → eqb n x ≡ b → In n xs ⊎ Each (λ x. eqb n x ≡ false) xs → In n (x ∷ xs) ⊎ Each (λ x. eqb n x ≡ false) (x ∷ xs)
    by true e s = inl (subst (λ y. In n (y ∷ xs)) (eqb-true n x e) here)
    by false e (inl m) = inl (there m)
    by false e (inr t) = inr (e, t)
