-- The searches for all pieces of a set look n(n + 1)/2 times. Assumes nothing.
use Prim.Native.Nat.{ℕ, zero, suc, ◌+◌, ◌*◌, ◌<◌}
use mathlib.Core.Path.{◌≡◌, refl, sym, ap, ◌∙◌}
use mathlib.Core.Bool.{cond}
use mathlib.Core.List.{List, [], ◌∷◌}
use native.Mathlib.Omega.{arith}
use borrow.Author.Tests.{eq-eqb, ne_eqb}
use lib.Dec.{eqb}
use lib.ListN.{length}
use Rattle.lists.specs.Lists.{All}
use Rattle.division.specs.Orders.{Insert, here, there, Perm, nil, cons}
use Rattle.division.proofs.Orders.{perm_length, perm_all}
use Rattle.search.specs.Places.{CountIs}
use Rattle.search.specs.Looks.{looks}
use Rattle.search.specs.Search.{one_to, in_all}
use Rattle.search.proofs.Looks.{count_looks}

-- ---- lists in which no k stands twice

abbrev Other : ℕ → ℕ → Type 0
Other k j = k ≡ j → ⊥

abbrev Distinct : List ℕ → Type 0
Distinct [] = Unit {0}
Distinct (k ∷ ks) = All (Other k) ks × Distinct ks

insert_distinct : {k : ℕ} {ks l : List ℕ} → Insert k ks l → All (Other k) ks → Distinct ks → Distinct l
insert_distinct here h d = (h, d)
insert_distinct {k} (there {x = x} i) (h, t) (g, d) = (insert_all i (λ e. h (sym e)) g, insert_distinct i t d)
  where
    insert_all : {xs l : List ℕ} → Insert k xs l → Other x k → All (Other x) xs → All (Other x) l
    insert_all here o a = (o, a)
    insert_all (there j) o (b, a) = (b, insert_all j o a)

perm_distinct : {xs l : List ℕ} → Perm xs l → Distinct xs → Distinct l
perm_distinct nil d = tt
perm_distinct (cons {a = k} {xs = xs} {ys = ys} i w) (h, d) = insert_distinct i (perm_all (Other k) w h) (perm_distinct w d)

above : (n m : ℕ) → n < m → All (Other m) (one_to n)
unfolding one_to
above zero m h = tt
above (suc n) m h = ((λ e. omega (arith, h, e)), above n m (omega arith))

one_distinct : (n : ℕ) → Distinct (one_to n)
unfolding one_to
one_distinct zero = tt
one_distinct (suc n) = (above n (suc n) (omega arith), one_distinct n)

one_length : (n : ℕ) → length (one_to n) ≡ n
unfolding one_to
one_length zero = refl
one_length (suc n) = ap suc (one_length n)

-- ---- the looks, in the order in which the pieces lie

insert_sum : (f : ℕ → ℕ) {k : ℕ} {ks l : List ℕ} → Insert k ks l → in_all f l ≡ f k + in_all f ks
insert_sum f here = refl
insert_sum f (there i) = omega (arith, insert_sum f i)

perm_sum : (f : ℕ → ℕ) {xs l : List ℕ} → Perm xs l → in_all f l ≡ in_all f xs
perm_sum f nil = refl
perm_sum f (cons i w) = omega (arith, insert_sum f i, perm_sum f w)

-- a piece in front that is none of them: one look more for each
past : (x : ℕ) (xs ks : List ℕ) → All (Other x) ks → in_all (λ k. looks k (x ∷ xs)) ks ≡ length ks + in_all (λ k. looks k xs) ks
unfolding looks
past x xs [] h = refl
past x xs (k ∷ ks) (h, t) = let e : cond (eqb x k) 1 (suc (looks k xs)) ≡ suc (looks k xs) = rw (ne_eqb x k h) refl in omega (arith, e, past x xs ks t)

next_sum : (l : ℕ) → suc l * (suc l + 1) ≡ l * (l + 1) + 2 * (l + 1)
next_sum l = omega arith

looks_sum : (ks : List ℕ) → Distinct ks → 2 * in_all (λ k. looks k ks) ks ≡ length ks * (length ks + 1)
unfolding looks
looks_sum [] d = refl
looks_sum (x ∷ xs) (h, d) =
    let e : cond (eqb x x) 1 (suc (looks x xs)) ≡ 1 = rw (eq-eqb x x refl) refl in omega (arith, e, past x xs xs h, looks_sum xs d, next_sum (length xs))

same_sum : (f g : ℕ → ℕ) → ((k : ℕ) → f k ≡ g k) → (ks : List ℕ) → in_all f ks ≡ in_all g ks
same_sum f g h [] = refl
same_sum f g h (k ∷ ks) = omega (arith, h k, same_sum f g h ks)

pub in_all_lem : (n : ℕ) (ks : List ℕ) → Perm (one_to n) ks → (count : ℕ → ℕ) → ((k : ℕ) → CountIs k ks (count k)) → 2 * in_all count (one_to n) ≡ n * (n + 1)
in_all_lem n ks w count v =
    let l : length ks ≡ n = perm_length w ∙ one_length n in
    let a : in_all count (one_to n) ≡ in_all (λ k. looks k ks) ks = same_sum count (λ k. looks k ks) (λ k. count_looks (v k)) (one_to n) ∙ sym (perm_sum (λ k. looks k ks) w) in
    ap (λ (m : ℕ). 2 * m) a ∙ (looks_sum ks (perm_distinct w (one_distinct n)) ∙ ap (λ (m : ℕ). m * (m + 1)) l)
