-- A property of every element, and lists in another order. Assumes nothing.
use Prim.Native.Nat.{ℕ, suc, ◌+◌}
use native.Mathlib.Omega.{arith}
use mathlib.Core.Path.{◌≡◌, refl, sym, ap, ◌∙◌}
use mathlib.Core.List.{List, [], ◌∷◌, ◌++◌, map, nil≢cons, head-eq_of_cons-eq, tail-eq_of_cons-eq}
use lib.ListN.{length, length-append}
use Rattle.lists.specs.Lists.{All}
use Rattle.characters.specs.Rows.{flat}
use Rattle.division.specs.Orders.{Insert, here, there, Perm, nil, cons}

-- ---- every element

pub all_append : {A : Type 0} (P : A → Type 0) (xs ys : List A) → All P xs → All P ys → All P (xs ++ ys)
all_append P [] ys h g = g
all_append P (x ∷ xs) ys (h, t) g = (h, all_append P xs ys t g)

pub all_map : {A : Type 0} (P Q : A → Type 0) → ((a : A) → P a → Q a) → (xs : List A) → All P xs → All Q xs
all_map P Q f [] h = tt
all_map P Q f (x ∷ xs) (h, t) = (f x h, all_map P Q f xs t)

pub all_left : {A : Type 0} (P : A → Type 0) (xs ys : List A) → All P (xs ++ ys) → All P xs
all_left P [] ys h = tt
all_left P (x ∷ xs) ys (h, t) = (h, all_left P xs ys t)

pub all_right : {A : Type 0} (P : A → Type 0) (xs ys : List A) → All P (xs ++ ys) → All P ys
all_right P [] ys h = h
all_right P (x ∷ xs) ys (h, t) = all_right P xs ys t

pub map_length : {A B : Type 0} (f : A → B) (xs : List A) → length (map f xs) ≡ length xs
map_length f [] = refl
map_length f (x ∷ xs) = ap suc (map_length f xs)

-- ---- another order

pub perm_refl : {A : Type 0} (xs : List A) → Perm xs xs
perm_refl [] = nil
perm_refl (x ∷ xs) = cons here (perm_refl xs)

insert_all : {A : Type 0} (P : A → Type 0) {a : A} {xs l : List A} → Insert a xs l → P a → All P xs → All P l
insert_all P here h t = (h, t)
insert_all P (there i) h (g, t) = (g, insert_all P i h t)

pub perm_all : {A : Type 0} (P : A → Type 0) {xs l : List A} → Perm xs l → All P xs → All P l
perm_all P nil h = tt
perm_all P (cons i p) (h, t) = insert_all P i h (perm_all P p t)

insert_length : {A : Type 0} {a : A} {xs l : List A} → Insert a xs l → length l ≡ suc (length xs)
insert_length here = refl
insert_length (there i) = ap suc (insert_length i)

pub perm_length : {A : Type 0} {xs l : List A} → Perm xs l → length l ≡ length xs
perm_length nil = refl
perm_length (cons i p) = insert_length i ∙ ap suc (perm_length p)

insert_map : {A B : Type 0} (f : A → B) {a : A} {xs l : List A} → Insert a xs l → Insert (f a) (map f xs) (map f l)
insert_map f here = here
insert_map f (there i) = there (insert_map f i)

pub perm_map : {A B : Type 0} (f : A → B) {xs l : List A} → Perm xs l → Perm (map f xs) (map f l)
perm_map f nil = nil
perm_map f (cons i p) = cons (insert_map f i) (perm_map f p)

-- the bytes of a permuted list are as many
insert_flat : {a : List ℕ} {xs l : List (List ℕ)} → Insert a xs l → length (flat l) ≡ length a + length (flat xs)
insert_flat {a} (here {xs = xs}) = length-append a (flat xs)
insert_flat {a} (there {x = x} {xs = xs} {l = l} i) = omega (arith, length-append x (flat l), length-append x (flat xs), insert_flat i)

pub perm_flat : {xs l : List (List ℕ)} → Perm xs l → length (flat l) ≡ length (flat xs)
perm_flat nil = refl
perm_flat (cons {a = a} {xs = xs} i p) = omega (arith, insert_flat i, perm_flat p, length-append a (flat xs))

-- a permutation of images is the image of a permutation
insert_unmap : {A B : Type 0} (f : A → B) (a : A) {b : B} (ys : List A) {zs l : List B} → Insert b zs l → f a ≡ b → map f ys ≡ zs
    → (m : List A) × (l ≡ map f m) × Insert a ys m
insert_unmap f a {b = b} ys (here {xs = zs}) p q = (a ∷ ys, (let r : b ∷ zs ≡ f a ∷ map f ys = cc in r), here)
insert_unmap f a [] (there i) p q = absurd (nil≢cons q)
insert_unmap {A} f a (y ∷ ys) (there {x = x} {xs = zs} {l = l} i) p q =
    let u : f y ≡ x = head-eq_of_cons-eq q in
    let v : map f ys ≡ zs = tail-eq_of_cons-eq q in
    let r : (m : List A) × (l ≡ map f m) × Insert a ys m = insert_unmap f a ys i p v in
    let w : l ≡ map f r.0 = r.1 in
    (y ∷ r.0, (let s : x ∷ l ≡ f y ∷ map f r.0 = cc in s), there r.2)

unmap : {A B : Type 0} (f : A → B) (xs : List A) {zs l : List B} → Perm zs l → map f xs ≡ zs → (m : List A) × (l ≡ map f m) × Perm xs m
unmap f [] nil q = ([], refl, nil)
unmap f (x ∷ xs) nil q = absurd (nil≢cons (sym q))
unmap f [] (cons i w) q = absurd (nil≢cons q)
unmap {A} f (x ∷ xs) (cons {ys = ys} {l = l} i w) q =
    let r : (m : List A) × (ys ≡ map f m) × Perm xs m = unmap f xs w (tail-eq_of_cons-eq q) in
    let s : (m : List A) × (l ≡ map f m) × Insert x r.0 m = insert_unmap f x r.0 i (head-eq_of_cons-eq q) (sym r.1) in
    (s.0, s.1, cons s.2 r.2)

pub perm_unmap : {A B : Type 0} (f : A → B) (xs : List A) {l : List B} → Perm (map f xs) l → (m : List A) × (l ≡ map f m) × Perm xs m
perm_unmap f xs w = unmap f xs w refl

pub perm_one : {A : Type 0} {a : A} {l : List A} → Perm (a ∷ []) l → l ≡ a ∷ []
perm_one (cons here nil) = refl
perm_one (cons (there _) p) = elim p [ ]
