-- Definitions, to be believed.
-- A list's elements in some order.
use Rattle.std.specs.Prelude.{List, [], ◌∷◌}

-- l is xs with a put in somewhere
pub data Insert {A : Type 0} (a : A) : List A → List A → Type 0 where
  here : {xs : List A} → Insert a xs (a ∷ xs)
  there : {x : A} {xs l : List A} → Insert a xs l → Insert a (x ∷ xs) (x ∷ l)

-- l has the elements of xs in some order
pub data Perm {A : Type 0} : List A → List A → Type 0 where
  nil : Perm [] []
  cons : {a : A} {xs ys l : List A} → Insert a ys l → Perm xs ys → Perm (a ∷ xs) l
