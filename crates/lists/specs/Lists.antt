-- Definitions, to be believed.
-- Lists of bytes: texts as bytes, tests of all bytes, equality as a test, parts; and an answer that is a value or a refusal.
-- Nothing here is about notebooks but that refusals have document 01's numbers; everything above is written with it.
use Rattle.std.specs.Prelude.{ℕ, zero, suc, ◌-◌, Bool, true, false, cond, ◌&&◌, ◌||◌, List, [], ◌∷◌, leb, eqb, length, get_or}
use Prim.Native.Char.{code}
use Prim.Native.String.{String}

-- the bytes of a text in ASCII
unfoldable pub bytes : String → List ℕ
bytes String.[] = []
bytes (String.◌∷◌ c s) = code c ∷ bytes s

-- lo to hi, both ends included
abbrev pub within : ℕ → ℕ → ℕ → Bool
within lo hi x = leb lo x && leb x hi

-- ---- tests of a list

abbrev pub empty : List ℕ → Bool
empty [] = true
empty (b ∷ s) = false

-- every byte passes the test
abbrev pub all : (ℕ → Bool) → List ℕ → Bool
all p [] = true
all p (b ∷ s) = p b && all p s

-- two lists are equal
abbrev pub same : List ℕ → List ℕ → Bool
same [] [] = true
same [] (y ∷ ys) = false
same (x ∷ xs) [] = false
same (x ∷ xs) (y ∷ ys) = eqb x y && same xs ys

-- n is one of the list
abbrev pub member : List ℕ → ℕ → Bool
member [] n = false
member (m ∷ ms) n = eqb n m || member ms n

-- a property of every element
abbrev pub All : {A : Type 0} → (A → Type 0) → List A → Type 0
All P [] = Unit {0}
All P (x ∷ xs) = P x × All P xs

-- ---- parts of a list

-- the last byte, 0 where there is none
abbrev pub last : List ℕ → ℕ
last s = get_or s (length s - 1) 0

-- the bytes before the first that the test picks out
abbrev pub up_to : (ℕ → Bool) → List ℕ → List ℕ
up_to p [] = []
up_to p (a ∷ l) = cond (p a) [] (a ∷ up_to p l)

-- b is the byte c
abbrev pub is : ℕ → ℕ → Bool
is c b = eqb b c

-- ---- answers

-- a value; or a refusal: document 01's number, and the line
pub data Res (A : Type 0) : Type 0 where
  ok : A → Res A
  refused : ℕ → ℕ → Res A

-- what is made of the value; a refusal stays
abbrev pub map_res : {A B : Type 0} → (A → B) → Res A → Res B
map_res f (ok x) = ok (f x)
map_res f (refused n line) = refused n line

-- what comes after the value; a refusal comes first
abbrev pub and_then : {A B : Type 0} → Res A → (A → Res B) → Res B
and_then (ok x) f = f x
and_then (refused n line) f = refused n line

-- Faults are numbers of document 01's table, 0 for none. The first fault of two: asked in rising order it is "the lowest number".
infixr 20 ◌or_else◌
abbrev pub ◌or_else◌ : ℕ → ℕ → ℕ
zero or_else b = b
(suc a) or_else b = suc a

-- the fault n where the rule does not hold
abbrev pub unless : Bool → ℕ → ℕ
unless true n = 0
unless false n = n
