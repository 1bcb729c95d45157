-- Promises, to be believed.
-- DOCUMENT 02 (iv), JOINING THAT STOPS LOOKING, as statements about the search (Places.antt, which the contract of `find_piece` names) and about the
-- definition of joining, which is as before (division, specs/Join.antt). proofs/Promises.antt proves each.
use Rattle.std.specs.Prelude.{ℕ, zero, suc, ◌+◌, ◌-◌, ◌*◌, ◌<◌, ◌≡◌, ◌↔◌, List, [], ◌∷◌, Option, Some, None}
use Rattle.division.specs.Join.{Part, find_part}
use Rattle.division.specs.Orders.{Perm}
use Rattle.search.specs.Places.{LiesAt, CountIs}

-- "end at the piece found": no piece before that place is k
abbrev pub NoneBefore : Type 0
NoneBefore = (k : ℕ) (ks : List ℕ) (count : ℕ) → CountIs k ks count → (q : ℕ) → q < count → LiesAt k ks q → ⊥

-- each search has a count, and no other
abbrev pub OneCount : Type 0
OneCount = (k : ℕ) (ks : List ℕ) → (count : ℕ) × CountIs k ks count × ((other : ℕ) → CountIs k ks other → other ≡ count)

-- "not there" and "the last" have one count; the piece at the count, looked at once more, tells them apart
abbrev pub ToldOnceMore : Type 0
ToldOnceMore = (k : ℕ) (ks : List ℕ) (count : ℕ) → CountIs k ks count → LiesAt k ks count ↔ ((p : ℕ) × LiesAt k ks p)

-- ---- "Answers are as today": by the search, joining finds the piece that its definition has

-- the k's of the pieces as they lie
abbrev pub ks_of : List Part → List ℕ
ks_of [] = []
ks_of (p ∷ ps) = p.mark.place ∷ ks_of ps

-- the piece after i others
abbrev pub piece_after : ℕ → List Part → Option Part
piece_after i [] = None
piece_after zero (p ∷ ps) = Some p
piece_after (suc i) (p ∷ ps) = piece_after i ps

abbrev pub FindsThePiece : Type 0
FindsThePiece =
    (k : ℕ) (ps : List Part) (count : ℕ) → CountIs k (ks_of ps) count
    → (LiesAt k (ks_of ps) count → find_part k ps ≡ piece_after (count - 1) ps) × ((LiesAt k (ks_of ps) count → ⊥) → find_part k ps ≡ None)

-- ---- over a whole set

-- the numbers 1 to n, the greatest first
unfoldable pub one_to : ℕ → List ℕ
one_to zero = []
one_to (suc n) = suc n ∷ one_to n

-- the counts of the searches for these, together
abbrev pub in_all : (ℕ → ℕ) → List ℕ → ℕ
in_all count [] = 0
in_all count (k ∷ ks) = count k + in_all count ks

-- the searches for all pieces of a set look n(n + 1)/2 times, in whichever order the pieces lie: 499,500 times for 999
abbrev pub LooksInAll : Type 0
LooksInAll =
    (n : ℕ) (ks : List ℕ) → Perm (one_to n) ks → (count : ℕ → ℕ) → ((k : ℕ) → CountIs k ks (count k)) → 2 * in_all count (one_to n) ≡ n * (n + 1)
