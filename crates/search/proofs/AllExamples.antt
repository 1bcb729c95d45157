-- The searches of specs/Examples.antt have the counts written there: by `looks`, which is `CountIs` (proofs/Looks.antt). Three pieces out of order are a
-- set such as `LooksInAll` speaks of, and take 6 looks. Assumes nothing.
use Prim.Native.Nat.{◌+◌, ◌*◌, ◌<◌}
use mathlib.Core.Path.{◌≡◌, refl}
use mathlib.Core.List.{[], ◌∷◌, map}
use native.Mathlib.Omega.{arith}
use Rattle.division.specs.Orders.{here, there, Perm, nil, cons}
use Rattle.search.specs.Places.{LiesAt}
use Rattle.search.specs.Looks.{looks}
use Rattle.search.specs.Search.{one_to, in_all}
use Rattle.search.specs.Examples.{Looked, searches, three}
use Rattle.search.proofs.Looks.{looks_count}
use Rattle.search.proofs.Promises.{none_before}

pub searches_hold : map (λ (x : Looked). looks x.wanted x.ks) searches ≡ map (λ (x : Looked). x.count) searches
unfolding looks
searches_hold = refl

pub one_to_three : one_to 3 ≡ 3 ∷ 2 ∷ 1 ∷ []
unfolding one_to
one_to_three = refl

pub three_in_order : Perm (3 ∷ 2 ∷ 1 ∷ []) three
three_in_order = cons (there here) (cons here (cons here nil))

pub six_looks : in_all (λ k. looks k three) (3 ∷ 2 ∷ 1 ∷ []) ≡ 6
unfolding looks
six_looks = refl

pub looks_of_999 : 999 * (999 + 1) ≡ 2 * 499500
looks_of_999 = refl

-- the piece right before the one found
second : 1 < looks 2 (1 ∷ 2 ∷ [])
unfolding looks
second = omega arith

pub not_the_first : LiesAt 2 (1 ∷ 2 ∷ []) 1 → ⊥
not_the_first = none_before 2 (1 ∷ 2 ∷ []) (looks 2 (1 ∷ 2 ∷ [])) (looks_count 2 (1 ∷ 2 ∷ [])) 1 second
