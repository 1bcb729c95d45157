-- The promises of specs/Search.antt. Assumes nothing.
use Prim.Native.Nat.{ℕ, ◌≤◌}
use mathlib.Core.Path.{◌≡◌, refl, sym, ◌∙◌}
use mathlib.Core.Logic.{◌⊎◌, inl, inr}
use mathlib.Core.List.{[], ◌∷◌}
use native.Mathlib.Omega.{arith}
use lib.ListN.{length}
use Rattle.division.specs.Join.{find_part}
use Rattle.search.specs.Places.{LiesAt, FirstLies}
use Rattle.search.specs.Looks.{looks}
use Rattle.search.specs.Search.{NoneBefore, OneCount, ToldOnceMore, ks_of, FindsThePiece, LooksInAll}
use Rattle.search.proofs.Looks.{Nowhere, first_or_none, looks_count, count_looks}
use Rattle.search.proofs.Whole.{in_all_lem}
use Rattle.search.proofs.Pieces.{count_one, count_most, piece_found, piece_missing}

pub none_before : NoneBefore
none_before k ks c v q h w = go (first_or_none k ks)
  where
    go : ((p : ℕ) × FirstLies k ks p × (looks k ks ≡ p)) ⊎ (Nowhere k ks × (looks k ks ≡ length ks)) → ⊥
    go (inl (p, f, e)) = omega (arith, h, v.found p f, f.first q w)
    go (inr (n, e)) = n q w

pub one_count : OneCount
one_count k ks = (looks k ks, looks_count k ks, λ other v. count_looks v)

pub told_once_more : ToldOnceMore
told_once_more k ks c v = ((λ w. (c, w)), λ w. go (first_or_none k ks) w)
  where
    go : ((p : ℕ) × FirstLies k ks p × (looks k ks ≡ p)) ⊎ (Nowhere k ks × (looks k ks ≡ length ks)) → (p : ℕ) × LiesAt k ks p → LiesAt k ks c
    go (inl (p, f, e)) w = rw (v.found p f) f.lies
    go (inr (n, e)) (p, w) = absurd (n p w)

pub finds_the_piece : FindsThePiece
unfolding find_part
finds_the_piece k [] c v = ((λ w. absurd (omega (arith, w.low, w.high))), λ _. refl)
finds_the_piece k (p ∷ ps) c v =
    let low : 1 ≤ length (ks_of (p ∷ ps)) = omega arith in
    ((λ w. let f = piece_found (p ∷ ps) v low w.is in f.1 ∙ sym f.2), λ h. piece_missing (p ∷ ps) v low (λ e. h (record { low = count_one v low; high = count_most v; is = e })))

pub looks_in_all : LooksInAll
looks_in_all = in_all_lem
