-- The search among the pieces of a set: its count, looked at once more, gives the piece that the definition of joining finds. Assumes nothing.
use Prim.Native.Nat.{ℕ, zero, suc, ◌-◌, ◌≤◌}
use mathlib.Core.Path.{◌≡◌, refl, sym, ap, ◌∙◌}
use mathlib.Core.Bool.{Bool, true, false, cond}
use Rattle.std.specs.Prelude.{Option, Some, None}
use mathlib.Core.List.{List, [], ◌∷◌}
use native.Mathlib.Omega.{arith}
use borrow.Author.Tests.{eq-eqb, ne_eqb}
use lib.Dec.{eqb}
use lib.ListN.{length, get_or}
use Rattle.division.specs.Join.{Part, find_part}
use Rattle.search.specs.Places.{CountIs}
use Rattle.search.specs.Looks.{looks}
use Rattle.search.specs.Search.{ks_of, piece_after}
use Rattle.search.proofs.Looks.{count_looks}

-- ---- the count is a place, where there are pieces

pub looks_low : (k x : ℕ) (xs : List ℕ) → 1 ≤ looks k (x ∷ xs)
unfolding looks
looks_low k x xs = go (eqb x k)
  where
    go : (b : Bool) → 1 ≤ cond b 1 (suc (looks k xs))
    go true = omega arith
    go false = omega arith

pub looks_high : (k : ℕ) (ks : List ℕ) → looks k ks ≤ length ks
unfolding looks
looks_high k [] = omega arith
looks_high k (x ∷ xs) = go (eqb x k) (looks_high k xs)
  where
    go : (b : Bool) → looks k xs ≤ length xs → cond b 1 (suc (looks k xs)) ≤ suc (length xs)
    go true h = omega arith
    go false h = omega arith

-- ---- looked at once more

-- the piece after i others, if it is k
abbrev checked : ℕ → Option Part → Option Part
checked k None = None
checked k (Some p) = cond (eqb p.mark.place k) (Some p) None

find_looks : (k : ℕ) (ps : List Part) → find_part k ps ≡ checked k (piece_after (looks k (ks_of ps) - 1) ps)
unfolding find_part looks
find_looks k [] = refl
find_looks k (p ∷ []) = go (eqb p.mark.place k) refl
  where
    go : (b : Bool) → eqb p.mark.place k ≡ b → cond b (Some p) None ≡ checked k (piece_after (cond b 1 1 - 1) (p ∷ []))
    go true e = rw e refl
    go false e = rw e refl
find_looks k (p ∷ q ∷ ps) = go (eqb p.mark.place k) refl (find_looks k (q ∷ ps))
  where
    l : ℕ
    l = looks k (ks_of (q ∷ ps))

    go : (b : Bool) → eqb p.mark.place k ≡ b → find_part k (q ∷ ps) ≡ checked k (piece_after (looks k (ks_of (q ∷ ps)) - 1) (q ∷ ps))
        → cond b (Some p) (find_part k (q ∷ ps)) ≡ checked k (piece_after (cond b 1 (suc (looks k (ks_of (q ∷ ps)))) - 1) (p ∷ q ∷ ps))
    go true e i = rw e refl
    go false e i =
        let z : suc (looks k (ks_of (q ∷ ps))) - 1 ≡ suc (looks k (ks_of (q ∷ ps)) - 1) = omega (arith, looks_low k q.mark.place (ks_of ps)) in
        i ∙ ap (λ (j : ℕ). checked k (piece_after j (p ∷ q ∷ ps))) (sym z)

-- the piece after i others, and its k
pub there : (i : ℕ) (ps : List Part) → suc i ≤ length (ks_of ps) → (p : Part) × (piece_after i ps ≡ Some p) × (get_or (ks_of ps) i 0 ≡ p.mark.place)
there i [] h = absurd (omega (arith, h))
there zero (p ∷ ps) h = (p, refl, refl)
there (suc i) (p ∷ ps) h = there i ps (omega (arith, h))

module _ {k : ℕ} {ks : List ℕ} {c : ℕ} (v : CountIs k ks c) where
  pub count_one : 1 ≤ length ks → 1 ≤ c
  count_one h = rw (count_looks v) (go ks h)
    where
      go : (ks : List ℕ) → 1 ≤ length ks → 1 ≤ looks k ks
      go [] h = absurd (omega (arith, h))
      go (x ∷ xs) h = looks_low k x xs

  pub count_most : c ≤ length ks
  count_most = omega (arith, count_looks v, looks_high k ks)

module _ {k : ℕ} (ps : List Part) {c : ℕ} (v : CountIs k (ks_of ps) c) (low : 1 ≤ length (ks_of ps)) where
  by_count : find_part k ps ≡ checked k (piece_after (c - 1) ps)
  by_count = find_looks k ps ∙ ap (λ (j : ℕ). checked k (piece_after (j - 1) ps)) (sym (count_looks v))

  pub piece_found : get_or (ks_of ps) (c - 1) 0 ≡ k → (p : Part) × (find_part k ps ≡ Some p) × (piece_after (c - 1) ps ≡ Some p)
  piece_found e = go (there (c - 1) ps (omega (arith, count_one v low, count_most v)))
    where
      go : (p : Part) × (piece_after (c - 1) ps ≡ Some p) × (get_or (ks_of ps) (c - 1) 0 ≡ p.mark.place) → (p : Part) × (find_part k ps ≡ Some p) × (piece_after (c - 1) ps ≡ Some p)
      go (p, q, r) = (p, by_count ∙ (ap (checked k) q ∙ rw (eq-eqb p.mark.place k (sym r ∙ e))), q)

  pub piece_missing : (get_or (ks_of ps) (c - 1) 0 ≡ k → ⊥) → find_part k ps ≡ None
  piece_missing e = go (there (c - 1) ps (omega (arith, count_one v low, count_most v)))
    where
      go : (p : Part) × (piece_after (c - 1) ps ≡ Some p) × (get_or (ks_of ps) (c - 1) 0 ≡ p.mark.place) → find_part k ps ≡ None
      go (p, q, r) = let z : p.mark.place ≡ k → ⊥ = λ w. e (r ∙ w) in by_count ∙ (ap (checked k) q ∙ rw (ne_eqb p.mark.place k z))
