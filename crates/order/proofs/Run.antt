-- A run of records by its steps, for a caller's loop: `run_on` and `run_refused` for one record, `ran_after` and `line_after` for all.
-- Assumes nothing.
use Prim.Native.Nat.{ℕ, ◌+◌}
use native.Mathlib.Omega.{arith}
use mathlib.Core.Path.{◌≡◌, refl, ap}
use mathlib.Core.List.{List, [], ◌∷◌}
use lib.ListN.{length}
use Rattle.order.specs.declared.State.{State}
use Rattle.order.specs.declared.Facts.{Facts}
use Rattle.order.specs.State.{Step}
use Rattle.order.specs.State.{Fault, On}
use Rattle.order.specs.State.{advance, step_of, finish_of}
use Rattle.order.specs.Run.{refused_at, ran_to, at_end, stepped, run_of, after}
use Rattle.order.proofs.Laws.{taken}

module _ (s : State) (r : Facts) (rs : List Facts) where
  pub run_on : (t : State) (p d : ℕ) → step_of s r ≡ On t p d → run_of s (r ∷ rs) ≡ run_of t rs
  unfolding run_of stepped
  run_on t p d e = ap (stepped s.line (λ u. run_of u rs)) e

  pub run_refused : (n : ℕ) → step_of s r ≡ Fault n → run_of s (r ∷ rs) ≡ refused_at n (s.line + 1)
  unfolding run_of stepped
  run_refused n e = ap (stepped s.line (λ u. run_of u rs)) e

never : {n l : ℕ} {t : State} → refused_at n l ≡ ran_to t → ⊥
never e = let z : ◌≡◌ {A = ℕ} 0 1 = cc in omega arith

-- records that are all taken end in the state after them, which is complete
pub ran_after : (rs : List Facts) (s t : State) → run_of s rs ≡ ran_to t → (t ≡ after s rs) × (finish_of t ≡ 0)
unfolding run_of after at_end stepped
ran_after [] s t e = by (finish_of s) refl e
  where
    by : (n : ℕ) → finish_of s ≡ n → at_end s n ≡ ran_to t → (t ≡ s) × (finish_of t ≡ 0)
    by ℕ.zero q f = let g : t ≡ s = cc in (g, rw g q)
    by (ℕ.suc n) q f = absurd (never f)
ran_after (r ∷ rs) s t e = ran_after rs (advance s r) t (by (step_of s r) refl e)
  where
    by : (m : Step) → step_of s r ≡ m → stepped s.line (λ u. run_of u rs) m ≡ ran_to t → run_of (advance s r) rs ≡ ran_to t
    by (Fault n) q f = absurd (never f)
    by (On u p d) q f = rw (taken s r u p d q).state at f

-- each record has a line
pub line_after : (rs : List Facts) (s : State) → (after s rs).line ≡ s.line + length rs
unfolding after advance
line_after [] s = omega arith
line_after (r ∷ rs) s = omega (arith, line_after rs (advance s r))
