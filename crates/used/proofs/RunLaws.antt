-- The search over the run, ID by ID: what is left decides. Assumes nothing.
use Prim.Native.Nat.{ℕ, suc, ◌+◌, ◌-◌, ◌/◌, ◌%◌, ◌≤◌, ◌<◌}
use native.Mathlib.Omega.{arith}
use mathlib.Core.Path.{◌≡◌, sym, ap, ◌∙◌}
use mathlib.Core.Bool.{Bool, true, false, not}
use mathlib.Core.List.{List, ◌∷◌}
use borrow.Author.Tests.{eq-eqb, ne_eqb}
use lib.ListN.{length, take, drop}
use lib.Seq.{drop-drop}
use Rattle.lists.specs.Lists.{same}
use Rattle.ids.specs.Used.{first_ids, ids_in, one_is, unused}
use Rattle.used.specs.Searching.{Given, Left}

pub run_start : (id u : List ℕ) → length u % 14 ≡ 0 → Left id u 0
unfolding ids_in
run_start id u e =
    let z : length u - 0 ≡ length u = omega arith in
    record { inside = omega arith; whole = e; start = omega arith; left = rw z }

pub other_length : (id u : List ℕ) → (length u % 14 ≡ 0 → ⊥) → false ≡ unused id u
unfolding unused
other_length id u h = rw (ne_eqb (length u % 14) 0 h)

-- the answer by what is said of the run's IDs
answer : (id u : List ℕ) (b : Bool) → length u % 14 ≡ 0 → one_is id (ids_in u) ≡ b → not b ≡ unused id u
unfolding unused
answer id u b e q = rw (eq-eqb (length u % 14) 0 e) (ap not (sym q))

module _ {id u : List ℕ} {i : ℕ} (v : Left id u i) where
  module _ (h : i < length u) where
    -- one ID more is left
    more : first_ids ((length u - i) / 14) (drop i u) ≡ take 14 (drop i u) ∷ first_ids ((length u - (i + 14)) / 14) (drop (i + 14) u)
    unfolding first_ids
    more =
        let n : (length u - i) / 14 ≡ suc ((length u - (i + 14)) / 14) = omega (arith, v.whole, v.start, h) in
        ap (λ (k : ℕ). first_ids k (drop i u)) n ∙ ap (λ (t : List ℕ). take 14 (drop i u) ∷ first_ids ((length u - (i + 14)) / 14) t) (drop-drop 14 i u)

    pub run_given : length id ≡ 14 → Given u i id
    run_given e = record { inside = omega (arith, v.whole, v.start); ident = e }

    module _ {x : Bool} (q : x ≡ same (take 14 (drop i u)) id) where
      pub run_found : x ≡ true → false ≡ unused id u
      run_found t = answer id u true v.whole (v.left ∙ ap (one_is id) more ∙ rw (sym q ∙ t))

      pub run_go : x ≡ false → Left id u (i + 14)
      run_go t = record {
        inside = omega (arith, v.whole, v.start);
        whole = v.whole;
        start = omega (arith, v.start);
        left = v.left ∙ ap (one_is id) more ∙ rw (sym q ∙ t);
      }

  pub run_out : length u ≤ i → true ≡ unused id u
  unfolding first_ids
  run_out h = answer id u false v.whole (v.left ∙ (let z : (length u - i) / 14 ≡ 0 = omega (arith, h) in rw z))

pub ruleset run_laws = (run_start, other_length, run_given, run_found, run_go, run_out)
