-- A run is split into its IDs in one way only, and 24 refuses exactly what is said in specs/Runs.antt. Assumes nothing.
use Prim.Native.Nat.{ℕ, zero, suc, ◌+◌, ◌*◌, ◌/◌, ◌%◌}
use native.Mathlib.Omega.{arith}
use mathlib.Core.Path.{◌≡◌, refl, sym, ap, ◌∙◌, subst}
use mathlib.Core.Bool.{Bool, true, false, not, ◌&&◌, ◌||◌, and-false, false≢true, true≢false}
use mathlib.Core.Logic.{◌↔◌, ◌⊎◌, inl, inr}
use mathlib.Core.List.{List, [], ◌∷◌, ◌++◌}
use borrow.Author.Tests.{eqb-true, eqb-false}
use lib.Dec.{eqb}
use lib.ListN.{length, take, drop, take-append-drop, length-drop, length-append}
use lib.Seq.{length-take-le, take_at, drop_at}
use Rattle.lists.specs.Lists.{same, All}
use Rattle.lists.proofs.Tests.{same_refl, same_true}
use Rattle.characters.specs.Rows.{flat}
use Rattle.ids.specs.Used.{first_ids, ids_in, one_is, unused}
use Rattle.ids.specs.Runs.{Fourteen, RunOf, InRun, OtherLength}

-- ---- the IDs of a run

-- as many IDs as the length has 14s
first_run : (n : ℕ) (u : List ℕ) → length u ≡ 14 * n → RunOf u (first_ids n u)
unfolding first_ids
first_run zero [] e = record { each = tt; is = refl }
first_run zero (a ∷ u) e = absurd (omega (arith, e))
first_run (suc n) u e =
    let r : RunOf (drop 14 u) (first_ids n (drop 14 u)) = first_run n (drop 14 u) (omega (arith, e, length-drop 14 u)) in
    record {
      each = (length-take-le 14 u (omega (arith, e)), r.each);
      is = ap (λ (t : List ℕ). take 14 u ++ t) r.is ∙ take-append-drop 14 u;
    }

run_length : (ids : List (List ℕ)) → All Fourteen ids → length (flat ids) ≡ 14 * length ids
run_length [] h = refl
run_length (i ∷ is) (h, t) = omega (arith, length-append i (flat is), h, run_length is t)

-- they are the only ones
first_is_lem : (ids : List (List ℕ)) → All Fourteen ids → first_ids (length ids) (flat ids) ≡ ids
unfolding first_ids
first_is_lem [] h = refl
first_is_lem (i ∷ is) (h, t) =
    let a : take 14 (i ++ flat is) ≡ i = take_at i (flat is) 14 h in
    let b : drop 14 (i ++ flat is) ≡ flat is = drop_at i (flat is) 14 h in
    let c : first_ids (length is) (drop 14 (i ++ flat is)) ≡ is = ap (first_ids (length is)) b ∙ first_is_lem is t in
    cc

run_is : {u : List ℕ} {ids : List (List ℕ)} → RunOf u ids → ids_in u ≡ ids
unfolding ids_in
run_is {u} {ids} r =
    let n : length u / 14 ≡ length ids = omega (arith, ap length r.is, run_length ids r.each) in
    ap (λ (k : ℕ). first_ids k u) n ∙ ap (first_ids (length ids)) (sym r.is) ∙ first_is_lem ids r.each

ids_run : (u : List ℕ) → length u % 14 ≡ 0 → RunOf u (ids_in u)
unfolding ids_in
ids_run u e = first_run (length u / 14) u (omega (arith, e))

-- ---- one of them

record Split (id : List ℕ) (ids : List (List ℕ)) : Type 0 where
  before : List (List ℕ)
  after : List (List ℕ)
  is : ids ≡ before ++ (id ∷ after)

one_is_lem : (id : List ℕ) (ids : List (List ℕ)) → one_is id ids ≡ true → Split id ids
one_is_lem id [] e = absurd (false≢true e)
one_is_lem id (i ∷ is) e = go (same i id) refl (one_is_lem id is) e
  where
    go : (b : Bool) → same i id ≡ b → (one_is id is ≡ true → Split id is) → (b || one_is id is) ≡ true → Split id (i ∷ is)
    go true p ih q = record { before = []; after = is; is = ap (λ (x : List ℕ). x ∷ is) (same_true i id p) }
    go false p ih q = let s : Split id is = ih q in record { before = i ∷ s.before; after = s.after; is = ap (λ (x : List (List ℕ)). i ∷ x) s.is }

is_one_lem : (id : List ℕ) (before after : List (List ℕ)) → one_is id (before ++ (id ∷ after)) ≡ true
is_one_lem id [] after = rw (same_refl id)
is_one_lem id (i ∷ before) after = go (same i id) (is_one_lem id before after)
  where
    go : (b : Bool) → one_is id (before ++ (id ∷ after)) ≡ true → (b || one_is id (before ++ (id ∷ after))) ≡ true
    go true h = refl
    go false h = h

-- ---- WHAT 24 REFUSES

in_run : (id u : List ℕ) → length u % 14 ≡ 0 → one_is id (ids_in u) ≡ true → InRun id u
in_run id u e h = let s : Split id (ids_in u) = one_is_lem id (ids_in u) h in record { before = s.before; after = s.after; run = subst (RunOf u) s.is (ids_run u e) }

pub used_is : (id u : List ℕ) → unused id u ≡ false → OtherLength u ⊎ InRun id u
unfolding unused
used_is id u e = go (eqb (length u % 14) 0) refl (one_is id (ids_in u)) refl e
  where
    go : (a : Bool) → eqb (length u % 14) 0 ≡ a → (b : Bool) → one_is id (ids_in u) ≡ b → (a && not b) ≡ false → OtherLength u ⊎ InRun id u
    go false p b q h = inl (λ n l. eqb-false (length u % 14) 0 p (omega (arith, l)))
    go true p true q h = inr (in_run id u (eqb-true (length u % 14) 0 p) q)
    go true p false q h = absurd (true≢false h)

other_refused : (id u : List ℕ) → OtherLength u → unused id u ≡ false
unfolding unused
other_refused id u h = go (eqb (length u % 14) 0) refl
  where
    go : (a : Bool) → eqb (length u % 14) 0 ≡ a → (a && not (one_is id (ids_in u))) ≡ false
    go false p = refl
    go true p = let z : length u % 14 ≡ 0 = eqb-true _ _ p in absurd (h (length u / 14) (omega (arith, z)))

pub in_refused : (id u : List ℕ) → InRun id u → unused id u ≡ false
unfolding unused
in_refused id u h =
    let o : one_is id (ids_in u) ≡ true = ap (one_is id) (run_is h.run) ∙ is_one_lem id h.before h.after in
    rw o (and-false (eqb (length u % 14) 0))

pub used_exactly : (id u : List ℕ) → (unused id u ≡ false) ↔ (OtherLength u ⊎ InRun id u)
used_exactly id u = (used_is id u, λ h. go h)
  where
    go : OtherLength u ⊎ InRun id u → unused id u ≡ false
    go (inl h) = other_refused id u h
    go (inr h) = in_refused id u h

-- no ID has been used
pub none_used : (id : List ℕ) → unused id [] ≡ true
unfolding unused ids_in first_ids
none_used id = refl
