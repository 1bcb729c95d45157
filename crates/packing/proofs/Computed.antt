-- The packing and the plan in a form of which only the branch that is taken is computed: for worked cases. Assumes nothing.
use Prim.Native.Nat.{ℕ, zero, suc, ◌+◌}
use mathlib.Core.Path.{◌≡◌, refl, ap}
use mathlib.Core.Bool.{Bool, true, false, cond}
use Rattle.std.specs.Prelude.{Option, Some, None}
use Rattle.std.specs.Option.{option_map}
use mathlib.Core.List.{List, [], ◌∷◌}
use lib.Dec.{leb}
use Rattle.packing.specs.Packing.{total, put, pack}
use Rattle.packing.specs.Widths.{over, Plan, in_one, no_plan, or_next, tries, plan}

unfoldable pub packed : {A : Type 0} → (A → ℕ) → (ℕ → ℕ) → ℕ → ℕ → ℕ → List A → Option (List (List A))
packed len o c k u [] = Some ([] ∷ [])
packed len o c k u (r ∷ rs) =
    elim (leb (u + len r) c) [
      | true ↦ option_map (put r) (packed len o c k (u + len r) rs)
      | false ↦ elim (leb (o (suc k) + len r) c) [
        | true ↦ option_map (λ xs. [] ∷ put r xs) (packed len o c (suc k) (o (suc k) + len r) rs)
        | false ↦ None
      ]
    ]

unfoldable pub tried : {A : Type 0} → (A → ℕ) → ℕ → ℕ → ℕ → List A → Plan A
tried len c zero w rs = no_plan
tried len c (suc f) w rs = or_next w (tried len c f (suc w) rs) (packed len (over w) c 1 (over w 1) rs)

unfoldable pub planned : {A : Type 0} → (A → ℕ) → ℕ → List A → Plan A
planned len c rs = cond (leb (13 + total len rs) c) in_one (tried len c 3 1 rs)

pack_is : {A : Type 0} (len : A → ℕ) (o : ℕ → ℕ) (c k u : ℕ) (rs : List A) → pack len o c k u rs ≡ packed len o c k u rs
unfolding pack packed
pack_is len o c k u [] = refl
pack_is {A} len o c k u (r ∷ rs) =
    go (leb (u + len r) c) (leb (o (suc k) + len r) c) (pack_is len o c k (u + len r) rs) (pack_is len o c (suc k) (o (suc k) + len r) rs)
  where
    go : (a b : Bool) → pack len o c k (u + len r) rs ≡ packed len o c k (u + len r) rs
        → pack len o c (suc k) (o (suc k) + len r) rs ≡ packed len o c (suc k) (o (suc k) + len r) rs
        → cond a (option_map (put r) (pack len o c k (u + len r) rs)) (cond b (option_map (λ xs. [] ∷ put r xs) (pack len o c (suc k) (o (suc k) + len r) rs)) None)
        ≡ elim a [
          | true ↦ option_map (put r) (packed len o c k (u + len r) rs)
          | false ↦ elim b [ true ↦ option_map (λ xs. [] ∷ put r xs) (packed len o c (suc k) (o (suc k) + len r) rs) | false ↦ None ]
        ]
    go true b p q = ap (option_map (put r)) p
    go false true p q = ap (option_map (λ xs. [] ∷ put r xs)) q
    go false false p q = refl

tries_is : {A : Type 0} (len : A → ℕ) (c f w : ℕ) (rs : List A) → tries len c f w rs ≡ tried len c f w rs
unfolding tries tried
tries_is len c zero w rs = refl
tries_is len c (suc f) w rs = rw (tries_is len c f (suc w) rs, pack_is len (over w) c 1 (over w 1) rs)

pub plan_is : {A : Type 0} (len : A → ℕ) (c : ℕ) (rs : List A) → plan len c rs ≡ planned len c rs
unfolding plan planned
plan_is {A} len c rs = ap (λ (p : Plan A). cond (leb (13 + total len rs) c) in_one p) (tries_is len c 3 1 rs)
