-- The pairs by the bytes of the items: kind and code, form with quantity and unit. Assumes nothing.
use Prim.Native.Nat.{ℕ, ◌≤◌, ◌<◌}
use mathlib.Core.Path.{◌≡◌, refl, sym, ap, ◌∙◌}
use mathlib.Core.Bool.{Bool, true, false, cond, ◌&&◌, ◌||◌, beq}
use mathlib.Core.List.{List, [], ◌∷◌}
use native.Mathlib.Omega.{arith}
use borrow.Author.Tests.{ne_eqb, eqb-true, eqb-false}
use lib.Dec.{eqb}
use lib.ListN.{length}
use Rattle.std.specs.Prelude.{Option, Some, None, unwrap_or}
use Rattle.lists.specs.Lists.{empty, same, member}
use Rattle.lists.proofs.Tests.{empty_is}
use Rattle.digits.specs.Digits.{number}
use Rattle.digits.specs.Short.{plain_number}
use Rattle.records.specs.Items.{value_of, number_value}
use Rattle.records.specs.Records.{item_value, is_empty, is_num, or_empty, code_pair, form_pair, 調剤, 日分, 回分}
use Rattle.items.proofs.SetLaws.{one_of_member}
use Rattle.lines.specs.Details.{quantity, code_raw, form_raw}

-- ---- code and kind

pub code_is : (k c : List ℕ) {x y z : Bool} → x ≡ eqb (length c) 0 → y ≡ eqb (length k) 0 → z ≡ same k (49 ∷ []) → beq x (y || z) ≡ code_raw k c
unfolding code_raw code_pair
code_is k c p q r = rw (p, q, r, empty_is c, empty_is k)

-- ---- quantity

is_one : Option ℕ → Bool
is_one None = true
is_one (Some n) = eqb n 1

quantity_is : (q : List ℕ) → or_empty (quantity q) (is_num (quantity q) 1) ≡ is_one (number q)
unfolding item_value value_of number is_one
quantity_is [] = refl
quantity_is (b ∷ q) = go (number (b ∷ q))
  where
    go : (o : Option ℕ) → (is_empty (number_value o) || is_num (number_value o) 1) ≡ is_one o
    go None = refl
    go (Some n) = refl

module _ (q : List ℕ) {o : Option ℕ} (e : o ≡ number q) where
  pub quantity_some : {n : ℕ} → o ≡ Some n → eqb n 1 ≡ or_empty (quantity q) (is_num (quantity q) 1)
  unfolding is_one
  quantity_some h = sym (quantity_is q ∙ ap is_one (sym e ∙ h))

  pub quantity_none : o ≡ None → true ≡ or_empty (quantity q) (is_num (quantity q) 1)
  unfolding is_one
  quantity_none h = sym (quantity_is q ∙ ap is_one (sym e ∙ h))

-- ---- unit

pub unit_is : (u : List ℕ) {x : Bool} (y : Bool) → x ≡ eqb (length u) 0 → (x || y) ≡ (empty u || y)
unit_is u y e = rw (e, empty_is u)

-- ---- form

-- what a form asks of a quantity and a unit, by its number
abbrev asked : ℕ → List ℕ → List ℕ → Bool
asked n q u =
    cond (member (2 ∷ 4 ∷ 5 ∷ 9 ∷ 10 ∷ []) n) (or_empty (quantity q) (is_num (quantity q) 1) && (empty u || same u 調剤))
    (cond (member (1 ∷ []) n) (empty u || same u 日分)
    (cond (member (3 ∷ []) n) (empty u || same u 回分)
    (cond (member (6 ∷ 7 ∷ []) n) (empty u || (same u 日分 || same u 回分)) true)))

pub form_is : (f q u : List ℕ) → form_raw f q u ≡ asked (unwrap_or (plain_number f) 0) q u
unfolding form_raw form_pair
form_is f q u =
    rw (
      one_of_member (2 ∷ 4 ∷ 5 ∷ 9 ∷ 10 ∷ []) f refl,
      one_of_member (1 ∷ []) f refl,
      one_of_member (3 ∷ []) f refl,
      one_of_member (6 ∷ 7 ∷ []) f refl,
    )

either_is : (e d t : Bool) → ((e || d) || (e || t)) ≡ (e || (d || t))
either_is true d t = refl
either_is false d t = refl

module _ (f q u : List ℕ) {o : Option ℕ} (e : o ≡ plain_number f) {n : ℕ} (h : o ≡ Some n) where
  at : (k : ℕ) → n ≡ k → unwrap_or (plain_number f) 0 ≡ k
  at k z = ap (λ (x : Option ℕ). unwrap_or x 0) (sym e ∙ h) ∙ z

  pub form_either : 6 ≤ n → n < 8 → {x y : Bool} → x ≡ (empty u || same u 日分) → y ≡ (empty u || same u 回分) → (x || y) ≡ form_raw f q u
  form_either a b p r = rw (p, r) (either_is (empty u) (same u 日分) (same u 回分) ∙ sym (form_is f q u ∙ go (eqb n 6) refl))
    where
      go : (t : Bool) → eqb n 6 ≡ t → asked (unwrap_or (plain_number f) 0) q u ≡ (empty u || (same u 日分 || same u 回分))
      go true z = rw (at 6 (eqb-true n 6 z))
      go false z = let i : n ≡ 6 → ⊥ = eqb-false n 6 z in rw (at 7 (omega arith))

  pub form_free : (n ≡ 1 → ⊥) → (n ≡ 2 → ⊥) → (n ≡ 3 → ⊥) → (n ≡ 4 → ⊥) → (n ≡ 5 → ⊥) → (n ≡ 6 → ⊥) → (n ≡ 7 → ⊥) → (n ≡ 9 → ⊥) → (n ≡ 10 → ⊥) → true ≡ form_raw f q u
  form_free a b c d g i j k l = sym (form_is f q u ∙ rw (at n refl) (simp (ne_eqb n 1 a, ne_eqb n 2 b, ne_eqb n 3 c, ne_eqb n 4 d, ne_eqb n 5 g, ne_eqb n 6 i, ne_eqb n 7 j, ne_eqb n 9 k, ne_eqb n 10 l)))

pub ruleset form_laws = (form_either, form_free)
