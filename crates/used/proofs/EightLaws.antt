-- Eight bytes compared one by one, and the two eights that are an ID. Assumes nothing.
use Prim.Native.Nat.{ℕ, ◌+◌, ◌-◌, ◌≤◌, ◌<◌}
use native.Mathlib.Omega.{arith}
use mathlib.Core.Path.{◌≡◌, refl, sym, ap, ◌∙◌, subst}
use mathlib.Core.Bool.{Bool, true, false, ◌&&◌}
use mathlib.Core.List.{List, [], ◌∷◌, ◌++◌}
use lib.Dec.{eqb}
use lib.ListN.{length, take, drop, get_or, length-drop}
use lib.Seq.{length-take-le, take_all}
use Rattle.lists.specs.Lists.{same}
use Rattle.lists.specs.Searching.{part}
use Rattle.lists.proofs.Tests.{and_same, same_refl, same_true}
use Rattle.lists.proofs.Parts.{part_length, part_more, part_join, part_part}
use Rattle.used.specs.Searching.{EightIn, Compared, Given}

-- ---- one byte more

same_snoc : (xs ys : List ℕ) (x y : ℕ) → length xs ≡ length ys → same (xs ++ (x ∷ [])) (ys ++ (y ∷ [])) ≡ (same xs ys && eqb x y)
same_snoc [] [] x y e = and_same (eqb x y)
same_snoc [] (b ∷ ys) x y e = absurd (omega (arith, e))
same_snoc (a ∷ xs) [] x y e = absurd (omega (arith, e))
same_snoc (a ∷ xs) (b ∷ ys) x y e = go (eqb a b) (same_snoc xs ys x y (omega (arith, e)))
  where
    go : (c : Bool) → same (xs ++ (x ∷ [])) (ys ++ (y ∷ [])) ≡ (same xs ys && eqb x y) → (c && same (xs ++ (x ∷ [])) (ys ++ (y ∷ []))) ≡ ((c && same xs ys) && eqb x y)
    go true h = h
    go false h = refl

part_empty : (s : List ℕ) (i : ℕ) → part s i (i + 0) ≡ []
part_empty s i = let z : i + 0 - i ≡ 0 = omega arith in rw z

part_next : (s : List ℕ) (i k : ℕ) → i + 8 ≤ length s → k < 8 → part s i (i + (k + 1)) ≡ part s i (i + k) ++ (get_or s (i + k) 0 ∷ [])
part_next s i k h l = let z : i + (k + 1) ≡ i + k + 1 = omega arith in ap (part s i) z ∙ part_more s i (i + k) (omega arith) (omega arith)

pub eight_start : (a : List ℕ) (i : ℕ) (b : List ℕ) (j : ℕ) → Compared a i b j true 0
eight_start a i b j = record { few = omega arith; is = rw (part_empty a i, part_empty b j) }

module _ {a b : List ℕ} {i j k : ℕ} {equal : Bool} (r : EightIn a i b j) (v : Compared a i b j equal k) where
  pub eight_go : {e : Bool} → k < 8 → e ≡ (equal && eqb (get_or a (i + k) 0) (get_or b (j + k) 0)) → Compared a i b j e (k + 1)
  eight_go {e} h q = record {
    few = omega arith;
    is = q ∙ ap (λ (x : Bool). x && eqb (get_or a (i + k) 0) (get_or b (j + k) 0)) v.is
        ∙ sym (rw (part_next a i k r.first h, part_next b j k r.second h)
        (same_snoc (part a i (i + k)) (part b j (j + k)) (get_or a (i + k) 0) (get_or b (j + k) 0)
        (omega (arith, part_length a i (i + k) (omega arith) (omega (arith, r.first)), part_length b j (j + k) (omega arith) (omega (arith, r.second))))));
  }

  pub eight_done : 8 ≤ k → equal ≡ same (part a i (i + 8)) (part b j (j + 8))
  eight_done h = let z : k ≡ 8 = omega (arith, v.few) in subst (λ (n : ℕ). equal ≡ same (part a i (i + n)) (part b j (j + n))) z v.is

pub ruleset eight_laws = (eight_start, eight_go, eight_done)

-- ---- the two eights of an ID

-- bytes 0 to 7 and 6 to 13 are all 14
covered : (xs ys : List ℕ) → length xs ≡ 14 → length ys ≡ 14 → part xs 0 8 ≡ part ys 0 8 → part xs 6 14 ≡ part ys 6 14 → xs ≡ ys
covered xs ys l m p q = cut xs l ∙ ap (λ (x : List ℕ). x ++ part (part xs 6 14) 2 8) p ∙ ap (λ (x : List ℕ). part ys 0 8 ++ part x 2 8) q ∙ sym (cut ys m)
  where
    cut : (s : List ℕ) → length s ≡ 14 → s ≡ part s 0 8 ++ part (part s 6 14) 2 8
    cut s e =
        sym (take_all 14 s (omega (arith, e))) ∙ sym (part_join s 0 8 14 (omega arith) (omega arith))
        ∙ ap (λ (x : List ℕ). part s 0 8 ++ x) (sym (part_part s 6 14 2 8 (omega arith) (omega arith)))

module _ {u id : List ℕ} {at : ℕ} (g : Given u at id) where
  pub last_eight : EightIn u (at + 6) id 6
  last_eight = record { first = omega (arith, g.inside); second = omega (arith, g.ident) }

  pub first_eight : EightIn u at id 0
  first_eight = record { first = omega (arith, g.inside); second = omega (arith, g.ident) }

  abbrev here : List ℕ
  here = take 14 (drop at u)

  here_part : here ≡ part u at (at + 14)
  here_part = let z : at + 14 - at ≡ 14 = omega arith in rw z

  -- bytes 6 to 13 of an ID in the run
  last_part : part u (at + 6) (at + 6 + 8) ≡ part here 6 14
  last_part =
      let z : at + 14 ≡ at + 6 + 8 = omega arith in
      ap (part u (at + 6)) (sym z) ∙ sym (part_part u at (at + 14) 6 14 (omega arith) (omega arith)) ∙ ap (λ (x : List ℕ). part x 6 14) (sym here_part)

  first_part_lem : part u at (at + 8) ≡ part here 0 8
  first_part_lem =
      let z : at + 0 ≡ at = omega arith in
      ap (λ (i : ℕ). part u i (at + 8)) (sym z) ∙ sym (part_part u at (at + 14) 0 8 (omega arith) (omega arith)) ∙ ap (λ (x : List ℕ). part x 0 8) (sym here_part)

  pub last_differs : {r : Bool} → r ≡ same (part u (at + 6) (at + 6 + 8)) (part id 6 14) → r ≡ false → false ≡ same here id
  last_differs p q = go (same here id) refl
    where
      go : (b : Bool) → same here id ≡ b → false ≡ b
      go false h = refl
      go true h =
          let e : part u (at + 6) (at + 6 + 8) ≡ part id 6 14 = last_part ∙ ap (λ (x : List ℕ). part x 6 14) (same_true here id h) in
          sym q ∙ p ∙ ap (λ (x : List ℕ). same x (part id 6 14)) e ∙ same_refl (part id 6 14)

  pub first_decides : {r x : Bool} → r ≡ same (part u (at + 6) (at + 6 + 8)) (part id 6 14) → r ≡ true → x ≡ same (part u at (at + 8)) (part id 0 8) → x ≡ same here id
  first_decides {r} {x} p q e = go x e
    where
      last_same : part here 6 14 ≡ part id 6 14
      last_same = sym last_part ∙ same_true (part u (at + 6) (at + 6 + 8)) (part id 6 14) (sym p ∙ q)

      go : (x : Bool) → x ≡ same (part u at (at + 8)) (part id 0 8) → x ≡ same here id
      go true h =
          let e : part here 0 8 ≡ part id 0 8 = sym first_part_lem ∙ same_true (part u at (at + 8)) (part id 0 8) (sym h) in
          let w : here ≡ id = covered here id (length-take-le 14 (drop at u) (omega (arith, length-drop at u, g.inside))) g.ident e last_same in
          sym (ap (λ (y : List ℕ). same y id) w ∙ same_refl id)
      go false h = differs (same here id) refl
        where
          differs : (b : Bool) → same here id ≡ b → false ≡ b
          differs false k = refl
          differs true k =
              h ∙ ap (λ (y : List ℕ). same y (part id 0 8)) (first_part_lem ∙ ap (λ (y : List ℕ). part y 0 8) (same_true here id k)) ∙ same_refl (part id 0 8)

pub ruleset id_laws = (last_eight, first_eight, last_differs, first_decides)
