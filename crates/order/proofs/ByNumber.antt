-- What the rules come to for each record number: `of-N` is the refusal of a record of number N, in the order in which the code asks, with
-- tests joined as it joins them (`or_member`); a number that stands nowhere is refused by its place (`of_other`). Each goes by the part of the
-- pattern that the place is in; a place in one part is in no other (`isnt`, `off`). Numbers that are asked the same share a law over where they
-- may stand (`headed`, `fronted`, `kept`, `in_the_rest_lem`, `closes`). Assumes nothing.
use Prim.Native.Nat.{ℕ, ◌+◌}
use mathlib.Core.Path.{◌≡◌, refl, ap, sym, ◌∙◌}
use mathlib.Core.Logic.{◌⊎◌, inl, inr}
use mathlib.Core.Bool.{Bool, true, false, not, cond, ◌&&◌, ◌||◌, false≢true, and-true, and-false, or-true, or-false}
use mathlib.Core.List.{List, [], ◌∷◌}
use lib.Dec.{eqb, ltb}
use borrow.Author.Tests.{eqb-true}
use Rattle.order.specs.declared.Had.{Had}
use Rattle.order.specs.declared.State.{State}
use Rattle.order.specs.declared.Facts.{Facts}
use Rattle.order.specs.State.{On}
use Rattle.lists.specs.Lists.{member}
use Rattle.lists.proofs.Tests.{or_member, member_left, member_more, neither}
use Rattle.rules.specs.Places.{in_head, in_front, in_drugs, in_rp, in_rest, in_group, may_follow}
use Rattle.order.specs.Questions.{before_of, asked_of}
use Rattle.rules.specs.Rules.{pair_broken, misplaced, continues, closes_rp, lacking, missing, value_wrong, newer_group, order_refusal}
use Rattle.order.specs.State.{had_after, advance, refusal_of, rp_of, doctor_of}

-- ---- places

-- Q holds of one of xs
abbrev holds_among : (ℕ → Bool) → List ℕ → Bool
holds_among Q [] = false
holds_among Q (x ∷ xs) = Q x || holds_among Q xs

-- the places of in_rp
abbrev rp : List ℕ
rp = 201 ∷ 281 ∷ 291 ∷ 301 ∷ 311 ∷ 391 ∷ []

differs : (Q : ℕ → Bool) (p k : ℕ) → Q k ≡ false → Q p ≡ true → eqb p k ≡ false
differs Q p k f t = by (eqb p k) refl
  where
    by : (b : Bool) → eqb p k ≡ b → eqb p k ≡ false
    by false e = e
    by true e = absurd (false≢true (sym f ∙ ap Q (sym (eqb-true p k e)) ∙ t))

beyond : (Q : ℕ → Bool) (p : ℕ) (xs : List ℕ) → holds_among Q xs ≡ false → Q p ≡ true → member xs p ≡ false
beyond Q p [] n t = refl
beyond Q p (x ∷ xs) n t =
    let m = neither (Q x) (holds_among Q xs) n in
    rw (differs Q p x m.0 t) (beyond Q p xs m.1 t)

-- what is not of the front is no 51, and none of the others
no_front : (p : ℕ) → in_front p ≡ false → (member (5 ∷ 11 ∷ 15 ∷ []) p ≡ false) × (eqb p 51 ≡ false)
no_front p f =
    let a = neither (eqb p 5) _ f in
    let b = neither (eqb p 11) _ a.1 in
    let c = neither (eqb p 15) _ b.1 in
    (simp (a.0, b.0, c.0), (neither (eqb p 51) false c.1).0)

by_bool : {P : Type 0} (b : Bool) → (b ≡ true → P) → (b ≡ false → P) → P
by_bool true t f = t refl
by_bool false t f = f refl

-- ---- a record with its number written out

abbrev refusal_as : State → Facts → ℕ → ℕ
refusal_as s r n = order_refusal (before_of s) (record {
  number = n;
  same = (asked_of s r).same;
  next = (asked_of s r).next;
  newer = (asked_of s r).newer;
  named = (asked_of s r).named;
  material = (asked_of s r).material;
})

as_number : (s : State) (r : Facts) (n : ℕ) → r.number ≡ n → refusal_of s r ≡ refusal_as s r n
unfolding refusal_of
as_number s r n e = rw e

-- Nothing more, after a joined test. Not after every test: `p is one of xs` ends so, and is rewritten as a whole.
not_or : (a : Bool) → (not a || false) ≡ not a
not_or a = or-false (not a)

and_or : (a b : Bool) → (a && b || false) ≡ (a && b)
and_or a b = or-false (a && b)

or_or : (a b : Bool) → (a || b || false) ≡ (a || b)
or_or a b = or-false (a || b)

ruleset bools = (and-true, and-false, or-true, not_or, and_or, or_or)

module _ (s : State) (r : Facts) where
  -- where Q holds of the place, and not of k, it isn't k
  isnt : (Q : ℕ → Bool) (k : ℕ) → Q k ≡ false → Q s.place ≡ true → eqb s.place k ≡ false
  isnt Q k = differs Q s.place k

  -- where Q holds of the place, and of none of xs, it is none of xs
  off : (Q : ℕ → Bool) (xs : List ℕ) → holds_among Q xs ≡ false → Q s.place ≡ true → member xs s.place ≡ false
  off Q xs = beyond Q s.place xs

  -- direction 2, and record 1 doesn't stand
  abbrev no1 : Bool
  no1 = not s.provider && eqb s.place 0

  -- direction 1, and the place is in an RP without 301
  abbrev no301 : Bool
  no301 = s.provider && in_rp s.place && not s.had.had301

  -- What the rules come to where the number settles the rest: 13 for the place, which isn't after a 51 in direction 1; then 14, then `good`.
  abbrev settled : Bool → Bool → ℕ → ℕ
  settled stray lacks good = cond (stray || s.provider && eqb s.place 51) 13 (cond lacks 14 good)

  -- ---- before the prescriptions

  -- a record of the head, which may stand where Q holds
  headed : (Q : ℕ → Bool) (lacks : Bool) → Q 51 ≡ false → holds_among Q rp ≡ false
      → settled (not (Q s.place)) (lacks || no301) 0 ≡ cond (Q s.place) (cond lacks 14 0) 13
  headed Q lacks e n = by_bool (Q s.place) (λ h. simp (h, isnt Q 51 e h, off Q rp n h, and-false, or-false lacks)) (λ h. simp h)

  pub of_1 : r.number ≡ 1 → refusal_of s r ≡ cond (eqb s.place 0) 0 13
  unfolding order_refusal pair_broken misplaced may_follow continues closes_rp missing value_wrong newer_group
  of_1 q = rw (as_number s r 1 q) (simp bools (headed (λ p. eqb p 0) false refl refl))

  pub of_2 : r.number ≡ 2 → refusal_of s r ≡ cond (or_member false (0 ∷ 1 ∷ 2 ∷ []) s.place) (cond no1 14 0) 13
  unfolding order_refusal pair_broken misplaced may_follow continues closes_rp missing value_wrong newer_group
  of_2 q = rw (as_number s r 2 q, member_left (0 ∷ 1 ∷ 2 ∷ []) s.place) (simp bools (headed (member (0 ∷ 1 ∷ 2 ∷ [])) no1 refl refl))

  pub of_3 : r.number ≡ 3 → refusal_of s r ≡ cond (or_member false (0 ∷ 1 ∷ 2 ∷ 3 ∷ []) s.place) (cond no1 14 0) 13
  unfolding order_refusal pair_broken misplaced may_follow continues closes_rp missing value_wrong newer_group
  of_3 q = rw (as_number s r 3 q, member_left (0 ∷ 1 ∷ 2 ∷ 3 ∷ []) s.place) (simp bools (headed (member (0 ∷ 1 ∷ 2 ∷ 3 ∷ [])) no1 refl refl))

  pub of_4 : r.number ≡ 4 → refusal_of s r ≡ cond (in_head s.place) (cond no1 14 0) 13
  unfolding order_refusal pair_broken misplaced may_follow continues closes_rp missing value_wrong newer_group
  of_4 q = rw (as_number s r 4 q) (simp bools (headed in_head no1 refl refl))

  -- a record of the front after a 5, which may stand where Q holds and it isn't barred
  fronted : (Q : ℕ → Bool) (barred : Bool) → Q 0 ≡ false → Q 51 ≡ false → holds_among Q rp ≡ false
      → settled (not (Q s.place) || barred) (no1 || no301) 0 ≡ cond (Q s.place) (cond barred 13 0) 13
  fronted Q barred z e n =
      by_bool (Q s.place)
      (λ h. simp (h, isnt Q 0 z h, isnt Q 51 e h, off Q rp n h, and-false, or-false barred))
      (λ h. simp h)

  pub of_11 : r.number ≡ 11 → refusal_of s r ≡ cond (eqb s.place 5) 0 13
  unfolding order_refusal pair_broken misplaced may_follow continues closes_rp missing value_wrong newer_group
  of_11 q = rw (as_number s r 11 q) (simp bools (simp bools at (fronted (λ p. eqb p 5) false refl refl refl)))

  pub of_15 : r.number ≡ 15 → refusal_of s r ≡ cond (or_member false (5 ∷ 11 ∷ []) s.place) 0 13
  unfolding order_refusal pair_broken misplaced may_follow continues closes_rp missing value_wrong newer_group
  of_15 q = rw (as_number s r 15 q, member_left (5 ∷ 11 ∷ []) s.place) (simp bools (simp bools at (fronted (member (5 ∷ 11 ∷ [])) false refl refl refl)))

  pub of_51 : r.number ≡ 51 → refusal_of s r ≡ cond (or_member false (5 ∷ 11 ∷ 15 ∷ []) s.place)
      (cond (s.provider && member (1 ∷ 3 ∷ []) s.had.schedule) 13 0) 13
  unfolding order_refusal pair_broken misplaced may_follow continues closes_rp missing value_wrong newer_group
  of_51 q =
      rw (as_number s r 51 q, member_left (5 ∷ 11 ∷ 15 ∷ []) s.place)
      (simp bools (fronted (member (5 ∷ 11 ∷ 15 ∷ [])) (s.provider && member (1 ∷ 3 ∷ []) s.had.schedule) refl refl refl))

  pub of_55 : r.number ≡ 55 → refusal_of s r ≡ cond (in_rp s.place)
      (cond (eqb s.had.doctor 0 || s.provider && member (1 ∷ 3 ∷ []) s.had.schedule) 13
      (cond (s.provider && not s.had.had301) 14 0)) (cond (in_front s.place)
      (cond (s.provider && member (1 ∷ 3 ∷ []) s.had.schedule) 13 0) 13)
  unfolding order_refusal pair_broken misplaced may_follow continues closes_rp missing value_wrong newer_group
  of_55 q =
      rw (as_number s r 55 q)
      (by_bool (in_rp s.place)
      (λ h. simp (h, isnt in_rp 0 refl h, isnt in_rp 51 refl h, bools))
      (λ g. by_bool (in_front s.place)
      (λ h. simp (g, h, isnt in_front 0 refl h, bools))
      (λ h. simp (g, h, bools))))

  -- ---- a prescription

  pub of_201_on : r.number ≡ 201 → in_drugs s.place ≡ true → eqb r.rp s.had.rp ≡ true → refusal_of s r ≡ 0
  unfolding order_refusal pair_broken misplaced may_follow continues closes_rp missing value_wrong newer_group
  of_201_on q h e = rw (as_number s r 201 q) (simp (h, member_more (201 ∷ 281 ∷ 291 ∷ []) (301 ∷ 311 ∷ 391 ∷ []) s.place h, e, isnt in_drugs 0 refl h, bools))

  pub of_201_new : r.number ≡ 201 → (in_drugs s.place && eqb r.rp s.had.rp) ≡ false → refusal_of s r ≡ cond (in_rp s.place)
      (cond (s.provider && not s.had.had301) 14 (cond (not (eqb r.rp (s.had.rp + 1))) 15 0))
      (cond (in_front s.place || eqb s.place 55) (cond (not (eqb r.rp (s.had.rp + 1))) 15 0) 13)
  unfolding order_refusal pair_broken misplaced may_follow continues closes_rp missing value_wrong newer_group
  of_201_new q c =
      rw (as_number s r 201 q)
      (by_bool (in_rp s.place)
      (λ h. simp (h, c, isnt in_rp 0 refl h, bools))
      (λ g. by_bool (in_front s.place || eqb s.place 55)
      (λ h. simp (g, h, c, isnt (λ p. in_front p || eqb p 55) 0 refl h, bools))
      (λ h. simp (g, h, bools))))

  -- a record of the open RP but a 201; placed: it may stand here
  abbrev kept_rp : Bool → ℕ
  kept_rp placed = cond placed (cond (not (eqb r.rp s.had.rp)) 15 0) 13

  kept : (Q : ℕ → Bool) → Q 0 ≡ false → Q 51 ≡ false
      → settled (not (Q s.place)) no1 (cond (not (eqb r.rp s.had.rp)) 15 0) ≡ kept_rp (Q s.place)
  kept Q z e = by_bool (Q s.place) (λ h. simp (h, isnt Q 0 z h, isnt Q 51 e h, bools)) (λ h. simp h)

  pub of_281 : r.number ≡ 281 → refusal_of s r ≡ kept_rp (or_member false (201 ∷ 281 ∷ []) s.place)
  unfolding order_refusal pair_broken misplaced may_follow continues closes_rp missing value_wrong newer_group
  of_281 q = rw (as_number s r 281 q, member_left (201 ∷ 281 ∷ []) s.place) (simp bools (kept (member (201 ∷ 281 ∷ [])) refl refl))

  pub of_291 : r.number ≡ 291 → refusal_of s r ≡ kept_rp (in_drugs s.place)
  unfolding order_refusal pair_broken misplaced may_follow continues closes_rp missing value_wrong newer_group
  of_291 q = rw (as_number s r 291 q) (simp bools (kept in_drugs refl refl))

  pub of_301_named : r.number ≡ 301 → r.named ≡ true → refusal_of s r ≡ kept_rp (in_drugs s.place)
  unfolding order_refusal pair_broken misplaced may_follow continues closes_rp missing value_wrong newer_group
  of_301_named q e = rw (as_number s r 301 q) (simp (e, bools) (kept in_drugs refl refl))

  -- whether a 301 has to have a usage name
  abbrev pub named_here : Bool
  named_here = not s.provider || in_group s.place && eqb s.had.schedule 4 && not (or_member false (9 ∷ 10 ∷ []) r.form)

  pub of_301_unnamed : r.number ≡ 301 → r.named ≡ false → named_here ≡ true → refusal_of s r ≡ 12
  unfolding order_refusal pair_broken misplaced may_follow continues closes_rp missing value_wrong newer_group
  of_301_unnamed q e g = rw (as_number s r 301 q) (simp (e, rw (member_left (9 ∷ 10 ∷ []) r.form) at g))

  pub of_301_free : r.number ≡ 301 → r.named ≡ false → named_here ≡ false → refusal_of s r ≡ kept_rp (in_drugs s.place)
  unfolding order_refusal pair_broken misplaced may_follow continues closes_rp missing value_wrong newer_group
  of_301_free q e g = rw (as_number s r 301 q) (simp (e, rw (member_left (9 ∷ 10 ∷ []) r.form) at g, bools) (kept in_drugs refl refl))

  pub of_311 : r.number ≡ 311 → refusal_of s r ≡ kept_rp (or_member false (301 ∷ 311 ∷ []) s.place)
  unfolding order_refusal pair_broken misplaced may_follow continues closes_rp missing value_wrong newer_group
  of_311 q = rw (as_number s r 311 q, member_left (301 ∷ 311 ∷ []) s.place) (simp bools (kept (member (301 ∷ 311 ∷ [])) refl refl))

  pub of_391 : r.number ≡ 391 → refusal_of s r ≡ kept_rp (in_rp s.place)
  unfolding order_refusal pair_broken misplaced may_follow continues closes_rp missing value_wrong newer_group
  of_391 q = rw (as_number s r 391 q) (simp bools (kept in_rp refl refl))

  -- ---- after the prescriptions

  -- a record after the prescriptions that may stand after them, or where `after` holds
  abbrev pub in_the_rest : Bool → ℕ
  in_the_rest behind = cond (in_rp s.place) (cond (s.provider && not s.had.had301) 14 0) (cond (in_front s.place)
      (cond (s.provider && eqb s.place 51) 13 0) (cond behind 0 13))

  in_the_rest_lem : (Q : ℕ → Bool) → Q 0 ≡ false
      → settled (not (in_front s.place || in_rp s.place || Q s.place)) (no1 || no301) 0 ≡ in_the_rest (Q s.place)
  in_the_rest_lem Q z =
      by_bool (in_rp s.place)
      (λ h. simp (h, isnt in_rp 0 refl h, isnt in_rp 51 refl h, bools))
      (λ g. by_bool (in_front s.place)
      (λ h. simp (g, h, isnt in_front 0 refl h, bools))
      (λ f. let m = no_front s.place f in
      by_bool (Q s.place) (λ h. simp (g, m.0, m.1, h, isnt Q 0 z h, bools)) (λ h. simp (g, f, h))))

  pub of_401 : r.number ≡ 401 → refusal_of s r ≡ cond (s.provider && eqb s.had.rp 0) 13 (in_the_rest (eqb s.place 401))
  unfolding order_refusal pair_broken misplaced may_follow continues closes_rp missing value_wrong newer_group
  of_401 q =
      rw (as_number s r 401 q)
      (by_bool (s.provider && eqb s.had.rp 0)
      (λ z. simp (z, bools))
      (λ z. simp (z, bools) (in_the_rest_lem (λ p. eqb p 401) refl)))

  pub of_411 : r.number ≡ 411 → refusal_of s r ≡ in_the_rest (or_member false (401 ∷ 411 ∷ []) s.place)
  unfolding order_refusal pair_broken misplaced may_follow continues closes_rp missing value_wrong newer_group
  of_411 q = rw (as_number s r 411 q, member_left (401 ∷ 411 ∷ []) s.place) (simp bools (in_the_rest_lem (member (401 ∷ 411 ∷ [])) refl))

  pub of_501 : r.number ≡ 501 → refusal_of s r ≡ in_the_rest (or_member false (401 ∷ 411 ∷ 501 ∷ []) s.place)
  unfolding order_refusal pair_broken misplaced may_follow continues closes_rp missing value_wrong newer_group
  of_501 q = rw (as_number s r 501 q, member_left (401 ∷ 411 ∷ 501 ∷ []) s.place) (simp bools (in_the_rest_lem (member (401 ∷ 411 ∷ 501 ∷ [])) refl))

  pub of_601 : r.number ≡ 601 → refusal_of s r ≡ in_the_rest (in_rest s.place)
  unfolding order_refusal pair_broken misplaced may_follow continues closes_rp missing value_wrong newer_group
  of_601 q = rw (as_number s r 601 q) (simp bools (in_the_rest_lem in_rest refl))

  -- ---- what closes a group

  -- a record that closes the RP and the group before it, or stands outside of groups; `lacks` adds to what may be missing
  abbrev closing : Bool → (Bool → Bool) → ℕ → ℕ
  closing outside lacks good = cond (in_rp s.place)
      (cond (lacks (s.provider && not s.had.had301 || s.provider && lacking (before_of s))) 14 good)
      (cond (in_front s.place || in_rest s.place)
      (cond (s.provider && eqb s.place 51) 13 (cond (lacks (s.provider && lacking (before_of s))) 14 good))
      (cond outside (cond (lacks no1) 14 good) 13))

  -- such a record, which may stand in a group, in the head or after xs
  closes : (xs : List ℕ) (lacks : Bool → Bool) (good : ℕ) → or_member true xs s.place ≡ true → or_member (in_head 55) xs 55 ≡ false
      → settled (not (or_member (in_head s.place || in_front s.place || in_rp s.place || in_rest s.place) xs s.place))
      (lacks (no1 || no301 || s.provider && in_group s.place && lacking (before_of s))) good
      ≡ closing (or_member (in_head s.place) xs s.place) lacks good
  unfolding in_group
  closes xs lacks good u w =
      by_bool (in_rp s.place)
      (λ h. simp (h, u, isnt in_rp 0 refl h, isnt in_rp 51 refl h, bools))
      (λ g. by_bool (in_front s.place || in_rest s.place)
      (λ h. let Q : ℕ → Bool = λ p. in_front p || in_rest p in
      simp (g, h, u, isnt Q 0 refl h, off Q (1 ∷ 2 ∷ 3 ∷ 4 ∷ []) refl h, isnt Q 55 refl h, bools))
      (λ f. let n = neither (in_front s.place) (in_rest s.place) f in
      let m = no_front s.place n.0 in
      by_bool (or_member (in_head s.place) xs s.place)
      (λ h. simp (g, m.0, m.1, n.1, h, isnt (λ p. or_member (in_head p) xs p) 55 w h, bools))
      (λ h. simp (g, m.0, m.1, n.1, h, bools))))

  -- Such a record, by the part that the place is in, from what the code's calls answer: l of `lacking`, g of a good record.
  module _ (o : Bool) (lacks : Bool → Bool) {l : Bool} {good g k : ℕ} (p : l ≡ lacking (before_of s)) (q : g ≡ good) where
    pub closing_rp : {b : Bool} → b ≡ in_rp s.place → b ≡ true
        → k ≡ cond (lacks (s.provider && not s.had.had301 || s.provider && l)) 14 g → k ≡ closing o lacks good
    closing_rp i t e = simp (e, p, q, sym i ∙ t)

    pub closing_group : {b f h : Bool} {m : ℕ} → b ≡ in_rp s.place → b ≡ false → f ≡ in_front s.place → h ≡ in_rest s.place
        → (f || h) ≡ true → m ≡ cond (lacks (s.provider && l)) 14 g → k ≡ cond (s.provider && eqb s.place 51) 13 m
        → k ≡ closing o lacks good
    closing_group i u j v t w e = simp (e, w, p, q, sym i ∙ u, rw (j, v) at t)

    pub closing_else : {b f h : Bool} {m : ℕ} → b ≡ in_rp s.place → b ≡ false → f ≡ in_front s.place → h ≡ in_rest s.place
        → (f || h) ≡ false → m ≡ cond (lacks no1) 14 g → k ≡ cond o m 13 → k ≡ closing o lacks good
    closing_else i u j v t w e = simp (e, w, q, sym i ∙ u, rw (j, v) at t)

  pub of_5 : r.number ≡ 5
      → refusal_of s r ≡ closing (in_head s.place) (λ b. b) (cond (not (eqb s.groups 0) && ltb s.day r.day) 16 0)
  unfolding order_refusal pair_broken misplaced may_follow continues closes_rp missing value_wrong newer_group
  of_5 q = rw (as_number s r 5 q) (simp bools (closes [] (λ b. b) (cond (not (eqb s.groups 0) && ltb s.day r.day) 16 0) refl refl))

  pub of_701 : r.number ≡ 701
      → refusal_of s r ≡ closing (in_head s.place || eqb s.place 701) (λ b. b || s.provider && eqb s.groups 0) 0
  unfolding order_refusal pair_broken misplaced may_follow continues closes_rp missing value_wrong newer_group
  of_701 q = rw (as_number s r 701 q) (simp bools (closes (701 ∷ []) (λ b. b || s.provider && eqb s.groups 0) 0 refl refl))

pub of_other : (s : State) (r : Facts) → may_follow s.place r.number ≡ false → eqb r.number 301 ≡ false → refusal_of s r ≡ 13
unfolding refusal_of order_refusal pair_broken misplaced
of_other s r h e = simp (e, h)

-- ---- what a record of an RP but a 201 hands back

abbrev next : State → ℕ → Had → State
next s n h = record { provider = s.provider; place = n; line = s.line + 1; groups = s.groups; drugs = s.drugs; day = s.day; had = h }

abbrev OfOpenRp : ℕ → Type 0
OfOpenRp n = (n ≡ 281) ⊎ ((n ≡ 291) ⊎ ((n ≡ 301) ⊎ ((n ≡ 311) ⊎ (n ≡ 391))))

pub handed : (s : State) (r : Facts) {h : Had} → h ≡ had_after s.had r (s.line + 1) → OfOpenRp r.number
    → On (next s r.number h) r.rp s.had.doctor ≡ On (advance s r) (rp_of r) (doctor_of s r)
unfolding advance rp_of doctor_of
handed s r q (inl e) = simp (q, e)
handed s r q (inr (inl e)) = simp (q, e)
handed s r q (inr (inr (inl e))) = simp (q, e)
handed s r q (inr (inr (inr (inl e)))) = simp (q, e)
handed s r q (inr (inr (inr (inr e)))) = simp (q, e)
