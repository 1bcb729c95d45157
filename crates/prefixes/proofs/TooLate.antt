-- Where it is too late for a record that direction 1 asks for, nothing that follows is accepted: a record that is taken leaves it too late, and
-- the end and what closes the group are refused. Assumes nothing.
use Prim.Native.Nat.{ℕ, ◌+◌}
use native.Mathlib.Omega.{arith}
use mathlib.Core.Path.{◌≡◌, refl, ap, sym, ◌∙◌}
use mathlib.Core.Bool.{Bool, true, false, not, ◌&&◌, ◌||◌, false≢true}
use mathlib.Core.List.{List, [], ◌∷◌}
use lib.Dec.{eqb}
use borrow.Author.Tests.{ne_eqb, eqb-true}
use Rattle.lists.specs.Lists.{member}
use Rattle.lists.proofs.Tests.{both}
use Rattle.order.specs.declared.Facts.{Facts}
use Rattle.rules.specs.Places.{in_front, in_rp, in_drugs, may_follow}
use Rattle.rules.specs.Rules.{unfinished}
use Rattle.grammar.specs.Grammar.{Details, rec, ◌⇒◌}
use Rattle.prefixes.specs.Prefixes.{late}
use Rattle.verdict.proofs.Computed.{Fn, In, Each, each, every, every_at, at_each, agree, member_in}
use Rattle.verdict.proofs.Machine.{Core, runs, finish}
use Rattle.verdict.proofs.Steps.{st, bf, to401, to411, to501, to601, to_end, rp_places, drug_places, rp_over, may_close, treats}
use Rattle.verdict.proofs.Steps.{at_end_lem, at_5, at_701, at_55, at_201, at_401, at_411, at_501, at_601}
use Rattle.verdict.proofs.Backwards.{numbers, first_or, known, details_of, took}
use Rattle.prefixes.proofs.GoingOn.{so}

abbrev pub group_places : List ℕ
group_places = 55 ∷ to_end

-- it is too late; and in front of the prescriptions there is no RP
abbrev pub lost_at : ℕ → Fn 6
lost_at p e q f i z u = (in_front p ⇒ z) && late (bf true p e q false f i z u false)

abbrev pub Lost : List Facts → Type 0
Lost rs = (p : ℕ) → In p group_places → (d : ℕ) (e : Bool) (k : ℕ) (f i : Bool) (v : ℕ) (u c : Bool)
    → lost_at p e (eqb k 4) f i (eqb v 0) u ≡ true → runs (st true p d e k f i v u c) rs ≡ true → ⊥

clash : {a b : Bool} → a ≡ true → a ≡ b → b ≡ false → ⊥
clash p q r = false≢true (sym r ∙ sym q ∙ p)

-- the group can't close
cant_close : {p : ℕ} (e : Bool) (k : ℕ) (f i : Bool) (v : ℕ) (u : Bool) → lost_at p e (eqb k 4) f i (eqb v 0) u ≡ true → In p to_end
    → may_close true p e (eqb k 4) f i (eqb v 0) u ≡ false
cant_close {p} e k f i v u l m =
    not_so (lost_at p e (eqb k 4) f i (eqb v 0) u) (may_close true p e (eqb k 4) f i (eqb v 0) u) l
    (at_each 6 (λ p e q f i z u. lost_at p e q f i z u ⇒ not (may_close true p e q f i z u)) (λ p e q f i z u. true) refl m e (eqb k 4) f i (eqb v 0) u)
  where
    not_so : (a b : Bool) → a ≡ true → (a ⇒ not b) ≡ true → b ≡ false
    not_so true true h g = absurd (false≢true g)
    not_so true false h g = refl
    not_so false b h g = absurd (false≢true h)

module _ (rs : List Facts) (ih : Lost rs) (p : ℕ) (m : In p group_places) (d : ℕ) (e : Bool) (k : ℕ) (f i : Bool) (v : ℕ) (u c : Bool)
    (l : lost_at p e (eqb k 4) f i (eqb v 0) u ≡ true) (b : Details) where
  abbrev now : Core
  now = st true p d e k f i v u c

  abbrev Refused : ℕ → Type 0
  Refused n = runs now (rec n b ∷ rs) ≡ true → ⊥

  narrow : (n : ℕ) (ys : List ℕ) → every (λ p. may_follow p n ⇒ member ys p) group_places ≡ true → may_follow p n ≡ true → In p ys
  narrow n ys t h = member_in p ys (so (may_follow p n) (member ys p) (every_at (λ p. may_follow p n ⇒ member ys p) t m) h)

  -- it stays too late after a record of number n, which was taken under the condition X
  keeps : (n : ℕ) (ys : List ℕ) (X : ℕ → Fn 6) (i2 u2 : Bool → Bool)
      → every (λ x. agree 6 (λ e q f i z u. lost_at x e q f i z u && X x e q f i z u ⇒ lost_at n e q f (i2 i) z (u2 u)) (λ e q f i z u. true)) ys ≡ true
      → In p ys → X p e (eqb k 4) f i (eqb v 0) u ≡ true → lost_at n e (eqb k 4) f (i2 i) (eqb v 0) (u2 u) ≡ true
  keeps n ys X i2 u2 t q x =
      so (lost_at p e (eqb k 4) f i (eqb v 0) u && X p e (eqb k 4) f i (eqb v 0) u) (lost_at n e (eqb k 4) f (i2 i) (eqb v 0) (u2 u))
      (at_each 6 (λ x e q f i z u. lost_at x e q f i z u && X x e q f i z u ⇒ lost_at n e q f (i2 i) z (u2 u)) (λ x e q f i z u. true) t q
      e (eqb k 4) f i (eqb v 0) u) (rw (l, x))

  -- records of the file's head can't stand in a group
  not_here : (n : ℕ) → every (λ p. may_follow p n ⇒ false) group_places ≡ true → Refused n
  not_here n t h = false≢true (so (may_follow p n) false (every_at (λ p. may_follow p n ⇒ false) t m) (took now (rec n b) rs h).follows)

  lost_1 : Refused 1
  unfolding may_follow
  lost_1 = not_here 1 refl

  lost_2 : Refused 2
  unfolding may_follow
  lost_2 = not_here 2 refl

  lost_3 : Refused 3
  unfolding may_follow
  lost_3 = not_here 3 refl

  lost_4 : Refused 4
  unfolding may_follow
  lost_4 = not_here 4 refl

  lost_5 : Refused 5
  unfolding may_follow
  lost_5 h =
      let t = took now (rec 5 b) rs h in
      let q = narrow 5 to_end refl t.follows in
      clash t.good (at_5 true d e k f i v u c b q) (rw (cant_close e k f i v u l q))

  lost_701 : Refused 701
  unfolding may_follow
  lost_701 h =
      let t = took now (rec 701 b) rs h in
      let q = narrow 701 to_end refl t.follows in
      clash t.good (at_701 true d e k f i v u c b q) (cant_close e k f i v u l q)

  -- after a 5 nothing is too late
  lost_11 : Refused 11
  unfolding may_follow
  lost_11 h =
      let t = took now (rec 11 b) rs h in
      let q = narrow 11 (5 ∷ []) refl t.follows in
      clash l (at_each 6 (λ p e q f i z u. lost_at p e q f i z u) (λ p e q f i z u. false) refl q e (eqb k 4) f i (eqb v 0) u) refl

  -- a 51 is had
  lost_51 : Refused 51
  unfolding may_follow
  lost_51 h =
      let t = took now (rec 51 b) rs h in
      let q = narrow 51 (15 ∷ 11 ∷ 5 ∷ []) refl t.follows in
      ih 51 (member_in 51 group_places refl) d e k true i v u c
      (so (lost_at p e (eqb k 4) f i (eqb v 0) u) (lost_at 51 e (eqb k 4) true i (eqb v 0) u)
      (at_each 6 (λ x e q f i z u. lost_at x e q f i z u ⇒ lost_at 51 e q true i z u) (λ x e q f i z u. true) refl q e (eqb k 4) f i (eqb v 0) u) l) t.rest

  -- a 55 closes an RP
  lost_55 : Refused 55
  unfolding may_follow
  lost_55 h =
      let t = took now (rec 55 b) rs h in
      let q = narrow 55 to401 refl t.follows in
      let x = both (in_rp p ⇒ c) (not (treats k) && not (in_rp p && not u)) (sym (at_55 true d e k f i v u c b q) ∙ t.good) in
      let y = both (not (treats k)) (not (in_rp p && not u)) x.1 in
      ih 55 (member_in 55 group_places refl) d e k f i v u true
      (keeps 55 to401 (λ x e q f i z u. not (in_rp x && not u)) (λ i. i) (λ u. u) refl q y.1) t.rest

  lost_15 : Refused 15
  unfolding may_follow
  lost_15 h =
      let t = took now (rec 15 b) rs h in
      let q = narrow 15 (11 ∷ 5 ∷ []) refl t.follows in
      ih 15 (member_in 15 group_places refl) d e k f i v u c
      (keeps 15 (11 ∷ 5 ∷ []) (λ x e q f i z u. true) (λ i. i) (λ u. u) refl q refl) t.rest

  lost_281 : Refused 281
  unfolding may_follow
  lost_281 h =
      let t = took now (rec 281 b) rs h in
      let q = narrow 281 (281 ∷ 201 ∷ []) refl t.follows in
      ih 281 (member_in 281 group_places refl) d e k f i v u c
      (keeps 281 (281 ∷ 201 ∷ []) (λ x e q f i z u. true) (λ i. i) (λ u. u) refl q refl) t.rest

  lost_291 : Refused 291
  unfolding may_follow
  lost_291 h =
      let t = took now (rec 291 b) rs h in
      let q = narrow 291 drug_places refl t.follows in
      ih 291 (member_in 291 group_places refl) d e k f i v u c
      (keeps 291 drug_places (λ x e q f i z u. true) (λ i. i) (λ u. u) refl q refl) t.rest

  lost_301 : Refused 301
  unfolding may_follow
  lost_301 h =
      let t = took now (rec 301 b) rs h in
      let q = narrow 301 drug_places refl t.follows in
      ih 301 (member_in 301 group_places refl) d e k f i v true c
      (keeps 301 drug_places (λ x e q f i z u. true) (λ i. i) (λ u. true) refl q refl) t.rest

  lost_311 : Refused 311
  unfolding may_follow
  lost_311 h =
      let t = took now (rec 311 b) rs h in
      let q = narrow 311 (311 ∷ 301 ∷ []) refl t.follows in
      ih 311 (member_in 311 group_places refl) d e k f i v u c
      (keeps 311 (311 ∷ 301 ∷ []) (λ x e q f i z u. true) (λ i. i) (λ u. u) refl q refl) t.rest

  lost_391 : Refused 391
  unfolding may_follow
  lost_391 h =
      let t = took now (rec 391 b) rs h in
      let q = narrow 391 rp_places refl t.follows in
      ih 391 (member_in 391 group_places refl) d e k f i v u c
      (keeps 391 rp_places (λ x e q f i z u. true) (λ i. i) (λ u. u) refl q refl) t.rest

  lost_401 : Refused 401
  unfolding may_follow
  lost_401 h =
      let t = took now (rec 401 b) rs h in
      let q = narrow 401 to411 refl t.follows in
      let x = sym (at_401 true d e k f i v u c b q) ∙ t.good in
      ih 401 (member_in 401 group_places refl) d e k f i v u c
      (keeps 401 to411 (λ x e q f i z u. rp_over true x u && (true ⇒ not z)) (λ i. i) (λ u. u) refl q x) t.rest

  lost_411 : Refused 411
  unfolding may_follow
  lost_411 h =
      let t = took now (rec 411 b) rs h in
      let q = narrow 411 to501 refl t.follows in
      let x = sym (at_411 true d e k f i v u c b q) ∙ t.good in
      ih 411 (member_in 411 group_places refl) d e k f true v u c
      (keeps 411 to501 (λ x e q f i z u. rp_over true x u) (λ i. true) (λ u. u) refl q x) t.rest

  lost_501 : Refused 501
  unfolding may_follow
  lost_501 h =
      let t = took now (rec 501 b) rs h in
      let q = narrow 501 to601 refl t.follows in
      let x = sym (at_501 true d e k f i v u c b q) ∙ t.good in
      ih 501 (member_in 501 group_places refl) d e k f i v u c
      (keeps 501 to601 (λ x e q f i z u. rp_over true x u) (λ i. i) (λ u. u) refl q x) t.rest

  lost_601 : Refused 601
  unfolding may_follow
  lost_601 h =
      let t = took now (rec 601 b) rs h in
      let q = narrow 601 to_end refl t.follows in
      let x = sym (at_601 true d e k f i v u c b q) ∙ t.good in
      ih 601 (member_in 601 group_places refl) d e k f i v u c
      (keeps 601 to_end (λ x e q f i z u. rp_over true x u) (λ i. i) (λ u. u) refl q x) t.rest

  -- a 201: its RP has the open value, or the next, which is not 0
  lost_201 : Refused 201
  unfolding may_follow
  lost_201 h =
      let t = took now (rec 201 b) rs h in
      let q = narrow 201 (55 ∷ to401) refl t.follows in
      let x = sym (at_201 true d e k f i v u c b q) ∙ t.good in
      ih 201 (member_in 201 group_places refl) d e k f i b.rp false c (by (eqb b.rp v) refl (eqb b.rp (v + 1)) refl q x) t.rest
    where
      -- what was taken, by the answers s and x, with z2 for "the new value is 0"
      stays : (z2 s x : Bool) → In p (55 ∷ to401) → (in_drugs p && s || not (in_rp p && not u) && x) ≡ true → ((s ⇒ (z2 ⇒ eqb v 0)) && (x ⇒ not z2)) ≡ true
          → lost_at 201 e (eqb k 4) f i z2 false ≡ true
      stays z2 s x q g n =
          so ((lost_at p e (eqb k 4) f i (eqb v 0) u && (in_drugs p && s || not (in_rp p && not u) && x)) && ((s ⇒ (z2 ⇒ eqb v 0)) && (x ⇒ not z2)))
          (lost_at 201 e (eqb k 4) f i z2 false)
          (at_each 8 (λ p e q f z u z2 s x. ((lost_at p e q f i z u && (in_drugs p && s || not (in_rp p && not u) && x)) && ((s ⇒ (z2 ⇒ z)) && (x ⇒ not z2)))
          ⇒ lost_at 201 e q f i z2 false)
          (λ p e q f z u z2 s x. true) refl q e (eqb k 4) f (eqb v 0) u z2 s x) (rw (l, g, n))

      by : (s : Bool) → eqb b.rp v ≡ s → (x : Bool) → eqb b.rp (v + 1) ≡ x → In p (55 ∷ to401) → (in_drugs p && s || not (in_rp p && not u) && x) ≡ true
          → lost_at 201 e (eqb k 4) f i (eqb b.rp 0) false ≡ true
      by true a true y q g = absurd (let z1 : b.rp ≡ v = eqb-true _ _ a in let z2 : b.rp ≡ v + 1 = eqb-true _ _ y in omega arith)
      by true a false y q g = stays (eqb b.rp 0) true false q g
          (rw (eqb-true b.rp v a) (at_each 1 (λ x z. (true ⇒ (z ⇒ z)) && (false ⇒ not z)) (λ x z. true) refl q (eqb v 0)))
      by false a true y q g = stays (eqb b.rp 0) false true q g
          (ap (λ z. not z) (ne_eqb b.rp 0 (λ z. let w : b.rp ≡ v + 1 = eqb-true _ _ y in absurd (omega arith))))
      by false a false y q g = stays (eqb b.rp 0) false false q g refl

  losts : Each Refused numbers
  losts = (
    lost_1,
    (
      lost_2,
      (
        lost_3,
        (
          lost_4,
          (
            lost_5,
            (
              lost_11,
              (
                lost_15,
                (
                  lost_51,
                  (
                    lost_55,
                    (
                      lost_201,
                      (lost_281, (lost_291, (lost_301, (lost_311, (lost_391, (lost_401, (lost_411, (lost_501, (lost_601, (lost_701, tt)))))))))),
                    ),
                  ),
                ),
              ),
            ),
          ),
        ),
      ),
    ),
  )

pub lost : (rs : List Facts) → Lost rs
unfolding unfinished
lost [] p m d e k f i v u c l h =
    first_or (λ p. (In p to_end → runs (st true p d e k f i v u c) [] ≡ true → ⊥) → runs (st true p d e k f i v u c) [] ≡ true → ⊥)
    (λ g h. false≢true (sym (finish (st true 55 d e k f i v u c)) ∙ h)) (λ m g h. g m h) m
    (λ m h. clash h (finish (st true p d e k f i v u c) ∙ at_end_lem true d e k f i v u c m) (cant_close e k f i v u l m)) h
lost (r ∷ rs) p m d e k f i v u c l h =
    each (λ n. runs (st true p d e k f i v u c) (rec n (details_of r) ∷ rs) ≡ true → ⊥) (losts rs (lost rs) p m d e k f i v u c l (details_of r))
    (known p r.number (took (st true p d e k f i v u c) r rs h).follows) h
