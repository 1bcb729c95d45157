-- Each step of the small machine read backwards: what is still to come before a record, from what is still to come after it. By it a list that
-- the machine accepts is the records of a tree, which proofs/Groups.antt shows to be good. Assumes nothing.
use Prim.Native.Nat.{ℕ, ◌+◌}
use mathlib.Core.Path.{◌≡◌, refl, ap, sym, ◌∙◌, subst}
use mathlib.Core.Logic.{◌⊎◌, inl, inr, ⊎_elim}
use mathlib.Core.Bool.{Bool, true, false, not, cond, ◌&&◌, ◌||◌, false≢true}
use mathlib.Core.List.{List, [], ◌∷◌, ◌++◌}
use lib.Dec.{eqb}
use borrow.Author.Tests.{eq-eqb, eqb-true}
use Rattle.lists.specs.Lists.{member}
use Rattle.lists.proofs.Tests.{both, either, or_second, not_true', not_false'}
use Rattle.order.specs.declared.Facts.{Facts}
use Rattle.rules.specs.Places.{in_front, in_rp, in_drugs, look_up, pattern, may_follow}
use Rattle.rules.specs.Rules.{pair_broken, misplaced, continues, missing, value_wrong, newer_group, order_refusal, unfinished}
use Rattle.order.specs.State.{nothing_yet, start}
use Rattle.grammar.specs.Grammar.{Details, Tree, rec, opt, any_of, records, ◌⇒◌, Grammatical}
use Rattle.verdict.proofs.Computed.{taut, In, here, there, Each, each, every, every_at, at_each, member_in}
use Rattle.verdict.proofs.Machine.{Core, before, asked, taken, next, runs, finish, accepts, core_of, machine_core}
use Rattle.verdict.proofs.Steps.{rp_places, drug_places, front_places, to401, to411, to501, to601, to_end, head_places}
use Rattle.verdict.proofs.Prescriptions.{in_rp_lem}
use Rattle.verdict.proofs.Groups.{tree_run}
use Rattle.verdict.proofs.Open.{Any, anything, Over, FromGroups, From601, From501, From411, From401, FromLater, FromDrugs, From391, From311}
use Rattle.verdict.proofs.Open.{From291, From281}
use Rattle.verdict.proofs.Open.{FromRp, FromPrescriptions, From51, From15, From11, From4, From3, From2, From1, skip, put, pass, one_of}
use Rattle.verdict.proofs.Open.{add_drug, add_usage, no_usage, no_drug, begin_rp, no_more, add_rp, add_55, no_script, plain_script, doctor_script}
use Rattle.verdict.proofs.Open.{add_group, no_group_lem}

-- ---- places and numbers

-- the places at which a file may end, direction and group allowing
abbrev pub endable : List ℕ
endable = to_end ++ head_places

abbrev pub places : List ℕ
places = 701 ∷ 55 ∷ endable

abbrev pub numbers : List ℕ
numbers = 1 ∷ 2 ∷ 3 ∷ 4 ∷ 5 ∷ 11 ∷ 15 ∷ 51 ∷ 55 ∷ 201 ∷ 281 ∷ 291 ∷ 301 ∷ 311 ∷ 391 ∷ 401 ∷ 411 ∷ 501 ∷ 601 ∷ 701 ∷ []

pub split : {p : ℕ} {ys : List ℕ} (xs : List ℕ) → In p (xs ++ ys) → In p xs ⊎ In p ys
split [] m = inr m
split (x ∷ xs) here = inl here
split (x ∷ xs) (there m) = ⊎_elim (λ n. inl (there n)) (λ n. inr n) (split xs m)

pub first_or : {p x : ℕ} {xs : List ℕ} (P : ℕ → Type 0) → P x → (In p xs → P p) → In p (x ∷ xs) → P p
first_or P a f here = a
first_or P a f (there m) = f m

-- the places before a record of number n
pub before_n : (n : ℕ) (ys : List ℕ) → every (λ p. may_follow p n ⇒ member ys p) places ≡ true → {p : ℕ} → In p places → may_follow p n ≡ true → In p ys
before_n n ys t {p} m h = member_in p ys (so (may_follow p n) (member ys p) h (every_at (λ p. may_follow p n ⇒ member ys p) t m))
  where
    so : (a b : Bool) → a ≡ true → (a ⇒ b) ≡ true → b ≡ true
    so true b h g = g
    so false b h g = absurd (false≢true h)

-- a number that may follow some place has a row
abbrev heads : List (ℕ × Bool) → List ℕ
heads [] = []
heads (x ∷ xs) = x.0 ∷ heads xs

listed : (n : ℕ) (xs : List (ℕ × Bool)) → look_up n xs ≡ true → In n (heads xs)
listed n [] h = absurd (false≢true h)
listed n (x ∷ xs) h = by (eqb n x.0) refl (listed n xs) h
  where
    by : (b : Bool) → eqb n x.0 ≡ b → (look_up n xs ≡ true → In n (heads xs)) → cond b x.1 (look_up n xs) ≡ true → In n (x.0 ∷ heads xs)
    by true e f h = subst (λ y. In n (y ∷ heads xs)) (eqb-true n x.0 e) here
    by false e f h = there (f h)

pub known : (p n : ℕ) → may_follow p n ≡ true → In n numbers
unfolding may_follow
known p n h = listed n (pattern p) h

-- ---- what is still to come at place p; v: the open RP's value; c: a doctor is named

abbrev pick : Bool → Type 0 → Type 0 → Type 0
pick true X Y = X
pick false X Y = Y

abbrev Rest : ℕ → ℕ → Bool → List Facts → Type 0
Rest p v c rs =
    pick (eqb p 0) (From1 rs)
    (pick (eqb p 1 || eqb p 2) (From2 rs)
    (pick (eqb p 3) (From3 rs)
    (pick (eqb p 4) (From4 rs)
    (pick (eqb p 5) (From11 rs)
    (pick (eqb p 11) (From15 rs)
    (pick (eqb p 15) (From51 rs)
    (pick (eqb p 51) (FromPrescriptions rs)
    (pick (eqb p 55) (FromRp (v + 1) true rs)
    (pick (eqb p 201 || eqb p 281) (From281 v c rs)
    (pick (eqb p 291) (From291 v c rs)
    (pick (eqb p 301 || eqb p 311) (From311 v c rs)
    (pick (eqb p 391) (From391 v c rs)
    (pick (eqb p 401) (From401 rs)
    (pick (eqb p 411) (From411 rs)
    (pick (eqb p 501) (From501 rs)
    (pick (eqb p 601) (From601 rs)
    (Any 701 anything Over rs)))))))))))))))))

-- a part that may begin at several places
module _ {p : ℕ} (v : ℕ) (c : Bool) (rs : List Facts) where
  to_2 : In p (2 ∷ 1 ∷ 0 ∷ []) → From2 rs → Rest p v c rs
  to_2 = each (λ p. From2 rs → Rest p v c rs) (λ x. x, (λ x. x, (λ x. pass x, tt)))

  to_3 : In p (3 ∷ 2 ∷ 1 ∷ 0 ∷ []) → From3 rs → Rest p v c rs
  to_3 = first_or (λ p. From3 rs → Rest p v c rs) (λ x. x) (λ m x. to_2 m (skip x))

  to_4 : In p head_places → From4 rs → Rest p v c rs
  to_4 = first_or (λ p. From4 rs → Rest p v c rs) (λ x. x) (λ m x. to_3 m (skip x))

  to_11 : In p (5 ∷ []) → From11 rs → Rest p v c rs
  to_11 = each (λ p. From11 rs → Rest p v c rs) (λ x. x, tt)

  to_15 : In p (11 ∷ 5 ∷ []) → From15 rs → Rest p v c rs
  to_15 = first_or (λ p. From15 rs → Rest p v c rs) (λ x. x) (λ m x. to_11 m (pass x))

  to_51 : In p (15 ∷ 11 ∷ 5 ∷ []) → From51 rs → Rest p v c rs
  to_51 = first_or (λ p. From51 rs → Rest p v c rs) (λ x. x) (λ m x. to_15 m (pass x))

  to_prescriptions : In p front_places → FromPrescriptions rs → Rest p v c rs
  to_prescriptions = first_or (λ p. FromPrescriptions rs → Rest p v c rs) (λ x. x) (λ m x. to_51 m (pass x))

  to_281 : In p (281 ∷ 201 ∷ []) → From281 v c rs → Rest p v c rs
  to_281 = each (λ p. From281 v c rs → Rest p v c rs) (λ x. x, (λ x. x, tt))

  to_291 : In p drug_places → From291 v c rs → Rest p v c rs
  to_291 = first_or (λ p. From291 v c rs → Rest p v c rs) (λ x. x) (λ m x. to_281 m (skip x))

  to_drugs : In p drug_places → FromDrugs v c rs → Rest p v c rs
  to_drugs m x = to_291 m (skip x)

  to_311 : In p (311 ∷ 301 ∷ []) → From311 v c rs → Rest p v c rs
  to_311 = each (λ p. From311 v c rs → Rest p v c rs) (λ x. x, (λ x. x, tt))

  to_391 : In p rp_places → From391 v c rs → Rest p v c rs
  to_391 =
      first_or (λ p. From391 v c rs → Rest p v c rs) (λ x. x)
      (λ m x. ⊎_elim (λ m. to_311 m (skip x)) (λ m. to_drugs m (no_drug (no_usage x))) (split (311 ∷ 301 ∷ []) m))

  to_later : In p rp_places → FromLater v c rs → Rest p v c rs
  to_later m x = to_391 m (skip x)

  to_401 : In p to411 → From401 rs → Rest p v c rs
  to_401 =
      first_or (λ p. From401 rs → Rest p v c rs) (λ x. x)
      (λ m x. ⊎_elim (λ m. to_later m (no_more x)) (λ m. to_prescriptions m (no_script x)) (split rp_places m))

  to_411 : In p to501 → From411 rs → Rest p v c rs
  to_411 = first_or (λ p. From411 rs → Rest p v c rs) (λ x. x) (λ m x. to_401 m (skip x))

  to_501 : In p to601 → From501 rs → Rest p v c rs
  to_501 = first_or (λ p. From501 rs → Rest p v c rs) (λ x. x) (λ m x. to_411 m (skip x))

  to_601 : In p to_end → From601 rs → Rest p v c rs
  to_601 = first_or (λ p. From601 rs → Rest p v c rs) (λ x. x) (λ m x. to_501 m (skip x))

  to_groups : In p endable → FromGroups rs → Rest p v c rs
  to_groups m x = ⊎_elim (λ m. to_601 m (skip x)) (λ m. to_4 m (skip x)) (split to_end m)

-- ---- one record

-- what a record that is taken tells
pub record Told (c : Core) (r : Facts) : Type 0 where
  pub follows : may_follow c.place r.number ≡ true
  pub doctor : (eqb r.number 55 && in_rp c.place && c.no_doctor) ≡ false
  pub complete : missing (before c) (asked c r) ≡ false
  pub value : value_wrong (before c) (asked c r) ≡ false

pub told : (c : Core) (r : Facts) → taken c r ≡ true → Told c r
unfolding order_refusal misplaced
told c r h =
    let b = before c in
    let a = asked c r in
    let five =
    taut 5 (λ x y z u w. eqb (cond x 12 (cond y 13 (cond z 14 (cond u 15 (cond w 16 0))))) 0)
    (λ x y z u w. not x && (not y && (not z && (not u && not w)))) refl
    (pair_broken b a) (misplaced b a) (missing b a) (value_wrong b a) (newer_group b a) in
    let g1 = both (not (pair_broken b a)) _ (sym five ∙ h) in
    let g2 = both (not (misplaced b a)) (not (missing b a) && (not (value_wrong b a) && not (newer_group b a))) g1.1 in
    let g3 = both (not (missing b a)) (not (value_wrong b a) && not (newer_group b a)) g2.1 in
    let g4 = both (not (value_wrong b a)) (not (newer_group b a)) g3.1 in
    let placed = first_two _ _ _ _ _ (not_true' (misplaced b a) g2.0) in
    record { follows = placed.0; doctor = placed.1; complete = not_true' _ g3.0; value = not_true' _ g4.0 }
  where
    first_two : (a b c d e : Bool) → (not a || b || c || d || e) ≡ false → (a ≡ true) × (b ≡ false)
    first_two true true c d e h = absurd (false≢true (sym h))
    first_two true false c d e h = (refl, refl)
    first_two false b c d e h = absurd (false≢true (sym h))

-- the same, and that the machine runs on after it
pub record Took (c : Core) (r : Facts) (rs : List Facts) : Type 0 where
  pub good : taken c r ≡ true
  pub follows : may_follow c.place r.number ≡ true
  pub doctor : (eqb r.number 55 && in_rp c.place && c.no_doctor) ≡ false
  pub value : value_wrong (before c) (asked c r) ≡ false
  pub rest : runs (next c r) rs ≡ true

pub took : (c : Core) (r : Facts) (rs : List Facts) → runs c (r ∷ rs) ≡ true → Took c r rs
unfolding runs
took c r rs h =
    let g = both (taken c r) (runs (next c r) rs) h in
    let t = told c r g.0 in
    record { good = g.0; follows = t.follows; doctor = t.doctor; value = t.value; rest = g.1 }

-- in front of the prescriptions there is no RP and no doctor; after a 55 there is a doctor
abbrev v_at : ℕ → ℕ → ℕ
v_at p v = cond (in_front p) 0 v

abbrev c_at : ℕ → Bool → Bool
c_at p c = cond (in_front p) false (cond (eqb p 55) true c)

-- the state s, but at place p with RP value v and a doctor or not
abbrev at : Core → ℕ → ℕ → Bool → Core
at s p v c = record {
  provider = s.provider;
  place = p;
  no_group = s.no_group;
  day = s.day;
  had11 = s.had11;
  schedule = s.schedule;
  had51 = s.had51;
  had411 = s.had411;
  rp = v_at p v;
  had301 = s.had301;
  no_doctor = not (c_at p c);
}

-- what the machine runs through from any place is what is still to come there
abbrev Shaped : List Facts → Type 0
Shaped rs = (s : Core) (p : ℕ) → In p places → (v : ℕ) (c : Bool) → runs (at s p v c) rs ≡ true → Rest p (v_at p v) (c_at p c) rs

front_v : {p : ℕ} (v : ℕ) → In p front_places → v_at p v ≡ 0
front_v v m = each (λ p. v_at p v ≡ 0) (refl, (refl, (refl, (refl, tt)))) m

front_c : {p : ℕ} (c : Bool) → In p front_places → c_at p c ≡ false
front_c c m = each (λ p. c_at p c ≡ false) (refl, (refl, (refl, (refl, tt)))) m

drug_place : {p : ℕ} → In p rp_places → in_drugs p ≡ true → In p drug_places
drug_place m = each (λ p. in_drugs p ≡ true → In p drug_places)
    (λ e. absurd (false≢true e), (λ e. absurd (false≢true e), (λ e. absurd (false≢true e), (λ e. here, (λ e. there here, (λ e. there (there here), tt)))))) m

-- a later 55 stands only where a doctor was named
later_55 : {v : ℕ} {rs : List Facts} (b : Details) (c : Bool) → c ≡ true → FromRp (v + 1) true rs → FromLater v c (rec 55 b ∷ rs)
later_55 b true z y = add_55 b y
later_55 b false z y = absurd (false≢true z)

module _ (rs : List Facts) (ih : Shaped rs) (s : Core) (p : ℕ) (m : In p places) (v : ℕ) (c : Bool) (b : Details) where
  abbrev now : Core
  now = at s p v c

  -- a record of number n is put before what is still to come after it
  abbrev Step : ℕ → Type 0
  Step n = runs now (rec n b ∷ rs) ≡ true → Rest p (v_at p v) (c_at p c) (rec n b ∷ rs)

  -- what is still to come after it
  then : (n : ℕ) → member places n ≡ true → runs (at (next now (rec n b)) n (v_at p v) (c_at p c)) rs ≡ true → Rest n (v_at n (v_at p v)) (c_at n (c_at p c)) rs
  then n e z = ih (next now (rec n b)) n (member_in n places e) (v_at p v) (c_at p c) z

  step_1 : Step 1
  unfolding may_follow
  step_1 h =
      let t = took now (rec 1 b) rs h in
      let q = before_n 1 (0 ∷ []) refl m t.follows in
      each (λ p. From1 (rec 1 b ∷ rs) → Rest p (v_at p v) (c_at p c) (rec 1 b ∷ rs)) (λ x. x, tt) q (one_of b (then 1 refl t.rest))

  step_2 : Step 2
  unfolding may_follow
  step_2 h =
      let t = took now (rec 2 b) rs h in
      let q = before_n 2 (2 ∷ 1 ∷ 0 ∷ []) refl m t.follows in
      to_2 (v_at p v) (c_at p c) _ q (put b refl (then 2 refl t.rest))

  step_3 : Step 3
  unfolding may_follow
  step_3 h =
      let t = took now (rec 3 b) rs h in
      let q = before_n 3 (3 ∷ 2 ∷ 1 ∷ 0 ∷ []) refl m t.follows in
      to_3 (v_at p v) (c_at p c) _ q (put b refl (then 3 refl t.rest))

  step_4 : Step 4
  unfolding may_follow
  step_4 h =
      let t = took now (rec 4 b) rs h in
      let q = before_n 4 head_places refl m t.follows in
      to_4 (v_at p v) (c_at p c) _ q (put b refl (then 4 refl t.rest))

  step_5 : Step 5
  unfolding may_follow
  step_5 h =
      let t = took now (rec 5 b) rs h in
      let q = before_n 5 endable refl m t.follows in
      to_groups (v_at p v) (c_at p c) _ q (add_group b (then 5 refl t.rest))

  -- at the front the place tells that there is no RP and no doctor
  front : (n : ℕ) (xs : List ℕ) (X : Type 0) → Each (λ p. runs (next (at s p v c) (rec n b)) rs ≡ true → X) xs → In p xs
      → runs (next now (rec n b)) rs ≡ true → X
  front n xs X f q z = each (λ p. runs (next (at s p v c) (rec n b)) rs ≡ true → X) f q z

  step_11 : Step 11
  unfolding may_follow
  step_11 h =
      let t = took now (rec 11 b) rs h in
      let q = before_n 11 (5 ∷ []) refl m t.follows in
      let f = ih (next now (rec 11 b)) 11 (member_in 11 places refl) v c in
      to_11 (v_at p v) (c_at p c) _ q (one_of b (front 11 (5 ∷ []) (From15 rs) (f, tt) q t.rest))

  step_15 : Step 15
  unfolding may_follow
  step_15 h =
      let t = took now (rec 15 b) rs h in
      let q = before_n 15 (11 ∷ 5 ∷ []) refl m t.follows in
      let f = ih (next now (rec 15 b)) 15 (member_in 15 places refl) v c in
      to_15 (v_at p v) (c_at p c) _ q (one_of b (front 15 (11 ∷ 5 ∷ []) (From51 rs) (f, (f, tt)) q t.rest))

  step_51 : Step 51
  unfolding may_follow
  step_51 h =
      let t = took now (rec 51 b) rs h in
      let q = before_n 51 (15 ∷ 11 ∷ 5 ∷ []) refl m t.follows in
      let f = ih (next now (rec 51 b)) 51 (member_in 51 places refl) v c in
      to_51 (v_at p v) (c_at p c) _ q (one_of b (front 51 (15 ∷ 11 ∷ 5 ∷ []) (FromPrescriptions rs) (f, (f, (f, tt))) q t.rest))

  step_55 : Step 55
  unfolding may_follow
  step_55 h =
      let t = took now (rec 55 b) rs h in
      let y : FromRp (v_at p v + 1) true rs = then 55 refl t.rest in
      ⊎_elim (λ q. to_later (v_at p v) (c_at p c) _ q (later_55 b (c_at p c) (named (in_rp p) (c_at p c) (in_rp_lem q) t.doctor) y))
      (λ q. to_prescriptions (v_at p v) (c_at p c) _ q (doctor_script b (subst (λ w. FromRp (w + 1) true rs) (front_v v q) y)))
      (split rp_places (before_n 55 to401 refl m t.follows))
    where
      named : (a c : Bool) → a ≡ true → (a && not c) ≡ false → c ≡ true
      named true c e h = not_false' c h
      named false c e h = absurd (false≢true e)

  -- a 201 continues its RP or begins the next
  module _ (x : From281 b.rp (c_at p c) rs) (z : (in_drugs p && eqb b.rp (v_at p v) || eqb b.rp (v_at p v + 1)) ≡ true) where
    begun : eqb b.rp (v_at p v + 1) ≡ true → FromRp (v_at p v + 1) (c_at p c) (rec 201 b ∷ rs)
    begun e = subst (λ w. FromRp w (c_at p c) (rec 201 b ∷ rs)) (eqb-true _ _ e) (begin_rp b (eq-eqb b.rp b.rp refl) x)

    in_rp_201 : In p rp_places → Rest p (v_at p v) (c_at p c) (rec 201 b ∷ rs)
    in_rp_201 q =
        ⊎_elim (λ e. let w = both (in_drugs p) (eqb b.rp (v_at p v)) e in
        to_drugs (v_at p v) (c_at p c) _ (drug_place q w.0)
        (subst (λ w. FromDrugs w (c_at p c) (rec 201 b ∷ rs)) (eqb-true _ _ w.1) (add_drug b (eq-eqb b.rp b.rp refl) x)))
        (λ e. to_later (v_at p v) (c_at p c) _ q (add_rp (begun e)))
        (either (in_drugs p && eqb b.rp (v_at p v)) (eqb b.rp (v_at p v + 1)) z)

    first_201 : In p front_places → Rest p (v_at p v) (c_at p c) (rec 201 b ∷ rs)
    first_201 q =
        let e = or_second (in_drugs p && eqb b.rp (v_at p v)) (eqb b.rp (v_at p v + 1))
        (at_each 1 (λ p a. in_drugs p && a) (λ p a. false) refl q (eqb b.rp (v_at p v))) z in
        to_prescriptions (v_at p v) (c_at p c) _ q
        (plain_script (subst (λ c. FromRp 1 c (rec 201 b ∷ rs)) (front_c c q) (subst (λ w. FromRp (w + 1) (c_at p c) (rec 201 b ∷ rs)) (front_v v q) (begun e))))

  step_201 : Step 201
  unfolding may_follow value_wrong continues
  step_201 h =
      let t = took now (rec 201 b) rs h in
      let x : From281 b.rp (c_at p c) rs = ih (next now (rec 201 b)) 201 (member_in 201 places refl) b.rp (c_at p c) t.rest in
      let z =
      sym (taut 3 (λ a s y. not (not (a && s) && not y || false)) (λ a s y. a && s || y) refl (in_drugs p) (eqb b.rp (v_at p v)) (eqb b.rp (v_at p v + 1)))
      ∙ ap not t.value in
      first_or
      (λ p. (in_drugs p && eqb b.rp (v_at p v) || eqb b.rp (v_at p v + 1)) ≡ true
      → (eqb b.rp (v_at p v + 1) ≡ true → FromRp (v_at p v + 1) (c_at p c) (rec 201 b ∷ rs)) → Rest p (v_at p v) (c_at p c) (rec 201 b ∷ rs))
      (λ z f. f z) (λ q z f. ⊎_elim (in_rp_201 x z) (first_201 x z) (split rp_places q)) (before_n 201 (55 ∷ to401) refl m t.follows) z (begun x z)

  step_281 : Step 281
  unfolding may_follow value_wrong
  step_281 h =
      let t = took now (rec 281 b) rs h in
      let q = before_n 281 (281 ∷ 201 ∷ []) refl m t.follows in
      to_281 (v_at p v) (c_at p c) _ q (put b (not_false' _ t.value) (then 281 refl t.rest))

  step_291 : Step 291
  unfolding may_follow value_wrong
  step_291 h =
      let t = took now (rec 291 b) rs h in
      let q = before_n 291 drug_places refl m t.follows in
      to_291 (v_at p v) (c_at p c) _ q (put b (not_false' _ t.value) (then 291 refl t.rest))

  step_301 : Step 301
  unfolding may_follow value_wrong
  step_301 h =
      let t = took now (rec 301 b) rs h in
      let q = before_n 301 drug_places refl m t.follows in
      to_drugs (v_at p v) (c_at p c) _ q (no_drug (add_usage b (not_false' _ t.value) (then 301 refl t.rest)))

  step_311 : Step 311
  unfolding may_follow value_wrong
  step_311 h =
      let t = took now (rec 311 b) rs h in
      let q = before_n 311 (311 ∷ 301 ∷ []) refl m t.follows in
      to_311 (v_at p v) (c_at p c) _ q (put b (not_false' _ t.value) (then 311 refl t.rest))

  step_391 : Step 391
  unfolding may_follow value_wrong
  step_391 h =
      let t = took now (rec 391 b) rs h in
      let q = before_n 391 rp_places refl m t.follows in
      to_391 (v_at p v) (c_at p c) _ q (put b (not_false' _ t.value) (then 391 refl t.rest))

  step_401 : Step 401
  unfolding may_follow
  step_401 h =
      let t = took now (rec 401 b) rs h in
      let q = before_n 401 to411 refl m t.follows in
      to_401 (v_at p v) (c_at p c) _ q (put b refl (then 401 refl t.rest))

  step_411 : Step 411
  unfolding may_follow
  step_411 h =
      let t = took now (rec 411 b) rs h in
      let q = before_n 411 to501 refl m t.follows in
      to_411 (v_at p v) (c_at p c) _ q (put b refl (then 411 refl t.rest))

  step_501 : Step 501
  unfolding may_follow
  step_501 h =
      let t = took now (rec 501 b) rs h in
      let q = before_n 501 to601 refl m t.follows in
      to_501 (v_at p v) (c_at p c) _ q (put b refl (then 501 refl t.rest))

  step_601 : Step 601
  unfolding may_follow
  step_601 h =
      let t = took now (rec 601 b) rs h in
      let q = before_n 601 to_end refl m t.follows in
      to_601 (v_at p v) (c_at p c) _ q (put b refl (then 601 refl t.rest))

  step_701 : Step 701
  unfolding may_follow
  step_701 h =
      let t = took now (rec 701 b) rs h in
      let q = before_n 701 (701 ∷ endable) refl m t.follows in
      let x : Any 701 anything Over (rec 701 b ∷ rs) = put b refl (then 701 refl t.rest) in
      first_or (λ p. Rest p (v_at p v) (c_at p c) (rec 701 b ∷ rs)) x (λ q. to_groups (v_at p v) (c_at p c) _ q (no_group_lem x)) q

  steps : Each Step numbers
  steps = (
    step_1,
    (
      step_2,
      (
        step_3,
        (
          step_4,
          (
            step_5,
            (
              step_11,
              (
                step_15,
                (
                  step_51,
                  (
                    step_55,
                    (
                      step_201,
                      (step_281, (step_291, (step_301, (step_311, (step_391, (step_401, (step_411, (step_501, (step_601, (step_701, tt)))))))))),
                    ),
                  ),
                ),
              ),
            ),
          ),
        ),
      ),
    ),
  )

-- ---- all records

-- a record's details
abbrev pub details_of : Facts → Details
details_of r = record { rp = r.rp; day = r.day; schedule = r.schedule; form = r.form; named = r.named }

shaped : (rs : List Facts) → Shaped rs
unfolding unfinished
shaped [] s p m v c h =
    let Ends : ℕ → Type 0 = λ p. runs (at s p v c) [] ≡ true → Rest p (v_at p v) (c_at p c) [] in
    first_or Ends (λ z. skip refl)
    (λ m. first_or Ends (λ z. absurd (false≢true (sym (finish (at s 55 v c)) ∙ z))) (λ m z. to_groups (v_at p v) (c_at p c) [] m (no_group_lem (skip refl))) m) m h
shaped (r ∷ rs) s p m v c h =
    let t = took (at s p v c) r rs h in
    each (λ n. runs (at s p v c) (rec n (details_of r) ∷ rs) ≡ true → Rest p (v_at p v) (c_at p c) (rec n (details_of r) ∷ rs))
    (steps rs (shaped rs) s p m v c (details_of r)) (known p r.number t.follows) h

-- what the machine accepts, the grammar has
pub machine_grammar : (provider : Bool) (rs : List Facts) → accepts (start provider) rs ≡ true → Grammatical provider rs
unfolding start nothing_yet
machine_grammar provider rs h =
    let g : runs (core_of (start provider)) rs ≡ true = sym (machine_core rs (start provider)) ∙ h in
    let a1 : From1 rs = shaped rs (core_of (start provider)) 0 (member_in 0 places refl) 0 false g in
    let a2 = a1.after in
    let a3 = a2.after in
    let a4 = a3.after in
    let gs = a4.after in
    let t : Tree = record { r1 = a1.item; r2s = a2.items; r3s = a3.items; r4s = a4.items; groups = gs.gs; r701s = gs.zs } in
    let w4 = ap (any_of 4 a4.items) gs.written ∙ a4.written in
    let w3 = ap (any_of 3 a3.items) w4 ∙ a3.written in
    let w2 = ap (any_of 2 a2.items) w3 ∙ a2.written in
    let w : records t ≡ rs = ap (opt 1 a1.item) w2 ∙ a1.written in
    record { tree = t; written = w; meets = sym (tree_run provider t gs.valued_so) ∙ ap (runs (core_of (start provider))) w ∙ g }
