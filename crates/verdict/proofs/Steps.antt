-- What one record of a known number asks at each place where it may stand, as an equation, and what the end asks. Each is a computed test over
-- the places and the answers to the order's questions, so it depends on what the rules say and not on how they are written. Assumes nothing.
use Prim.Native.Nat.{ℕ, ◌+◌}
use mathlib.Core.Path.{◌≡◌, refl, ap, sym, ◌∙◌}
use mathlib.Core.Bool.{Bool, true, false, not, ◌&&◌, ◌||◌}
use mathlib.Core.List.{List, [], ◌∷◌}
use lib.Dec.{ltb, eqb}
use Rattle.lists.specs.Lists.{member}
use Rattle.lists.proofs.Tests.{member_left}
use Rattle.rules.specs.Places.{in_rp, in_drugs, in_group, may_follow}
use Rattle.rules.specs.Questions.{Before, Asked}
use Rattle.rules.specs.Rules.{pair_broken, misplaced, continues, closes_rp, lacking, missing, value_wrong, newer_group, order_refusal, unfinished}
use Rattle.grammar.specs.Grammar.{Details, rec, ◌⇒◌, name_asked}
use Rattle.verdict.proofs.Computed.{In, taut, agree, every, at_each}
use Rattle.verdict.proofs.Machine.{sound, Core, before, taken}

-- ---- states, and questions, by their parts

-- In a group. o: direction 1; p: the place; d: the group's day; e, k: it has had an 11, whose fee schedule is k; f, i: it has had a 51, a 411;
-- v: the open RP's value; u: that RP has had its 301; c: a doctor is named.
abbrev pub st : Bool → ℕ → ℕ → Bool → ℕ → Bool → Bool → ℕ → Bool → Bool → Core
st o p d e k f i v u c = record {
  provider = o;
  place = p;
  no_group = false;
  day = d;
  had11 = e;
  schedule = k;
  had51 = f;
  had411 = i;
  rp = v;
  had301 = u;
  no_doctor = not c;
}

-- the same as answers. q: the fee schedule is 4; t: it is 1 or 3; z: no RP yet
abbrev pub bf : Bool → ℕ → Bool → Bool → Bool → Bool → Bool → Bool → Bool → Bool → Before
bf o p e q t f i z u c = record {
  provider = o;
  place = p;
  no_group = false;
  had11 = e;
  dispensing = q;
  treating = t;
  had51 = f;
  had411 = i;
  no_rp = z;
  had301 = u;
  no_doctor = not c;
}

-- a record. s, x: its RP value is the open RP's, or one more; l: a newer day; a: the usage name stands; m: form 9 or 10
abbrev pub ask : ℕ → Bool → Bool → Bool → Bool → Bool → Asked
ask n s x l a m = record { number = n; same = s; next = x; newer = l; named = a; material = m }

abbrev pub material : Details → Bool
material b = member (9 ∷ 10 ∷ []) b.form

-- record n with details b, where the group is of day d and the open RP has value v
abbrev pub asking : ℕ → ℕ → ℕ → Details → Asked
asking n d v b = ask n (eqb b.rp v) (eqb b.rp (v + 1)) (ltb d b.day) b.named (material b)

-- before the first group
abbrev pub hd : Bool → ℕ → Core
hd o p = record {
  provider = o;
  place = p;
  no_group = true;
  day = 0;
  had11 = false;
  schedule = 0;
  had51 = false;
  had411 = false;
  rp = 0;
  had301 = false;
  no_doctor = true;
}

-- ---- places

abbrev pub rp_places : List ℕ
rp_places = 391 ∷ 311 ∷ 301 ∷ 291 ∷ 281 ∷ 201 ∷ []

abbrev pub drug_places : List ℕ
drug_places = 291 ∷ 281 ∷ 201 ∷ []

abbrev pub front_places : List ℕ
front_places = 51 ∷ 15 ∷ 11 ∷ 5 ∷ []

-- the places before 401s, 411s, 501s, 601s and the group's end
abbrev pub to401 : List ℕ
to401 = 391 ∷ 311 ∷ 301 ∷ 291 ∷ 281 ∷ 201 ∷ 51 ∷ 15 ∷ 11 ∷ 5 ∷ []

abbrev pub to411 : List ℕ
to411 = 401 ∷ to401

abbrev pub to501 : List ℕ
to501 = 411 ∷ to411

abbrev pub to601 : List ℕ
to601 = 501 ∷ to501

abbrev pub to_end : List ℕ
to_end = 601 ∷ to601

abbrev pub head_places : List ℕ
head_places = 4 ∷ 3 ∷ 2 ∷ 1 ∷ 0 ∷ []

-- ---- what is asked

-- direction 1: after a 51 stand prescriptions, and an RP has its 301
abbrev pub rp_over : Bool → ℕ → Bool → Bool
rp_over o p u = o ⇒ not (eqb p 51 || in_rp p && not u)

-- what a group lacks in direction 1
abbrev pub lacks : Bool → Bool → Bool → Bool → Bool → Bool
lacks e q f i z = not e || not z && q && not f || z && not i

-- the group may close
abbrev pub may_close : Bool → ℕ → Bool → Bool → Bool → Bool → Bool → Bool → Bool
may_close o p e q f i z u = o ⇒ not (eqb p 51 || in_rp p && not u || lacks e q f i z)

-- an 11 with 1 or 3
abbrev pub treats : ℕ → Bool
treats k = member (1 ∷ 3 ∷ []) k

-- ---- what the group lacks as one answer

-- A 5, a 701 and the end ask for e, q, f and i by it only, so that their tests go over y and not over these.
abbrev lk : Bool → ℕ → Bool → Bool → Bool → Bool → Bool → Before
lk o p y t z u c = bf o p (not y) false t false true z u c

abbrev may_close_by : Bool → ℕ → Bool → Bool → Bool
may_close_by o p y u = o ⇒ not (eqb p 51 || in_rp p && not u || y)

only : (y z : Bool) → y ≡ (not (not y) || not z && false && true || z && false)
only = taut 2 (λ y z. y) (λ y z. not (not y) || not z && false && true || z && false) refl

module _ (o : Bool) (p : ℕ) (e q t f i z u c : Bool) where
  lacked : lacking (bf o p e q t f i z u c) ≡ lacking (lk o p (lacks e q f i z) t z u c)
  unfolding lacking
  lacked = only (lacks e q f i z) z

  end_lacked : not (unfinished (bf o p e q t f i z u c)) ≡ not (unfinished (lk o p (lacks e q f i z) t z u c))
  unfolding unfinished
  end_lacked = rw lacked

  module _ (s x l a m : Bool) where
    5-lacked : sound (bf o p e q t f i z u c) (ask 5 s x l a m) ≡ sound (lk o p (lacks e q f i z) t z u c) (ask 5 s x l a m)
    unfolding order_refusal pair_broken misplaced missing value_wrong newer_group continues closes_rp
    5-lacked = rw lacked

    701-lacked : sound (bf o p e q t f i z u c) (ask 701 s x l a m) ≡ sound (lk o p (lacks e q f i z) t z u c) (ask 701 s x l a m)
    unfolding order_refusal pair_broken misplaced missing value_wrong newer_group continues closes_rp
    701-lacked = rw lacked

-- ---- in a group

module _ {p : ℕ} (o : Bool) (d : ℕ) (e : Bool) (k : ℕ) (f i : Bool) (v : ℕ) (u c : Bool) where
  pub at_end_lem : In p to_end → not (unfinished (before (st o p d e k f i v u c))) ≡ may_close o p e (eqb k 4) f i (eqb v 0) u
  unfolding unfinished lacking in_group
  at_end_lem m =
      end_lacked o p e (eqb k 4) (treats k) f i (eqb v 0) u c
      ∙ at_each 4 (λ p o y z u. not (unfinished (lk o p y (treats k) z u c))) (λ p o y z u. may_close_by o p y u) refl m
      o (lacks e (eqb k 4) f i (eqb v 0)) (eqb v 0) u

  module _ (b : Details) where
    pub at_5 : In p to_end → taken (st o p d e k f i v u c) (rec 5 b) ≡ (may_close o p e (eqb k 4) f i (eqb v 0) u && not (ltb d b.day))
    unfolding order_refusal pair_broken misplaced missing value_wrong newer_group may_follow in_group continues closes_rp lacking
    at_5 m =
        5-lacked o p e (eqb k 4) (treats k) f i (eqb v 0) u c (eqb b.rp v) (eqb b.rp (v + 1)) (ltb d b.day) b.named (material b)
        ∙ at_each 5 (λ p o y z u l. sound (lk o p y (treats k) z u c) (ask 5 (eqb b.rp v) (eqb b.rp (v + 1)) l b.named (material b)))
        (λ p o y z u l. may_close_by o p y u && not l) refl m o (lacks e (eqb k 4) f i (eqb v 0)) (eqb v 0) u (ltb d b.day)

    pub at_701 : In p to_end → taken (st o p d e k f i v u c) (rec 701 b) ≡ may_close o p e (eqb k 4) f i (eqb v 0) u
    unfolding order_refusal pair_broken misplaced missing value_wrong newer_group may_follow in_group continues closes_rp lacking
    at_701 m =
        701-lacked o p e (eqb k 4) (treats k) f i (eqb v 0) u c (eqb b.rp v) (eqb b.rp (v + 1)) (ltb d b.day) b.named (material b)
        ∙ at_each 4 (λ p o y z u. sound (lk o p y (treats k) z u c) (asking 701 d v b)) (λ p o y z u. may_close_by o p y u) refl m
        o (lacks e (eqb k 4) f i (eqb v 0)) (eqb v 0) u

    -- 11 and 15 ask nothing
    pub at_11 : In p (5 ∷ []) → taken (st o p d e k f i v u c) (rec 11 b) ≡ true
    unfolding order_refusal pair_broken misplaced missing value_wrong newer_group may_follow in_group continues closes_rp lacking
    at_11 m = at_each 1 (λ p o. sound (bf o p e (eqb k 4) (treats k) f i (eqb v 0) u c) (asking 11 d v b)) (λ p o. true) refl m o

    pub at_15 : In p (11 ∷ 5 ∷ []) → taken (st o p d e k f i v u c) (rec 15 b) ≡ true
    unfolding order_refusal pair_broken misplaced missing value_wrong newer_group may_follow in_group continues closes_rp lacking
    at_15 m = at_each 1 (λ p o. sound (bf o p e (eqb k 4) (treats k) f i (eqb v 0) u c) (asking 15 d v b)) (λ p o. true) refl m o

    pub at_51 : In p (15 ∷ 11 ∷ 5 ∷ []) → taken (st o p d e k f i v u c) (rec 51 b) ≡ (o ⇒ not (treats k))
    unfolding order_refusal pair_broken misplaced missing value_wrong newer_group may_follow in_group continues closes_rp lacking
    at_51 m =
        at_each 2 (λ p o t. sound (bf o p e (eqb k 4) t f i (eqb v 0) u c) (asking 51 d v b)) (λ p o t. o ⇒ not t) refl m
        o (treats k)

    pub at_55 : In p to401 → taken (st o p d e k f i v u c) (rec 55 b) ≡ ((in_rp p ⇒ c) && (o ⇒ not (treats k) && not (in_rp p && not u)))
    unfolding order_refusal pair_broken misplaced missing value_wrong newer_group may_follow in_group continues closes_rp lacking
    at_55 m =
        at_each 4 (λ p o t u c. sound (bf o p e (eqb k 4) t f i (eqb v 0) u c) (asking 55 d v b))
        (λ p o t u c. (in_rp p ⇒ c) && (o ⇒ not t && not (in_rp p && not u))) refl m o (treats k) u c

    -- a 201 continues its RP or begins the next
    pub at_201 : In p (55 ∷ to401)
        → taken (st o p d e k f i v u c) (rec 201 b) ≡ (in_drugs p && eqb b.rp v || (o ⇒ not (in_rp p && not u)) && eqb b.rp (v + 1))
    unfolding order_refusal pair_broken misplaced missing value_wrong newer_group may_follow in_group continues closes_rp lacking
    at_201 m =
        at_each 4 (λ p o u s x. sound (bf o p e (eqb k 4) (treats k) f i (eqb v 0) u c) (ask 201 s x (ltb d b.day) b.named (material b)))
        (λ p o u s x. in_drugs p && s || (o ⇒ not (in_rp p && not u)) && x) refl m o u (eqb b.rp v) (eqb b.rp (v + 1))

    pub at_301 : In p drug_places → taken (st o p d e k f i v u c) (rec 301 b) ≡ ((name_asked o k b.form ⇒ b.named) && eqb b.rp v)
    unfolding order_refusal pair_broken misplaced missing value_wrong newer_group may_follow in_group continues closes_rp lacking
    at_301 m =
        at_each 5 (λ p o q m a s. sound (bf o p e q (treats k) f i (eqb v 0) u c) (ask 301 s (eqb b.rp (v + 1)) (ltb d b.day) a m))
        (λ p o q m a s. ((o ⇒ q && not m) ⇒ a) && s) refl m o (eqb k 4) (material b) b.named (eqb b.rp v)
        ∙ ap (λ x. (x ⇒ b.named) && eqb b.rp v) (asked_of o)
      where
        asked_of : (o : Bool) → (o ⇒ eqb k 4 && not (material b)) ≡ name_asked o k b.form
        asked_of true = ap (λ (x : Bool). eqb k 4 && not x) (sym (member_left (9 ∷ 10 ∷ []) b.form))
        asked_of false = refl

    -- the other records of an RP ask for its value only
    module _ (n : ℕ) (xs : List ℕ) where
      at_value : every (λ p. agree 2 (λ o s. sound (bf o p e (eqb k 4) (treats k) f i (eqb v 0) u c)
          (ask n s (eqb b.rp (v + 1)) (ltb d b.day) b.named (material b))) (λ o s. s)) xs ≡ true
          → In p xs → taken (st o p d e k f i v u c) (rec n b) ≡ eqb b.rp v
      at_value w m =
          at_each 2 (λ p o s. sound (bf o p e (eqb k 4) (treats k) f i (eqb v 0) u c)
          (ask n s (eqb b.rp (v + 1)) (ltb d b.day) b.named (material b))) (λ p o s. s) w m o (eqb b.rp v)

    pub at_281 : In p (281 ∷ 201 ∷ []) → taken (st o p d e k f i v u c) (rec 281 b) ≡ eqb b.rp v
    unfolding order_refusal pair_broken misplaced missing value_wrong newer_group may_follow in_group continues closes_rp lacking
    at_281 = at_value 281 (281 ∷ 201 ∷ []) refl

    pub at_291 : In p drug_places → taken (st o p d e k f i v u c) (rec 291 b) ≡ eqb b.rp v
    unfolding order_refusal pair_broken misplaced missing value_wrong newer_group may_follow in_group continues closes_rp lacking
    at_291 = at_value 291 drug_places refl

    pub at_311 : In p (311 ∷ 301 ∷ []) → taken (st o p d e k f i v u c) (rec 311 b) ≡ eqb b.rp v
    unfolding order_refusal pair_broken misplaced missing value_wrong newer_group may_follow in_group continues closes_rp lacking
    at_311 = at_value 311 (311 ∷ 301 ∷ []) refl

    pub at_391 : In p rp_places → taken (st o p d e k f i v u c) (rec 391 b) ≡ eqb b.rp v
    unfolding order_refusal pair_broken misplaced missing value_wrong newer_group may_follow in_group continues closes_rp lacking
    at_391 = at_value 391 rp_places refl

    pub at_401 : In p to411 → taken (st o p d e k f i v u c) (rec 401 b) ≡ (rp_over o p u && (o ⇒ not (eqb v 0)))
    unfolding order_refusal pair_broken misplaced missing value_wrong newer_group may_follow in_group continues closes_rp lacking
    at_401 m =
        at_each 3 (λ p o z u. sound (bf o p e (eqb k 4) (treats k) f i z u c) (asking 401 d v b))
        (λ p o z u. rp_over o p u && (o ⇒ not z)) refl m o (eqb v 0) u

    -- the records after the 401s ask only that the RP be over
    module _ (n : ℕ) (xs : List ℕ) where
      at_rest : every (λ p. agree 2 (λ o u. sound (bf o p e (eqb k 4) (treats k) f i (eqb v 0) u c) (asking n d v b)) (λ o u. rp_over o p u)) xs ≡ true
          → In p xs → taken (st o p d e k f i v u c) (rec n b) ≡ rp_over o p u
      at_rest w m =
          at_each 2 (λ p o u. sound (bf o p e (eqb k 4) (treats k) f i (eqb v 0) u c) (asking n d v b)) (λ p o u. rp_over o p u) w m o u

    pub at_411 : In p to501 → taken (st o p d e k f i v u c) (rec 411 b) ≡ rp_over o p u
    unfolding order_refusal pair_broken misplaced missing value_wrong newer_group may_follow in_group continues closes_rp lacking
    at_411 = at_rest 411 to501 refl

    pub at_501 : In p to601 → taken (st o p d e k f i v u c) (rec 501 b) ≡ rp_over o p u
    unfolding order_refusal pair_broken misplaced missing value_wrong newer_group may_follow in_group continues closes_rp lacking
    at_501 = at_rest 501 to601 refl

    pub at_601 : In p to_end → taken (st o p d e k f i v u c) (rec 601 b) ≡ rp_over o p u
    unfolding order_refusal pair_broken misplaced missing value_wrong newer_group may_follow in_group continues closes_rp lacking
    at_601 = at_rest 601 to_end refl

-- ---- before the groups, and after them

-- record 1 has stood, where it is asked for
abbrev pub one_stood : Bool → ℕ → Bool
one_stood o p = o || not (eqb p 0)

module _ {p : ℕ} (o : Bool) where
  pub head_end : In p head_places → not (unfinished (before (hd o p))) ≡ (one_stood o p && not o)
  unfolding unfinished lacking in_group
  head_end m = at_each 1 (λ p o. not (unfinished (before (hd o p)))) (λ p o. one_stood o p && not o) refl m o

  module _ (b : Details) where
    -- 2s, 3s, 4s and the first 5 ask for record 1
    module _ (n : ℕ) (xs : List ℕ) where
      at_head : every (λ p. agree 1 (λ o. taken (hd o p) (rec n b)) (λ o. one_stood o p)) xs ≡ true → In p xs → taken (hd o p) (rec n b) ≡ one_stood o p
      at_head w m = at_each 1 (λ p o. taken (hd o p) (rec n b)) (λ p o. one_stood o p) w m o

    pub head_2 : In p (2 ∷ 1 ∷ 0 ∷ []) → taken (hd o p) (rec 2 b) ≡ one_stood o p
    unfolding order_refusal pair_broken misplaced missing value_wrong newer_group may_follow in_group continues closes_rp lacking
    head_2 = at_head 2 (2 ∷ 1 ∷ 0 ∷ []) refl

    pub head_3 : In p (3 ∷ 2 ∷ 1 ∷ 0 ∷ []) → taken (hd o p) (rec 3 b) ≡ one_stood o p
    unfolding order_refusal pair_broken misplaced missing value_wrong newer_group may_follow in_group continues closes_rp lacking
    head_3 = at_head 3 (3 ∷ 2 ∷ 1 ∷ 0 ∷ []) refl

    pub head_4 : In p head_places → taken (hd o p) (rec 4 b) ≡ one_stood o p
    unfolding order_refusal pair_broken misplaced missing value_wrong newer_group may_follow in_group continues closes_rp lacking
    head_4 = at_head 4 head_places refl

    pub head_5 : In p head_places → taken (hd o p) (rec 5 b) ≡ one_stood o p
    unfolding order_refusal pair_broken misplaced missing value_wrong newer_group may_follow in_group continues closes_rp lacking
    head_5 = at_head 5 head_places refl

    pub head_1 : In p (0 ∷ []) → taken (hd o p) (rec 1 b) ≡ true
    unfolding order_refusal pair_broken misplaced missing value_wrong newer_group may_follow in_group continues closes_rp lacking
    head_1 m = at_each 1 (λ p o. taken (hd o p) (rec 1 b)) (λ p o. true) refl m o

    -- a 701 before any group
    pub head_701 : In p head_places → taken (hd o p) (rec 701 b) ≡ (one_stood o p && not o)
    unfolding order_refusal pair_broken misplaced missing value_wrong newer_group may_follow in_group continues closes_rp lacking
    head_701 m = at_each 1 (λ p o. taken (hd o p) (rec 701 b)) (λ p o. one_stood o p && not o) refl m o
