-- What the small machine says of a group, of the groups and of the whole notebook; from it, that the machine accepts what the grammar has.
-- Assumes nothing.
use Prim.Native.Nat.{ℕ, suc, ◌≤◌}
use native.Mathlib.Omega.{arith}
use mathlib.Core.Path.{◌≡◌, refl, ap, sym, ◌∙◌}
use mathlib.Core.Bool.{Bool, true, false, not, ◌&&◌, ◌||◌, or-true, or-false, and-true}
use Rattle.std.specs.Prelude.{Option, Some, None}
use mathlib.Core.List.{List, [], ◌∷◌}
use lib.Dec.{leb, ltb, eqb}
use borrow.Author.Tests.{le-leb, lt-leb, leb-true, leb-false}
use Rattle.lists.proofs.Tests.{member_left, both}
use Rattle.order.specs.declared.Facts.{Facts}
use Rattle.rules.specs.Places.{in_rp, in_group, may_follow}
use Rattle.order.specs.State.{nothing_yet as no_had, start}
use Rattle.rules.specs.Rules.{pair_broken, misplaced, continues, closes_rp, lacking, missing, value_wrong, newer_group, order_refusal, unfinished}
use Rattle.grammar.specs.Grammar.{Details, Prescriptions, without_doctors, with_doctors, Group, Tree, rec, opt, any_of, plain_records, later_records}
use Rattle.grammar.specs.Grammar.{prescriptions_records, rest_records, groups_records, records, all_of, none_of, stands, ◌⇒◌, later_ones, rps, no55}
use Rattle.grammar.specs.Grammar.{schedule_of, usage_named, all_named, names, one_value, values_from, values, none_newer, days, each301, provider_asks, common, also, good, Grammatical}
use Rattle.verdict.proofs.Computed.{taut, In, here, there, at_each, among}
use Rattle.verdict.proofs.Machine.{before, taken, runs, step, finish, accepts, core_of, machine_core}
use Rattle.verdict.proofs.Steps.{st, hd, front_places, to401, to411, to501, to601, to_end, head_places, rp_over, lacks, may_close, treats, one_stood}
use Rattle.verdict.proofs.Steps.{at_end_lem, at_5, at_701, at_11, at_15, at_51, at_55, at_401, at_411, at_501, at_601}
use Rattle.verdict.proofs.Steps.{head_end, head_1, head_2, head_3, head_4, head_5, head_701}
use Rattle.verdict.proofs.Prescriptions.{Behind, rp_read, plain_read, later_read, usages}

-- ---- after the prescriptions

module _ (o : Bool) (d : ℕ) (K : Bool) where
  -- the group may close, and what follows says K
  abbrev pub Closes : List ℕ → List Facts → Type 0
  Closes xs rs = (p : ℕ) → In p xs → (e : Bool) (k : ℕ) (f i : Bool) (v : ℕ) (u c : Bool)
      → runs (st o p d e k f i v u c) rs ≡ (may_close o p e (eqb k 4) f i (eqb v 0) u && K)

  over : (p : ℕ) (u l : Bool) → (rp_over o p u && ((o ⇒ not l) && K)) ≡ ((o ⇒ not (eqb p 51 || in_rp p && not u || l)) && K)
  over p u l =
      taut 5 (λ o a x l K. (o ⇒ not (a || x)) && ((o ⇒ not l) && K)) (λ o a x l K. (o ⇒ not (a || x || l)) && K) refl o (eqb p 51) (in_rp p && not u) l K

  any_601 : (rs : List Facts) → Closes to_end rs → (bs : List Details) → Closes to_end (any_of 601 bs rs)
  any_601 rs h [] p m e k f i v u c = h p m e k f i v u c
  any_601 rs h (b ∷ bs) p m e k f i v u c =
      step (st o p d e k f i v u c) (rec 601 b) _ (at_601 o d e k f i v u c b m)
      ∙ ap (λ y. rp_over o p u && y) (any_601 rs h bs 601 here e k f i v u c)
      ∙ over p u (lacks e (eqb k 4) f i (eqb v 0))

  any_501 : (rs : List Facts) → Closes to_end rs → (bs : List Details) → Closes to601 (any_of 501 bs rs)
  any_501 rs h [] p m e k f i v u c = h p (there m) e k f i v u c
  any_501 rs h (b ∷ bs) p m e k f i v u c =
      step (st o p d e k f i v u c) (rec 501 b) _ (at_501 o d e k f i v u c b m)
      ∙ ap (λ y. rp_over o p u && y) (any_501 rs h bs 501 here e k f i v u c)
      ∙ over p u (lacks e (eqb k 4) f i (eqb v 0))

  any_411 : (rs : List Facts) → Closes to601 rs → (bs : List Details) (p : ℕ) → In p to501 → (e : Bool) (k : ℕ) (f i : Bool) (v : ℕ) (u c : Bool)
      → runs (st o p d e k f i v u c) (any_of 411 bs rs) ≡ (may_close o p e (eqb k 4) f (not (none_of bs) || i) (eqb v 0) u && K)
  any_411 rs h [] p m e k f i v u c = h p (there m) e k f i v u c
  any_411 rs h (b ∷ bs) p m e k f i v u c =
      step (st o p d e k f i v u c) (rec 411 b) _ (at_411 o d e k f i v u c b m)
      ∙ ap (λ y. rp_over o p u && y) (any_411 rs h bs 411 here e k f true v u c)
      ∙ ap (λ z. rp_over o p u && (may_close o 411 e (eqb k 4) f z (eqb v 0) u && K)) (or-true (not (none_of bs)))
      ∙ over p u (lacks e (eqb k 4) f true (eqb v 0))

module _ (o : Bool) (d : ℕ) (K : Bool) (g : Group) (rs : List Facts) (h : Closes o d K to_end rs) where
  abbrev behind401 : List Facts
  behind401 = any_of 411 g.r411s (any_of 501 g.r501s (any_of 601 g.r601s rs))

  -- a 411 stands
  abbrev has411 : Bool
  has411 = not (none_of g.r411s)

  any_401 : (ys : List Details) (p : ℕ) → In p to411 → (e : Bool) (k : ℕ) (f : Bool) (v : ℕ) (u c : Bool)
      → runs (st o p d e k f false v u c) (any_of 401 ys behind401) ≡ ((o ⇒ (eqb v 0 ⇒ none_of ys)) && (may_close o p e (eqb k 4) f has411 (eqb v 0) u && K))
  any_401 [] p m e k f v u c =
      any_411 o d K _ (any_501 o d K _ (any_601 o d K rs h g.r601s) g.r501s) g.r411s p (there m) e k f false v u c
      ∙ ap (λ z. may_close o p e (eqb k 4) f z (eqb v 0) u && K) (or-false has411)
      ∙ taut 3 (λ o z x. x) (λ o z x. (o ⇒ (z ⇒ true)) && x) refl o (eqb v 0) (may_close o p e (eqb k 4) f has411 (eqb v 0) u && K)
  any_401 (y ∷ ys) p m e k f v u c =
      step (st o p d e k f false v u c) (rec 401 y) _ (at_401 o d e k f false v u c y m)
      ∙ ap (λ z. (rp_over o p u && (o ⇒ not (eqb v 0))) && z) (any_401 ys 401 here e k f v u c)
      ∙ taut 7 (λ o z a x l y K. ((o ⇒ not (a || x)) && (o ⇒ not z)) && ((o ⇒ (z ⇒ y)) && ((o ⇒ not l) && K)))
      (λ o z a x l y K. (o ⇒ (z ⇒ false)) && ((o ⇒ not (a || x || l)) && K)) refl
      o (eqb v 0) (eqb p 51) (in_rp p && not u) (lacks e (eqb k 4) f has411 (eqb v 0)) (none_of ys) K

  -- direction 1: an 11, and the 51 of a pharmacy
  abbrev owed : Bool → ℕ → Bool → Bool
  owed e k f = o ⇒ e && (eqb k 4 ⇒ f)

  behind_rp : (e : Bool) (k : ℕ) (f c : Bool) (v : ℕ) → eqb v 0 ≡ false → Behind o d e k f false v c (owed e k f && K) (rest_records g rs)
  behind_rp e k f c v z p m u =
      any_401 g.r401s p (among to411 refl m) e k f v u c
      ∙ rw z
      (at_each 7 (λ p o y u e q f K. (o ⇒ (false ⇒ y)) && (may_close o p e q f has411 false u && K))
      (λ p o y u e q f K. (o ⇒ u) && ((o ⇒ e && (q ⇒ f)) && K)) refl m
      o (none_of g.r401s) u e (eqb k 4) f K)

  -- ---- the prescriptions

  -- direction 1, of a group whose 51 stands or not (f), directly before the prescriptions or not (a)
  abbrev asks : Bool → ℕ → Bool → Bool → Bool → Prescriptions → Bool
  asks e k f a b x =
      e && (each301 (rps x) &&
      ((treats k ⇒ b && no55 x) && ((not (none_of (rps x)) && eqb k 4 ⇒ f) && ((a ⇒ not (none_of (rps x))) && (none_of (rps x) ⇒ has411 && none_of g.r401s)))))

  guarded : (a x y : Bool) → (a ≡ true → x ≡ y) → (a && x) ≡ (a && y)
  guarded true x y h = h refl
  guarded false x y h = refl

  prescriptions_read : (x : Prescriptions) → values_from 1 (rps x) ≡ true → (p : ℕ) → In p front_places → (e : Bool) (k : ℕ) (f : Bool)
      → runs (st o p d e k f false 0 false false) (prescriptions_records x (rest_records g rs)) ≡
      ((all_named o k (rps x) && (o ⇒ asks e k f (eqb p 51) true x)) && K)
  prescriptions_read (without_doctors []) w p m e k f =
      any_401 g.r401s p (among to411 refl m) e k f 0 false false
      ∙ at_each 7 (λ p o e t q y z K. (o ⇒ z) && (may_close o p e q f y true false && K))
      (λ p o e t q y z K. (o ⇒ e && ((t ⇒ true) && ((eqb p 51 ⇒ false) && (y && z)))) && K) refl m
      o e (treats k) (eqb k 4) has411 (none_of g.r401s) K
  prescriptions_read (without_doctors (x ∷ ps)) w p m e k f =
      let w2 = both (one_value 1 x) (values_from 2 ps) w in
      rp_read o d e k f false 0 false false (usages o d e k f false ps && (owed e k f && K)) (plain_records ps (rest_records g rs)) x w2.0
      (plain_read o d e k f false false (owed e k f && K) (rest_records g rs) (behind_rp e k f false) ps 1 refl w2.1) p (among (55 ∷ to401) refl m)
      ∙ at_each 10 (λ p o n s m x e q f t K. (o ⇒ not (in_rp p && true)) && (n && ((o ⇒ s) && ((m && (o ⇒ x)) && ((o ⇒ e && (q ⇒ f)) && K)))))
      (λ p o n s m x e q f t K. ((n && m) && (o ⇒ e && ((s && x) && ((t ⇒ true) && ((q ⇒ f) && ((eqb p 51 ⇒ true) && true)))))) && K) refl m
      o (usage_named o k x.usage) (stands x.usage) (all_named o k ps) (each301 ps) e (eqb k 4) f (treats k) K
  prescriptions_read (with_doctors b x ls) w p m e k f =
      let w2 = both (one_value 1 x) (values_from 2 (later_ones ls)) w in
      step (st o p d e k f false 0 false false) (rec 55 b) _ (at_55 o d e k f false 0 false false b (among to401 refl m) ∙ no_rp_yet)
      ∙ guarded (o ⇒ not (treats k)) _ _ (λ t.
      rp_read o d e k f false 0 false true (usages o d e k f false (later_ones ls) && (owed e k f && K)) (later_records ls (rest_records g rs)) x w2.0
      (later_read o d e k f false (owed e k f && K) (rest_records g rs) t (behind_rp e k f true) ls 1 refl w2.1) 55 here)
      ∙ at_each 10 (λ p o n s m x e q f t K. (o ⇒ not t) && ((o ⇒ true) && (n && ((o ⇒ s) && ((m && (o ⇒ x)) && ((o ⇒ e && (q ⇒ f)) && K))))))
      (λ p o n s m x e q f t K. ((n && m) && (o ⇒ e && ((s && x) && ((t ⇒ false) && ((q ⇒ f) && ((eqb p 51 ⇒ true) && true)))))) && K) refl m
      o (usage_named o k x.usage) (stands x.usage) (all_named o k (later_ones ls)) (each301 (later_ones ls)) e (eqb k 4) f (treats k) K
    where
      no_rp_yet : ((in_rp p ⇒ false) && (o ⇒ not (treats k) && not (in_rp p && true))) ≡ (o ⇒ not (treats k))
      no_rp_yet = at_each 2 (λ p o t. (in_rp p ⇒ false) && (o ⇒ not t && not (in_rp p && true))) (λ p o t. o ⇒ not t) refl m o (treats k)

  -- ---- the front of a group

  abbrev whole : Bool → ℕ → Option Details → Prescriptions → Bool
  whole e k r51 x = (all_named o k (rps x) && (o ⇒ asks e k (stands r51) (stands r51) (not (stands r51)) x)) && K

  read_51 : (x : Prescriptions) → values_from 1 (rps x) ≡ true → (r51 : Option Details) (p : ℕ) → In p (15 ∷ 11 ∷ 5 ∷ []) → (e : Bool) (k : ℕ)
      → runs (st o p d e k false false 0 false false) (opt 51 r51 (prescriptions_records x (rest_records g rs))) ≡ whole e k r51 x
  read_51 x w None p m e k =
      prescriptions_read x w p (there m) e k false
      ∙ ap (λ a. (all_named o k (rps x) && (o ⇒ asks e k false a true x)) && K) (at_each 0 (λ p. eqb p 51) (λ p. false) refl m)
  read_51 x w (Some b) p m e k =
      step (st o p d e k false false 0 false false) (rec 51 b) _ (at_51 o d e k false false 0 false false b m)
      ∙ ap (λ z. (o ⇒ not (treats k)) && z) (prescriptions_read x w 51 here e k true)
      ∙ taut 10 (λ o t n e s y q r z K. (o ⇒ not t) && ((n && (o ⇒ e && (s && ((t ⇒ y) && ((q ⇒ true) && (r && z)))))) && K))
      (λ o t n e s y q r z K. (n && (o ⇒ e && (s && ((t ⇒ false) && ((q ⇒ true) && (r && z)))))) && K) refl
      o (treats k) (all_named o k (rps x)) e (each301 (rps x)) (no55 x) (not (none_of (rps x)) && eqb k 4) (not (none_of (rps x)))
      (none_of (rps x) ⇒ has411 && none_of g.r401s) K

  read_15 : (x : Prescriptions) → values_from 1 (rps x) ≡ true → (r51 r15 : Option Details) (p : ℕ) → In p (11 ∷ 5 ∷ []) → (e : Bool) (k : ℕ)
      → runs (st o p d e k false false 0 false false) (opt 15 r15 (opt 51 r51 (prescriptions_records x (rest_records g rs)))) ≡ whole e k r51 x
  read_15 x w r51 None p m e k = read_51 x w r51 p (there m) e k
  read_15 x w r51 (Some b) p m e k =
      step (st o p d e k false false 0 false false) (rec 15 b) _ (at_15 o d e k false false 0 false false b m) ∙ read_51 x w r51 15 here e k

  read_11 : (x : Prescriptions) → values_from 1 (rps x) ≡ true → (r51 r15 r11 : Option Details)
      → runs (st o 5 d false 0 false false 0 false false) (opt 11 r11 (opt 15 r15 (opt 51 r51 (prescriptions_records x (rest_records g rs)))))
      ≡ whole (stands r11) (schedule_of r11) r51 x
  read_11 x w r51 r15 None = read_15 x w r51 r15 5 (there here) false 0
  read_11 x w r51 r15 (Some b) =
      step (st o 5 d false 0 false false 0 false false) (rec 11 b) _ (at_11 o d false 0 false false 0 false false b here)
      ∙ read_15 x w r51 r15 11 here true b.schedule

-- ---- groups

abbrev group_good : Bool → Group → Bool
group_good o g = names o g && (o ⇒ provider_asks g)

-- a group after its 5
group_read : (o : Bool) (d : ℕ) (K : Bool) (rs : List Facts) → Closes o d K to_end rs → (g : Group) → values g ≡ true
    → runs (st o 5 d false 0 false false 0 false false)
    (opt 11 g.r11 (opt 15 g.r15 (opt 51 g.r51 (prescriptions_records g.prescriptions (rest_records g rs)))))
    ≡ (group_good o g && K)
group_read o d K rs h g w = rw (member_left (1 ∷ 3 ∷ []) (schedule_of g.r11)) (read_11 o d K g rs h g.prescriptions w g.r51 g.r15 g.r11)

-- the groups after one of day d
abbrev groups_good : Bool → ℕ → List Group → Bool
groups_good o d [] = true
groups_good o d (g ∷ gs) = leb g.r5.day d && (group_good o g && groups_good o g.r5.day gs)

-- ---- 701s and the end

-- after a group any 701s are good, and so is the end
more_701 : (o : Bool) (d : ℕ) (e : Bool) (k : ℕ) (f i : Bool) (v : ℕ) (u c : Bool) (bs : List Details) → runs (st o 701 d e k f i v u c) (any_of 701 bs []) ≡ true
unfolding order_refusal pair_broken misplaced missing value_wrong newer_group may_follow in_group continues closes_rp lacking unfinished
more_701 o d e k f i v u c [] =
    finish (st o 701 d e k f i v u c) ∙ taut 1 (λ o. not (unfinished (before (st o 701 d e k f i v u c)))) (λ o. true) refl o
more_701 o d e k f i v u c (b ∷ bs) =
    step (st o 701 d e k f i v u c) (rec 701 b) _ (taut 1 (λ o. taken (st o 701 d e k f i v u c) (rec 701 b)) (λ o. true) refl o)
    ∙ more_701 o d e k f i v u c bs

-- without groups they are good in direction 2
only_701 : (bs : List Details) → runs (hd false 701) (any_of 701 bs []) ≡ true
unfolding order_refusal pair_broken misplaced missing value_wrong newer_group may_follow in_group continues closes_rp lacking unfinished
only_701 [] = finish (hd false 701)
only_701 (b ∷ bs) = step (hd false 701) (rec 701 b) _ refl ∙ only_701 bs

last_read : (o : Bool) (d : ℕ) (zs : List Details) → Closes o d true to_end (any_of 701 zs [])
last_read o d [] p m e k f i v u c = finish (st o p d e k f i v u c) ∙ at_end_lem o d e k f i v u c m ∙ sym (and-true (may_close o p e (eqb k 4) f i (eqb v 0) u))
last_read o d (z ∷ zs) p m e k f i v u c =
    step (st o p d e k f i v u c) (rec 701 z) _ (at_701 o d e k f i v u c z m)
    ∙ ap (λ x. may_close o p e (eqb k 4) f i (eqb v 0) u && x) (more_701 o d e k f i v u c zs)

-- not newer is at most as new
not_newer : (d day : ℕ) → not (ltb d day) ≡ leb day d
not_newer d day = by (leb day d) refl
  where
    by : (b : Bool) → leb day d ≡ b → not (ltb d day) ≡ b
    by true q = ap not (lt-leb (suc d) day (let h : day ≤ d = leb-true day d q in omega arith))
    by false q = ap not (le-leb (suc d) day (omega (arith, leb-false day d q)))

groups_read : (o : Bool) (zs : List Details) (gs : List Group) → all_of values gs ≡ true → (d : ℕ)
    → Closes o d (groups_good o d gs) to_end (groups_records gs (any_of 701 zs []))
groups_read o zs [] w d p m e k f i v u c = last_read o d zs p m e k f i v u c
groups_read o zs (g ∷ gs) w d p m e k f i v u c =
    let w2 = both (values g) (all_of values gs) w in
    let day = g.r5.day in
    let close : Bool = may_close o p e (eqb k 4) f i (eqb v 0) u in
    step (st o p d e k f i v u c) (rec 5 g.r5) _ (at_5 o d e k f i v u c g.r5 m ∙ ap (λ x. close && x) (not_newer d g.r5.day))
    ∙ ap (λ x. (close && leb g.r5.day d) && x)
    (group_read o g.r5.day (groups_good o g.r5.day gs) (groups_records gs (any_of 701 zs [])) (groups_read o zs gs w2.1 g.r5.day) g w2.0)
    ∙ taut 3 (λ a b c. (a && b) && c) (λ a b c. a && (b && c)) refl close (leb g.r5.day d) (group_good o g && groups_good o g.r5.day gs)

-- ---- before the groups

abbrev first_good : Bool → List Group → Bool
first_good o [] = true
first_good o (g ∷ gs) = group_good o g && groups_good o g.r5.day gs

-- direction 1: at least one group; and what the groups ask
abbrev head_good : Bool → List Group → Bool
head_good o gs = (o ⇒ not (none_of gs)) && first_good o gs

any_head : (o : Bool) (n : ℕ) (xs : List ℕ) (W : Bool) (rs : List Facts) → eqb n 0 ≡ false
    → ((p : ℕ) → In p (n ∷ xs) → (b : Details) (l : List Facts) → runs (hd o p) (rec n b ∷ l) ≡ (one_stood o p && runs (hd o n) l))
    → ((p : ℕ) → In p (n ∷ xs) → runs (hd o p) rs ≡ (one_stood o p && W))
    → (bs : List Details) (p : ℕ) → In p (n ∷ xs) → runs (hd o p) (any_of n bs rs) ≡ (one_stood o p && W)
any_head o n xs W rs z s h [] p m = h p m
any_head o n xs W rs z s h (b ∷ bs) p m =
    s p m b (any_of n bs rs)
    ∙ ap (λ x. one_stood o p && x) (any_head o n xs W rs z s h bs n here ∙ rw z (taut 2 (λ o w. (o || true) && w) (λ o w. w) refl o W))

groups_head : (o : Bool) (zs : List Details) (gs : List Group) → all_of values gs ≡ true → (p : ℕ) → In p head_places
    → runs (hd o p) (groups_records gs (any_of 701 zs [])) ≡ (one_stood o p && head_good o gs)
groups_head o [] [] w p m =
    finish (hd o p) ∙ head_end o m ∙ ap (λ x. one_stood o p && x) (taut 1 (λ o. not o) (λ o. (o ⇒ false) && true) refl o)
groups_head true (z ∷ zs) [] w p m = step (hd true p) (rec 701 z) _ (head_701 true z m)
groups_head false (z ∷ zs) [] w p m =
    step (hd false p) (rec 701 z) _ (head_701 false z m ∙ and-true (one_stood false p)) ∙ ap (λ x. one_stood false p && x) (only_701 zs)
groups_head o zs (g ∷ gs) w p m =
    let w2 = both (values g) (all_of values gs) w in
    step (hd o p) (rec 5 g.r5) _ (head_5 o g.r5 m)
    ∙ ap (λ x. one_stood o p && x)
    (group_read o g.r5.day (groups_good o g.r5.day gs) (groups_records gs (any_of 701 zs [])) (groups_read o zs gs w2.1 g.r5.day) g w2.0
    ∙ taut 2 (λ o x. x) (λ o x. (o ⇒ true) && x) refl o (first_good o (g ∷ gs)))

abbrev behind_head : Tree → List Facts
behind_head t = groups_records t.groups (any_of 701 t.r701s [])

tree_read : (o : Bool) (t : Tree) → all_of values t.groups ≡ true → runs (hd o 0) (records t) ≡ ((o || stands t.r1) && head_good o t.groups)
tree_read o t w = by t.r1
  where
    from_4 : (p : ℕ) → In p head_places → runs (hd o p) (any_of 4 t.r4s (behind_head t)) ≡ (one_stood o p && head_good o t.groups)
    from_4 = any_head o 4 _ (head_good o t.groups) _ refl (λ p m b l. step (hd o p) (rec 4 b) l (head_4 o b m)) (groups_head o t.r701s t.groups w)
        t.r4s

    from_3 : (p : ℕ) → In p (3 ∷ 2 ∷ 1 ∷ 0 ∷ []) → runs (hd o p) (any_of 3 t.r3s (any_of 4 t.r4s (behind_head t))) ≡ (one_stood o p && head_good o t.groups)
    from_3 = any_head o 3 _ (head_good o t.groups) _ refl (λ p m b l. step (hd o p) (rec 3 b) l (head_3 o b m)) (λ p m. from_4 p (there m)) t.r3s

    from_2 : (p : ℕ) → In p (2 ∷ 1 ∷ 0 ∷ [])
        → runs (hd o p) (any_of 2 t.r2s (any_of 3 t.r3s (any_of 4 t.r4s (behind_head t)))) ≡ (one_stood o p && head_good o t.groups)
    from_2 = any_head o 2 _ (head_good o t.groups) _ refl (λ p m b l. step (hd o p) (rec 2 b) l (head_2 o b m)) (λ p m. from_3 p (there m)) t.r2s

    by : (r1 : Option Details)
        → runs (hd o 0) (opt 1 r1 (any_of 2 t.r2s (any_of 3 t.r3s (any_of 4 t.r4s (behind_head t))))) ≡ ((o || stands r1) && head_good o t.groups)
    by None = from_2 0 (there (there here))
    by (Some b) = step (hd o 0) (rec 1 b) _ (head_1 o b here) ∙ from_2 1 (there here)

-- ---- in the words of the grammar

groups_words : (o : Bool) (d : ℕ) (gs : List Group) → groups_good o d gs ≡ (none_newer d gs && (all_of (names o) gs && (o ⇒ all_of provider_asks gs)))
groups_words o d [] = taut 1 (λ o. true) (λ o. o ⇒ true) refl o
groups_words o d (g ∷ gs) =
    ap (λ x. leb g.r5.day d && (group_good o g && x)) (groups_words o g.r5.day gs)
    ∙ taut 7 (λ o n a g d b h. n && ((a && (o ⇒ g)) && (d && (b && (o ⇒ h))))) (λ o n a g d b h. (n && d) && ((a && b) && (o ⇒ g && h))) refl
    o (leb g.r5.day d) (names o g) (provider_asks g) (none_newer g.r5.day gs) (all_of (names o) gs) (all_of provider_asks gs)

first_words : (o : Bool) (gs : List Group) → first_good o gs ≡ (days gs && (all_of (names o) gs && (o ⇒ all_of provider_asks gs)))
first_words o [] = taut 1 (λ o. true) (λ o. o ⇒ true) refl o
first_words o (g ∷ gs) =
    ap (λ x. group_good o g && x) (groups_words o g.r5.day gs)
    ∙ taut 6 (λ o a g d b h. (a && (o ⇒ g)) && (d && (b && (o ⇒ h)))) (λ o a g d b h. d && ((a && b) && (o ⇒ g && h))) refl
    o (names o g) (provider_asks g) (none_newer g.r5.day gs) (all_of (names o) gs) (all_of provider_asks gs)

-- a tree whose RP values are right is run through exactly if it is good
pub tree_run : (o : Bool) (t : Tree) → all_of values t.groups ≡ true → runs (core_of (start o)) (records t) ≡ good o t
unfolding start no_had
tree_run true t w =
    tree_read true t w
    ∙ ap (λ x. not (none_of t.groups) && x) (first_words true t.groups)
    ∙ rw w (taut 4 (λ e d n h. e && (d && (n && h))) (λ e d n h. (d && n) && (e && h)) refl
    (not (none_of t.groups)) (days t.groups) (all_of (names true) t.groups) (all_of provider_asks t.groups))
tree_run false t w =
    tree_read false t w
    ∙ ap (λ x. stands t.r1 && x) (first_words false t.groups)
    ∙ rw w (taut 3 (λ e d n. e && (d && (n && true))) (λ e d n. (d && n) && e) refl (stands t.r1) (days t.groups) (all_of (names false) t.groups))

good_values : (o : Bool) (t : Tree) → good o t ≡ true → all_of values t.groups ≡ true
good_values o t g = (both (all_of values t.groups) (days t.groups && all_of (names o) t.groups) (both (common o t) (also o t) g).0).0

-- what the grammar has, the machine accepts
pub grammar_machine : (o : Bool) (rs : List Facts) → Grammatical o rs → accepts (start o) rs ≡ true
grammar_machine o rs a =
    ap (accepts (start o)) (sym a.written) ∙ machine_core (records a.tree) (start o) ∙ tree_run o a.tree (good_values o a.tree a.meets)
    ∙ a.meets
