-- Records that complete a group of direction 1 where nothing is too late (`complete`), and what holds at each place that taken records lead to
-- (`kept_after_lem`): computed tests over places, numbers and answers. Assumes nothing.
use Prim.Native.Nat.{ℕ, ◌+◌, ◌≤◌, ◌<◌}
use native.Mathlib.Omega.{arith}
use mathlib.Core.Path.{◌≡◌, refl, ap, sym, ◌∙◌, subst}
use mathlib.Core.Logic.{◌⊎◌, ⊎_elim}
use mathlib.Core.Bool.{Bool, true, false, not, cond, ◌&&◌, ◌||◌, false≢true}
use mathlib.Core.List.{List, [], ◌∷◌, ◌++◌}
use lib.Dec.{eqb}
use lib.ListN.{length}
use borrow.Author.Tests.{eq-eqb, ne_eqb, eqb-true}
use Rattle.lists.specs.Lists.{member, All}
use Rattle.lists.proofs.Tests.{member_more, both, neither, either, not_true'}
use Rattle.order.specs.declared.State.{State}
use Rattle.order.specs.declared.Facts.{Facts}
use Rattle.order.specs.State.{Step}
use Rattle.order.specs.State.{Fault, On}
use Rattle.rules.specs.Places.{in_head, in_front, in_rp, in_drugs, in_group, may_follow}
use Rattle.rules.specs.Questions.{Before, Asked}
use Rattle.rules.specs.Rules.{closes_rp, lacking, missing, value_wrong, continues}
use Rattle.order.specs.State.{nothing_yet, start, advance, refusal_of, step_of}
use Rattle.order.specs.Run.{refused_at, stepped, run_of, after}
use Rattle.order.proofs.Laws.{taken as taken_law}
use Rattle.grammar.specs.Grammar.{Details, rec, ◌⇒◌}
use Rattle.prefixes.specs.Prefixes.{late}
use Rattle.verdict.proofs.Computed.{Fn, taut, In, every, every_at, at_each, agree, member_in, among}
use Rattle.verdict.proofs.Machine.{accepts, Core, before, asked, next, taken, runs, step, finish, core_of, next_core}
use Rattle.verdict.proofs.Steps.{st, front_places, bf, drug_places, to401, to501, to_end, rp_over, may_close}
use Rattle.verdict.proofs.Steps.{at_end_lem, at_11, at_201, at_301, at_411}
use Rattle.verdict.proofs.Backwards.{places, split, known, told, details_of}

-- an implication that is computed at each place
pub so : (a b : Bool) → (a ⇒ b) ≡ true → a ≡ true → b ≡ true
so true b e h = e
so false b e h = absurd (false≢true h)

-- ---- records that complete a group of direction 1

-- Records as files have them: nothing that the rules look at; a day; a fee schedule; an RP value; a usage of form 1 with a name.
abbrev pub plain : Details
plain = record { rp = 0; day = 0; schedule = 0; form = 0; named = false }

abbrev pub dated : Details
dated = record { rp = 0; day = 19890108; schedule = 0; form = 0; named = false }

abbrev pub medical : Details
medical = record { rp = 0; day = 0; schedule = 1; form = 0; named = false }

abbrev pub of_rp : ℕ → Details
of_rp v = record { rp = v; day = 0; schedule = 0; form = 0; named = false }

abbrev pub used : ℕ → Details
used v = record { rp = v; day = 0; schedule = 0; form = 1; named = true }

pub data Usual : Facts → Type 0 where
  usual_1 : Usual (rec 1 plain)
  usual_5 : Usual (rec 5 dated)
  usual_11 : Usual (rec 11 medical)
  usual_411 : Usual (rec 411 plain)
  usual_201 : (v : ℕ) → 1 ≤ v → v ≤ 999 → Usual (rec 201 (of_rp v))
  usual_301 : (v : ℕ) → 1 ≤ v → v ≤ 999 → Usual (rec 301 (used v))

-- at most three records that end the file; they can be spelled where the RP values leave room
pub record Completed (c : Core) : Type 0 where
  pub more : List Facts
  pub ends : runs c more ≡ true
  pub few : length more ≤ 3
  pub usual : c.rp < 999 → (in_rp c.place ≡ true → 1 ≤ c.rp) → All Usual more

module _ (d : ℕ) (e : Bool) (k : ℕ) (f i : Bool) (c : Bool) where
  -- a 411 and the end
  pub by_411 : {p : ℕ} (v : ℕ) (u : Bool) → In p to501
      → runs (st true p d e k f i v u c) (rec 411 plain ∷ []) ≡ (rp_over true p u && may_close true 411 e (eqb k 4) f true (eqb v 0) u)
  by_411 {p} v u m =
      step (st true p d e k f i v u c) (rec 411 plain) [] (at_411 true d e k f i v u c plain m)
      ∙ ap (λ y. rp_over true p u && y) (finish (st true 411 d e k f true v u c) ∙ at_end_lem true d e k f true v u c (member_in 411 to_end refl))

  -- a 301 before them
  by_301 : {p : ℕ} (v : ℕ) (u : Bool) → In p drug_places
      → runs (st true p d e k f i v u c) (rec 301 (used v) ∷ rec 411 plain ∷ []) ≡ may_close true 411 e (eqb k 4) f true (eqb v 0) true
  by_301 {p} v u m =
      let named : ((eqb k 4 && true ⇒ true) && eqb v v) ≡ true = rw (eq-eqb v v refl) (taut 1 (λ x. (x ⇒ true) && true) (λ x. true) refl (eqb k 4 && true)) in
      step (st true p d e k f i v u c) (rec 301 (used v)) _ (at_301 true d e k f i v u c (used v) m ∙ named)
      ∙ by_411 v true (member_in 301 to501 refl)

  -- a 201 before them
  by_201 : {p : ℕ} (v : ℕ) (u : Bool) → In p (55 ∷ 51 ∷ [])
      → runs (st true p d e k f i v u c) (rec 201 (of_rp (v + 1)) ∷ rec 301 (used (v + 1)) ∷ rec 411 plain ∷ [])
      ≡ may_close true 411 e (eqb k 4) f true false true
  by_201 {p} v u m =
      let begins : (in_drugs p && eqb (v + 1) v || not (in_rp p && not u) && eqb (v + 1) (v + 1)) ≡ true =
      rw (eq-eqb (v + 1) (v + 1) refl) (at_each 2 (λ p s u. in_drugs p && s || not (in_rp p && not u) && true) (λ p s u. true) refl m (eqb (v + 1) v) u) in
      step (st true p d e k f i v u c) (rec 201 (of_rp (v + 1))) _ (at_201 true d e k f i v u c (of_rp (v + 1)) (among (55 ∷ to401) refl m) ∙ begins)
      ∙ by_301 (v + 1) false (member_in 201 drug_places refl)
      ∙ ap (λ z. may_close true 411 e (eqb k 4) f true z true) (ne_eqb (v + 1) 0 (λ (z : v + 1 ≡ 0). omega arith))

-- nothing is too late, and the place has had what leads to it
abbrev pub fine : ℕ → Bool → Bool → Bool → Bool → Bool → Bool → Bool
fine p e q f i z u = not (late (bf true p e q false f i z u false)) && ((eqb p 51 ⇒ f) && (member (301 ∷ 311 ∷ []) p ⇒ u))

module _ (p : ℕ) (d : ℕ) (e : Bool) (k : ℕ) (f i : Bool) (v : ℕ) (u c : Bool) (h : fine p e (eqb k 4) f i (eqb v 0) u ≡ true) where
  -- what is computed to follow at each place of a list
  follows : {xs : List ℕ} (g : ℕ → Fn 6) → every (λ x. agree 6 (λ e q f i z u. fine x e q f i z u ⇒ g x e q f i z u) (λ e q f i z u. true)) xs ≡ true
      → In p xs → g p e (eqb k 4) f i (eqb v 0) u ≡ true
  follows g t m =
      so (fine p e (eqb k 4) f i (eqb v 0) u) (g p e (eqb k 4) f i (eqb v 0) u)
      (at_each 6 (λ x e q f i z u. fine x e q f i z u ⇒ g x e q f i z u) (λ x e q f i z u. true) t m e (eqb k 4) f i (eqb v 0) u) h

  abbrev Ends : Type 0
  Ends = Completed (st true p d e k f i v u c)

  at_once : In p (601 ∷ 501 ∷ []) → Ends
  at_once m = record {
    more = [];
    ends = finish _ ∙ at_end_lem true d e k f i v u c (among to_end refl m) ∙ follows (λ x e q f i z u. may_close true x e q f i z u) refl m;
    few = omega arith;
    usual = λ a b. tt;
  }

  after_411 : In p (411 ∷ 401 ∷ 391 ∷ 311 ∷ 301 ∷ 15 ∷ 11 ∷ []) → Ends
  after_411 m = record {
    more = rec 411 plain ∷ [];
    ends = by_411 d e k f i c v u (among to501 refl m) ∙ follows (λ x e q f i z u. rp_over true x u && may_close true 411 e q f true z u) refl m;
    few = omega arith;
    usual = λ a b. (usual_411, tt);
  }

  after_301 : In p drug_places → Ends
  after_301 m = record {
    more = rec 301 (used v) ∷ rec 411 plain ∷ [];
    ends = by_301 d e k f i c v u m ∙ follows (λ x e q f i z u. may_close true 411 e q f true z true) refl m;
    few = omega arith;
    usual = λ a b. (usual_301 v (b (every_at in_rp refl m)) (omega arith), (usual_411, tt));
  }

  after_201 : In p (55 ∷ 51 ∷ []) → Ends
  after_201 m = record {
    more = rec 201 (of_rp (v + 1)) ∷ rec 301 (used (v + 1)) ∷ rec 411 plain ∷ [];
    ends = by_201 d e k f i c v u m ∙ follows (λ x e q f i z u. may_close true 411 e q f true false true) refl m;
    few = omega arith;
    usual = λ a b. (usual_201 (v + 1) (omega arith) (omega arith), (usual_301 (v + 1) (omega arith) (omega arith), (usual_411, tt)));
  }

  after_11 : In p (5 ∷ []) → Ends
  after_11 m = record {
    more = rec 11 medical ∷ rec 411 plain ∷ [];
    ends =
        step (st true p d e k f i v u c) (rec 11 medical) _ (at_11 true d e k f i v u c medical m)
        ∙ by_411 d true 1 f i c v u (member_in 11 to501 refl)
        ∙ taut 2 (λ f z. may_close true 411 true false f true z u) (λ f z. true) refl f (eqb v 0);
    few = omega arith;
    usual = λ a b. (usual_11, (usual_411, tt));
  }

  pub complete : In p (55 ∷ to_end) → Completed (st true p d e k f i v u c)
  complete m = ⊎_elim (λ m. after_201 (among (55 ∷ 51 ∷ []) refl m)) from_601 (split (55 ∷ []) m)
    where
      from_5 : In p (15 ∷ 11 ∷ 5 ∷ []) → Completed (st true p d e k f i v u c)
      from_5 m = ⊎_elim (λ m. after_411 (among (411 ∷ 401 ∷ 391 ∷ 311 ∷ 301 ∷ 15 ∷ 11 ∷ []) refl m)) after_11 (split (15 ∷ 11 ∷ []) m)

      from_51 : In p front_places → Completed (st true p d e k f i v u c)
      from_51 m = ⊎_elim (λ m. after_201 (among (55 ∷ 51 ∷ []) refl m)) from_5 (split (51 ∷ []) m)

      from_291 : In p (291 ∷ 281 ∷ 201 ∷ 51 ∷ 15 ∷ 11 ∷ 5 ∷ []) → Completed (st true p d e k f i v u c)
      from_291 m = ⊎_elim after_301 from_51 (split drug_places m)

      from_411 : In p to501 → Completed (st true p d e k f i v u c)
      from_411 m =
          ⊎_elim (λ m. after_411 (among (411 ∷ 401 ∷ 391 ∷ 311 ∷ 301 ∷ 15 ∷ 11 ∷ []) refl m)) from_291 (split (411 ∷ 401 ∷ 391 ∷ 311 ∷ 301 ∷ []) m)

      from_601 : In p to_end → Completed (st true p d e k f i v u c)
      from_601 m = ⊎_elim at_once from_411 (split (601 ∷ 501 ∷ []) m)

-- ---- what holds at each place that taken records lead to

-- What is asked at a place: m to r are answers of the place alone, which a partly applied `kept_at p` computes once for all the others.
abbrev kept_by : Bool → Bool → Bool → Bool → Bool → Bool → Bool → Bool → Fn 5
kept_by m a b c d h t r o f u g z =
    m && ((a ⇒ f) && ((b ⇒ u) && ((c ⇒ not g) && ((d && o ⇒ not g) && ((h ⇒ g) && ((t ⇒ z) && (r ⇒ not z)))))))

-- o: direction 1; f, u: a 51, a 301 was had; g: no group; z: no RP
abbrev pub kept_at : ℕ → Fn 5
kept_at p = kept_by (member places p) (eqb p 51) (member (301 ∷ 311 ∷ []) p) (in_group p) (eqb p 701) (in_head p) (in_front p) (in_rp p)

abbrev pub Kept : Core → Type 0
Kept c = kept_at c.place c.provider c.had51 c.had301 c.no_group (eqb c.rp 0) ≡ true

-- the answers after a record of number n; w: its RP value is 0
abbrev kept_after : Fn 5 → ℕ → Fn 6
kept_after kept n w o f u g z =
    kept o (cond (eqb n 5) false (cond (eqb n 51) true f)) (cond (eqb n 5) false (cond (eqb n 201) false (cond (eqb n 301) true u)))
    (cond (eqb n 5) false g) (cond (eqb n 5) true (cond (eqb n 201) w z))

-- what a record that was taken tells, beside that it may follow: a 701 of direction 1 has a group before it, a 201 has a value
abbrev told_so : Fn 5 → ℕ → Fn 6
told_so kept n w o f u g z = kept o f u g z && (not (o && eqb n 701 && g) && (eqb n 201 ⇒ not w))

abbrev keeps_on : Fn 5 → Fn 5 → ℕ → Fn 6
keeps_on kept next n w o f u g z = told_so kept n w o f u g z ⇒ kept_after next n w o f u g z

-- computed only where the record may follow
abbrev keeps : ℕ → ℕ → Bool
keeps n p = may_follow p n ⇒ agree 6 (keeps_on (kept_at p) (kept_at n) n) (λ w o f u g z. true)

rp_after : (a b : Bool) (v w : ℕ) → eqb (cond a 0 (cond b w v)) 0 ≡ cond a true (cond b (eqb w 0) (eqb v 0))
rp_after true b v w = refl
rp_after false true v w = refl
rp_after false false v w = refl

-- a 701 of direction 1 stands after a group
groups_stand : (b : Before) (a : Asked) → missing b a ≡ false → (b.provider && eqb a.number 701 && b.no_group) ≡ false
unfolding missing
groups_stand b a e =
    (neither
    (not b.provider && eqb b.place 0 && not (eqb a.number 1)
    || b.provider && closes_rp b a && not b.had301
    || b.provider && member (5 ∷ 701 ∷ []) a.number && in_group b.place && lacking b)
    (b.provider && eqb a.number 701 && b.no_group) e).1

three : (a b c : Bool) → a ≡ true → b ≡ false → c ≡ true → (a && (not b && c)) ≡ true
three a b c p q r = rw (p, q, r)

-- the value of a 201 is that of the open RP, or the next
new_value : (c : Core) (b : Details) → value_wrong (before c) (asked c (rec 201 b)) ≡ false → (in_rp c.place ⇒ not (eqb c.rp 0)) ≡ true
    → eqb b.rp 0 ≡ false
unfolding value_wrong continues
new_value c b h k =
    ⊎_elim
    (λ e. let x = both (in_drugs c.place) (eqb b.rp c.rp) e in
    ap (λ (n : ℕ). eqb n 0) (eqb-true b.rp c.rp x.1) ∙ not_true' (eqb c.rp 0) (so (in_rp c.place) (not (eqb c.rp 0)) k
    (member_more (201 ∷ 281 ∷ 291 ∷ []) (301 ∷ 311 ∷ 391 ∷ []) c.place x.0)))
    (λ e. ne_eqb b.rp 0 (λ (z : b.rp ≡ 0). let w : b.rp ≡ c.rp + 1 = eqb-true b.rp (c.rp + 1) e in omega arith))
    (either (in_drugs c.place && eqb b.rp c.rp) (eqb b.rp (c.rp + 1))
    (sym (taut 3 (λ a s y. not (not (a && s) && not y || false)) (λ a s y. a && s || y) refl (in_drugs c.place) (eqb b.rp c.rp)
    (eqb b.rp (c.rp + 1)))
    ∙ ap not h))

value_told : (c : Core) (r : Facts) → value_wrong (before c) (asked c r) ≡ false → (in_rp c.place ⇒ not (eqb c.rp 0)) ≡ true
    → (eqb r.number 201 ⇒ not (eqb r.rp 0)) ≡ true
value_told c r h k = by (eqb r.number 201) refl
  where
    by : (b : Bool) → eqb r.number 201 ≡ b → (b ⇒ not (eqb r.rp 0)) ≡ true
    by true q = ap not (new_value c (details_of r) (subst (λ (n : ℕ). value_wrong (before c) (asked c (rec n (details_of r))) ≡ false) (eqb-true _ _ q) h) k)
    by false q = refl

-- the last of what is kept
pub last_kept : (c : Core) → Kept c → (in_rp c.place ⇒ not (eqb c.rp 0)) ≡ true
last_kept c k =
    so (kept_at c.place c.provider c.had51 c.had301 c.no_group (eqb c.rp 0)) (in_rp c.place ⇒ not (eqb c.rp 0))
    (taut 8 (λ a b d e f g h i. a && (b && (d && (e && (f && (g && (h && i)))))) ⇒ i) (λ a b d e f g h i. true) refl
    (member places c.place) (eqb c.place 51 ⇒ c.had51) (member (301 ∷ 311 ∷ []) c.place ⇒ c.had301) (in_group c.place ⇒ not c.no_group)
    (eqb c.place 701 && c.provider ⇒ not c.no_group) (in_head c.place ⇒ c.no_group) (in_front c.place ⇒ eqb c.rp 0)
    (in_rp c.place ⇒ not (eqb c.rp 0))) k

pub kept_next : (c : Core) (r : Facts) → taken c r ≡ true → Kept c → Kept (next c r)
unfolding may_follow in_group
kept_next c r h k =
    let t = told c r h in
    let w = eqb r.rp 0 in
    let m : In c.place places = member_in c.place places (both (member places c.place) _ k).0 in
    let tested = every_at (keeps r.number) (every_at (λ n. every (keeps n) places) refl (known c.place r.number t.follows)) m in
    let e = taut 6 (keeps_on (kept_at c.place) (kept_at r.number) r.number) (λ w o f u g z. true) (so (may_follow c.place r.number) _ tested t.follows)
    w c.provider c.had51 c.had301 c.no_group (eqb c.rp 0) in
    ap (λ z. kept_at r.number c.provider (next c r).had51 (next c r).had301 (next c r).no_group z)
    (rp_after (eqb r.number 5) (eqb r.number 201) c.rp r.rp)
    ∙ so (told_so (kept_at c.place) r.number w c.provider c.had51 c.had301 c.no_group (eqb c.rp 0))
    (kept_after (kept_at r.number) r.number w c.provider c.had51 c.had301 c.no_group (eqb c.rp 0)) e
    (three (kept_at c.place c.provider c.had51 c.had301 c.no_group (eqb c.rp 0))
    (c.provider && eqb r.number 701 && c.no_group) (eqb r.number 201 ⇒ not w) k
    (groups_stand (before c) (asked c r) t.complete) (value_told c r t.value (last_kept c k)))

-- ---- all records of a list are taken

line_next : (s : State) (r : Facts) → (advance s r).line ≡ s.line + 1
unfolding advance
line_next s r = refl

abbrev pub AllTaken : State → List Facts → Type 0
AllTaken s [] = Unit {0}
AllTaken s (r ∷ rs) = (refusal_of s r ≡ 0) × AllTaken (advance s r) rs

never : {n l : ℕ} {m k : ℕ} → refused_at n l ≡ refused_at m k → l ≡ k
never e = cc

-- those before the first refusal are
pub before_refusal : (rs : List Facts) (s : State) (r : Facts) (rest : List Facts) (n line : ℕ) → line ≡ s.line + length rs + 1
    → run_of s (rs ++ r ∷ rest) ≡ refused_at n line → AllTaken s rs
unfolding run_of stepped
before_refusal [] s r rest n line q e = tt
before_refusal (x ∷ rs) s r rest n line q e = by (step_of s x) refl e (before_refusal rs (advance s x) r rest n line)
  where
    by : (m : Step) → step_of s x ≡ m → stepped s.line (λ t. run_of t (rs ++ r ∷ rest)) m ≡ refused_at n line
        → (line ≡ (advance s x).line + length rs + 1 → run_of (advance s x) (rs ++ r ∷ rest) ≡ refused_at n line → AllTaken (advance s x) rs)
        → AllTaken s (x ∷ rs)
    by (Fault k) w e ih = absurd (omega (arith, never e))
    by (On t p d) w e ih =
        let k = taken_law s x t p d w in
        (k.good, ih (omega (arith, line_next s x)) (subst (λ (u : State). run_of u (rs ++ r ∷ rest) ≡ refused_at n line) k.state e))

-- what follows them decides
pub accepts_behind : (rs more : List Facts) (s : State) → AllTaken s rs → accepts s (rs ++ more) ≡ accepts (after s rs) more
unfolding accepts after
accepts_behind [] more s t = refl
accepts_behind (r ∷ rs) more s (a, t) = rw a (accepts_behind rs more (advance s r) t)

pub kept_after_lem : (rs : List Facts) (s : State) → AllTaken s rs → Kept (core_of s) → Kept (core_of (after s rs))
unfolding after refusal_of
kept_after_lem [] s t k = k
kept_after_lem (r ∷ rs) s (a, t) k = kept_after_lem rs (advance s r) t (subst Kept (sym (next_core s r)) (kept_next (core_of s) r (rw a) k))

pub kept_start : (provider : Bool) → Kept (core_of (start provider))
unfolding start nothing_yet in_group
kept_start provider = refl
