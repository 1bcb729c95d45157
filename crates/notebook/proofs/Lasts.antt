-- What is kept of a group, record by record, is the last entry of a number in the group: told once for every number that is kept so (55 as the
-- doctor and 201 as the drug, in the reader's state; 51 as the clinic). Assumes nothing.
use Prim.Native.Nat.{ℕ, ◌+◌, ◌≤◌, ◌<◌}
use native.Mathlib.Omega.{arith}
use mathlib.Core.Path.{◌≡◌, refl, sym, ap, ◌∙◌, subst}
use mathlib.Core.Bool.{Bool, true, false, cond, ◌&&◌, true≢false}
use mathlib.Core.Logic.{◌⊎◌, inl, inr}
use mathlib.Core.List.{List, [], ◌∷◌, ◌++◌, head-eq_of_cons-eq, tail-eq_of_cons-eq}
use borrow.Author.Tests.{eq-eqb, ne_eqb, eqb-true, eqb-false}
use lib.Dec.{eqb}
use lib.ListN.{length, length-append}
use Rattle.lists.proofs.Tests.{both}
use Rattle.characters.specs.Text.{text}
use Rattle.records.specs.Records.{Record, record_of}
use Rattle.order.specs.declared.State.{State}
use Rattle.order.specs.declared.Facts.{Facts}
use Rattle.rules.specs.Places.{in_group}
use Rattle.order.specs.State.{advance, group_of}
use Rattle.order.proofs.Laws.{next_line}
use Rattle.notebook.specs.Facts.{facts_of}
use Rattle.notebook.specs.Index.{Entry, entry_of}
use Rattle.notebook.specs.Meaning.{last_line, Stands, here, there}
use Rattle.notebook.proofs.Placing.{Placed}
use Rattle.notebook.proofs.Walk.{Walk, over, more}

-- ---- the groups of a state

pub groups_5 : (st : State) (f : Facts) → f.number ≡ 5 → (advance st f).groups ≡ st.groups + 1
unfolding advance
groups_5 st f e = rw (eq-eqb _ _ e)

pub groups_other : (st : State) (f : Facts) → (f.number ≡ 5 → ⊥) → (advance st f).groups ≡ st.groups
unfolding advance
groups_other st f e = rw (ne_eqb _ _ e)

pub group_is : (st : State) (f : Facts) → (f.number ≡ 5 → ⊥) → in_group f.number ≡ true → group_of (advance st f) ≡ st.groups
unfolding group_of advance
group_is st f n e = rw (e, ne_eqb _ _ n)

-- ---- a number whose last line is kept

-- after a record m at a line; a 5 begins anew
unfoldable pub kept : ℕ → ℕ → ℕ → ℕ → ℕ
kept n line k m = cond (eqb m 5) 0 (cond (eqb m n) line k)

-- after all of these entries, the first at a line
unfoldable pub kept_after : ℕ → ℕ → ℕ → List Entry → ℕ
kept_after n line k [] = k
kept_after n line k (e ∷ es) = kept_after n (line + 1) (kept n line k e.number) es

-- a number that a group has, and what is said of the state and the line kept beside it
pub record Keeps (n : ℕ) (Beside : State → ℕ → Type 0) : Type 0 where
  pub no_group_lem : n ≡ 5 → ⊥
  pub grouped : in_group n ≡ true
  pub on : (st : State) (f : Facts) (k : ℕ) → Beside st k → Beside (advance st f) (kept n (st.line + 1) k f.number)

-- d is the line that is kept, seen from the group g: none where g is still to come
pub record Known (k g d groups : ℕ) : Type 0 where
  pub now : g ≡ groups → d ≡ k
  pub ahead : groups < g → d ≡ 0

module _ (n : ℕ) (Beside : State → ℕ → Type 0) (keeps : Keeps n Beside) where
  pub known_step : (k g d : ℕ) (st : State) (f : Facts) → Known k g d st.groups
      → Known (kept n (st.line + 1) k f.number) g (cond (eqb f.number n && eqb (group_of (advance st f)) g) (st.line + 1) d) (advance st f).groups
  unfolding kept
  known_step k g d st f v = go (eqb f.number 5) refl (eqb f.number n) refl (eqb (group_of (advance st f)) g) refl
    where
      go : (x : Bool) → eqb f.number 5 ≡ x → (y : Bool) → eqb f.number n ≡ y → (z : Bool) → eqb (group_of (advance st f)) g ≡ z
          → Known (cond x 0 (cond y (st.line + 1) k)) g (cond (y && z) (st.line + 1) d) (advance st f).groups
      go true p true q z r = absurd (keeps.no_group_lem (sym (eqb-true _ _ q) ∙ eqb-true _ _ p))
      go true p false q z r =
          let a : (advance st f).groups ≡ st.groups + 1 = groups_5 st f (eqb-true _ _ p) in
          record { now = λ e. v.ahead (omega (arith, a, e)); ahead = λ h. v.ahead (omega (arith, a, h)) }
      go false p true q true r =
          let a : (advance st f).groups ≡ st.groups = groups_other st f (eqb-false _ _ p) in
          let m : f.number ≡ n = eqb-true _ _ q in
          let b : group_of (advance st f) ≡ st.groups = group_is st f (eqb-false _ _ p) (rw m keeps.grouped) in
          record { now = λ e. refl; ahead = λ h. absurd (omega (arith, a, b, h, eqb-true (group_of (advance st f)) g r)) }
      go false p true q false r =
          let a : (advance st f).groups ≡ st.groups = groups_other st f (eqb-false _ _ p) in
          let m : f.number ≡ n = eqb-true _ _ q in
          let b : group_of (advance st f) ≡ st.groups = group_is st f (eqb-false _ _ p) (rw m keeps.grouped) in
          record { now = λ e. absurd (eqb-false _ _ r (b ∙ sym a ∙ sym e)); ahead = λ h. v.ahead (omega (arith, a, h)) }
      go false p false q z r =
          let a : (advance st f).groups ≡ st.groups = groups_other st f (eqb-false _ _ p) in
          record { now = λ e. v.now (e ∙ a); ahead = λ h. v.ahead (omega (arith, a, h)) }

  -- the state before an entry's record, and the line k that is kept there
  pub record Before (e : Entry) (line d k : ℕ) : Type 0 where
    pub st : State
    pub offset : ℕ
    pub l : List ℕ
    pub after : State
    pub rp : ℕ
    pub doctor : ℕ
    pub placed : Placed st l after rp doctor
    pub is : entry_of offset l after doctor ≡ e
    pub at : st.line + 1 ≡ line
    pub beside : Beside st k
    pub known : Known k e.group d st.groups

  pub walk_last : {st : State} {at : ℕ} {rs : List (List ℕ)} {recs : List Record} {es : List Entry} → Walk st at rs recs es
      → (before : List Entry) (e : Entry) (behind : List Entry) (d k : ℕ) → es ≡ before ++ e ∷ behind → Beside st k → Known k e.group d st.groups
      → Before e (st.line + 1 + length before) (last_line n e.group (st.line + 1) d before) (kept_after n (st.line + 1) k before)
  unfolding last_line kept_after entry_of facts_of
  walk_last over before e behind d k q b v = absurd (omega (arith, ap length q, length-append before (e ∷ behind)))
  walk_last (more {st = st} {at = at} {r = r} {after = after} {rp = rp} {doctor = doctor} l p w) [] e behind d k q b v =
      record {
        st = st;
        offset = at;
        l = text r;
        after = after;
        rp = rp;
        doctor = doctor;
        placed = p;
        is = head-eq_of_cons-eq q;
        at = omega arith;
        beside = b;
        known = v;
      }
  walk_last (more {st = st} {at = at} {r = r} {after = after} {rp = rp} {doctor = doctor} l p w) (e₀ ∷ before) e behind d k q b v =
      let f : Facts = facts_of (record_of (text r)) in
      let h : entry_of at (text r) after doctor ≡ e₀ = head-eq_of_cons-eq q in
      let m : after.line ≡ st.line + 1 = next_line st f after rp doctor p.step in
      let k' : ℕ → ℕ = kept n (st.line + 1) k in
      let d' : ℕ → ℕ → ℕ = λ number group. cond (eqb number n && eqb group e.group) (st.line + 1) d in
      let u : Known (k' f.number) e.group (d' f.number (group_of (advance st f))) (advance st f).groups = known_step k e.group d st f v in
      let u' : Known (k' f.number) e.group (d' f.number (group_of after)) after.groups =
      subst (λ (t : State). Known (k' f.number) e.group (d' f.number (group_of t)) t.groups) (sym p.state) u in
      let u'' : Known (k' e₀.number) e.group (d' e₀.number e₀.group) after.groups =
      subst (λ (x : Entry). Known (k' x.number) e.group (d' x.number x.group) after.groups) h u' in
      let b' : Beside after (k' e₀.number) =
      subst (λ (x : Entry). Beside after (k' x.number)) h (subst (λ (t : State). Beside t (k' f.number)) (sym p.state) (keeps.on st f k b)) in
      let Then : ℕ → ℕ → Type 0 = λ x j. Before e x (last_line n e.group (j + 1) (d' e₀.number e₀.group) before) (kept_after n (j + 1) (k' e₀.number) before) in
      let x : after.line + 1 + length before ≡ st.line + 1 + length (e₀ ∷ before) = omega (arith, m) in
      subst (λ (j : ℕ). Then (st.line + 1 + length (e₀ ∷ before)) j) m
      (subst (λ (y : ℕ). Then y after.line) x
      (walk_last w before e behind (d' e₀.number e₀.group) (k' e₀.number) (tail-eq_of_cons-eq q) b' u''))

-- ---- the last line is that of an entry, or there is none

stands_some : {n g x line : ℕ} {es : List Entry} → Stands n g x line es → 1 ≤ length es
stands_some (here p q r) = omega arith
stands_some (there s) = omega arith

-- one that does not stand first stands after
stands_behind : {n g x line : ℕ} {e : Entry} {es : List Entry} → (eqb e.number n && eqb e.group g) ≡ false → Stands n g x line (e ∷ es) → Stands n g x (line + 1) es
stands_behind {n} {g} {x} {line} {e} t (here p q r) = absurd (true≢false (sym (rw (eq-eqb e.number n p, eq-eqb e.group g q) refl) ∙ t))
stands_behind t (there s) = s

pub last_stands : (n g line d : ℕ) (es : List Entry) → ((last_line n g line d es ≡ d) × ((x : ℕ) → Stands n g x line es → ⊥)) ⊎ Stands n g (last_line n g line d es) line es
unfolding last_line
last_stands n g line d [] = inl (refl, λ x s. absurd (omega (arith, stands_some s)))
last_stands n g line d (e ∷ es) = go (eqb e.number n && eqb e.group g) refl (last_stands n g (line + 1) (cond (eqb e.number n && eqb e.group g) line d) es)
  where
    go : (b : Bool) → (eqb e.number n && eqb e.group g) ≡ b
        → ((last_line n g (line + 1) (cond b line d) es ≡ cond b line d) × ((x : ℕ) → Stands n g x (line + 1) es → ⊥)) ⊎ Stands n g (last_line n g (line + 1) (cond b line d) es) (line + 1) es
        → ((last_line n g (line + 1) (cond b line d) es ≡ d) × ((x : ℕ) → Stands n g x line (e ∷ es) → ⊥)) ⊎ Stands n g (last_line n g (line + 1) (cond b line d) es) line (e ∷ es)
    go true t (inl h) =
        let y = both (eqb e.number n) (eqb e.group g) t in
        inr (here (eqb-true _ _ y.0) (eqb-true _ _ y.1) h.0)
    go false t (inl h) = inl (h.0, λ x s. h.1 x (stands_behind t s))
    go b t (inr s) = inr (there s)
