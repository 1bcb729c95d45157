-- Laws of the order of records, for callers in place of the definitions' text: what a step says (`taken`, `refused`, `good`), what it
-- keeps (`room`, `next_line`, `provider_kept`), what it hands back (`rp_handed`, `rp_open`, `doctor_handed`), and that no doctor reaches
-- into the next group (`never_into_next`). Assumes nothing.
use Prim.Native.Nat.{ℕ, ◌+◌, ◌≤◌, ◌<◌}
use native.Mathlib.Omega.{arith}
use mathlib.Core.Path.{◌≡◌, refl, ap, sym, ◌∙◌}
use mathlib.Core.Logic.{◌⊎◌, inl, inr}
use mathlib.Core.Bool.{Bool, true, false, not, cond, ◌&&◌, ◌||◌, false≢true}
use mathlib.Core.List.{List, [], ◌∷◌}
use lib.Dec.{eqb, eqb-suc-zero}
use borrow.Author.Tests.{eq-eqb, eqb-true}
use Rattle.replies.specs.declared.refusal.Refusal.{Refusal as Word}
use Rattle.replies.specs.Refusals.{number_of}
use Rattle.replies.proofs.Numbers.{never_0}
use Rattle.order.specs.declared.State.{State}
use Rattle.order.specs.declared.Facts.{Facts}
use Rattle.order.specs.State.{Fault, On}
use Rattle.rules.specs.Places.{in_rp, of_open_rp}
use Rattle.rules.specs.Questions.{Before, Asked}
use Rattle.order.specs.Questions.{before_of, asked_of}
use Rattle.rules.specs.Rules.{pair_broken, misplaced, missing, continues, value_wrong, newer_group, order_refusal}
use Rattle.order.specs.State.{start, had_after, advance, refusal_of, rp_of, doctor_of, step_of}
use Rattle.order.specs.Room.{Room}
use Rattle.order.specs.Run.{after}

-- ---- what a step says

-- a record that was taken
pub record Taken (s : State) (r : Facts) (t : State) (p d : ℕ) : Type 0 where
  pub good : refusal_of s r ≡ 0
  pub state : t ≡ advance s r
  pub rp : p ≡ rp_of r
  pub doctor : d ≡ doctor_of s r

-- a record that was refused
pub record Refusal (s : State) (r : Facts) (n : ℕ) : Type 0 where
  pub number : n ≡ refusal_of s r
  pub from : 12 ≤ n
  pub to : n ≤ 16

-- a choice between two numbers is one of them
cond_case : (P : ℕ → Type 0) (b : Bool) {x y : ℕ} → (b ≡ true → P x) → (b ≡ false → P y) → P (cond b x y)
cond_case P true p q = p refl
cond_case P false p q = q refl

pub taken : (s : State) (r : Facts) (t : State) (p d : ℕ) → step_of s r ≡ On t p d → Taken s r t p d
unfolding step_of
taken s r t p d e = by (refusal_of s r) refl e
  where
    by : (n : ℕ) → refusal_of s r ≡ n → cond (eqb n 0) (On (advance s r) (rp_of r) (doctor_of s r)) (Fault n) ≡ On t p d → Taken s r t p d
    by ℕ.zero q f = record { good = q; state = cc; rp = cc; doctor = cc }
    by (ℕ.suc n) q f = absurd (let z : ◌≡◌ {A = ℕ} 0 1 = cc (eqb-suc-zero n) in omega arith)

-- a refusal is one of 12 to 16
abbrev Listed : ℕ → Type 0
Listed n = 0 < n → (12 ≤ n) × (n ≤ 16)

listed : (b : Before) (r : Asked) → Listed (order_refusal b r)
unfolding order_refusal
listed b r =
    cond_case Listed (pair_broken b r) (λ _ _. (omega arith, omega arith))
    (λ _. cond_case Listed (misplaced b r) (λ _ _. (omega arith, omega arith))
    (λ _. cond_case Listed (missing b r) (λ _ _. (omega arith, omega arith))
    (λ _. cond_case Listed (value_wrong b r) (λ _ _. (omega arith, omega arith))
    (λ _. cond_case Listed (newer_group b r) (λ _ _. (omega arith, omega arith)) (λ _ h. (omega arith, omega arith))))))

pub refused : (s : State) (r : Facts) (n : ℕ) → step_of s r ≡ Fault n → Refusal s r n
unfolding step_of refusal_of
refused s r n e = by (refusal_of s r) refl e
  where
    by : (m : ℕ) → refusal_of s r ≡ m → cond (eqb m 0) (On (advance s r) (rp_of r) (doctor_of s r)) (Fault m) ≡ Fault n → Refusal s r n
    by ℕ.zero q f = absurd (let z : ◌≡◌ {A = ℕ} 0 1 = cc in omega arith)
    by (ℕ.suc m) q f =
        let g : n ≡ refusal_of s r = cc (eqb-suc-zero m) in
        let l = listed (before_of s) (asked_of s r) (omega arith) in
        record { number = g; from = omega arith; to = omega arith }

-- a record without refusal is taken
pub takes : (s : State) (r : Facts) → refusal_of s r ≡ 0 → step_of s r ≡ On (advance s r) (rp_of r) (doctor_of s r)
unfolding step_of
takes s r e = rw e

-- a record with a refusal is not
pub turned_away : (s : State) (r : Facts) (x : Word) → number_of x ≡ refusal_of s r → step_of s r ≡ Fault (number_of x)
unfolding step_of
turned_away s r x e = rw (sym e, never_0 x)

-- a good line breaks none of the five rules
pub record Good (s : State) (r : Facts) : Type 0 where
  pub pair : pair_broken (before_of s) (asked_of s r) ≡ false
  pub place : misplaced (before_of s) (asked_of s r) ≡ false
  pub complete : missing (before_of s) (asked_of s r) ≡ false
  pub value : value_wrong (before_of s) (asked_of s r) ≡ false
  pub date : newer_group (before_of s) (asked_of s r) ≡ false

-- of a choice that comes to 0 the first number is not taken
not_first : (a : Bool) (n m : ℕ) → cond a (n + 1) m ≡ 0 → (a ≡ false) × (m ≡ 0)
not_first true n m e = absurd (omega arith)
not_first false n m e = (refl, e)

pub good : (s : State) (r : Facts) → refusal_of s r ≡ 0 → Good s r
unfolding refusal_of order_refusal
good s r e =
    let a = not_first (pair_broken (before_of s) (asked_of s r)) 11 _ e in
    let b = not_first (misplaced (before_of s) (asked_of s r)) 12 _ a.1 in
    let c = not_first (missing (before_of s) (asked_of s r)) 13 _ b.1 in
    let d = not_first (value_wrong (before_of s) (asked_of s r)) 14 _ c.1 in
    let f = not_first (newer_group (before_of s) (asked_of s r)) 15 _ d.1 in
    record { pair = a.0; place = b.0; complete = c.0; value = d.0; date = f.0 }

-- ---- what a step keeps

pub line_start : (provider : Bool) → (start provider).line ≡ 1
unfolding start
line_start provider = refl

pub provider_start : (provider : Bool) → (start provider).provider ≡ provider
unfolding start
provider_start provider = refl

pub room_start : (provider : Bool) → Room (start provider)
unfolding start
room_start provider = record { groups = omega arith; drugs = omega arith; line = omega arith }

counted : (b : Bool) (n l : ℕ) → n ≤ l → cond b (n + 1) n ≤ l + 1
counted b n l h = cond_case (λ x. x ≤ l + 1) b (λ _. omega arith) (λ _. omega arith)

pub room_advance : (s : State) (r : Facts) → Room s → s.line + 1 < 4294967295 → Room (advance s r)
unfolding advance
room_advance s r h l = record {
  groups = counted (eqb r.number 5) _ _ h.groups;
  drugs = counted (eqb r.number 201) _ _ h.drugs;
  line = l;
}

line_advance : (s : State) (r : Facts) → (advance s r).line ≡ s.line + 1
unfolding advance
line_advance s r = refl

provider_advance : (s : State) (r : Facts) → (advance s r).provider ≡ s.provider
unfolding advance
provider_advance s r = refl

module _ (s : State) (r : Facts) (t : State) (p d : ℕ) (e : step_of s r ≡ On t p d) where
  pub next_line : t.line ≡ s.line + 1
  next_line = ap (λ (u : State). u.line) (taken s r t p d e).state ∙ line_advance s r

  pub provider_kept : t.provider ≡ s.provider
  provider_kept = ap (λ (u : State). u.provider) (taken s r t p d e).state ∙ provider_advance s r

  pub room : Room s → t.line < 4294967295 → Room t
  room h l = rw (taken s r t p d e).state (room_advance s r h (omega (arith, next_line)))

-- ---- RP and doctor handed back

-- a rule that isn't broken, read backwards
unbroken : (a x y : Bool) → (a || x && not y) ≡ false → x ≡ true → y ≡ true
unbroken true x y e f = absurd (false≢true (sym e))
unbroken false true true e f = refl
unbroken false true false e f = absurd (false≢true (sym e))
unbroken false false y e f = absurd (false≢true f)

-- a 281, 291, 301, 311 or 391 has the open RP's value
pub rp_kept : (s : State) (r : Facts) → Good s r → of_open_rp r.number ≡ true → r.rp ≡ s.had.rp
unfolding value_wrong
rp_kept s r g e =
    let c = continues (before_of s) (asked_of s r) in
    eqb-true _ _ (unbroken (eqb r.number 201 && not c && not (eqb r.rp (s.had.rp + 1))) (of_open_rp r.number) (eqb r.rp s.had.rp) g.value e)

of_open : (n : ℕ) → in_rp n ≡ true → eqb n 201 ≡ false → of_open_rp n ≡ true
of_open n h e = rw e at h

-- after a record of an RP, that RP is open
pub rp_open : (s : State) (r : Facts) → Good s r → in_rp r.number ≡ true → (advance s r).had.rp ≡ r.rp
unfolding advance had_after
rp_open s r g h =
    cond_case (λ x. x ≡ r.rp) (eqb r.number 5)
    (λ e. absurd (let n : r.number ≡ 5 = eqb-true _ _ e in false≢true (rw n at h)))
    (λ _. cond_case (λ x. x ≡ r.rp) (eqb r.number 201) (λ _. refl) (λ e. sym (rp_kept s r g (of_open r.number h e))))

-- a record of an RP has the group's last doctor, and its own first item
pub doctor_handed : (s : State) (r : Facts) → in_rp r.number ≡ true → doctor_of s r ≡ s.had.doctor
unfolding doctor_of
doctor_handed s r h = rw h

pub rp_handed : (s : State) (r : Facts) → in_rp r.number ≡ true → rp_of r ≡ r.rp
unfolding rp_of
rp_handed s r h = rw h

-- ---- doctors stay in their group

pub doctor_of_5 : (s : State) (r : Facts) → r.number ≡ 5 → (advance s r).had.doctor ≡ 0
unfolding advance had_after
doctor_of_5 s r e = simp (eq-eqb _ _ e)

-- d is the line of a 55 among the records rs, the first of which stands at line l + 1
pub data LineOf55 (d : ℕ) : ℕ → List Facts → Type 0 where
  here : {l : ℕ} {r : Facts} {rs : List Facts} → r.number ≡ 55 → d ≡ l + 1 → LineOf55 d l (r ∷ rs)
  there : {l : ℕ} {r : Facts} {rs : List Facts} → LineOf55 d (l + 1) rs → LineOf55 d l (r ∷ rs)

pub past : {d l : ℕ} {rs : List Facts} → LineOf55 d l rs → l < d
past (here e f) = omega arith
past (there h) = omega (arith, past h)

-- what holds of 0, of the doctor now and of each 55 to come holds of the doctor after them
pub doctor_after : (P : ℕ → Type 0) (rs : List Facts) (s : State) → P 0 → P s.had.doctor
    → ((d : ℕ) → LineOf55 d s.line rs → P d) → P (after s rs).had.doctor
unfolding after advance had_after
doctor_after P [] s z p f = p
doctor_after P (r ∷ rs) s z p f =
    doctor_after P rs (advance s r) z
    (cond_case P (eqb r.number 5) (λ _. z) (λ _. cond_case P (eqb r.number 55) (λ e. f (s.line + 1) (here (eqb-true _ _ e) refl)) (λ _. p)))
    (λ d h. f d (there h))

-- a doctor never reaches into the next group: after a 5, whatever records rs follow, the doctor handed to a record q is none or the line
-- of a 55 among rs
pub never_into_next : (s : State) (r : Facts) (rs : List Facts) (q : Facts) → r.number ≡ 5
    → (doctor_of (after (advance s r) rs) q ≡ 0) ⊎ LineOf55 (doctor_of (after (advance s r) rs) q) (s.line + 1) rs
unfolding advance doctor_of
never_into_next s r rs q e =
    let P : ℕ → Type 0 = λ d. (d ≡ 0) ⊎ LineOf55 d (s.line + 1) rs in
    cond_case P (in_rp q.number)
    (λ _. doctor_after P rs (advance s r) (inl refl) (inl (doctor_of_5 s r e)) (λ d h. inr h))
    (λ _. inl refl)
