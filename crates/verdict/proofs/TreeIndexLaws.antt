-- The index of an accepted file is the one read off the tree of its records, and no two groups share a doctor: the claims of specs/TreeIndex.antt.
-- Assumes nothing.
use Prim.Native.Nat.{ℕ, ◌+◌, ◌≤◌, ◌<◌}
use native.Mathlib.Omega.{arith}
use mathlib.Core.Path.{◌≡◌, refl, ap, ap₂, sym, ◌∙◌, subst}
use mathlib.Core.Logic.{◌⊎◌, inl, inr}
use mathlib.Core.Bool.{Bool, true, false, cond, ◌||◌, false≢true}
use Rattle.std.specs.Prelude.{Option, Some, None}
use mathlib.Core.List.{List, [], ◌∷◌, ◌++◌, map}
use lib.Dec.{eqb}
use borrow.Author.Tests.{ne_eqb}
use Rattle.characters.specs.Text.{text}
use Rattle.records.specs.Records.{Record, record_of}
use Rattle.order.specs.declared.State.{State}
use Rattle.order.specs.declared.Facts.{Facts}
use Rattle.lists.specs.Lists.{member}
use Rattle.rules.specs.Places.{in_front, in_rp, in_rest, in_group}
use Rattle.order.specs.State.{nothing_yet as no_had, start, had_after, advance, doctor_of, group_of, drug_of}
use Rattle.order.proofs.Laws.{taken, next_line, line_start}
use Rattle.notebook.specs.Facts.{facts_of}
use Rattle.notebook.specs.Index.{Entry, entry_of, entries_of, clinic_after, clinic_of, listed_from, list_of}
use Rattle.notebook.proofs.Walk.{Walk, over, more, accepted}
use Rattle.grammar.specs.Grammar.{Details, Drug, Usage, Prescription, Later, Prescriptions, without_doctors, with_doctors, Group, Tree, rec, opt, any_of, drug_records}
use Rattle.grammar.specs.Grammar.{drugs_records, usage_records, rp_records, plain_records, later_records, prescriptions_records, rest_records, group_records, groups_records, records}
use Rattle.grammar.specs.TreeRows.{TreeRow, Visit, visit, outside, tree_row, bare, clinic_rows, opt_rows, any_rows, drug_rows, drugs_rows, usage_rows, rp_rows, plain_rows, under_rows, later_rows}
use Rattle.verdict.specs.TreeIndex.{Among, here, there, TreeSharesNone, entry_row, IndexIsTheTrees, IsEntry, NoSharedDoctor}
use Rattle.verdict.proofs.Computed.{taut}
use Rattle.verdict.proofs.Verdict.{file_is_grammar}
use Rattle.grammar.specs.TreeRows.{prescriptions_rows, rest_rows, group_rows, groups_rows, tree_rows}

-- ---- the machine's rows, by the line, the count of groups with the clinic, the doctor and the drug before a record

-- the count of groups, and the clinic, after a record n at line l
after : ℕ → Visit → ℕ → Visit
after l v n = visit (cond (eqb n 5) (v.group + 1) v.group) (clinic_after l v.clinic n)

-- what the record itself shows of them
shown : ℕ → Visit → Visit
shown n v = visit (cond (in_group n) v.group 0) (clinic_of n v.clinic)

hand : ℕ → Visit → ℕ → ℕ → List Facts → List TreeRow
hand l v c a [] = []
hand l v c a (r ∷ rs) =
    let v' = after (l + 1) v r.number in
    let a' = cond (eqb r.number 5) 0 (cond (eqb r.number 201) (l + 1) a) in
    tree_row r.number (shown r.number v') (cond (in_rp r.number) c 0) (cond (member (281 ∷ 291 ∷ []) r.number) a' 0)
    ∷ hand (l + 1) v' (cond (eqb r.number 5) 0 (cond (eqb r.number 55) (l + 1) c)) a' rs

abbrev hand_from : State → ℕ → List Facts → List TreeRow
hand_from s k rs = hand s.line (visit s.groups k) s.had.doctor s.had.drug rs

hand_on : (s : State) (k : ℕ) (r : Facts) (rs : List Facts)
    → tree_row r.number (visit (group_of (advance s r)) (clinic_of r.number (clinic_after (s.line + 1) k r.number))) (doctor_of s r) (drug_of (advance s r))
    ∷ hand_from (advance s r) (clinic_after (s.line + 1) k r.number) rs ≡ hand_from s k (r ∷ rs)
unfolding hand after shown advance had_after group_of drug_of doctor_of
hand_on s k r rs = refl

walk_rows : {st : State} {at : ℕ} {rs : List (List ℕ)} {recs : List Record} {es : List Entry} → Walk st at rs recs es → (k : ℕ)
    → map entry_row (listed_from (st.line + 1) k es) ≡ hand_from st k (map facts_of recs)
unfolding hand listed_from entry_of facts_of
walk_rows over k = refl
walk_rows (more {st = st} {r = r} {after = next} {rp = rp} {doctor = doctor} {recs = recs} {es = es} l p w) k =
    let f : Facts = facts_of (record_of (text r)) in
    let d : doctor ≡ doctor_of st f = (taken st f next rp doctor p.step).doctor in
    let m : next.line ≡ st.line + 1 = next_line st f next rp doctor p.step in
    let k' = clinic_after (st.line + 1) k f.number in
    let own : State → ℕ → TreeRow = λ t c. tree_row f.number (visit (group_of t) (clinic_of f.number k')) c (drug_of t) in
    ap₂ (λ (x : TreeRow) (xs : List TreeRow). x ∷ xs)
    (ap (λ (t : State). own t doctor) p.state ∙ ap (own (advance st f)) d)
    (ap (λ (j : ℕ). map entry_row (listed_from (j + 1) k' es)) (sym m) ∙ walk_rows w k' ∙ ap (λ (t : State). hand_from t k' (map facts_of recs)) p.state)
    ∙ hand_on st k f (map facts_of recs)

-- ---- part by part

-- what follows has the rows k, whatever the drug; or whatever the doctor and the drug; or whatever the clinic, too
abbrev Then : Visit → ℕ → List Facts → (ℕ → List TreeRow) → Type 0
Then g c rs k = (l a : ℕ) → hand l g c a rs ≡ k l

abbrev ThenAll : Visit → List Facts → (ℕ → List TreeRow) → Type 0
ThenAll g rs k = (l c a : ℕ) → hand l g c a rs ≡ k l

abbrev ThenNext : ℕ → List Facts → (ℕ → List TreeRow) → Type 0
ThenNext g rs k = (clinic : ℕ) → ThenAll (visit g clinic) rs k

any_rows_lem : (n : ℕ) (w : TreeRow) (g : Visit) (c a : ℕ) → ((l : ℕ) (b : Details) (rs : List Facts) → hand l g c a (rec n b ∷ rs) ≡ w ∷ hand (l + 1) g c a rs)
    → (rs : List Facts) (k : ℕ → List TreeRow) → ((l : ℕ) → hand l g c a rs ≡ k l) → (bs : List Details) (l : ℕ) → hand l g c a (any_of n bs rs) ≡ any_rows w l bs k
any_rows_lem n w g c a s rs k h [] l = h l
any_rows_lem n w g c a s rs k h (b ∷ bs) l = s l b (any_of n bs rs) ∙ ap (λ x. w ∷ x) (any_rows_lem n w g c a s rs k h bs (l + 1))

opt_rows_lem : (n : ℕ) (w : TreeRow) (g : Visit) (c a : ℕ) → ((l : ℕ) (b : Details) (rs : List Facts) → hand l g c a (rec n b ∷ rs) ≡ w ∷ hand (l + 1) g c a rs)
    → (rs : List Facts) (k : ℕ → List TreeRow) → ((l : ℕ) → hand l g c a rs ≡ k l) → (o : Option Details) (l : ℕ) → hand l g c a (opt n o rs) ≡ opt_rows w l o k
opt_rows_lem n w g c a s rs k h None l = h l
opt_rows_lem n w g c a s rs k h (Some b) l = s l b rs ∙ ap (λ x. w ∷ x) (h (l + 1))

module _ (g : Visit) (c : ℕ) where
  drug_rows_lem : (d : Drug) (rs : List Facts) (k : ℕ → List TreeRow) → Then g c rs k → Then g c (drug_records d rs) (λ l. drug_rows g c l d k)
  unfolding hand after shown clinic_after clinic_of in_group
  drug_rows_lem d rs k h l a =
      ap (λ x. tree_row 201 g c 0 ∷ x)
      (any_rows_lem 281 (tree_row 281 g c (l + 1)) g c (l + 1) (λ l b rs. refl) _ (λ m. any_rows (tree_row 291 g c (l + 1)) m d.r291s k)
      (any_rows_lem 291 (tree_row 291 g c (l + 1)) g c (l + 1) (λ l b rs. refl) rs k (λ m. h m (l + 1)) d.r291s) d.r281s (l + 1))

  drugs_rows_lem : (ds : List Drug) (rs : List Facts) (k : ℕ → List TreeRow) → Then g c rs k → Then g c (drugs_records ds rs) (λ l. drugs_rows g c l ds k)
  drugs_rows_lem [] rs k h l a = h l a
  drugs_rows_lem (d ∷ ds) rs k h l a = drug_rows_lem d (drugs_records ds rs) (λ m. drugs_rows g c m ds k) (drugs_rows_lem ds rs k h) l a

  usage_rows_lem : (y : Option Usage) (rs : List Facts) (k : ℕ → List TreeRow) → Then g c rs k → Then g c (usage_records y rs) (λ l. usage_rows g c l y k)
  unfolding hand after shown clinic_after clinic_of in_group
  usage_rows_lem None rs k h l a = h l a
  usage_rows_lem (Some y) rs k h l a = ap (λ x. tree_row 301 g c 0 ∷ x) (any_rows_lem 311 (tree_row 311 g c 0) g c a (λ l b rs. refl) rs k (λ m. h m a) y.r311s (l + 1))

  rp_rows_lem : (p : Prescription) (rs : List Facts) (k : ℕ → List TreeRow) → Then g c rs k → Then g c (rp_records p rs) (λ l. rp_rows g c l p k)
  unfolding hand after shown clinic_after clinic_of in_group
  rp_rows_lem p rs k h =
      drug_rows_lem p.drug _ _ (drugs_rows_lem p.drugs _ _ (usage_rows_lem p.usage _ (λ l. any_rows (tree_row 391 g c 0) l p.r391s k)
      (λ l a. any_rows_lem 391 (tree_row 391 g c 0) g c a (λ l b rs. refl) rs k (λ m. h m a) p.r391s l)))

module _ (g : Visit) (rs : List Facts) (k : ℕ → List TreeRow) (h : ThenAll g rs k) where
  plain_rows_lem : (ps : List Prescription) → Then g 0 (plain_records ps rs) (λ l. plain_rows g l ps k)
  plain_rows_lem [] l a = h l 0 a
  plain_rows_lem (p ∷ ps) l a = rp_rows_lem g 0 p (plain_records ps rs) (λ m. plain_rows g m ps k) (plain_rows_lem ps) l a

  later_rows_lem : (ys : List Later) (c : ℕ) → Then g c (later_records ys rs) (λ l. later_rows g c l ys k)
  unfolding hand after shown clinic_after clinic_of in_group
  later_rows_lem [] c l a = h l c a
  later_rows_lem (y ∷ ys) c l a = by y.r55 (later_rows_lem ys)
    where
      by : (o : Option Details) → ((c : ℕ) → Then g c (later_records ys rs) (λ l. later_rows g c l ys k))
          → hand l g c a (opt 55 o (rp_records y.prescription (later_records ys rs))) ≡ under_rows g c l o y.prescription (λ c' m. later_rows g c' m ys k)
      by None ih = rp_rows_lem g c y.prescription (later_records ys rs) (λ m. later_rows g c m ys k) (ih c) l a
      by (Some b) ih =
          ap (λ x. tree_row 55 g 0 0 ∷ x) (rp_rows_lem g (l + 1) y.prescription (later_records ys rs) (λ m. later_rows g (l + 1) m ys k) (ih (l + 1)) (l + 1) a)

  prescriptions_rows_lem : (x : Prescriptions) → Then g 0 (prescriptions_records x rs) (λ l. prescriptions_rows g l x k)
  unfolding hand after shown clinic_after clinic_of in_group
  prescriptions_rows_lem (without_doctors ps) l a = plain_rows_lem ps l a
  prescriptions_rows_lem (with_doctors b p ls) l a =
      ap (λ x. tree_row 55 g 0 0 ∷ x) (rp_rows_lem g (l + 1) p (later_records ls rs) (λ m. later_rows g (l + 1) m ls k) (later_rows_lem ls (l + 1)) (l + 1) a)

rest_rows_lem : (g : Visit) (x : Group) (rs : List Facts) (k : ℕ → List TreeRow) → ThenAll g rs k → ThenAll g (rest_records x rs) (λ l. rest_rows g l x k)
unfolding hand after shown clinic_after clinic_of in_group
rest_rows_lem g x rs k h l c a =
    any_rows_lem 401 (bare g 401) g c a (λ l b rs. refl) _ _
    (any_rows_lem 411 (bare g 411) g c a (λ l b rs. refl) _ _
    (any_rows_lem 501 (bare g 501) g c a (λ l b rs. refl) _ _
    (any_rows_lem 601 (bare g 601) g c a (λ l b rs. refl) rs k (λ m. h m c a) x.r601s) x.r501s) x.r411s) x.r401s l

-- from a group's 51 on
clinic_rows_lem : (g : ℕ) (o : Option Details) (rs : List Facts) (k : Visit → ℕ → List TreeRow) → ((v : Visit) → v.group ≡ g → Then v 0 rs (k v)) → (l a : ℕ)
    → hand l (visit g 0) 0 a (opt 51 o rs) ≡ clinic_rows g l o k
unfolding hand after shown clinic_after clinic_of in_group
clinic_rows_lem g None rs k h l a = h (visit g 0) refl l a
clinic_rows_lem g (Some b) rs k h l a = ap (λ y. bare (visit g (l + 1)) 51 ∷ y) (h (visit g (l + 1)) refl (l + 1) a)

group_rows_lem : (g : ℕ) (x : Group) (rs : List Facts) (k : ℕ → List TreeRow) → ThenNext (g + 1) rs k → (l clinic c a : ℕ)
    → hand l (visit g clinic) c a (group_records x rs) ≡ group_rows (g + 1) l x k
unfolding hand after shown clinic_after clinic_of in_group
group_rows_lem g x rs k h l clinic c a =
    ap (λ y. bare (visit (g + 1) 0) 5 ∷ y)
    (opt_rows_lem 11 (bare (visit (g + 1) 0) 11) (visit (g + 1) 0) 0 0 (λ l b rs. refl) _ _
    (opt_rows_lem 15 (bare (visit (g + 1) 0) 15) (visit (g + 1) 0) 0 0 (λ l b rs. refl) _ _
    (λ l. clinic_rows_lem (g + 1) x.r51 _ _
    (λ v e. prescriptions_rows_lem v _ (λ l. rest_rows v l x k)
    (rest_rows_lem v x rs k (subst (λ (n : ℕ). ThenAll (visit n v.clinic) rs k) (sym e) (h v.clinic))) x.prescriptions) l 0)
    x.r15) x.r11 (l + 1))

groups_rows_lem : (xs : List Group) (rs : List Facts) (k : ℕ → List TreeRow) → ((g : ℕ) → ThenNext g rs k) → (g : ℕ)
    → ThenNext g (groups_records xs rs) (λ l. groups_rows g l xs k)
groups_rows_lem [] rs k h g clinic l c a = h g clinic l c a
groups_rows_lem (x ∷ xs) rs k h g clinic l c a = group_rows_lem g x (groups_records xs rs) (λ m. groups_rows (g + 1) m xs k) (groups_rows_lem xs rs k h (g + 1)) l clinic c a

-- every tree, good or not
tree_rows_lem : (t : Tree) → hand 1 outside 0 0 (records t) ≡ tree_rows t
unfolding hand after shown clinic_after clinic_of in_group
tree_rows_lem t =
    opt_rows_lem 1 (bare outside 1) outside 0 0 (λ l b rs. refl) _ _
    (any_rows_lem 2 (bare outside 2) outside 0 0 (λ l b rs. refl) _ _
    (any_rows_lem 3 (bare outside 3) outside 0 0 (λ l b rs. refl) _ _
    (any_rows_lem 4 (bare outside 4) outside 0 0 (λ l b rs. refl) _ _
    (λ l. groups_rows_lem t.groups _ (λ l. any_rows (bare outside 701) l t.r701s (λ l. []))
    (λ g clinic l c a. any_rows_lem 701 (bare outside 701) (visit g clinic) c a (λ l b rs. refl) [] (λ l. []) (λ m. refl) t.r701s l) 0 0 l 0 0)
    t.r4s) t.r3s) t.r2s) t.r1 1

start_rows : (provider : Bool) (rs : List Facts) → hand_from (start provider) 0 rs ≡ hand 1 outside 0 0 rs
unfolding start no_had
start_rows provider rs = refl

-- ---- the claims

pub index_is_the_trees : IndexIsTheTrees
unfolding list_of
index_is_the_trees s b t e w =
    ap (λ (j : ℕ). map entry_row (listed_from (j + 1) 0 (entries_of s))) (sym (line_start b.provider))
    ∙ walk_rows (accepted s b e).walked 0 ∙ start_rows b.provider (map facts_of b.records) ∙ ap (hand 1 outside 0 0) (sym w) ∙ tree_rows_lem t

-- ---- no doctor of two groups

-- no doctor; or the doctor before, in the group before; or one named after line l
abbrev Owned : ℕ → ℕ → ℕ → TreeRow → Type 0
Owned l g c w = (w.doctor ≡ 0) ⊎ (((w.doctor ≡ c) × (w.group ≡ g)) ⊎ (l < w.doctor))

-- a row of an RP has the doctor and the group before
record OfRp (n g : ℕ) : Type 0 where
  no_group_lem : eqb n 5 ≡ false
  no_55 : eqb n 55 ≡ false
  grouped : in_group n ≡ true

of_rp_lem : (n g : ℕ) → in_rp n ≡ true → OfRp n g
unfolding in_group
of_rp_lem n g h = record {
  no_group_lem = other 5 refl;
  no_55 = other 55 refl;
  grouped = rp_grouped (in_front n) (eqb n 55) (in_rp n) (in_rest n) h;
}
  where
    other : (m : ℕ) → in_rp m ≡ false → eqb n m ≡ false
    other m e = ne_eqb n m (λ z. false≢true (sym e ∙ ap in_rp (sym z) ∙ h))

    rp_grouped : (a b c d : Bool) → c ≡ true → (a || b || c || d) ≡ true
    rp_grouped a b c d e = rw e (taut 3 (λ a b d. a || b || true || d) (λ a b d. true) refl a b d)

first_owned : (r : Facts) (l g k c x : ℕ)
    → Owned l g c (tree_row r.number (visit (cond (in_group r.number) (cond (eqb r.number 5) (g + 1) g) 0) k) (cond (in_rp r.number) c 0) x)
first_owned r l g k c x = by (in_rp r.number) refl
  where
    by : (b : Bool) → in_rp r.number ≡ b → Owned l g c (tree_row r.number (visit (cond (in_group r.number) (cond (eqb r.number 5) (g + 1) g) 0) k) (cond b c 0) x)
    by true q = let k = of_rp_lem r.number g q in inr (inl (refl, rw (k.grouped, k.no_group_lem)))
    by false q = inl refl

-- what is owned after a record is owned before it
before_owned : (n l g c : ℕ) (w : TreeRow)
    → Owned (l + 1) (cond (eqb n 5) (g + 1) g) (cond (eqb n 5) 0 (cond (eqb n 55) (l + 1) c)) w → Owned l g c w
before_owned n l g c w (inl e) = inl e
before_owned n l g c w (inr (inr h)) = inr (inr (omega arith))
before_owned n l g c w (inr (inl (p, q))) = by (eqb n 5) (eqb n 55) p q
  where
    by : (a b : Bool) → w.doctor ≡ cond a 0 (cond b (l + 1) c) → w.group ≡ cond a (g + 1) g → Owned l g c w
    by true b p q = inl p
    by false true p q = inr (inr (omega arith))
    by false false p q = inr (inl (p, q))

hand_owned : (rs : List Facts) (l : ℕ) (v : Visit) (c a : ℕ) (w : TreeRow) → Among w (hand l v c a rs) → Owned l v.group c w
unfolding hand after shown
hand_owned [] l v c a w m = elim m [ ]
hand_owned (r ∷ rs) l v c a w here =
    first_owned r l v.group (shown r.number (after (l + 1) v r.number)).clinic c (cond (member (281 ∷ 291 ∷ []) r.number) (cond (eqb r.number 5) 0 (cond (eqb r.number 201) (l + 1) a)) 0)
hand_owned (r ∷ rs) l v c a w (there m) = before_owned r.number l v.group c w (hand_owned rs (l + 1) (after (l + 1) v r.number) _ _ w m)

-- the first row's doctor, met again after it
first_shares : (n l g c : ℕ) (y : TreeRow) → c ≤ l → Owned (l + 1) (cond (eqb n 5) (g + 1) g) (cond (eqb n 5) 0 (cond (eqb n 55) (l + 1) c)) y
    → cond (in_rp n) c 0 ≡ y.doctor → (cond (in_rp n) c 0 ≡ 0 → ⊥) → cond (in_group n) (cond (eqb n 5) (g + 1) g) 0 ≡ y.group
first_shares n l g c y h o = by (in_rp n) refl o
  where
    by : (b : Bool) → in_rp n ≡ b → Owned (l + 1) (cond (eqb n 5) (g + 1) g) (cond (eqb n 5) 0 (cond (eqb n 55) (l + 1) c)) y
        → cond b c 0 ≡ y.doctor → (cond b c 0 ≡ 0 → ⊥) → cond (in_group n) (cond (eqb n 5) (g + 1) g) 0 ≡ y.group
    by false q o e z = absurd (z refl)
    by true q (inl d) e z = absurd (z (e ∙ d))
    by true q (inr (inr d)) e z = absurd (omega arith)
    by true q (inr (inl (d, k))) e z = rw (of_rp_lem n g q).grouped (sym k)

doctor_low : (a b : Bool) (l c : ℕ) → c ≤ l → cond a 0 (cond b (l + 1) c) ≤ l + 1
doctor_low true b l c h = omega arith
doctor_low false true l c h = omega arith
doctor_low false false l c h = omega arith

hand_shares : (rs : List Facts) (l : ℕ) (v : Visit) (c a : ℕ) → c ≤ l → (x y : TreeRow) → Among x (hand l v c a rs) → Among y (hand l v c a rs)
    → x.doctor ≡ y.doctor → (x.doctor ≡ 0 → ⊥) → x.group ≡ y.group
unfolding hand after shown
hand_shares [] l v c a h x y m n e z = elim m [ ]
hand_shares (r ∷ rs) l v c a h x y here here e z = refl
hand_shares (r ∷ rs) l v c a h x y here (there n) e z =
    first_shares r.number l v.group c y h (hand_owned rs (l + 1) (after (l + 1) v r.number) _ _ y n) e z
hand_shares (r ∷ rs) l v c a h x y (there m) here e z =
    sym (first_shares r.number l v.group c x h (hand_owned rs (l + 1) (after (l + 1) v r.number) _ _ x m) (sym e) (λ q. z (e ∙ q)))
hand_shares (r ∷ rs) l v c a h x y (there m) (there n) e z =
    hand_shares rs (l + 1) (after (l + 1) v r.number) _ _ (doctor_low (eqb r.number 5) (eqb r.number 55) l c h) x y m n e z

pub tree_shares_none : TreeSharesNone
tree_shares_none t x y m n e z =
    hand_shares (records t) 1 outside 0 0 (omega arith) x y (subst (Among x) (sym (tree_rows_lem t)) m) (subst (Among y) (sym (tree_rows_lem t)) n) e z

-- an entry's row, with the clinic that it is listed with
record ListedRow (e : Entry) (ws : List TreeRow) : Type 0 where
  clinic : ℕ
  among : Among (entry_row (record { entry = e; clinic = clinic })) ws

listed_row : (line k : ℕ) (ahead behind : List Entry) (e : Entry) → ListedRow e (map entry_row (listed_from line k (ahead ++ e ∷ behind)))
unfolding listed_from
listed_row line k [] behind e = record { clinic = _; among = here }
listed_row line k (a ∷ ahead) behind e = let r = listed_row (line + 1) _ ahead behind e in record { clinic = r.clinic; among = there r.among }

pub no_shared_doctor : NoSharedDoctor
unfolding list_of
no_shared_doctor s b e x y i j d z =
    let g = ((file_is_grammar s b).0 e).order in
    let rows_of_lem = index_is_the_trees s b g.tree e g.written in
    let in_tree : (w : Entry) → IsEntry s w → ListedRow w (tree_rows g.tree) =
    λ w k. subst (ListedRow w) (ap (λ (es : List Entry). map entry_row (listed_from 2 0 es)) (sym k.is) ∙ rows_of_lem) (listed_row 2 0 k.ahead k.behind w) in
    let x' = in_tree x i in
    let y' = in_tree y j in
    tree_shares_none g.tree (entry_row (record { entry = x; clinic = x'.clinic })) (entry_row (record { entry = y; clinic = y'.clinic })) x'.among y'.among d z
