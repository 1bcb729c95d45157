-- What an index means, over the definitions that the call's contract cites: its counts are check's; each entry cuts out exactly its
-- record's line; an entry's doctor and drug are the last of their group before it, as document 01 says it. Assumes nothing.
use Prim.Native.Nat.{ℕ, ◌+◌}
use native.Mathlib.Nat.{zero-add, add-zero}
use native.Mathlib.Omega.{arith}
use mathlib.Core.Path.{◌≡◌, refl, sym, ap, ◌∙◌, subst}
use mathlib.Core.Bool.{Bool, true, false, cond, ◌||◌, false≢true}
use mathlib.Core.Logic.{◌⊎◌, inl, inr}
use mathlib.Core.List.{List, [], ◌∷◌, ◌++◌, head-eq_of_cons-eq, tail-eq_of_cons-eq}
use borrow.Author.Tests.{ne_eqb, eqb-true}
use lib.Dec.{eqb}
use lib.ListN.{length, drop, length-append}
use Rattle.lists.specs.Lists.{member, Res, ok, refused, map_res}
use Rattle.lists.proofs.Tests.{member_left, either}
use Rattle.characters.specs.Text.{text}
use Rattle.characters.specs.Rows.{rows}
use Rattle.records.specs.Records.{Record, record_of}
use Rattle.order.specs.declared.State.{State}
use Rattle.order.specs.declared.Facts.{Facts}
use Rattle.rules.specs.Places.{in_front, in_rp, in_rest, in_group}
use Rattle.order.specs.State.{nothing_yet, start, had_after, advance, doctor_of, group_of, drug_of}
use Rattle.order.proofs.Laws.{provider_start, line_start, taken}
use Rattle.notebook.specs.Facts.{facts_of}
use Rattle.replies.specs.Results.{Result}
use Rattle.notebook.specs.Notebook.{Notebook, read_file}
use Rattle.notebook.specs.Check.{count, counted, check_result}
use Rattle.notebook.specs.Index.{Entry, entry_of, entries_of}
use Rattle.notebook.specs.Meaning.{count_entries, Cuts, Each, last_line, Stands}
use Rattle.notebook.proofs.Walk.{Walk, over, more, accepted, walk_length}
use Rattle.notebook.proofs.Lines.{at_row, walk_cuts}
use Rattle.notebook.proofs.Lasts.{kept, kept_after, Keeps, Before, group_is, walk_last, last_stands}

-- ---- the counts are check's

walk_count : (n : ℕ) {st : State} {at : ℕ} {rs : List (List ℕ)} {recs : List Record} {es : List Entry} → Walk st at rs recs es → count_entries n es ≡ count n recs
unfolding count_entries count entry_of
walk_count n over = refl
walk_count n (more {r = r} l p w) = ap (λ (k : ℕ). cond (eqb (record_of (text r)).number n) 1 0 + k) (walk_count n w)

pub index_counts : (s : List ℕ) (c : Result) → check_result s ≡ ok c
    → (length (entries_of s) ≡ c.a) × (count_entries 5 (entries_of s) ≡ c.b) × (count_entries 201 (entries_of s) ≡ c.c)
unfolding check_result
index_counts s c e = go (read_file s) refl e
  where
    go : (r : Res Notebook) → read_file s ≡ r → map_res counted r ≡ ok c
        → (length (entries_of s) ≡ c.a) × (count_entries 5 (entries_of s) ≡ c.b) × (count_entries 201 (entries_of s) ≡ c.c)
    go (refused n line) q e = let z : ◌≡◌ {A = ℕ} 0 1 = cc in absurd (omega arith)
    go (ok b) q e =
        let w = (accepted s b q).walked in
        let x : counted b ≡ c = cc in
        (walk_length w ∙ ap (λ (r : Result). r.a) x, walk_count 5 w ∙ ap (λ (r : Result). r.b) x, walk_count 201 w ∙ ap (λ (r : Result). r.c) x)

-- ---- each entry cuts out its record's line

pub index_lines : (s : List ℕ) (b : Notebook) → read_file s ≡ ok b → Each (Cuts b.provider s) (entries_of s) b.records
index_lines s b e =
    let a = accepted s b e in
    let x : rows (drop (0 + length a.first) s) ≡ a.rest = (at_row s 0 a.first a.rest a.cut a.line).behind in
    walk_cuts b.provider s (ap (λ (k : ℕ). rows (drop k s)) (sym (zero-add (length a.first))) ∙ x) (provider_start b.provider) a.walked

-- ---- an entry's group

groups_more : (b : Bool) (g k : ℕ) → cond b (g + 1) g + k ≡ g + (cond b 1 0 + k)
groups_more true g k = omega arith
groups_more false g k = omega arith

walk_group : {st : State} {at : ℕ} {rs : List (List ℕ)} {recs : List Record} {es : List Entry} → Walk st at rs recs es
    → (before : List Entry) (e : Entry) (behind : List Entry) → es ≡ before ++ e ∷ behind → e.group ≡ cond (in_group e.number) (st.groups + count_entries 5 (before ++ e ∷ [])) 0
unfolding count_entries entry_of facts_of group_of advance
walk_group over before e behind q = absurd (omega (arith, ap length q, length-append before (e ∷ behind)))
walk_group (more {st = st} {at = at} {r = r} {after = after} {rp = rp} {doctor = d} l p w) [] e behind q =
    let h : entry_of at (text r) after d ≡ e = head-eq_of_cons-eq q in
    let n : ℕ = (record_of (text r)).number in
    let k : group_of (advance st (facts_of (record_of (text r)))) ≡ cond (in_group n) (st.groups + (cond (eqb n 5) 1 0 + 0)) 0 =
    ap (λ (g : ℕ). cond (in_group n) g 0) (sym (add-zero (cond (eqb n 5) (st.groups + 1) st.groups)) ∙ groups_more (eqb n 5) st.groups 0) in
    subst (λ (x : Entry). x.group ≡ cond (in_group x.number) (st.groups + (cond (eqb x.number 5) 1 0 + 0)) 0) h (ap group_of p.state ∙ k)
walk_group (more {st = st} {at = at} {r = r} {after = after} {rp = rp} {doctor = d} l p w) (e₀ ∷ before) e behind q =
    let h : entry_of at (text r) after d ≡ e₀ = head-eq_of_cons-eq q in
    let n : ℕ = (record_of (text r)).number in
    let c : ℕ = count_entries 5 (before ++ e ∷ []) in
    let g : after.groups + c ≡ st.groups + (cond (eqb n 5) 1 0 + c) = ap (λ (t : State). t.groups + c) p.state ∙ groups_more (eqb n 5) st.groups c in
    let g' : after.groups + c ≡ st.groups + (cond (eqb e₀.number 5) 1 0 + c) = g ∙ ap (λ (x : Entry). st.groups + (cond (eqb x.number 5) 1 0 + c)) h in
    walk_group w before e behind (tail-eq_of_cons-eq q) ∙ ap (λ (k : ℕ). cond (in_group e.number) k 0) g'

-- "group ordinal (0 outside groups; 1 first)": how many 5s there are, up to the entry itself
pub index_group : (s : List ℕ) (b : Notebook) → read_file s ≡ ok b → (before : List Entry) (e : Entry) (behind : List Entry) → entries_of s ≡ before ++ e ∷ behind
    → e.group ≡ cond (in_group e.number) (count_entries 5 (before ++ e ∷ [])) 0
unfolding start
index_group s b r before e behind q =
    walk_group (accepted s b r).walked before e behind q ∙ ap (λ (k : ℕ). cond (in_group e.number) k 0) (zero-add (count_entries 5 (before ++ e ∷ [])))

-- ---- an entry's doctor and drug

-- the line that is kept is the state's doctor; its drug
abbrev IsDoctor : State → ℕ → Type 0
IsDoctor st k = k ≡ st.had.doctor

abbrev IsDrug : State → ℕ → Type 0
IsDrug st k = k ≡ st.had.drug

keeps_doctor : Keeps 55 IsDoctor
unfolding kept advance had_after in_group
keeps_doctor = record { no_group_lem = λ e. omega (arith, e); grouped = refl; on = λ st f k h. ap (λ (j : ℕ). kept 55 (st.line + 1) j f.number) h }

keeps_drug : Keeps 201 IsDrug
unfolding kept advance had_after in_group
keeps_drug = record { no_group_lem = λ e. omega (arith, e); grouped = refl; on = λ st f k h. ap (λ (j : ℕ). kept 201 (st.line + 1) j f.number) h }

-- before the first record nothing is kept
none_kept : (provider : Bool) → IsDoctor (start provider) 0 × IsDrug (start provider) 0
unfolding start nothing_yet
none_kept provider = (refl, refl)

-- what is kept before an entry of an accepted file, whose first record stands at line 2
pub kept_before : (n : ℕ) (Beside : State → ℕ → Type 0) (keeps : Keeps n Beside) (s : List ℕ) (b : Notebook) → read_file s ≡ ok b → Beside (start b.provider) 0
    → (before : List Entry) (e : Entry) (behind : List Entry) → entries_of s ≡ before ++ e ∷ behind
    → Before n Beside keeps e (2 + length before) (last_line n e.group 2 0 before) (kept_after n 2 0 before)
kept_before n Beside keeps s b r h before e behind q =
    subst (λ (j : ℕ). Before n Beside keeps e (j + 1 + length before) (last_line n e.group (j + 1) 0 before) (kept_after n (j + 1) 0 before)) (line_start b.provider)
    (walk_last n Beside keeps (accepted s b r).walked before e behind 0 0 q h (record { now = λ _. refl; ahead = λ _. refl }))

-- a record of an RP is in a group, and is no 5
rp_grouped : (n : ℕ) → in_rp n ≡ true → in_group n ≡ true
unfolding in_group
rp_grouped n h = go (in_front n) (eqb n 55) (in_rp n) (in_rest n) h
  where
    go : (a b c d : Bool) → c ≡ true → (a || b || c || d) ≡ true
    go true b c d e = refl
    go false true c d e = refl
    go false false true d e = refl
    go false false false d e = absurd (false≢true e)

rp_no_5 : (n : ℕ) → in_rp n ≡ true → n ≡ 5 → ⊥
rp_no_5 n h e = false≢true (rw e at h)

detail_rp : (n : ℕ) → member (281 ∷ 291 ∷ []) n ≡ true → in_rp n ≡ true
detail_rp n h = go (either (eqb n 281) (eqb n 291) (member_left (281 ∷ 291 ∷ []) n ∙ h))
  where
    go : (eqb n 281 ≡ true) ⊎ (eqb n 291 ≡ true) → in_rp n ≡ true
    go (inl e) = rw (eqb-true n 281 e)
    go (inr e) = rw (eqb-true n 291 e)

detail_no_drug : (n : ℕ) → member (281 ∷ 291 ∷ []) n ≡ true → n ≡ 201 → ⊥
detail_no_drug n h e = false≢true (rw e at h)

drug_of_lem : (st : State) (f : Facts) → member (281 ∷ 291 ∷ []) f.number ≡ true → drug_of (advance st f) ≡ st.had.drug
unfolding drug_of advance had_after
drug_of_lem st f h = rw (h, ne_eqb f.number 5 (rp_no_5 f.number (detail_rp f.number h)), ne_eqb f.number 201 (detail_no_drug f.number h))

drug_none : (st : State) (f : Facts) → member (281 ∷ 291 ∷ []) f.number ≡ false → drug_of (advance st f) ≡ 0
unfolding drug_of advance
drug_none st f h = rw h

module _ (s : List ℕ) (b : Notebook) (r : read_file s ≡ ok b) (before : List Entry) (e : Entry) (behind : List Entry) (q : entries_of s ≡ before ++ e ∷ behind) where
  -- "line of the last preceding 55 in the group for 201–391 (else 0)": the first record stands at line 2
  pub index_doctor : e.doctor ≡ cond (in_rp e.number) (last_line 55 e.group 2 0 before) 0
  unfolding entry_of facts_of doctor_of
  index_doctor =
      let x = kept_before 55 IsDoctor keeps_doctor s b r (none_kept b.provider).0 before e behind q in
      let f : Facts = facts_of (record_of x.l) in
      let n : f.number ≡ e.number = ap (λ (y : Entry). y.number) x.is in
      let d : x.doctor ≡ doctor_of x.st f = (taken x.st f x.after x.rp x.doctor x.placed.step).doctor in
      let g : group_of (advance x.st f) ≡ e.group = ap group_of (sym x.placed.state) ∙ ap (λ (y : Entry). y.group) x.is in
      sym (ap (λ (y : Entry). y.doctor) x.is) ∙ d ∙ go x n g (in_rp f.number) refl
    where
      go : (x : Before 55 IsDoctor keeps_doctor e (2 + length before) (last_line 55 e.group 2 0 before) (kept_after 55 2 0 before)) → (record_of x.l).number ≡ e.number
          → group_of (advance x.st (facts_of (record_of x.l))) ≡ e.group → (i : Bool) → in_rp (record_of x.l).number ≡ i
          → cond (in_rp (record_of x.l).number) x.st.had.doctor 0 ≡ cond (in_rp e.number) (last_line 55 e.group 2 0 before) 0
      go x n g true i =
          let m = (record_of x.l).number in
          let k = group_is x.st (facts_of (record_of x.l)) (rp_no_5 m i) (rp_grouped m i) in
          let u = x.known.now (sym g ∙ k) ∙ x.beside in
          rw (ap in_rp (sym n) ∙ i, i, u)
      go x n g false i = rw (ap in_rp (sym n) ∙ i, i)

  -- the doctor of a record of an RP: none, and no 55 stands before it in its group; or the line of one that does
  pub index_doctor_stands : in_rp e.number ≡ true
      → ((e.doctor ≡ 0) × ((line : ℕ) → Stands 55 e.group line 2 before → ⊥)) ⊎ Stands 55 e.group e.doctor 2 before
  index_doctor_stands h =
      let d : e.doctor ≡ last_line 55 e.group 2 0 before = index_doctor ∙ rw h in
      rw d (last_stands 55 e.group 2 0 before)

  -- "line of the last preceding 201 for 281 and 291 (else 0)"
  pub index_drug : e.drug ≡ cond (member (281 ∷ 291 ∷ []) e.number) (last_line 201 e.group 2 0 before) 0
  unfolding entry_of facts_of drug_of
  index_drug =
      let x = kept_before 201 IsDrug keeps_drug s b r (none_kept b.provider).1 before e behind q in
      let n : (record_of x.l).number ≡ e.number = ap (λ (y : Entry). y.number) x.is in
      let g : group_of (advance x.st (facts_of (record_of x.l))) ≡ e.group = ap group_of (sym x.placed.state) ∙ ap (λ (y : Entry). y.group) x.is in
      sym (ap (λ (y : Entry). y.drug) x.is) ∙ ap drug_of x.placed.state ∙ go x n g (member (281 ∷ 291 ∷ []) (record_of x.l).number) refl
    where
      go : (x : Before 201 IsDrug keeps_drug e (2 + length before) (last_line 201 e.group 2 0 before) (kept_after 201 2 0 before)) → (record_of x.l).number ≡ e.number
          → group_of (advance x.st (facts_of (record_of x.l))) ≡ e.group → (i : Bool) → member (281 ∷ 291 ∷ []) (record_of x.l).number ≡ i
          → drug_of (advance x.st (facts_of (record_of x.l))) ≡ cond (member (281 ∷ 291 ∷ []) e.number) (last_line 201 e.group 2 0 before) 0
      go x n g true i =
          let m = (record_of x.l).number in
          let f = facts_of (record_of x.l) in
          let k = group_is x.st f (rp_no_5 m (detail_rp m i)) (rp_grouped m (detail_rp m i)) in
          let u = x.known.now (sym g ∙ k) ∙ x.beside in
          rw (← n, i) (drug_of_lem x.st f i ∙ sym u)
      go x n g false i = rw (← n, i) (drug_none x.st (facts_of (record_of x.l)) i)
