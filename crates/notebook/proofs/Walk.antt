-- The entries of an accepted file beside its records: line by line, each with the state that its record moved the reader to. Every law of
-- the index is an induction over this one relation. Assumes nothing.
use Prim.Native.Nat.{ℕ, suc, ◌+◌, ◌*◌, ◌≤◌}
use native.Mathlib.Omega.{arith}
use mathlib.Core.Path.{◌≡◌, refl, sym, ap, ◌∙◌, subst}
use mathlib.Core.Bool.{Bool, true, false, cond, true≢false}
use mathlib.Core.List.{List, [], ◌∷◌}
use borrow.Author.Tests.{leb-true}
use lib.Dec.{leb, eqb}
use lib.ListN.{length, length-append}
use Rattle.lists.specs.Lists.{same, Res, ok, refused}
use Rattle.lists.proofs.Tests.{same_true}
use Rattle.characters.specs.Text.{text}
use Rattle.characters.specs.Rows.{rows, is_line, end_mark}
use Rattle.records.specs.Records.{Record, record_of, header}
use Rattle.order.specs.declared.State.{State}
use Rattle.order.specs.State.{Step}
use Rattle.order.specs.State.{Fault, On}
use Rattle.order.specs.State.{start, finish_of}
use Rattle.buffers.specs.Entries.{seven_numbers}
use Rattle.notebook.specs.Notebook.{Notebook, step_line, prepend, closed, onward, records_from, notebook_of, read_rows, read_file}
use Rattle.notebook.specs.Index.{Entry, entry_of, entered, entries_from, entries_after_head, entries_of, Listed, listed_from, entry_numbers, numbers}
use Rattle.notebook.proofs.Placing.{Placed, placed}

pub data Walk : State → ℕ → List (List ℕ) → List Record → List Entry → Type 0 where
  over : {st : State} {at : ℕ} {rs : List (List ℕ)} → Walk st at rs [] []
  more : {st : State} {at : ℕ} {r : List ℕ} {rs : List (List ℕ)} {after : State} {rp doctor : ℕ} {recs : List Record} {es : List Entry}
      → is_line r ≡ true → Placed st (text r) after rp doctor → Walk after (at + length r) rs recs es
      → Walk st at (r ∷ rs) (record_of (text r) ∷ recs) (entry_of at (text r) after doctor ∷ es)

-- ---- the records of rows that are all taken

no_refusal : {A : Type 0} {n line : ℕ} {a : A} → ◌≡◌ {A = Res A} (refused n line) (ok a) → ⊥
no_refusal e = let z : ◌≡◌ {A = ℕ} 0 1 = cc in omega arith

closed_none : (st : State) (recs : List Record) → closed st ≡ ok recs → [] ≡ recs
unfolding closed
closed_none st recs e = go (eqb (finish_of st) 0) e
  where
    go : (x : Bool) → cond x (ok []) (refused (finish_of st) (st.line + 1)) ≡ ok recs → [] ≡ recs
    go true e = cc
    go false e = absurd (no_refusal e)

mark_no_line : (r : List ℕ) → same r end_mark ≡ true → is_line r ≡ false
unfolding is_line
mark_no_line r e = rw (same_true r end_mark e)

pub walk : (rs : List (List ℕ)) (st : State) (at : ℕ) (recs : List Record) → records_from st rs ≡ ok recs → Walk st at rs recs (entries_from st at rs)
unfolding records_from entries_from onward entered
walk [] st at recs e = subst (λ (x : List Record). Walk st at [] x []) (closed_none st recs e) over
walk (r ∷ rs) st at recs e = by (same r end_mark) refl (is_line r) refl (λ t u. walk rs t (at + length r) u) e
  where
    -- a record that was taken, and those after it
    on : (t : State) (rp doctor : ℕ) → is_line r ≡ true → step_line st (text r) ≡ On t rp doctor → (res : Res (List Record)) → records_from t rs ≡ res
        → ((u : List Record) → records_from t rs ≡ ok u → Walk t (at + length r) rs u (entries_from t (at + length r) rs))
        → prepend (record_of (text r)) res ≡ ok recs → Walk st at (r ∷ rs) recs (entry_of at (text r) t doctor ∷ entries_from t (at + length r) rs)
    on t rp doctor l m (ok u) q ih e =
        let h : record_of (text r) ∷ u ≡ recs = cc in
        subst (λ (x : List Record). Walk st at (r ∷ rs) x (entry_of at (text r) t doctor ∷ entries_from t (at + length r) rs)) h (more l (placed st (text r) t rp doctor m) (ih u q))
    on t rp doctor l m (refused n line) q ih e = absurd (no_refusal e)

    step : is_line r ≡ true → (m : Step) → step_line st (text r) ≡ m
        → ((t : State) (u : List Record) → records_from t rs ≡ ok u → Walk t (at + length r) rs u (entries_from t (at + length r) rs))
        → onward (st.line + 1) (record_of (text r)) (λ t. records_from t rs) m ≡ ok recs → Walk st at (r ∷ rs) recs (entered at (text r) (λ t. entries_from t (at + length r) rs) m)
    step l (Fault n) m ih e = absurd (no_refusal e)
    step l (On t rp doctor) m ih e = on t rp doctor l m (records_from t rs) refl (ih t) e

    by : (x : Bool) → same r end_mark ≡ x → (y : Bool) → is_line r ≡ y
        → ((t : State) (u : List Record) → records_from t rs ≡ ok u → Walk t (at + length r) rs u (entries_from t (at + length r) rs))
        → cond x (closed st) (cond y (onward (st.line + 1) (record_of (text r)) (λ t. records_from t rs) (step_line st (text r))) (refused 2 (st.line + 1))) ≡ ok recs
        → Walk st at (r ∷ rs) recs (cond y (entered at (text r) (λ t. entries_from t (at + length r) rs) (step_line st (text r))) [])
    by true p true q ih e = absurd (true≢false (sym q ∙ mark_no_line r p))
    by true p false q ih e = subst (λ (x : List Record). Walk st at (r ∷ rs) x []) (closed_none st recs e) over
    by false p true q ih e = step q (step_line st (text r)) refl ih e
    by false p false q ih e = absurd (no_refusal e)

-- ---- an accepted file

pub record Accepted (s : List ℕ) (b : Notebook) : Type 0 where
  pub small : length s ≤ 65536
  pub first : List ℕ
  pub rest : List (List ℕ)
  pub cut : rows s ≡ first ∷ rest
  pub line : is_line first ≡ true
  pub walked : Walk (start b.provider) (length first) rest b.records (entries_of s)

book_parts : (provider : Bool) (res : Res (List Record)) (b : Notebook) → notebook_of provider res ≡ ok b → (provider ≡ b.provider) × (res ≡ ok b.records)
book_parts provider (refused n line) b e = absurd (no_refusal e)
book_parts provider (ok rs) b e =
    let h : ◌≡◌ {A = Notebook} (record { provider = provider; records = rs }) b = cc in
    (ap (λ (x : Notebook). x.provider) h, ap (λ (x : Notebook). ok x.records) h)

pub accepted : (s : List ℕ) (b : Notebook) → read_file s ≡ ok b → Accepted s b
unfolding read_file read_rows entries_of entries_after_head
accepted s b e = sized (leb (length s) 65536) refl e
  where
    known : (r : List ℕ) (rs : List (List ℕ)) (provider : Bool) → length s ≤ 65536 → rows s ≡ r ∷ rs → is_line r ≡ true → same (text r) (header true) ≡ provider
        → notebook_of provider (records_from (start provider) rs) ≡ ok b → Accepted s b
    known r rs provider h q l p e =
        let x = book_parts provider (records_from (start provider) rs) b e in
        let w : Walk (start provider) (length r) rs b.records (entries_from (start provider) (length r) rs) = walk rs (start provider) (length r) b.records x.1 in
        let v : Walk (start b.provider) (length r) rs b.records (entries_from (start provider) (length r) rs) =
        subst (λ (y : Bool). Walk (start y) (length r) rs b.records (entries_from (start provider) (length r) rs)) x.0 w in
        record { small = h; first = r; rest = rs; cut = q; line = l; walked = rw (q, l, p) v }

    row : (r : List ℕ) (rs : List (List ℕ)) → length s ≤ 65536 → rows s ≡ r ∷ rs → (l : Bool) → is_line r ≡ l → (x : Bool) → same (text r) (header true) ≡ x → (y : Bool)
        → cond l (cond x (notebook_of true (records_from (start true) rs)) (cond y (notebook_of false (records_from (start false) rs)) (refused 3 1))) (refused 2 1) ≡ ok b → Accepted s b
    row r rs h q true l true p y e = known r rs true h q l p e
    row r rs h q true l false p true e = known r rs false h q l p e
    row r rs h q true l false p false e = absurd (no_refusal e)
    row r rs h q false l x p y e = absurd (no_refusal e)

    rowed : length s ≤ 65536 → (rs : List (List ℕ)) → rows s ≡ rs → read_rows rs ≡ ok b → Accepted s b
    rowed h [] q e = absurd (no_refusal e)
    rowed h (r ∷ rs) q e = row r rs h q (is_line r) refl (same (text r) (header true)) refl (same (text r) (header false)) e

    sized : (x : Bool) → leb (length s) 65536 ≡ x → cond x (read_rows (rows s)) (refused 1 0) ≡ ok b → Accepted s b
    sized true p e = rowed (leb-true _ _ p) (rows s) refl e
    sized false p e = absurd (no_refusal e)

-- ---- as many entries as records, seven numbers each

pub walk_length : {st : State} {at : ℕ} {rs : List (List ℕ)} {recs : List Record} {es : List Entry} → Walk st at rs recs es → length es ≡ length recs
walk_length over = refl
walk_length (more l p w) = ap suc (walk_length w)

pub listed_length : (line before : ℕ) (es : List Entry) → length (listed_from line before es) ≡ length es
unfolding listed_from
listed_length line before [] = refl
listed_length line before (e ∷ es) = ap suc (listed_length (line + 1) _ es)

pub numbers_length : (xs : List Listed) → length (numbers xs) ≡ 7 * length xs
unfolding numbers seven_numbers
numbers_length [] = refl
numbers_length (x ∷ xs) =
    let n : length (entry_numbers x) ≡ 7 = refl in
    length-append (entry_numbers x) (numbers xs) ∙ omega (arith, n, numbers_length xs)
