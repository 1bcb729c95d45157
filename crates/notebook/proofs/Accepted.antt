-- What an accepted file is: a line 1, rows that are read to the records one by one, and records that the order lets pass. `accepted` reads it
-- off a file; `carries` makes a file of it. The order looks at the records alone, so rows that are read to the same records pass it alike.
-- Assumes nothing.
use Prim.Native.Nat.{ℕ, ◌+◌, ◌≤◌}
use native.Mathlib.Omega.{arith}
use mathlib.Core.Path.{◌≡◌, refl, sym, ap, ◌∙◌, subst}
use mathlib.Core.Bool.{Bool, true, false, cond, false≢true}
use mathlib.Core.List.{List, [], ◌∷◌, ◌++◌, append_assoc, append-nil, head-eq_of_cons-eq, tail-eq_of_cons-eq}
use borrow.Author.Tests.{leb-true, le-leb, eqb-true, eq-eqb}
use lib.Dec.{leb, eqb}
use lib.ListN.{length}
use Rattle.lists.specs.Lists.{bytes, same, All, Res, ok, refused}
use Rattle.lists.proofs.Tests.{same_true, same_refl}
use Rattle.characters.specs.Text.{text}
use Rattle.characters.specs.Rows.{rows, flat, line_end, is_line, end_mark}
use Rattle.characters.proofs.RowLaws.{text_clean, rows_line, line_no_mark}
use Rattle.records.specs.Records.{Record, line_fault, record_of, header}
use Rattle.order.specs.declared.State.{State}
use Rattle.order.specs.State.{Step}
use Rattle.order.specs.State.{Fault, On}
use Rattle.order.specs.State.{start, step_of, finish_of}
use Rattle.order.proofs.Laws.{provider_kept, provider_start}
use Rattle.notebook.specs.Facts.{facts_of}
use Rattle.notebook.specs.Notebook.{Notebook, step_line, prepend, closed, onward, records_from, notebook_of, read_rows, read_file}
use Rattle.notebook.specs.Canonical.{head_row}

pub no_refusal : {A : Type 0} {n line : ℕ} {a : A} → ◌≡◌ {A = Res A} (refused n line) (ok a) → ⊥
no_refusal e = let z : ◌≡◌ {A = ℕ} 0 1 = cc in omega arith

-- ---- rows that are lines

abbrev pub IsLine : List ℕ → Type 0
IsLine r = is_line r ≡ true

-- a line is its text and the line end
pub line_bytes : (r : List ℕ) → IsLine r → r ≡ text r ++ line_end
unfolding is_line
line_bytes r e = same_true r (text r ++ line_end) e

pub row_cut : (r s : List ℕ) → IsLine r → rows (r ++ s) ≡ r ∷ rows s
row_cut r s e =
    let b : r ≡ text r ++ line_end = line_bytes r e in
    ap rows (ap (λ (x : List ℕ). x ++ s) b ∙ append_assoc (text r) line_end s) ∙ rows_line (text r) s (text_clean r) ∙ ap (λ (x : List ℕ). x ∷ rows s) (sym b)

-- lines are cut as they were put together
pub rows_cut : (rs : List (List ℕ)) (s : List ℕ) → All IsLine rs → rows (flat rs ++ s) ≡ rs ++ rows s
rows_cut [] s h = refl
rows_cut (r ∷ rs) s (h, t) =
    ap rows (append_assoc r (flat rs) s) ∙ row_cut r (flat rs ++ s) h ∙ ap (λ (x : List (List ℕ)). r ∷ x) (rows_cut rs s t)

pub rows_flat : (rs : List (List ℕ)) → All IsLine rs → rows (flat rs) ≡ rs
rows_flat rs h = ap rows (sym (append-nil (flat rs))) ∙ rows_cut rs [] h ∙ append-nil rs

pub line_no_end : (r : List ℕ) → IsLine r → same r end_mark ≡ false
line_no_end r e = ap (λ (x : List ℕ). same x end_mark) (line_bytes r e) ∙ line_no_mark (text r)

-- ---- line 1

pub head_line : (d : Bool) → IsLine (head_row d)
unfolding is_line header bytes
head_line true = refl
head_line false = refl

pub head_text : (d : Bool) → text (head_row d) ≡ header d
unfolding header bytes
head_text true = refl
head_text false = refl

pub head_length : (d : Bool) → length (head_row d) ≡ 13
unfolding header bytes
head_length true = refl
head_length false = refl

pub header_same : (d e : Bool) → same (header d) (header e) ≡ true → d ≡ e
unfolding header bytes
header_same true true h = refl
header_same true false h = absurd (false≢true h)
header_same false true h = absurd (false≢true h)
header_same false false h = refl

-- ---- rows that are read to records, and the order over the records

-- the row is a line, has no fault, and is read to the record
pub record Reads (d : Bool) (r : Record) (l : List ℕ) : Type 0 where
  pub line : IsLine l
  pub good : line_fault d (text l) ≡ 0
  pub is : record_of (text l) ≡ r

pub data Lines (d : Bool) : List Record → List (List ℕ) → Type 0 where
  none : Lines d [] []
  more : {r : Record} {l : List ℕ} {rs : List Record} {ls : List (List ℕ)} → Reads d r l → Lines d rs ls → Lines d (r ∷ rs) (l ∷ ls)

pub lines_are : {d : Bool} {rs : List Record} {ls : List (List ℕ)} → Lines d rs ls → All IsLine ls
lines_are none = tt
lines_are (more p ps) = (p.line, lines_are ps)

-- the order lets the records pass, and the end
pub data Ruled : State → List Record → Type 0 where
  over : {st : State} → finish_of st ≡ 0 → Ruled st []
  next : {st after : State} {rp doctor : ℕ} {r : Record} {rs : List Record} → step_of st (facts_of r) ≡ On after rp doctor → Ruled after rs → Ruled st (r ∷ rs)

-- ---- from the reader to them

-- what stands after the records: nothing, or 1Ah first
pub data Ended : List (List ℕ) → Type 0 where
  nothing : Ended []
  mark : {rs : List (List ℕ)} → Ended (end_mark ∷ rs)

pub record Taken (d : Bool) (st : State) (rs : List (List ℕ)) (recs : List Record) : Type 0 where
  pub front : List (List ℕ)
  pub behind : List (List ℕ)
  pub cut : rs ≡ front ++ behind
  pub ended : Ended behind
  pub lines : Lines d recs front
  pub ruled : Ruled st recs

-- rows that are all lines are all read
pub all_taken : {d : Bool} {st : State} {rs : List (List ℕ)} {recs : List Record} → All IsLine rs → Taken d st rs recs → Lines d recs rs
unfolding is_line
all_taken {d} {st} {rs} {recs} h t = go t.front t.behind t.cut t.ended t.lines
  where
    no_mark : (fs bs : List (List ℕ)) → All IsLine (fs ++ end_mark ∷ bs) → ⊥
    no_mark [] bs (h, t) = false≢true h
    no_mark (f ∷ fs) bs (h, t) = no_mark fs bs t

    go : (fs bs : List (List ℕ)) → rs ≡ fs ++ bs → Ended bs → Lines d recs fs → Lines d recs rs
    go fs bs e nothing l = subst (Lines d recs) (sym (e ∙ append-nil fs)) l
    go fs bs e (mark {rs = bs'}) l = absurd (no_mark fs bs' (subst (All IsLine) e h))

closed_is : (st : State) (recs : List Record) → closed st ≡ ok recs → ([] ≡ recs) × (finish_of st ≡ 0)
unfolding closed
closed_is st recs e = go (eqb (finish_of st) 0) refl e
  where
    go : (x : Bool) → eqb (finish_of st) 0 ≡ x → cond x (ok []) (refused (finish_of st) (st.line + 1)) ≡ ok recs → ([] ≡ recs) × (finish_of st ≡ 0)
    go true q e = (cc, eqb-true _ _ q)
    go false q e = absurd (no_refusal e)

-- a line that was taken had no fault, and the order took its record
stepped : (st : State) (l : List ℕ) (t : State) (rp doctor : ℕ) → step_line st l ≡ On t rp doctor
    → (line_fault st.provider l ≡ 0) × (step_of st (facts_of (record_of l)) ≡ On t rp doctor)
unfolding step_line
stepped st l t rp doctor e = go (eqb (line_fault st.provider l) 0) refl e
  where
    go : (x : Bool) → eqb (line_fault st.provider l) 0 ≡ x → cond x (step_of st (facts_of (record_of l))) (Fault (line_fault st.provider l)) ≡ On t rp doctor
        → (line_fault st.provider l ≡ 0) × (step_of st (facts_of (record_of l)) ≡ On t rp doctor)
    go true q e = (eqb-true _ _ q, e)
    go false q e = let z : ◌≡◌ {A = ℕ} 0 1 = cc in absurd (omega arith)

pub taken : (d : Bool) (rs : List (List ℕ)) (st : State) (recs : List Record) → st.provider ≡ d → records_from st rs ≡ ok recs → Taken d st rs recs
unfolding records_from onward
taken d [] st recs p e = let c = closed_is st recs e in
    subst (Taken d st []) c.0 (record { front = []; behind = []; cut = refl; ended = nothing; lines = none; ruled = over c.1 })
taken d (r ∷ rs) st recs p e = by (same r end_mark) refl (is_line r) refl (λ t u. taken d rs t u) e
  where
    on : (t : State) (rp doctor : ℕ) → is_line r ≡ true → step_line st (text r) ≡ On t rp doctor → (res : Res (List Record)) → records_from t rs ≡ res
        → ((u : List Record) → t.provider ≡ d → records_from t rs ≡ ok u → Taken d t rs u) → prepend (record_of (text r)) res ≡ ok recs → Taken d st (r ∷ rs) recs
    on t rp doctor l m (refused n line) q ih e = absurd (no_refusal e)
    on t rp doctor l m (ok u) q ih e =
        let h : record_of (text r) ∷ u ≡ recs = cc in
        let s = stepped st (text r) t rp doctor m in
        let k : Taken d t rs u = ih u (provider_kept st (facts_of (record_of (text r))) t rp doctor s.1 ∙ p) q in
        subst (Taken d st (r ∷ rs)) h (record {
          front = r ∷ k.front;
          behind = k.behind;
          cut = ap (λ (x : List (List ℕ)). r ∷ x) k.cut;
          ended = k.ended;
          lines = more (record { line = l; good = subst (λ (x : Bool). line_fault x (text r) ≡ 0) p s.0; is = refl }) k.lines;
          ruled = next s.1 k.ruled;
        })

    step : is_line r ≡ true → (m : Step) → step_line st (text r) ≡ m
        → ((t : State) (u : List Record) → t.provider ≡ d → records_from t rs ≡ ok u → Taken d t rs u)
        → onward (st.line + 1) (record_of (text r)) (λ t. records_from t rs) m ≡ ok recs → Taken d st (r ∷ rs) recs
    step l (Fault n) m ih e = absurd (no_refusal e)
    step l (On t rp doctor) m ih e = on t rp doctor l m (records_from t rs) refl (ih t) e

    by : (x : Bool) → same r end_mark ≡ x → (y : Bool) → is_line r ≡ y
        → ((t : State) (u : List Record) → t.provider ≡ d → records_from t rs ≡ ok u → Taken d t rs u)
        → cond x (closed st) (cond y (onward (st.line + 1) (record_of (text r)) (λ t. records_from t rs) (step_line st (text r))) (refused 2 (st.line + 1))) ≡ ok recs
        → Taken d st (r ∷ rs) recs
    by true m y q ih e =
        let c = closed_is st recs e in
        let h : r ≡ end_mark = same_true r end_mark m in
        subst (λ (x : List ℕ). Taken d st (x ∷ rs) recs) (sym h)
        (subst (Taken d st (end_mark ∷ rs)) c.0 (record { front = []; behind = end_mark ∷ rs; cut = refl; ended = mark; lines = none; ruled = over c.1 }))
    by false m true q ih e = step q (step_line st (text r)) refl ih e
    by false m false q ih e = absurd (no_refusal e)

-- ---- and back

step_on : (st : State) (l : List ℕ) (t : State) (rp doctor : ℕ) → line_fault st.provider l ≡ 0 → step_of st (facts_of (record_of l)) ≡ On t rp doctor
    → step_line st l ≡ On t rp doctor
unfolding step_line
step_on st l t rp doctor z e = rw (eq-eqb (line_fault st.provider l) 0 z) e

pub reads_all : {d : Bool} {recs : List Record} {rs : List (List ℕ)} (st : State) → st.provider ≡ d → Lines d recs rs → Ruled st recs → records_from st rs ≡ ok recs
unfolding records_from closed onward
reads_all st p none (over f) = rw (eq-eqb (finish_of st) 0 f)
reads_all {d} st p (more {r = r} {l = l} {rs = rs} {ls = ls} x xs) (next {after = t} {rp = rp} {doctor = doctor} s u) =
    let g : step_of st (facts_of (record_of (text l))) ≡ On t rp doctor = ap (λ (z : Record). step_of st (facts_of z)) x.is ∙ s in
    let m : step_line st (text l) ≡ On t rp doctor = step_on st (text l) t rp doctor (subst (λ (y : Bool). line_fault y (text l) ≡ 0) (sym p) x.good) g in
    let i : records_from t ls ≡ ok rs = reads_all t (provider_kept st (facts_of (record_of (text l))) t rp doctor g ∙ p) xs u in
    rw (line_no_end l x.line, x.line, m, i) (ap (λ (z : Record). ok (z ∷ rs)) x.is)

-- ---- the file

pub record Carried (f : List ℕ) (b : Notebook) : Type 0 where
  pub small : length f ≤ 65536
  pub rest : List (List ℕ)
  pub cut : rows f ≡ head_row b.provider ∷ rest
  pub taken : Taken b.provider (start b.provider) rest b.records

book_parts : (d : Bool) (res : Res (List Record)) (b : Notebook) → notebook_of d res ≡ ok b → (d ≡ b.provider) × (res ≡ ok b.records)
book_parts d (refused n line) b e = absurd (no_refusal e)
book_parts d (ok rs) b e =
    let h : ◌≡◌ {A = Notebook} (record { provider = d; records = rs }) b = cc in
    (ap (λ (x : Notebook). x.provider) h, ap (λ (x : Notebook). ok x.records) h)

pub accepted : (f : List ℕ) (b : Notebook) → read_file f ≡ ok b → Carried f b
unfolding read_file read_rows
accepted f b e = sized (leb (length f) 65536) refl e
  where
    known : (r : List ℕ) (rs : List (List ℕ)) (d : Bool) → length f ≤ 65536 → rows f ≡ r ∷ rs → is_line r ≡ true → same (text r) (header d) ≡ true
        → notebook_of d (records_from (start d) rs) ≡ ok b → Carried f b
    known r rs d h q l p e =
        let x = book_parts d (records_from (start d) rs) b e in
        let w : r ≡ head_row b.provider = line_bytes r l ∙ ap (λ (t : List ℕ). t ++ line_end) (same_true (text r) (header d) p) ∙ ap head_row x.0 in
        record {
          small = h;
          rest = rs;
          cut = q ∙ ap (λ (t : List ℕ). t ∷ rs) w;
          taken = subst (λ (y : Bool). Taken y (start y) rs b.records) x.0 (taken d rs (start d) b.records (provider_start d) x.1);
        }

    row : (r : List ℕ) (rs : List (List ℕ)) → length f ≤ 65536 → rows f ≡ r ∷ rs → (l : Bool) → is_line r ≡ l
        → (x : Bool) → same (text r) (header true) ≡ x → (y : Bool) → same (text r) (header false) ≡ y
        → cond l (cond x (notebook_of true (records_from (start true) rs)) (cond y (notebook_of false (records_from (start false) rs)) (refused 3 1))) (refused 2 1) ≡ ok b
        → Carried f b
    row r rs h q true l true p y z e = known r rs true h q l p e
    row r rs h q true l false p true z e = known r rs false h q l z e
    row r rs h q true l false p false z e = absurd (no_refusal e)
    row r rs h q false l x p y z e = absurd (no_refusal e)

    rowed : length f ≤ 65536 → (rs : List (List ℕ)) → rows f ≡ rs → read_rows rs ≡ ok b → Carried f b
    rowed h [] q e = absurd (no_refusal e)
    rowed h (r ∷ rs) q e = row r rs h q (is_line r) refl (same (text r) (header true)) refl (same (text r) (header false)) refl e

    sized : (x : Bool) → leb (length f) 65536 ≡ x → cond x (read_rows (rows f)) (refused 1 0) ≡ ok b → Carried f b
    sized true p e = rowed (leb-true _ _ p) (rows f) refl e
    sized false p e = absurd (no_refusal e)

-- rows after a line 1 are read as the reader reads them from the start
pub rows_read : (d : Bool) (rs : List (List ℕ)) → read_rows (head_row d ∷ rs) ≡ notebook_of d (records_from (start d) rs)
unfolding read_rows header bytes
rows_read true rs = rw (head_line true)
rows_read false rs = rw (head_line false)

-- a line 1 and rows that are read are a file that carries them
pub carries : (d : Bool) (recs : List Record) (rs : List (List ℕ)) → Lines d recs rs → Ruled (start d) recs → length (head_row d ++ flat rs) ≤ 65536
    → read_file (head_row d ++ flat rs) ≡ ok (record { provider = d; records = recs })
unfolding read_file
carries d recs rs l u h =
    let c : rows (head_row d ++ flat rs) ≡ head_row d ∷ rs =
    row_cut (head_row d) (flat rs) (head_line d) ∙ ap (λ (x : List (List ℕ)). head_row d ∷ x) (rows_flat rs (lines_are l)) in
    rw (le-leb (length (head_row d ++ flat rs)) 65536 h)
    (ap read_rows c ∙ rows_read d rs ∙ ap (notebook_of d) (reads_all (start d) (provider_start d) l u))

-- a line 1 and other lines that are a file: all the lines are read
pub record LinesRead (d : Bool) (rs : List (List ℕ)) (b : Notebook) : Type 0 where
  pub way : d ≡ b.provider
  pub lines : Lines d b.records rs
  pub ruled : Ruled (start d) b.records

pub lines_read : (d : Bool) (rs : List (List ℕ)) (b : Notebook) → All IsLine rs → read_file (head_row d ++ flat rs) ≡ ok b → LinesRead d rs b
lines_read d rs b h e =
    let c : Carried (head_row d ++ flat rs) b = accepted (head_row d ++ flat rs) b e in
    let q : head_row d ∷ rs ≡ head_row b.provider ∷ c.rest =
    sym (row_cut (head_row d) (flat rs) (head_line d) ∙ ap (λ (x : List (List ℕ)). head_row d ∷ x) (rows_flat rs h)) ∙ c.cut in
    let w : d ≡ b.provider = header_same d b.provider
    (ap (λ (x : List ℕ). same (header d) x) (sym (head_text b.provider) ∙ ap text (sym (head-eq_of_cons-eq q)) ∙ head_text d) ∙ same_refl (header d)) in
    let t : Taken b.provider (start b.provider) rs b.records =
    subst (λ (x : List (List ℕ)). Taken b.provider (start b.provider) x b.records) (sym (tail-eq_of_cons-eq q)) c.taken in
    record {
      way = w;
      lines = subst (λ (x : Bool). Lines x b.records rs) (sym w) (all_taken h t);
      ruled = subst (λ (x : Bool). Ruled (start x) b.records) (sym w) t.ruled;
    }
