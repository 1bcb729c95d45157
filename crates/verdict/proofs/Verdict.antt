-- The claims of specs/Acceptance.antt: the order's machine runs through exactly the records that the grammar has, and check accepts exactly the
-- files of them. Assumes nothing.
use Prim.Native.Nat.{ℕ, ◌+◌}
use native.Mathlib.Omega.{arith}
use mathlib.Core.Path.{◌≡◌, refl, ap, sym, ◌∙◌, subst}
use mathlib.Core.Bool.{Bool, true, false, cond}
use mathlib.Core.List.{List, [], ◌∷◌, ◌++◌, map}
use lib.Dec.{eqb, leb}
use lib.ListN.{length}
use borrow.Author.Tests.{eqb-true, le-leb, leb-true}
use Rattle.lists.specs.Lists.{bytes, same, Res, ok, refused, map_res}
use Rattle.lists.proofs.Tests.{both, same_true, same_refl}
use Rattle.characters.specs.Text.{text}
use Rattle.characters.specs.Scanning.{clean}
use Rattle.characters.specs.Rows.{rows, flat, is_line, line_end, end_mark}
use Rattle.characters.proofs.RowLaws.{flat_rows, line_is, line_text, line_no_mark}
use Rattle.records.specs.Records.{Record, line_fault, record_of, header}
use Rattle.records.proofs.LineLaws.{reads, read_is, line_good}
use Rattle.order.specs.declared.State.{State}
use Rattle.order.specs.declared.Facts.{Facts}
use Rattle.order.specs.State.{Step}
use Rattle.order.specs.State.{Fault, On}
use Rattle.order.specs.State.{start, advance, refusal_of, step_of, finish_of, rp_of, doctor_of}
use Rattle.order.specs.Run.{refused_at, ran_to, at_end, stepped as order_onward, run_of, after}
use Rattle.order.proofs.Laws.{taken, takes, provider_kept, provider_start}
use Rattle.order.proofs.Run.{run_on, ran_after}
use Rattle.notebook.specs.Facts.{facts_of}
use Rattle.notebook.specs.Notebook.{Notebook, step_line, prepend, closed, onward, records_from, notebook_of, read_rows, read_file}
use Rattle.notebook.specs.Check.{counts, counted, check_result}
use Rattle.verdict.specs.Acceptance.{MachineIsGrammar, file_bytes, Reads, File, FileIsGrammar, Carries, CheckIsGrammar}
use Rattle.verdict.proofs.Machine.{accepts}
use Rattle.verdict.proofs.Groups.{grammar_machine}
use Rattle.verdict.proofs.Backwards.{machine_grammar}
use Rattle.faults.proofs.RowsOf.{rows_line, FirstLine, first_line, mark_last}

-- ---- records

-- a record that is taken, and those after it
accepts_on : (s : State) (r : Facts) (rs : List Facts) → accepts s (r ∷ rs) ≡ true → (refusal_of s r ≡ 0) × (accepts (advance s r) rs ≡ true)
unfolding accepts
accepts_on s r rs h =
    let g = both (eqb (refusal_of s r) 0) (accepts (advance s r) rs) h in
    (eqb-true _ _ g.0, g.1)

on_accepts : (s : State) (r : Facts) (rs : List Facts) → refusal_of s r ≡ 0 → accepts (advance s r) rs ≡ true → accepts s (r ∷ rs) ≡ true
unfolding accepts
on_accepts s r rs e h = rw (e, h)

accepts_end : (s : State) → accepts s [] ≡ true → finish_of s ≡ 0
unfolding accepts
accepts_end s h = eqb-true _ _ h

end_accepts : (s : State) → finish_of s ≡ 0 → accepts s [] ≡ true
unfolding accepts
end_accepts s e = rw e

ran_through : (rs : List Facts) (s : State) → accepts s rs ≡ true → (t : State) × (run_of s rs ≡ ran_to t)
unfolding run_of at_end
ran_through [] s h = (s, rw (accepts_end s h))
ran_through (r ∷ rs) s h =
    let g = accepts_on s r rs h in
    let i = ran_through rs (advance s r) g.1 in
    (i.0, run_on s r rs (advance s r) (rp_of r) (doctor_of s r) (takes s r g.0) ∙ i.1)

never : {n l : ℕ} {t : State} → refused_at n l ≡ ran_to t → ⊥
never e = let z : ◌≡◌ {A = ℕ} 0 1 = cc in omega arith

through_ran : (rs : List Facts) (s t : State) → run_of s rs ≡ ran_to t → accepts s rs ≡ true
unfolding run_of after order_onward
through_ran [] s t e = let g = ran_after [] s t e in end_accepts s (subst (λ u. finish_of u ≡ 0) g.0 g.1)
through_ran (r ∷ rs) s t e = by (step_of s r) refl e (through_ran rs (advance s r) t)
  where
    by : (m : Step) → step_of s r ≡ m → order_onward s.line (λ u. run_of u rs) m ≡ ran_to t
        → (run_of (advance s r) rs ≡ ran_to t → accepts (advance s r) rs ≡ true) → accepts s (r ∷ rs) ≡ true
    by (Fault n) q f i = absurd (never f)
    by (On u p d) q f i = let k = taken s r u p d q in on_accepts s r rs k.good (i (subst (λ v. run_of v rs ≡ ran_to t) k.state f))

-- the machine and the grammar
pub machine_is_grammar : MachineIsGrammar
machine_is_grammar provider rs = (
  λ a. machine_grammar provider rs (through_ran rs (start provider) a.last a.ran),
  λ a. let i = ran_through rs (start provider) (grammar_machine provider rs a) in record { last = i.0; ran = i.1 },
)

-- ---- what is read, to a file of it

no_refusal : {A : Type 0} {n line : ℕ} {a : A} → ◌≡◌ {A = Res A} (refused n line) (ok a) → ⊥
no_refusal e = let z : ◌≡◌ {A = ℕ} 0 1 = cc in omega arith

closed_good : (st : State) (recs : List Record) → closed st ≡ ok recs → (finish_of st ≡ 0) × ([] ≡ recs)
unfolding closed
closed_good st recs e = go (eqb (finish_of st) 0) refl e
  where
    go : (x : Bool) → eqb (finish_of st) 0 ≡ x → cond x (ok []) (refused (finish_of st) (st.line + 1)) ≡ ok recs → (finish_of st ≡ 0) × ([] ≡ recs)
    go true q e = (eqb-true _ _ q, cc)
    go false q e = absurd (no_refusal e)

-- bytes after line 1
record Parsed (st : State) (l : List ℕ) (recs : List Record) : Type 0 where
  lines : List (List ℕ)
  marked : Bool
  cut : l ≡ file_bytes lines marked
  read : Reads st.provider lines recs
  runs : accepts st (map facts_of recs) ≡ true

parsed_end : (st : State) (l : List ℕ) (marked : Bool) (recs : List Record) → l ≡ cond marked end_mark [] → closed st ≡ ok recs → Parsed st l recs
parsed_end st l marked recs q e =
    let g = closed_good st recs e in
    subst (Parsed st l) g.1 (record { lines = []; marked = marked; cut = q; read = tt; runs = end_accepts st g.0 })

-- a line that is taken in its place
pub record TakenLine (st : State) (l : List ℕ) (t : State) : Type 0 where
  pub sound : line_fault st.provider l ≡ 0
  pub good : refusal_of st (facts_of (record_of l)) ≡ 0
  pub state : t ≡ advance st (facts_of (record_of l))
  pub side : t.provider ≡ st.provider

pub taken_line : (st : State) (l : List ℕ) (t : State) (rp doctor : ℕ) → step_line st l ≡ On t rp doctor → TakenLine st l t
unfolding step_line
taken_line st l t rp doctor e = go (eqb (line_fault st.provider l) 0) refl e
  where
    go : (x : Bool) → eqb (line_fault st.provider l) 0 ≡ x
        → cond x (step_of st (facts_of (record_of l))) (Fault (line_fault st.provider l)) ≡ On t rp doctor → TakenLine st l t
    go true q e =
        let k = taken st (facts_of (record_of l)) t rp doctor e in
        record { sound = eqb-true _ _ q; good = k.good; state = k.state; side = provider_kept st (facts_of (record_of l)) t rp doctor e }
    go false q e = absurd (let z : ◌≡◌ {A = ℕ} 0 1 = cc in omega arith)

parsed_line : (st t : State) (l r : List ℕ) (rs : List (List ℕ)) (recs : List Record) → FirstLine l r rs → TakenLine st (text r) t → Parsed t (flat rs) recs
    → Parsed st l (record_of (text r) ∷ recs)
parsed_line st t l r rs recs f k p = record {
  lines = text r ∷ p.lines;
  marked = p.marked;
  cut = f.cut ∙ ap (λ (x : List ℕ). text r ++ (line_end ++ x)) p.cut;
  read = (reads st.provider (text r) k.sound, subst (λ (b : Bool). Reads b p.lines recs) k.side p.read);
  runs = on_accepts st _ _ k.good (subst (λ (u : State). accepts u (map facts_of recs) ≡ true) k.state p.runs);
}

parse : (rs : List (List ℕ)) (l : List ℕ) (st : State) (recs : List Record) → rows l ≡ rs → records_from st rs ≡ ok recs → Parsed st l recs
unfolding records_from onward
parse [] l st recs q e = parsed_end st l false recs (sym (flat_rows l) ∙ ap flat q) e
parse (r ∷ rs) l st recs q e = by (same r end_mark) refl (is_line r) refl (λ t u. parse rs (flat rs) t u) e
  where
    on : (t : State) → FirstLine l r rs → TakenLine st (text r) t → (res : Res (List Record)) → records_from t rs ≡ res
        → ((u : List Record) → rows (flat rs) ≡ rs → records_from t rs ≡ ok u → Parsed t (flat rs) u) → prepend (record_of (text r)) res ≡ ok recs
        → Parsed st l recs
    on t f k (ok u) w ih e =
        let h : record_of (text r) ∷ u ≡ recs = cc in
        subst (Parsed st l) h (parsed_line st t l r rs u f k (ih u f.behind w))
    on t f k (refused n line) w ih e = absurd (no_refusal e)

    step : FirstLine l r rs → (m : Step) → step_line st (text r) ≡ m
        → ((t : State) (u : List Record) → rows (flat rs) ≡ rs → records_from t rs ≡ ok u → Parsed t (flat rs) u)
        → onward (st.line + 1) (record_of (text r)) (λ t. records_from t rs) m ≡ ok recs → Parsed st l recs
    step f (Fault n) w ih e = absurd (no_refusal e)
    step f (On t rp doctor) w ih e = on t f (taken_line st (text r) t rp doctor w) (records_from t rs) refl (ih t) e

    by : (x : Bool) → same r end_mark ≡ x → (y : Bool) → is_line r ≡ y
        → ((t : State) (u : List Record) → rows (flat rs) ≡ rs → records_from t rs ≡ ok u → Parsed t (flat rs) u)
        → cond x (closed st)
        (cond y (onward (st.line + 1) (record_of (text r)) (λ t. records_from t rs) (step_line st (text r))) (refused 2 (st.line + 1))) ≡ ok recs
        → Parsed st l recs
    by true w y z ih e = parsed_end st l true recs (mark_last l rs (q ∙ ap (λ (x : List ℕ). x ∷ rs) (same_true r end_mark w))) e
    by false w true z ih e = step (first_line l r rs q z) (step_line st (text r)) refl ih e
    by false w false z ih e = absurd (no_refusal e)

file_of_lem : (s : List ℕ) (b : Notebook) → read_file s ≡ ok b → File s b
unfolding read_file read_rows
file_of_lem s b e = sized (leb (length s) 65536) refl e
  where
    -- line 1 is known
    known : (r : List ℕ) (rs : List (List ℕ)) (provider : Bool) (res : Res (List Record)) → leb (length s) 65536 ≡ true → FirstLine s r rs
        → text r ≡ header provider
        → records_from (start provider) rs ≡ res → notebook_of provider res ≡ ok b → File s b
    known r rs provider (refused n line) h f t q e = absurd (no_refusal e)
    known r rs provider (ok recs) h f t q e =
        let p : Parsed (start provider) (flat rs) recs = parse rs (flat rs) (start provider) recs f.behind q in
        let w : ◌≡◌ {A = Notebook} (record { provider = provider; records = recs }) b = cc in
        subst (File s) w (record {
          small = leb-true _ _ h;
          lines = p.lines;
          marked = p.marked;
          cut = f.cut ∙ ap (λ (x : List ℕ). x ++ (line_end ++ flat rs)) t ∙ ap (λ (x : List ℕ). header provider ++ (line_end ++ x)) p.cut;
          read = subst (λ (o : Bool). Reads o p.lines recs) (provider_start provider) p.read;
          order = machine_grammar provider (map facts_of recs) p.runs;
        })

    row : (r : List ℕ) (rs : List (List ℕ)) → leb (length s) 65536 ≡ true → rows s ≡ r ∷ rs → (l : Bool) → is_line r ≡ l
        → (x : Bool) → same (text r) (header true) ≡ x → (y : Bool) → same (text r) (header false) ≡ y
        → cond l (cond x (notebook_of true (records_from (start true) rs)) (cond y (notebook_of false (records_from (start false) rs)) (refused 3 1)))
        (refused 2 1) ≡ ok b → File s b
    row r rs h q true l true x y z e = known r rs true (records_from (start true) rs) h (first_line s r rs q l) (same_true _ _ x) refl e
    row r rs h q true l false x true z e = known r rs false (records_from (start false) rs) h (first_line s r rs q l) (same_true _ _ z) refl e
    row r rs h q true l false x false z e = absurd (no_refusal e)
    row r rs h q false l x p y z e = absurd (no_refusal e)

    rowed : leb (length s) 65536 ≡ true → (rs : List (List ℕ)) → rows s ≡ rs → read_rows rs ≡ ok b → File s b
    rowed h [] q e = absurd (no_refusal e)
    rowed h (r ∷ rs) q e = row r rs h q (is_line r) refl (same (text r) (header true)) refl (same (text r) (header false)) refl e

    sized : (x : Bool) → leb (length s) 65536 ≡ x → cond x (read_rows (rows s)) (refused 1 0) ≡ ok b → File s b
    sized true p e = rowed p (rows s) refl e
    sized false p e = absurd (no_refusal e)

-- ---- a file, to what it is read to

step_good : (st : State) (l : List ℕ) → line_fault st.provider l ≡ 0 → refusal_of st (facts_of (record_of l)) ≡ 0
    → step_line st l ≡ On (advance st (facts_of (record_of l))) (rp_of (facts_of (record_of l))) (doctor_of st (facts_of (record_of l)))
unfolding step_line
step_good st l e g = rw e (takes st (facts_of (record_of l)) g)

line_read : (st : State) (l : List ℕ) (rs : List (List ℕ)) → line_fault st.provider l ≡ 0 → refusal_of st (facts_of (record_of l)) ≡ 0
    → records_from st ((l ++ line_end) ∷ rs) ≡ prepend (record_of l) (records_from (advance st (facts_of (record_of l))) rs)
unfolding records_from onward
line_read st l rs e g =
    let c = (line_good st.provider l e).clean in
    rw (line_no_mark l, line_is l c, line_text l c, step_good st l e g)

end_read : (st : State) (marked : Bool) → finish_of st ≡ 0 → records_from st (rows (cond marked end_mark [])) ≡ ok []
unfolding records_from closed
end_read st true e = rw e
end_read st false e = rw e

side_kept : (st : State) (r : Facts) → (advance st r).provider ≡ st.provider
unfolding advance
side_kept st r = refl

reread : (lines : List (List ℕ)) (recs : List Record) (st : State) (marked : Bool) → Reads st.provider lines recs → accepts st (map facts_of recs) ≡ true
    → records_from st (rows (file_bytes lines marked)) ≡ ok recs
reread [] [] st marked w h = end_read st marked (accepts_end st h)
reread [] (r ∷ recs) st marked w h = absurd w
reread (l ∷ lines) [] st marked w h = absurd w
reread (l ∷ lines) (r ∷ recs) st marked w h =
    let k = read_is st.provider l r w.0 in
    let g = accepts_on st (facts_of r) (map facts_of recs) h in
    let good : refusal_of st (facts_of (record_of l)) ≡ 0 = subst (λ (x : Record). refusal_of st (facts_of x) ≡ 0) (sym k.1) g.0 in
    let i = reread lines recs (advance st (facts_of r)) marked (subst (λ (b : Bool). Reads b lines recs) (sym (side_kept st (facts_of r))) w.1) g.1 in
    ap (records_from st) (rows_line l (file_bytes lines marked) (line_good st.provider l k.0).clean)
    ∙ line_read st l (rows (file_bytes lines marked)) k.0 good
    ∙ ap (λ (x : Record). prepend x (records_from (advance st (facts_of x)) (rows (file_bytes lines marked)))) k.1
    ∙ ap (prepend r) i

header_clean : (provider : Bool) → clean (header provider) ≡ true
unfolding header bytes
header_clean true = refl
header_clean false = refl

other : same (header false) (header true) ≡ false
unfolding header bytes
other = refl

first_read : (provider : Bool) (rs : List (List ℕ)) → read_rows ((header provider ++ line_end) ∷ rs) ≡ notebook_of provider (records_from (start provider) rs)
unfolding read_rows
first_read provider rs = rw (line_is (header provider) (header_clean provider), line_text (header provider) (header_clean provider)) (by provider)
  where
    by : (p : Bool)
        → cond (same (header p) (header true)) (notebook_of true (records_from (start true) rs))
        (cond (same (header p) (header false)) (notebook_of false (records_from (start false) rs)) (refused 3 1))
        ≡ notebook_of p (records_from (start p) rs)
    by true = rw (same_refl (header true))
    by false = rw (other, same_refl (header false))

of_file : (s : List ℕ) (b : Notebook) → File s b → read_file s ≡ ok b
unfolding read_file
of_file s b f =
    let recs = b.records in
    let w = subst (λ (o : Bool). Reads o f.lines b.records) (sym (provider_start b.provider)) f.read in
    let i = reread f.lines b.records (start b.provider) f.marked w (grammar_machine b.provider (map facts_of b.records) f.order) in
    rw (le-leb _ _ f.small)
    (ap (λ (x : List ℕ). read_rows (rows x)) f.cut
    ∙ ap read_rows (rows_line (header b.provider) (file_bytes f.lines f.marked) (header_clean b.provider))
    ∙ first_read b.provider (rows (file_bytes f.lines f.marked))
    ∙ ap (notebook_of b.provider) i)

-- every list of bytes, and the notebook that it is read to
pub file_is_grammar : FileIsGrammar
file_is_grammar s b = (file_of_lem s b, of_file s b)

-- every list of bytes, and check's counts
pub check_is_grammar : CheckIsGrammar
unfolding check_result
check_is_grammar s n groups drugs = (by (read_file s) refl, λ c. ap (map_res counted) (of_file s c.notebook c.file) ∙ ap ok c.counts)
  where
    by : (res : Res Notebook) → read_file s ≡ res → map_res counted res ≡ ok (counts n groups drugs) → Carries s n groups drugs
    by (ok b) q e = record { notebook = b; file = file_of_lem s b q; counts = cc }
    by (refused m line) q e = absurd (no_refusal e)
