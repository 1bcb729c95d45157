-- DOCUMENT 02 (viii) (specs/Names.antt): what check refuses all calls refuse, what is accepted has its kana name in one script, a mixture is 11, and nothing
-- more is asked. Assumes nothing.
use Prim.Native.Nat.{ℕ, zero, suc, ◌≤◌, ◌<◌}
use native.Mathlib.Omega.{arith}
use mathlib.Core.Path.{◌≡◌, refl, sym, ap, ap₂, subst, ◌∙◌}
use mathlib.Core.Bool.{Bool, true, false, cond}
use mathlib.Core.Logic.{◌⊎◌, inl, inr}
use mathlib.Core.List.{List, [], ◌∷◌}
use borrow.Author.Tests.{ne_eqb, leb-true}
use lib.Dec.{leb, eqb}
use lib.ListN.{length}
use Rattle.lists.specs.Lists.{Res, ok, refused, map_res, and_then, ◌or_else◌, unless}
use Rattle.lists.proofs.Tests.{or_zero_lem, unless_zero, below}
use Rattle.characters.specs.Text.{all_chars}
use Rattle.characters.specs.Rows.{rows}
use Rattle.records.specs.Items.{one_script}
use Rattle.records.specs.Records.{Record, line_fault, record_of}
use Rattle.replies.specs.Replies.{refusal, reply_of}
use Rattle.replies.specs.Results.{Result, answer_of, fitting, answer_in, reply_to, output_of}
use Rattle.replies.proofs.Results.{gives_refusal}
use Rattle.order.specs.declared.State.{State}
use Rattle.order.specs.declared.Facts.{Facts}
use Rattle.order.specs.State.{Step}
use Rattle.order.specs.State.{Fault, On}
use Rattle.order.specs.State.{start, step_of}
use Rattle.order.proofs.Laws.{provider_start}
use Rattle.notebook.specs.Facts.{facts_of}
use Rattle.notebook.specs.Notebook.{Notebook, step_line, prepend, onward, records_from, notebook_of, read_file}
use Rattle.notebook.proofs.Accepted.{no_refusal}
use Rattle.notebook.specs.Check.{count, counted, check_result}
use Rattle.notebook.specs.Index.{index_result}
use Rattle.notebook.specs.Canonical.{canonical_file, canonical_result}
use Rattle.division.specs.Cut.{writes_pieces, list_for, cut_list, cut_result}
use Rattle.division.specs.Join.{joined_file, checked_file, then_checked, join_file, join_result}
use Rattle.refusals.specs.Refusals.{Call, check, index, canonical, cut, join, about, replied, left_in, check_numbers, Given}
use Rattle.refusals.proofs.Reading.{file_refuses}
use Rattle.refusals.proofs.Reading.{Refuses as ReadRefuses}
use Rattle.names.specs.Scripts.{OneScript}
use Rattle.names.specs.Names.{asked, Refuses, RefusedByAll, Person, file_after, file_with, AreItems, Proper, AcceptedInOneScript, MixedRefused, ScriptAlone}
use Rattle.names.proofs.Scripts.{in_one_script, one_script_lem}
use Rattle.names.proofs.AnyLine.{no_line_fault}
use Rattle.names.proofs.Lines.{line_with, nine_fault, kana_fault, line_fault_lem, line_chars, kana_mixed, kana_good, kana_script, file_read, same_facts, one_number, last_chars}

-- ---- one refusal from all calls

-- a call that has a refusal to give
gives : (x : Call) {n line : ℕ} → (about x).result ≡ refused n line → Refuses x n line
gives x e = let g = gives_refusal (about x).lent e in record { replies = sym (ap reply_of g.answer); keeps = sym g.output }

-- what check refuses is refused by the reader of files
check_reads : (f : List ℕ) (n line : ℕ) → replied (check f) ≡ refusal n line → (n ≡ 0 → ⊥) → read_file f ≡ refused n line
unfolding check_result answer_in
check_reads f n line e z = go (read_file f) e
  where
    go : (x : Res Notebook) → reply_of (answer_of (fitting (map_res counted x) [])) ≡ refusal n line → x ≡ refused n line
    go (ok b) h = absurd (z (sym (ap (λ r. r.refusal) h)))
    go (refused m k) h = ap₂ (λ (i j : ℕ). refused i j) (ap (λ r. r.refusal) h) (ap (λ r. r.line) h)

from_ok : {A : Type 0} {a b : A} → ◌≡◌ {A = Res A} (ok a) (ok b) → a ≡ b
from_ok e = cc

-- and so by all calls
reads_all : (x : Call) (f : List ℕ) {n line : ℕ} → asked x ≡ ok f → read_file f ≡ refused n line → Refuses x n line
unfolding check_result index_result canonical_result canonical_file cut_result cut_list join_result join_file
reads_all (check g) f a e = gives (check g) (ap (λ (y : List ℕ). check_result y) (from_ok a) ∙ rw e refl)
reads_all (index g out) f a e = gives (index g out) (ap (λ (y : List ℕ). index_result y) (from_ok a) ∙ rw e refl)
reads_all (canonical g out) f a e = gives (canonical g out) (ap (λ (y : List ℕ). canonical_result y) (from_ok a) ∙ rw e refl)
reads_all (cut g c id used out) f a e = gives (cut g c id used out) (ap (λ (y : List ℕ). cut_result y c id used) (from_ok a) ∙ rw e refl)
reads_all (join s out) f a e = gives (join s out) (rw (a, e) refl)

pub refused_by_all : RefusedByAll
refused_by_all x f n line a e z = reads_all x f a (check_reads f n line e z)

-- a call that accepts was asked of a file that is read
reads_some : (x : Call) (f : List ℕ) → asked x ≡ ok f → (replied x).refusal ≡ 0 → {n line : ℕ} → read_file f ≡ refused n line → ⊥
unfolding below
reads_some x f a z {n} {line} e =
    let p : 0 < n = positive (read_file f) (file_refuses check_numbers refl f) e in
    let q : n ≡ 0 = sym (ap (λ r. r.refusal) (reads_all x f a e).replies) ∙ z in
    omega arith
  where
    positive : (r : Res Notebook) → ReadRefuses (Given check_numbers f) r → r ≡ refused n line → 0 < n
    positive (ok b) g h = absurd (no_refusal (sym h))
    positive (refused m k) g h = subst (λ (i : ℕ). 0 < i) (number h) g.positive
      where
        number : ◌≡◌ {A = Res Notebook} (refused m k) (refused n line) → m ≡ n
        number h = cc

-- ---- a file with a record 1, by the fault of its second line

module _ (d : Bool) (p : Person) (kana rest : List ℕ) (w : AreItems p kana) (small : length (file_with d p kana rest) ≤ 65536) where
  faulty : {n : ℕ} → line_fault d (line_with p kana) ≡ n → (n ≡ 0 → ⊥) → read_file (file_with d p kana rest) ≡ refused n 2
  unfolding step_line onward
  faulty {n} e z =
      let m : step_line (start d) (line_with p kana) ≡ Fault n = rw (provider_start d, e, ne_eqb n 0 z) refl in
      file_read d p kana rest w small
      ∙ ap (λ (m : Step). notebook_of d (onward 2 (record_of (line_with p kana)) (λ t. records_from t (rows rest)) m)) m

-- its length, if it is read at all
fits : (f : List ℕ) → ((n line : ℕ) → line ≤ 2 → read_file f ≡ refused n line → ⊥) → length f ≤ 65536
unfolding read_file
fits f h = go (leb (length f) 65536) refl
  where
    go : (b : Bool) → leb (length f) 65536 ≡ b → length f ≤ 65536
    go true e = leb-true (length f) 65536 e
    go false e = absurd (h 1 0 (omega arith) (rw e refl))

-- a line without a fault has none in its characters, the nine items and the kana name
fault_parts : (d : Bool) (p : Person) (kana : List ℕ) → AreItems p kana → line_fault d (line_with p kana) ≡ 0
    → (all_chars (line_with p kana) ≡ true) × (nine_fault d p ≡ 0) × (kana_fault d kana ≡ 0)
fault_parts d p kana w e =
    let x = or_zero_lem (unless (all_chars (line_with p kana)) 4) (nine_fault d p or_else kana_fault d kana) (sym (line_fault_lem d p kana w) ∙ e) in
    let y = or_zero_lem (nine_fault d p) (kana_fault d kana) x.1 in
    (unless_zero (all_chars (line_with p kana)) 3 x.0, y.0, y.1)

pub accepted_in_one_script : AcceptedInOneScript
accepted_in_one_script x d before p kana rest w a z = go (read_file (file_after d before p kana rest)) refl
  where
    go : (r : Res Notebook) → read_file (file_after d before p kana rest) ≡ r → OneScript kana
    go (ok b) e = in_one_script kana (kana_script b.provider kana (fault_parts b.provider p kana w (no_line_fault d before p kana rest w b e)).2)
    go (refused n line) e = absurd (reads_some x (file_after d before p kana rest) a z e)

-- the second line of a file that is not refused before it has no fault
no_fault : (d : Bool) (p : Person) (kana rest : List ℕ) → AreItems p kana → ((n line : ℕ) → line ≤ 2 → read_file (file_with d p kana rest) ≡ refused n line → ⊥)
    → (all_chars (line_with p kana) ≡ true) × (nine_fault d p ≡ 0) × (kana_fault d kana ≡ 0)
no_fault d p kana rest w h = go (line_fault d (line_with p kana)) refl
  where
    go : (n : ℕ) → line_fault d (line_with p kana) ≡ n → (all_chars (line_with p kana) ≡ true) × (nine_fault d p ≡ 0) × (kana_fault d kana ≡ 0)
    go zero e = fault_parts d p kana w e
    go (suc n) e = absurd (h (suc n) 2 (omega arith) (faulty d p kana rest w (fits (file_with d p kana rest) h) e (λ z. omega arith)))

-- ---- a mixture is 11

-- a file that check accepts, or refuses after its second line, is not refused before
passes : (f : List ℕ) (n line : ℕ) → line ≤ 2 → read_file f ≡ refused n line → ((replied (check f)).refusal ≡ 0) ⊎ (3 ≤ (replied (check f)).line) → ⊥
passes f n line l e (inl z) = reads_some (check f) f refl z e
passes f n line l e (inr z) = omega (arith, l, z, ap (λ r. r.line) (reads_all (check f) f refl e).replies)

pub mixed_refused : MixedRefused
mixed_refused x d p kana other rest v w a small z y n =
    let g = no_fault d p other rest w (λ i j l e. passes (file_with d p other rest) i j l e z) in
    let m : one_script kana ≡ false = mixed (one_script kana) refl in
    let c : all_chars (line_with p kana) ≡ true = line_chars p kana other (y.chars ∙ sym (other_chars g.0)) ∙ g.0 in
    let f : line_fault d (line_with p kana) ≡ 11 = line_fault_lem d p kana v ∙ rw (c, g.1, kana_mixed d kana y m) refl in
    reads_all x (file_with d p kana rest) a (faulty d p kana rest v small f (λ e. omega arith))
  where
    mixed : (b : Bool) → one_script kana ≡ b → b ≡ false
    mixed true e = absurd (n (in_one_script kana e))
    mixed false e = refl

    other_chars : all_chars (line_with p other) ≡ true → all_chars other ≡ true
    other_chars e = last_chars p other e

-- ---- nothing more is asked

same_counts : (d : Bool) (r q : Record) (x : Res (List Record)) → r.number ≡ 1 → q.number ≡ 1
    → map_res counted (notebook_of d (prepend r x)) ≡ map_res counted (notebook_of d (prepend q x))
unfolding count
same_counts d r q (ok rs) e f = rw (e, f) refl
same_counts d r q (refused n line) e f = refl

pub script_alone : ScriptAlone
unfolding check_result step_line onward
script_alone d p s t rest v w i j x y g h =
    ap (λ (r : Res Result). reply_to r [])
    (ap (map_res counted) (file_read d p s rest v i) ∙ step (step_line (start d) (line_with p s)) ∙ ap (λ (m : Step). map_res counted (notebook_of d (onward 2 (record_of (line_with p t)) next m))) moves
    ∙ sym (ap (map_res counted) (file_read d p t rest w j)))
  where
    next : State → Res (List Record)
    next st = records_from st (rows rest)

    faults : line_fault d (line_with p s) ≡ line_fault d (line_with p t)
    faults =
        line_fault_lem d p s v
        ∙ ap₂ (λ (b : Bool) (n : ℕ). unless b 4 or_else (nine_fault d p or_else n)) (line_chars p s t (x.chars ∙ sym y.chars))
        (kana_good d s x (one_script_lem s g) ∙ sym (kana_good d t y (one_script_lem t h)))
        ∙ sym (line_fault_lem d p t w)

    moves : step_line (start d) (line_with p s) ≡ step_line (start d) (line_with p t)
    moves = ap₂ (λ (n : ℕ) (k : Facts). cond (eqb n 0) (step_of (start d) k) (Fault n)) (ap (λ (e : Bool). line_fault e (line_with p s)) (provider_start d) ∙ faults ∙ sym (ap (λ (e : Bool). line_fault e (line_with p t)) (provider_start d))) (same_facts p s t v w)

    step : (m : Step) → map_res counted (notebook_of d (onward 2 (record_of (line_with p s)) next m)) ≡ map_res counted (notebook_of d (onward 2 (record_of (line_with p t)) next m))
    step (Fault n) = refl
    step (On st rp doctor) = same_counts d (record_of (line_with p s)) (record_of (line_with p t)) (next st) (one_number p s v) (one_number p t w)
