-- Records that were all taken go on to an accepted file exactly unless it is too late for a record that direction 1 asks for: the claim of
-- specs/Prefixes.antt. Assumes nothing.
use Prim.Native.Nat.{ℕ, ◌+◌, ◌<◌, ◌≤◌}
use native.Mathlib.Omega.{arith}
use mathlib.Core.Path.{◌≡◌, refl, ap, sym, ◌∙◌, subst}
use mathlib.Core.Logic.{◌⊎◌, ⊎_elim, ◌↔◌}
use mathlib.Core.Bool.{Bool, true, false, not, cond, ◌&&◌, false≢true}
use mathlib.Core.List.{List, [], ◌∷◌, ◌++◌, map}
use lib.Dec.{eqb, leb, ltb}
use lib.ListN.{length, length-append}
use borrow.Author.Tests.{eq-eqb, eqb-false}
use Rattle.lists.proofs.Tests.{both, not_true'}
use Rattle.order.specs.declared.State.{State}
use Rattle.order.specs.declared.Facts.{Facts}
use Rattle.order.specs.State.{Step}
use Rattle.order.specs.State.{Fault, On}
use Rattle.lists.specs.Lists.{member, same, Res, refused}
use Rattle.lists.proofs.Tests.{same_true}
use Rattle.characters.specs.Text.{text}
use Rattle.characters.specs.Rows.{rows, flat, is_line, line_end, end_mark}
use Rattle.records.specs.Records.{Record, record_of, header}
use Rattle.records.proofs.LineLaws.{reads}
use Rattle.notebook.specs.Facts.{facts_of}
use Rattle.notebook.specs.Notebook.{Notebook, step_line, closed, onward, records_from, notebook_of, read_rows, read_file}
use Rattle.faults.proofs.RowsOf.{FirstLine, first_line}
use Rattle.verdict.proofs.Verdict.{TakenLine, taken_line, file_is_grammar}
use Rattle.faults.proofs.FaultLaws.{prepended, closed_line, of_book, stepped}
use Rattle.rules.specs.Places.{in_group, may_follow, in_rp}
use Rattle.order.specs.Questions.{before_of}
use Rattle.rules.specs.Rules.{pair_broken, misplaced, continues, closes_rp, lacking, missing, value_wrong, newer_group, order_refusal, unfinished}
use Rattle.order.specs.State.{start}
use Rattle.order.specs.Run.{after}
use Rattle.order.proofs.Laws.{line_start, provider_start}
use Rattle.grammar.specs.Grammar.{rec, ◌⇒◌, Grammatical}
use Rattle.verdict.specs.Acceptance.{lines_then, Reads, File}
use Rattle.prefixes.proofs.Spelled.{Spelling, spell_all}
use Rattle.prefixes.specs.Prefixes.{Followed, LinesBefore, LinesGoOn, late, too_late, GoesOn, PrefixGoesOn}
use Rattle.verdict.proofs.Computed.{Fn, In, here, each, every_at, at_each, member_in}
use Rattle.verdict.proofs.Machine.{sound, accepts, Core, before, next, taken, runs, step, finish, core_of, machine_core}
use Rattle.verdict.proofs.Steps.{st, bf, ask, to501, to_end, head_places}
use Rattle.verdict.proofs.Steps.{at_11}
use Rattle.verdict.proofs.Groups.{grammar_machine}
use Rattle.verdict.proofs.Backwards.{places, split, first_or, machine_grammar}
use Rattle.prefixes.proofs.TooLate.{group_places, lost_at, lost}
use Rattle.prefixes.proofs.GoingOn.{usual_1, usual_5, usual_11, usual_411, usual_201, last_kept, so, plain, dated, medical, of_rp, Completed, by_411}
use Rattle.prefixes.proofs.GoingOn.{fine, complete, kept_at, Kept, kept_after_lem, kept_start}
use Rattle.prefixes.proofs.GoingOn.{AllTaken, before_refusal}
use Rattle.prefixes.proofs.GoingOn.{accepts_behind}

-- the state c, but in a direction, at a place, with a group or not
abbrev seen : Bool → ℕ → Bool → Core → Core
seen o p g c = record {
  provider = o;
  place = p;
  no_group = g;
  day = c.day;
  had11 = c.had11;
  schedule = c.schedule;
  had51 = c.had51;
  had411 = c.had411;
  rp = c.rp;
  had301 = c.had301;
  no_doctor = c.no_doctor;
}

-- ---- direction 2: record 1, or the 201 of a 55, or nothing

patient : (p : ℕ) (g : Bool) (c : Core) → In p places → Completed (seen false p g c)
unfolding order_refusal pair_broken misplaced missing value_wrong newer_group may_follow in_group continues closes_rp lacking unfinished
patient p g c m =
    let Done : ℕ → Type 0 = λ p. Completed (seen false p g c) in
    first_or Done (record { more = []; ends = finish (seen false 701 g c); few = omega arith; usual = λ a b. tt })
    (first_or Done under_55
    (λ m. ⊎_elim (λ m. record {
      more = [];
      ends = finish (seen false p g c)
          ∙ every_at (λ p. not (unfinished (before (seen false p g c)))) refl m;
      few = omega arith;
      usual = λ a b. tt;
    })
    (first_or Done (record {
      more = rec 1 plain ∷ [];
      ends = step (seen false 0 g c) (rec 1 plain) [] refl
          ∙ finish (next (seen false 0 g c) (rec 1 plain));
      few = omega arith;
      usual = λ a b. (usual_1, tt);
    }) none_left)
    (split (to_end ++ 4 ∷ 3 ∷ 2 ∷ 1 ∷ []) m))) m
  where
    none_left : In p [] → Completed (seen false p g c)
    none_left m = absurd (nowhere m)
      where
        nowhere : In p [] → ⊥
        nowhere m = each (λ p. ⊥) tt m

    under_55 : Completed (seen false 55 g c)
    under_55 =
        let r : Facts = rec 201 (of_rp (c.rp + 1)) in
        record {
          more = r ∷ [];
          ends =
              step (seen false 55 g c) r []
              (ap (λ x. sound (before (seen false 55 g c)) (ask 201 (eqb (c.rp + 1) c.rp) x (ltb c.day 0) false false))
              (eq-eqb (c.rp + 1) (c.rp + 1) refl))
              ∙ finish (next (seen false 55 g c) r);
          few = omega arith;
          usual = λ a b. (usual_201 (c.rp + 1) (omega arith) (omega arith), tt);
        }

-- ---- direction 1

not_not : (b : Bool) → b ≡ not (not b)
not_not true = refl
not_not false = refl

-- a state in a group, by its parts
abbrev inside : ℕ → Core → Core
inside p c = st true p c.day c.had11 c.schedule c.had51 c.had411 c.rp c.had301 (not c.no_doctor)

inside_is : (p : ℕ) (c : Core) → inside p c ≡ seen true p false c
inside_is p c = λ i. record {
  provider = true;
  place = p;
  no_group = false;
  day = c.day;
  had11 = c.had11;
  schedule = c.schedule;
  had51 = c.had51;
  had411 = c.had411;
  rp = c.rp;
  had301 = c.had301;
  no_doctor = sym (not_not c.no_doctor) i;
}

-- before any group: a group that informs
abbrev informing : List Facts
informing = rec 5 dated ∷ rec 11 medical ∷ rec 411 plain ∷ []

ahead : (p : ℕ) (c : Core) → In p head_places → Completed (seen true p true c)
unfolding order_refusal pair_broken misplaced missing value_wrong newer_group may_follow in_group continues closes_rp lacking unfinished
ahead p c m = record {
  more = informing;
  ends =
      step (seen true p true c) (rec 5 dated) _ (every_at (λ p. taken (seen true p true c) (rec 5 dated)) refl m)
      ∙ step (st true 5 19890108 false 0 false false 0 false false) (rec 11 medical) _ (at_11 true 19890108 false 0 false false 0 false false medical here)
      ∙ by_411 19890108 true 1 false false false 0 false (member_in 11 to501 refl);
  few = omega arith;
  usual = λ a b. (usual_5, (usual_11, (usual_411, tt)));
}

module _ (p : ℕ) (c : Core) (k : kept_at p true c.had51 c.had301 false (eqb c.rp 0) ≡ true) (h : too_late (before (seen true p false c)) ≡ false) where
  abbrev timely : ℕ → Fn 6
  timely p e q f i z u = kept_at p true f u false z && not (in_group p && late (bf true p e q false f i z u false)) ⇒ fine p e q f i z u

  in_group_lem : In p (55 ∷ to_end) → Completed (seen true p false c)
  unfolding in_group
  in_group_lem m =
      let e = at_each 6 timely (λ p e q f i z u. true) refl m c.had11 (eqb c.schedule 4) c.had51 c.had411 (eqb c.rp 0) c.had301 in
      let f = so (kept_at p true c.had51 c.had301 false (eqb c.rp 0) && not (too_late (before (seen true p false c))))
      (fine p c.had11 (eqb c.schedule 4) c.had51 c.had411 (eqb c.rp 0) c.had301) e (rw (k, h)) in
      subst Completed (inside_is p c)
      (complete p c.day c.had11 c.schedule c.had51 c.had411 c.rp c.had301 (not c.no_doctor) f m)

provider : (p : ℕ) (g : Bool) (c : Core) → In p places → kept_at p true c.had51 c.had301 g (eqb c.rp 0) ≡ true
    → too_late (before (seen true p g c)) ≡ false
    → Completed (seen true p g c)
unfolding in_group unfinished lacking
provider p true c m k h =
    let Kept_at : ℕ → Type 0 = λ p. kept_at p true c.had51 c.had301 true (eqb c.rp 0) ≡ true → Completed (seen true p true c) in
    ⊎_elim
    (λ m. absurd (false≢true (sym (at_each 3 (λ p f u z. kept_at p true f u true z) (λ p f u z. false) refl m c.had51 c.had301 (eqb c.rp 0)) ∙ k)))
    (ahead p c) (split (701 ∷ 55 ∷ to_end) m)
provider p false c m k h =
    first_or (λ p. (In p (55 ∷ to_end) → Completed (seen true p false c)) → (In p head_places → ⊥) → Completed (seen true p false c))
    (λ f z. record { more = []; ends = finish (seen true 701 false c); few = omega arith; usual = λ a b. tt })
    (λ m f z. ⊎_elim f (λ m. absurd (z m)) (split (55 ∷ to_end) m)) m
    (in_group_lem p c k h) no_head
  where
    no_head : In p head_places → ⊥
    no_head m = false≢true (sym (at_each 3 (λ p f u z. kept_at p true f u false z) (λ p f u z. false) refl m c.had51 c.had301 (eqb c.rp 0)) ∙ k)

-- a state that taken records lead to
goes : (c : Core) → Kept c → too_late (before c) ≡ false → Completed c
goes c k h = by c.provider refl (member_in c.place places (both (member places c.place) _ k).0)
  where
    by : (o : Bool) → c.provider ≡ o → In c.place places → Completed c
    by true q m =
        subst (λ (o : Bool). Completed (seen o c.place c.no_group c)) (sym q)
        (provider c.place c.no_group c m (subst (λ (o : Bool). kept_at c.place o c.had51 c.had301 c.no_group (eqb c.rp 0) ≡ true) q k)
        (subst (λ (o : Bool). too_late (before (seen o c.place c.no_group c)) ≡ false) q h))
    by false q m = subst (λ (o : Bool). Completed (seen o c.place c.no_group c)) (sym q) (patient c.place c.no_group c m)

-- ---- where it is too late

too_late_lem : (o : Bool) (p : ℕ) (g : Bool) (c : Core) → In p places → kept_at p o c.had51 c.had301 g (eqb c.rp 0) ≡ true
    → too_late (before (seen o p g c)) ≡ true → (rs : List Facts) → runs (seen o p g c) rs ≡ true → ⊥
unfolding in_group
too_late_lem false p g c m k h rs e = false≢true h
too_late_lem true p true c m k h rs e =
    false≢true
    (sym (at_each 6 (λ p e q f i z u. kept_at p true f u true z && (in_group p && late (bf true p e q false f i z u false))) (λ p e q f i z u. false) refl m
    c.had11 (eqb c.schedule 4) c.had51 c.had411 (eqb c.rp 0) c.had301)
    ∙ rw (k, h))
too_late_lem true p false c m k h rs e =
    let x = at_each 6 (λ p e q f i z u. kept_at p true f u false z && (in_group p && late (bf true p e q false f i z u false))
    ⇒ member group_places p && lost_at p e q f i z u)
    (λ p e q f i z u. true) refl m c.had11 (eqb c.schedule 4) c.had51 c.had411 (eqb c.rp 0) c.had301 in
    let lost_now : Bool = lost_at p c.had11 (eqb c.schedule 4) c.had51 c.had411 (eqb c.rp 0) c.had301 in
    let y = both (member group_places p) lost_now
    (so (kept_at p true c.had51 c.had301 false (eqb c.rp 0) && too_late (before (seen true p false c))) (member group_places p && lost_now) x
    (rw (k, h))) in
    lost rs p (member_in p group_places y.0) c.day c.had11 c.schedule c.had51 c.had411 c.rp c.had301 (not c.no_doctor) y.1
    (ap (λ (s : Core). runs s rs) (inside_is p c) ∙ e)

-- ---- the claim

-- records that are all taken
taken_goes : (o : Bool) (rs : List Facts) → AllTaken (start o) rs → GoesOn o rs ↔ (too_late (before_of (after (start o) rs)) ≡ false)
taken_goes o rs t = (to, from)
  where
    kept : Kept (core_of (after (start o) rs))
    kept = kept_after_lem rs (start o) t (kept_start o)

    -- the machine after the records
    behind : (more : List Facts) → accepts (start o) (rs ++ more) ≡ runs (core_of (after (start o) rs)) more
    behind more = accepts_behind rs more (start o) t ∙ machine_core more (after (start o) rs)

    from : too_late (before_of (after (start o) rs)) ≡ false → GoesOn o rs
    from h =
        let g = goes (core_of (after (start o) rs)) kept h in
        record { more = g.more; has = machine_grammar o (rs ++ g.more) (behind g.more ∙ g.ends) }

    to : GoesOn o rs → too_late (before_of (after (start o) rs)) ≡ false
    to a = by (too_late (before_of (after (start o) rs))) refl
      where
        by : (b : Bool) → too_late (before_of (after (start o) rs)) ≡ b → b ≡ false
        by true q =
            let c : Core = core_of (after (start o) rs) in
            let m = member_in c.place places (both (member places c.place) _ kept).0 in
            absurd (too_late_lem c.provider c.place c.no_group c m kept q a.more (sym (behind a.more) ∙ grammar_machine o (rs ++ a.more) a.has))
        by false q = refl

pub goes_on_lem : PrefixGoesOn
goes_on_lem o rs r rest n e = taken_goes o rs (before_refusal rs (start o) r rest n (length rs + 2) (omega (arith, line_start o)) e)

-- ---- over bytes

-- the lines that were taken before a refusal
record Ahead (st : State) (l : List ℕ) (line : ℕ) : Type 0 where
  lines : List (List ℕ)
  rest : List ℕ
  cut : l ≡ lines_then lines rest
  count : line ≡ st.line + length lines + 1
  recs : List Record
  read : Reads st.provider lines recs
  taken : AllTaken st (map facts_of recs)

none_ahead : (st : State) (l : List ℕ) (line : ℕ) → line ≡ st.line + 1 → Ahead st l line
none_ahead st l line e = record { lines = []; rest = l; cut = refl; count = omega arith; recs = []; read = tt; taken = tt }

one_ahead : (st t : State) (l r : List ℕ) (rs : List (List ℕ)) (line : ℕ) → FirstLine l r rs → TakenLine st (text r) t → t.line ≡ st.line + 1
    → Ahead t (flat rs) line → Ahead st l line
one_ahead st t l r rs line f k n a = record {
  lines = text r ∷ a.lines;
  rest = a.rest;
  cut = f.cut ∙ ap (λ (x : List ℕ). text r ++ (line_end ++ x)) a.cut;
  count = omega (arith, a.count);
  recs = record_of (text r) ∷ a.recs;
  read = (reads st.provider (text r) k.sound, subst (λ (b : Bool). Reads b a.lines a.recs) k.side a.read);
  taken = (k.good, subst (λ (u : State). AllTaken u (map facts_of a.recs)) k.state a.taken);
}

lines_ahead : (rs : List (List ℕ)) (l : List ℕ) (st : State) (n line : ℕ) → rows l ≡ rs → records_from st rs ≡ refused n line → Ahead st l line
unfolding records_from onward
lines_ahead [] l st n line q e = none_ahead st l line (closed_line st n line e)
lines_ahead (r ∷ rs) l st n line q e = by (same r end_mark) (is_line r) refl (λ t. lines_ahead rs (flat rs) t n line) e
  where
    step_on : FirstLine l r rs → (m : Step) → step_line st (text r) ≡ m
        → ((t : State) → rows (flat rs) ≡ rs → records_from t rs ≡ refused n line → Ahead t (flat rs) line)
        → onward (st.line + 1) (record_of (text r)) (λ t. records_from t rs) m ≡ refused n line → Ahead st l line
    step_on f (Fault k) w ih e = none_ahead st l line (let z : st.line + 1 ≡ line = cc in sym z)
    step_on f (On t rp doctor) w ih e =
        one_ahead st t l r rs line f (taken_line st (text r) t rp doctor w) (stepped st (text r) t rp doctor w)
        (ih t f.behind (prepended (record_of (text r)) (records_from t rs) n line e))

    by : (x y : Bool) → is_line r ≡ y → ((t : State) → rows (flat rs) ≡ rs → records_from t rs ≡ refused n line → Ahead t (flat rs) line)
        → cond x (closed st) (cond y (onward (st.line + 1) (record_of (text r)) (λ t. records_from t rs) (step_line st (text r))) (refused 2 (st.line + 1)))
        ≡ refused n line → Ahead st l line
    by true y z ih e = none_ahead st l line (closed_line st n line e)
    by false true z ih e = step_on (first_line l r rs q z) (step_line st (text r)) refl ih e
    by false false z ih e = none_ahead st l line (let w : st.line + 1 ≡ line = cc in sym w)

-- ---- bytes that follow

lines_append : (ls ms : List (List ℕ)) → lines_then ls (lines_then ms []) ≡ lines_then (ls ++ ms) []
lines_append [] ms = refl
lines_append (l ∷ ls) ms = ap (λ (x : List ℕ). l ++ (line_end ++ x)) (lines_append ls ms)

lines_length : (ls : List (List ℕ)) (rest : List ℕ) → length (lines_then ls rest) ≡ length (lines_then ls []) + length rest
lines_length [] rest = omega arith
lines_length (l ∷ ls) rest =
    omega (arith, length-append l (line_end ++ lines_then ls rest), length-append l (line_end ++ lines_then ls []), lines_length ls rest)

reads_append : (o : Bool) (ls : List (List ℕ)) (rs : List Record) (ms : List (List ℕ)) (qs : List Record) → Reads o ls rs → Reads o ms qs
    → Reads o (ls ++ ms) (rs ++ qs)
reads_append o [] [] ms qs a b = b
reads_append o [] (r ∷ rs) ms qs a b = absurd a
reads_append o (l ∷ ls) [] ms qs a b = absurd a
reads_append o (l ∷ ls) (r ∷ rs) ms qs (a, t) b = (a, reads_append o ls rs ms qs t b)

facts_append : (rs qs : List Record) → map facts_of (rs ++ qs) ≡ map facts_of rs ++ map facts_of qs
facts_append [] qs = refl
facts_append (r ∷ rs) qs = ap (λ (x : List Facts). facts_of r ∷ x) (facts_append rs qs)

rp_some : (c : Core) → Kept c → in_rp c.place ≡ true → 1 ≤ c.rp
rp_some c k h =
    let z : eqb c.rp 0 ≡ false = not_true' (eqb c.rp 0) (so (in_rp c.place) (not (eqb c.rp 0)) (last_kept c k) h) in
    omega (arith, eqb-false c.rp 0 z)

follow : (o : Bool) (lines : List (List ℕ)) (recs : List Record) → Reads o lines recs → AllTaken (start o) (map facts_of recs)
    → too_late (before_of (after (start o) (map facts_of recs))) ≡ false → (after (start o) (map facts_of recs)).had.rp < 999
    → length (lines_then (header o ∷ lines) []) ≤ 65408 → Followed o lines
follow o lines recs w t h v n =
    let rs : List Facts = map facts_of recs in
    let c : Core = core_of (after (start o) (map facts_of recs)) in
    let k : Kept c = kept_after_lem (map facts_of recs) (start o) t (kept_start o) in
    let g : Completed c = goes c k h in
    let x : Spelling o g.more = spell_all o g.more (g.usual v (rp_some c k)) in
    let a : accepts (start o) (map facts_of recs ++ g.more) ≡ true =
    accepts_behind (map facts_of recs) g.more (start o) t ∙ machine_core g.more (after (start o) (map facts_of recs)) ∙ g.ends in
    let e : map facts_of recs ++ g.more ≡ map facts_of (recs ++ x.recs) =
    ap (λ (y : List Facts). map facts_of recs ++ y) (sym x.facts) ∙ sym (facts_append recs x.recs) in
    let b : Notebook = record { provider = o; records = recs ++ x.recs } in
    let s : List ℕ = lines_then (header o ∷ lines) (lines_then x.lines []) in
    let f : File (lines_then (header o ∷ lines) (lines_then x.lines [])) b = record {
      small = omega (arith, lines_length (header o ∷ lines) (lines_then x.lines []), x.short, g.few);
      lines = lines ++ x.lines;
      marked = false;
      cut = lines_append (header o ∷ lines) x.lines;
      read = reads_append o lines recs x.lines x.recs w x.read;
      order = subst (Grammatical o) e (machine_grammar o (map facts_of recs ++ g.more) a);
    } in
    record { more = lines_then x.lines []; short = omega (arith, x.short, g.few); notebook = b; read = (file_is_grammar s b).1 f }

pub lines_go_on : LinesGoOn
unfolding read_file read_rows
lines_go_on s n line e h = sized (leb (length s) 65536) e
  where
    book : (o : Bool) (r : List ℕ) (rs : List (List ℕ)) → FirstLine s r rs → text r ≡ header o
        → notebook_of o (records_from (start o) rs) ≡ refused n line → LinesBefore s line
    book o r rs f t e =
        let a : Ahead (start o) (flat rs) line = lines_ahead rs (flat rs) (start o) n line f.behind (of_book o (records_from (start o) rs) n line e) in
        record {
          provider = o;
          lines = a.lines;
          rest = a.rest;
          cut = f.cut ∙ ap (λ (x : List ℕ). x ++ (line_end ++ flat rs)) t ∙ ap (λ (x : List ℕ). header o ++ (line_end ++ x)) a.cut;
          count = omega (arith, a.count, line_start o);
          records = a.recs;
          read = subst (λ (b : Bool). Reads b a.lines a.recs) (provider_start o) a.read;
          goes = taken_goes o (map facts_of a.recs) a.taken;
          spelled = follow o a.lines a.recs (subst (λ (b : Bool). Reads b a.lines a.recs) (provider_start o) a.read) a.taken;
        }

    -- a refusal at line 1 or 0 is none of these
    low : {m k : ℕ} → k < 2 → ◌≡◌ {A = Res Notebook} (refused m k) (refused n line) → LinesBefore s line
    low {m} {k} z e = let w : k ≡ line = cc in absurd (omega arith)

    row : (r : List ℕ) (rs : List (List ℕ)) → rows s ≡ r ∷ rs → (a : Bool) → is_line r ≡ a → (x : Bool) → same (text r) (header true) ≡ x
        → (y : Bool) → same (text r) (header false) ≡ y
        → cond a (cond x (notebook_of true (records_from (start true) rs)) (cond y (notebook_of false (records_from (start false) rs)) (refused 3 1))) (refused 2 1)
        ≡ refused n line → LinesBefore s line
    row r rs q true a true x y z e = book true r rs (first_line s r rs q a) (same_true _ _ x) e
    row r rs q true a false x true z e = book false r rs (first_line s r rs q a) (same_true _ _ z) e
    row r rs q true a false x false z e = low (omega arith) e
    row r rs q false a x p y z e = low (omega arith) e

    rowed : (rs : List (List ℕ)) → rows s ≡ rs → read_rows rs ≡ refused n line → LinesBefore s line
    rowed [] q e = low (omega arith) e
    rowed (r ∷ rs) q e = row r rs q (is_line r) refl (same (text r) (header true)) refl (same (text r) (header false)) refl e

    sized : (x : Bool) → cond x (read_rows (rows s)) (refused 1 0) ≡ refused n line → LinesBefore s line
    sized true e = rowed (rows s) refl e
    sized false e = low (omega arith) e
