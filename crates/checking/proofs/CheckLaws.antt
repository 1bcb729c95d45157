-- The loop over lines: what is left from a position on gives the whole file's answer. One law for each way through the code.
-- Assumes nothing.
use Prim.Native.Nat.{ℕ, ◌+◌, ◌-◌, ◌≤◌}
use native.Mathlib.Nat.{zero-add, add-zero}
use mathlib.Core.Path.{◌≡◌, refl, sym, ap, ◌∙◌, subst}
use mathlib.Core.Bool.{Bool, true, false, cond}
use mathlib.Core.List.{List, []}
use native.Mathlib.Omega.{arith}
use borrow.Author.Tests.{eq-eqb}
use mir.Val.{Fits}
use mir.Syntax.{w32, w64}
use lib.Dec.{eqb}
use lib.ListN.{length, drop}
use Rattle.lists.specs.Lists.{Res, ok, refused}
use Rattle.lists.specs.Searching.{part}
use Rattle.std.specs.Prelude.{Some, None, Ok, Err}
use Rattle.scanning.specs.declared.lines.Scan.{Scan}
use Rattle.scanning.specs.Scans.{LineOf}
use Rattle.characters.specs.Rows.{rows}
use Rattle.records.specs.Records.{Record, record_of}
use Rattle.order.specs.declared.State.{State}
use Rattle.order.specs.State.{Step, Fault, On, start, finish_of, advance}
use Rattle.order.specs.Room.{Room}
use Rattle.order.proofs.Laws.{next_line, room, room_start, line_start}
use Rattle.notebook.specs.Facts.{facts_of}
use Rattle.replies.specs.declared.refusal.Refusal.{Refusal as Word}
use Rattle.replies.specs.declared.refusal.Refused.{Refused as RefusedAtLine}
use Rattle.replies.specs.Refusals.{number_of}
use Rattle.replies.specs.Replies.{Answer, Done, Refused}
use Rattle.replies.proofs.Numbers.{never_0}
use Rattle.replies.specs.Results.{answer_in}
use Rattle.notebook.specs.Notebook.{step_line, prepend, closed, onward, records_from, notebook_of}
use Rattle.notebook.specs.Check.{count, check_result}
use Rattle.notebook.proofs.Answered.{answered}
use Rattle.checking.specs.Walking.{tally, Midway, Closing}
use Rattle.checking.proofs.LineFacts.{whole_line, records_over, records_broken, records_on}
use Rattle.checking.specs.declared.Turn.{Turn}
use Rattle.checking.specs.Turns.{RefusedAt, broken, faulty, TurnOf}
use Rattle.checking.proofs.TurnLaws.{turn_facts, turn_fits}
use Rattle.notebook.proofs.Placing.{Placed, placed}
use Rattle.checking.specs.declared.Opening.{Opening}
use Rattle.checking.specs.Opening.{Behind, OpeningOf}
use Rattle.checking.proofs.OpenLaws.{opening_behind}

three : {a b c a' b' c' : ℕ} → a ≡ a' → b ≡ b' → c ≡ c' → Done a b c ≡ Done a' b' c'
three p q r = cc

-- ---- the end

module _ (st : State) where
  pub close_good : 0 ≡ finish_of st → Done (st.line - 1) st.groups st.drugs ≡ tally st (closed st)
  unfolding closed count
  close_good e = rw (eq-eqb (finish_of st) 0 (sym e)) (three (sym (add-zero (st.line - 1))) (sym (add-zero st.groups)) (sym (add-zero st.drugs)))

  pub close_missing : (x : Word) → number_of x ≡ finish_of st → Refused (number_of x) (st.line + 1) ≡ tally st (closed st)
  unfolding closed
  close_missing x e = rw (sym e, never_0 x)

-- ---- the counts: what a state has counted, with what follows

more : (b : Bool) (g c : ℕ) → g + (cond b 1 0 + c) ≡ cond b (g + 1) g + c
more true g c = omega arith
more false g c = omega arith

tally_on : (st : State) (rec : Record) (res : Res (List Record)) → 1 ≤ st.line → tally st (prepend rec res) ≡ tally (advance st (facts_of rec)) res
unfolding advance count facts_of
tally_on st rec (refused n line) h = refl
tally_on st rec (ok rs) h =
    three (omega arith) (more (eqb rec.number 5) st.groups (count 5 rs)) (more (eqb rec.number 201) st.drugs (count 201 rs))

-- ---- the loop

-- from a state at a position on
pub record Reading (st₀ : State) (s : List ℕ) (from : ℕ) (st : State) (at : ℕ) : Type 0 where
  pub left : tally st₀ (records_from st₀ (rows (drop from s))) ≡ tally st (records_from st (rows (drop at s)))
  pub midway : Midway s st at

pub midway_start : (provider : Bool) (s : List ℕ) (from : ℕ) → Behind s from → Midway s (start provider) from
midway_start provider s from b = record {
  room = room_start provider;
  low = omega (arith, line_start provider);
  line = omega (arith, line_start provider, b.low);
  high = b.high;
  small = b.small;
}

pub reading_again : (s : List ℕ) (st : State) (at : ℕ) → Midway s st at → Reading st s at st at
reading_again s st at m = record { left = refl; midway = m }

pub reading_start : (provider : Bool) (s : List ℕ) (from : ℕ) {st : State} → Behind s from → st ≡ start provider → Reading (start provider) s from st from
reading_start provider s from b e =
    subst (λ (x : State). Reading (start provider) s from x from) (sym e) (reading_again s (start provider) from (midway_start provider s from b))

module _ {st₀ : State} {s : List ℕ} {from : ℕ} {st : State} {at : ℕ} (v : Reading st₀ s from st at) where
  here : Midway s st at
  here = v.midway

  pub reading_closing : Closing st
  reading_closing = record { low = here.low; small = omega (arith, here.line, here.high, here.small) }

  pub reading_fits : Fits w32 (st.line + 1)
  reading_fits = omega (arith, here.line, here.high, here.small)

  pub reading_room : Room st
  reading_room = here.room

  -- the answer, if what is left answers it
  answer : {r : Answer} → r ≡ tally st (records_from st (rows (drop at s))) → r ≡ tally st₀ (records_from st₀ (rows (drop from s)))
  answer e = e ∙ sym v.left

  module _ {stops : List ℕ} {l : Scan} (w : LineOf s at stops (Ok (Some l))) where
    next : Step → Res (List Record)
    next = onward (st.line + 1) (record_of (part s at l.end)) (λ t. records_from t (rows (drop (l.end + 2) s)))

    reading_refused : {j : ℕ} → Fault j ≡ step_line st (part s at l.end) → Refused j (st.line + 1) ≡ tally st₀ (records_from st₀ (rows (drop from s)))
    unfolding onward next
    reading_refused u = sym (v.left ∙ ap (tally st) (records_on w st ∙ ap next (sym u)))

    reading_on : {t : State} {rp d : ℕ} → On t rp d ≡ step_line st (part s at l.end) → Reading st₀ s from t (l.end + 2)
    unfolding onward next
    reading_on {t} {rp} {d} u =
        let p : Placed st (part s at l.end) t rp d = placed st (part s at l.end) t rp d (sym u) in
        let n : t.line ≡ st.line + 1 = next_line st (facts_of (record_of (part s at l.end))) t rp d p.step in
        record {
          left = v.left ∙ ap (tally st) (records_on w st ∙ ap next (sym u))
              ∙ tally_on st (record_of (part s at l.end)) (records_from t (rows (drop (l.end + 2) s))) here.low
              ∙ ap (λ (x : State). tally x (records_from t (rows (drop (l.end + 2) s)))) (sym p.state);
          midway = record {
            room = room st (facts_of (record_of (part s at l.end))) t rp d p.step here.room (omega (arith, n, here.line, here.high, here.small));
            low = omega (arith, n);
            line = omega (arith, n, here.line, (whole_line w).low);
            high = (whole_line w).high;
            small = here.small;
          };
        }

  -- by a turn
  module _ {stops : List ℕ} where
    pub reading_over : {r : Answer} → TurnOf st s at stops (Ok None) → r ≡ tally st (closed st) → r ≡ tally st₀ (records_from st₀ (rows (drop from s)))
    reading_over w p = answer (p ∙ sym (ap (tally st) (records_over st w.means)))

    pub reading_stopped : {x : RefusedAtLine} → TurnOf st s at stops (Err x) → Refused (number_of x.refusal) x.line ≡ tally st₀ (records_from st₀ (rows (drop from s)))
    reading_stopped {x} w = ap (Refused (number_of x.refusal)) w.means.1 ∙ go w.means.0
      where
        go : RefusedAt st s at stops (number_of x.refusal) → Refused (number_of x.refusal) (st.line + 1) ≡ tally st₀ (records_from st₀ (rows (drop from s)))
        go (broken l e) = ap (λ (j : ℕ). Refused j (st.line + 1)) e ∙ answer (sym (ap (tally st) (records_broken st l)))
        go (faulty e m y) = reading_refused y.line y.step

    module _ {t : Turn} (w : TurnOf st s at stops (Ok (Some t))) where
      pub reading_next : Reading st₀ s from t.moved.state (t.end + 2)
      reading_next = reading_on w.means.line w.means.step

      pub reading_within : Fits w64 (t.end + 2)
      reading_within = turn_fits w here.small

pub ruleset reading_laws = (turn_facts, reading_start, reading_closing, reading_fits, reading_room, reading_over, reading_stopped, reading_next, reading_within)

-- ---- the file

tally_start : (provider : Bool) (res : Res (List Record)) → tally (start provider) res ≡ answered (notebook_of provider res)
unfolding start
tally_start provider (refused n line) = refl
tally_start provider (ok rs) = three (zero-add (length rs)) (zero-add (count 5 rs)) (zero-add (count 201 rs))

module _ {s : List ℕ} where
  pub check_refused : {x : RefusedAtLine} → OpeningOf s (Err x) → Refused (number_of x.refusal) x.line ≡ answer_in (check_result s) []
  unfolding answer_in check_result
  check_refused w = sym (ap answered w.means)

  pub check_records : {o : Opening} → OpeningOf s (Ok o) → {r : Answer} → r ≡ tally (start o.provider) (records_from (start o.provider) (rows (drop o.from s))) → r ≡ answer_in (check_result s) []
  unfolding answer_in check_result
  check_records {o} w t = t ∙ tally_start o.provider (records_from (start o.provider) (rows (drop o.from s))) ∙ sym (ap answered w.means.read)

pub ruleset check_laws = (opening_behind, check_refused, check_records)
