-- The pass that checks and writes: what is left of the file from a row on, poured after what is written, gives the whole. One law for
-- each way through the code. Assumes nothing.
use Prim.Native.Nat.{ℕ, ◌+◌, ◌-◌, ◌≤◌}
use native.Mathlib.Omega.{arith}
use mathlib.Core.Path.{◌≡◌, refl, sym, ap, ◌∙◌, subst}
use mathlib.Core.Bool.{Bool, true, false, cond}
use mathlib.Core.List.{List, [], ◌++◌, append_assoc}
use borrow.Author.Tests.{eq-eqb}
use mir.Val.{Fits}
use mir.Syntax.{w32}
use lib.Dec.{eqb}
use lib.ListN.{length, take, drop, length-append}
use lib.Seq.{sets, drop-drop, drop_at}
use Rattle.std.specs.Prelude.{Some, None, Ok, Err}
use Rattle.lists.specs.Lists.{Res, ok, refused}
use Rattle.lists.specs.Searching.{part}
use Rattle.lists.proofs.Parts.{part_length}
use Rattle.characters.specs.Rows.{rows, flat, line_end}
use Rattle.characters.specs.Scanning.{WholeLine}
use Rattle.characters.proofs.RowLaws.{flat_rows}
use Rattle.records.specs.Records.{Record, record_of, write}
use Rattle.records.proofs.LineLaws.{line_good}
use Rattle.order.specs.declared.State.{State}
use Rattle.order.specs.State.{On, start, finish_of}
use Rattle.replies.specs.declared.refusal.Refusal.{Refusal as Word}
use Rattle.replies.specs.declared.refusal.Refused.{Refused as RefusedAtLine}
use Rattle.replies.specs.Refusals.{number_of}
use Rattle.replies.specs.Replies.{Answer, Done, Refused}
use Rattle.replies.proofs.Numbers.{never_0}
use Rattle.buffers.specs.Buffers.{Room, Wrote}
use Rattle.buffers.proofs.Runs.{sets_append}
use Rattle.notebook.specs.Notebook.{step_line, prepend, closed, onward, records_from}
use Rattle.notebook.specs.Canonical.{record_row, record_rows}
use Rattle.notebook.proofs.Placing.{Placed, placed, place_number}
use Rattle.lines.specs.Line.{LineIn}
use Rattle.checking.specs.Walking.{Closing}
use Rattle.checking.specs.declared.Turn.{Turn}
use Rattle.checking.specs.Turns.{RefusedAt, broken, faulty, TurnOf}
use Rattle.checking.proofs.LineFacts.{whole_line, whole_length, records_over, records_broken, records_on}
use Rattle.checking.proofs.TurnLaws.{turn_low, turn_high, turn_commas, turn_places}
use Rattle.checking.proofs.CheckLaws.{Reading}
use Rattle.canonical.specs.declared.Run.{Run}
use Rattle.canonical.specs.Writing.{ahead, reach, Ready, Passed, Sound, Output, poured, PouredMeans, Poured, closing}
use Rattle.canonical.proofs.RunLaws.{passes, waits}

-- ---- the end

pub closing_fits : (st : State) → Closing st → Fits w32 (st.line + 1)
closing_fits st c = omega (arith, c.small)

module _ (st : State) (at : ℕ) where
  pub close_good : 0 ≡ finish_of st → Done at 0 0 ≡ closing st at
  unfolding closing
  close_good e = rw (eq-eqb (finish_of st) 0 (sym e))

  pub close_missing : (x : Word) → number_of x ≡ finish_of st → Refused (number_of x) (st.line + 1) ≡ closing st at
  unfolding closing
  close_missing x e = rw (sym e, never_0 x)

pub ruleset close_laws = (closing_fits, close_good, close_missing)

pour_end : (d : List ℕ) (st : State) (at : ℕ) {r : Answer} → at ≤ 65536 → at ≤ length d → r ≡ closing st at → PouredMeans (poured d at (closed st)) d r
unfolding poured closed closing record_rows
pour_end d st at h i e = subst (λ (r : Answer). PouredMeans (poured d at (closed st)) d r) (sym e) (go (eqb (finish_of st) 0))
  where
    go : (b : Bool) → PouredMeans (poured d at (cond b (ok []) (refused (finish_of st) (st.line + 1)))) d (cond b (Done at 0 0) (Refused (finish_of st) (st.line + 1)))
    go true = (ap (λ (n : ℕ). ok (record { buffer = d; end = n })) (omega arith), h, i)
    go false = refl

-- ---- one record more

pour_record : (d : List ℕ) (at : ℕ) (r : Record) (x : Res (List Record)) → poured d at (prepend r x) ≡ poured (sets d at (record_row r)) (at + length (record_row r)) x
unfolding poured record_rows
pour_record d at r (refused n line) = refl
pour_record d at r (ok rs) =
    let b : sets d at (record_row r ++ flat (record_rows rs)) ≡ sets (sets d at (record_row r)) (at + length (record_row r)) (flat (record_rows rs)) = sets_append (record_row r) d at (flat (record_rows rs)) in
    let l : at + length (record_row r ++ flat (record_rows rs)) ≡ at + length (record_row r) + length (flat (record_rows rs)) = omega (arith, length-append (record_row r) (flat (record_rows rs))) in
    cc

-- the line end after a line
module _ {s : List ℕ} {at e : ℕ} {good : Bool} (w : WholeLine s at e good) where
  line_ended : part s e (e + 2) ≡ line_end
  line_ended =
      let a : drop at s ≡ (part s at e ++ line_end) ++ flat (rows (drop (e + 2) s)) = sym (flat_rows (drop at s)) ∙ ap flat w.cut in
      let n : length (part s at e) ≡ e - at = part_length s at e w.low (omega (arith, w.high)) in
      let m : at + (e - at) ≡ e = omega (arith, w.low) in
      let b : drop e s ≡ line_end ++ flat (rows (drop (e + 2) s)) =
      ap (λ (k : ℕ). drop k s) (sym m) ∙ sym (drop-drop (e - at) at s) ∙ ap (drop (e - at)) (a ∙ append_assoc (part s at e) line_end (flat (rows (drop (e + 2) s))))
      ∙ drop_at (part s at e) (line_end ++ flat (rows (drop (e + 2) s))) (e - at) n in
      let z : e + 2 - e ≡ 2 = omega arith in
      ap (λ (k : ℕ). take k (drop e s)) z ∙ ap (take 2) b

-- ---- the pass

-- what is left of the file at a state, poured into the output as it will be when the run is copied
pub record Running (provider : Bool) (s : List ℕ) (from : ℕ) (d : List ℕ) (st : State) (at : ℕ) (d' : List ℕ) (run : Run) : Type 0 where
  left : poured (sets d 0 (part s 0 from)) from (records_from (start provider) (rows (drop from s))) ≡ poured (ahead s d' run at) (reach run at) (records_from st (rows (drop at s)))
  behind : reach run at ≤ at
  low : run.from ≤ at
  hold : length s ≤ length d'
  same : length d' ≡ length d

pub running_start : (provider : Bool) (s : List ℕ) (from : ℕ) (d : List ℕ) {st : State} → length s ≤ length d → st ≡ start provider → Running provider s from d st from d (record { from = 0; at = 0 })
running_start provider s from d z e =
    let n : from ≡ 0 + (from - 0) = omega arith in
    let x : Running provider s from d (start provider) from d (record { from = 0; at = 0 }) = record {
      left = ap (λ (k : ℕ). poured (sets d 0 (part s 0 from)) k (records_from (start provider) (rows (drop from s)))) n;
      behind = omega arith;
      low = omega arith;
      hold = z;
      same = refl;
    } in
    subst (λ (x : State). Running provider s from d x from d (record { from = 0; at = 0 })) (sym e) x

module _ {provider : Bool} {s : List ℕ} {from : ℕ} {d : List ℕ} {st : State} {at : ℕ} {d' : List ℕ} {run : Run}
    (v : Running provider s from d st at d' run) (m : Reading (start provider) s from st at) where
  pub running_from : run.from ≤ at
  running_from = v.low

  waiting : length (part s run.from at) ≡ at - run.from
  waiting = part_length s run.from at v.low m.midway.high

  pub running_room : Room d' run.at (take (at - run.from) (drop run.from s))
  running_room = omega (arith, waiting, v.behind, v.low, v.hold, m.midway.high)

  -- no record is left: the last run is copied
  module _ {d'' : List ℕ} {n : ℕ} (x : Wrote d' d'' run.at n (take (at - run.from) (drop run.from s))) where
    reached : n ≡ reach run at
    reached = omega (arith, x.next, waiting)

    pub running_end : n ≤ 65536
    running_end = omega (arith, reached, v.behind, m.midway.high, m.midway.small)

    pub running_over : {stops : List ℕ} → TurnOf st s at stops (Ok None) → {r : Answer} → r ≡ closing st n
        → Poured (length d) (poured (sets d 0 (part s 0 from)) from (records_from (start provider) (rows (drop from s)))) d'' r
    running_over w {r} e =
        let a : poured (sets d 0 (part s 0 from)) from (records_from (start provider) (rows (drop from s))) ≡ poured d'' n (closed st) =
        v.left ∙ ap (poured (ahead s d' run at) (reach run at)) (records_over st w.means) ∙ rw (x.list, reached) in
        record {
          means = subst (λ (y : Res Output). PouredMeans y d'' r) (sym a) (pour_end d'' st n running_end (omega (arith, x.high, x.size)) e);
          size = x.size ∙ v.same;
        }

  -- a refusal says nothing of the array
  refusal : {n line : ℕ} → records_from st (rows (drop at s)) ≡ refused n line
      → Poured (length d) (poured (sets d 0 (part s 0 from)) from (records_from (start provider) (rows (drop from s)))) d' (Refused n line)
  unfolding poured
  refusal q = record { means = v.left ∙ ap (poured (ahead s d' run at) (reach run at)) q; size = v.same }

  module _ {stops : List ℕ} where
    pub running_stopped : {x : RefusedAtLine} → TurnOf st s at stops (Err x)
        → Poured (length d) (poured (sets d 0 (part s 0 from)) from (records_from (start provider) (rows (drop from s)))) d' (Refused (number_of x.refusal) x.line)
    unfolding onward
    running_stopped {x} w = refusal (go w.means.0 ∙ ap (refused (number_of x.refusal)) (sym w.means.1))
      where
        go : RefusedAt st s at stops (number_of x.refusal) → records_from st (rows (drop at s)) ≡ refused (number_of x.refusal) (st.line + 1)
        go (broken l e) = records_broken st l ∙ ap (λ (j : ℕ). refused j (st.line + 1)) (sym e)
        go (faulty e k y) = records_on y.line st ∙ rw (← y.step)

    module _ {t : Turn} (w : TurnOf st s at stops (Ok (Some t))) where
      line : List ℕ
      line = part s at t.end

      steps : step_line st (part s at t.end) ≡ On t.moved.state t.moved.rp t.moved.doctor
      steps = sym w.means.step

      its : Placed st (part s at t.end) t.moved.state t.moved.rp t.moved.doctor
      its = placed st (part s at t.end) t.moved.state t.moved.rp t.moved.doctor steps

      whole : WholeLine s at t.end w.means.good
      whole = whole_line w.means.line

      pub running_line : LineIn s at t.end stops t.commas
      running_line = record { places = turn_places w; commas = turn_commas w; low = turn_low w; high = turn_high w }

      pub running_sound : Sound t.moved.state.place (take (t.end - at) (drop at s))
      running_sound = record { provider = st.provider; good = its.sound; number = place_number its }

      -- no record is written longer than it is spelled
      short : length (write (record_of (part s at t.end))) ≤ t.end - at
      short = omega (arith, (line_good st.provider (part s at t.end) its.sound).short, whole_length w.means.line)

      pub running_ready : Ready d' run at (write (record_of (take (t.end - at) (drop at s))))
      running_ready = record { low = v.low; room = omega (arith, v.behind, v.hold, whole.low, whole.high, short) }

      module _ {d'' : List ℕ} {r : Run} (x : Passed s d' d'' run r at t.end (write (record_of (take (t.end - at) (drop at s))))) where
        ends : Passed s d' d'' run r at (t.end + 2) (record_row (record_of (part s at t.end)))
        ends = passes x (waits s d'' r t.end (t.end + 2) line_end (omega arith) whole.high (line_ended whole) (record {
          low = x.low;
          room = omega (arith, x.wrote.next, x.size, v.behind, v.hold, whole.low, whole.high, short);
        }))

        pub running_on : Running provider s from d t.moved.state (t.end + 2) d'' r
        unfolding onward
        running_on = record {
          left = v.left ∙ ap (poured (ahead s d' run at) (reach run at)) (records_on w.means.line st ∙ rw steps)
              ∙ pour_record (ahead s d' run at) (reach run at) (record_of (part s at t.end)) (records_from t.moved.state (rows (drop (t.end + 2) s)))
              ∙ ap (λ (y : List ℕ). poured y (reach run at + length (record_row (record_of (part s at t.end)))) (records_from t.moved.state (rows (drop (t.end + 2) s)))) (sym ends.wrote.list)
              ∙ ap (λ (y : ℕ). poured (ahead s d'' r (t.end + 2)) y (records_from t.moved.state (rows (drop (t.end + 2) s)))) (sym ends.wrote.next);
          behind = omega (arith, x.wrote.next, x.low, v.behind, whole.low, short);
          low = omega (arith, x.low);
          hold = omega (arith, x.size, v.hold);
          same = x.size ∙ v.same;
        }

pub ruleset running_laws = (running_start, running_from, running_room, running_end, running_over, running_stopped, running_line, running_sound, running_ready, running_on)
