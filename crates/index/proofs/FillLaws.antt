-- The walk that writes the entries: what is left from a line on, written after what is written, gives the whole index. One law for
-- each way through the code. What the walk answers is check's to say (checking, proofs/CheckLaws.antt). Assumes nothing.
use Prim.Native.Nat.{ℕ, ◌+◌, ◌*◌, ◌-◌, ◌≤◌, ◌<◌}
use native.Mathlib.Omega.{arith}
use mathlib.Core.Path.{◌≡◌, refl, sym, ap, ◌∙◌}
use mathlib.Core.Bool.{Bool, true, false}
use mathlib.Core.Logic.{⊎_elim}
use mathlib.Core.List.{List, [], ◌∷◌, ◌++◌, append_assoc, append-nil}
use borrow.Author.Tests.{eq-eqb, ne_eqb}
use lib.ListN.{length, take, drop, length-append}
use lib.Seq.{take_all}
use Rattle.lists.specs.Searching.{part}
use Rattle.std.specs.Prelude.{Some, None, Ok, Err}
use Rattle.scanning.specs.declared.lines.Scan.{Scan}
use Rattle.characters.specs.Rows.{rows, is_line, line_end}
use Rattle.characters.specs.Scanning.{WholeLine}
use Rattle.scanning.specs.Scans.{LineOf}
use Rattle.scanning.proofs.LineLaws.{over_rows}
use Rattle.characters.proofs.RowLaws.{line_is, line_text}
use Rattle.records.specs.Records.{record_of}
use Rattle.rules.specs.Places.{in_group}
use Rattle.order.specs.declared.State.{State}
use Rattle.order.specs.State.{Step, group_of, drug_of}
use Rattle.order.proofs.Laws.{next_line}
use Rattle.notebook.specs.Facts.{facts_of}
use Rattle.buffers.specs.Buffers.{Room, Wrote}
use Rattle.buffers.specs.Entries.{seven_numbers}
use Rattle.buffers.proofs.Runs.{front_more, seven_length}
use Rattle.replies.specs.declared.refusal.Refused.{Refused as RefusedAtLine}
use Rattle.replies.specs.declared.reply.Values.{Values}
use Rattle.replies.specs.Refusals.{number_of}
use Rattle.replies.specs.Replies.{Done, Refused}
use Rattle.notebook.specs.Notebook.{step_line, closed}
use Rattle.checking.specs.Walking.{tally}
use Rattle.notebook.proofs.Placing.{Placed, placed, place_number}
use Rattle.checking.specs.declared.Turn.{Turn}
use Rattle.checking.specs.Turns.{TurnOf}
use Rattle.checking.proofs.LineFacts.{whole_line, whole_length}
use Rattle.checking.proofs.CheckLaws.{Reading, reading_over, reading_stopped}
use Rattle.notebook.specs.Index.{Entry, entry_of, entered, entries_from, clinic_after, clinic_of, listed_from, numbers}
use Rattle.index.specs.Filling.{Spanned, answer_at, numbers_at, BatchOf}
use Rattle.index.specs.declared.Reader.{Reader}
use Rattle.index.specs.declared.Batch.TheVariants.{Full, Last}

-- ---- the clinic

module _ (line before : ℕ) {n : ℕ} where
  pub clinic_group : n ≡ 5 → 0 ≡ clinic_after line before n
  unfolding clinic_after
  clinic_group e = rw (eq-eqb n 5 e)

  pub clinic_own : n ≡ 51 → line ≡ clinic_after line before n
  unfolding clinic_after
  clinic_own e = rw e

  pub clinic_kept : (n ≡ 5 → ⊥) → (n ≡ 51 → ⊥) → before ≡ clinic_after line before n
  unfolding clinic_after
  clinic_kept p q = rw (ne_eqb n 5 p, ne_eqb n 51 q)

pub ruleset clinic_laws = (clinic_group, clinic_own, clinic_kept)

module _ (number clinic : ℕ) {b : Bool} (e : b ≡ in_group number) where
  pub clinic_inside : b ≡ true → clinic ≡ clinic_of number clinic
  unfolding clinic_of
  clinic_inside h = rw (sym e ∙ h)

  pub clinic_outside : b ≡ false → 0 ≡ clinic_of number clinic
  unfolding clinic_of
  clinic_outside h = rw (sym e ∙ h)

-- ---- one entry

pub entry_written : {d d' : List ℕ} {next behind : ℕ} (st : State) (a b doctor clinic : ℕ) {group drug shown : ℕ}
    → group ≡ group_of st → drug ≡ drug_of st → shown ≡ clinic_of st.place clinic
    → Wrote d d' next behind (st.place ∷ a ∷ b ∷ group ∷ doctor ∷ drug ∷ shown ∷ [])
    → Wrote d d' next behind (seven_numbers st.place a b (group_of st) doctor (drug_of st) (clinic_of st.place clinic))
unfolding seven_numbers
entry_written st a b doctor clinic g h i w = rw (g, h, i) at w

-- ---- the walk

-- a call began to read at `from`, has come to `r`, and has written the first `next` numbers of its array
pub record Filling (from : Reader) (s : List ℕ) (r : Reader) (d : List ℕ) (next : ℕ) : Type 0 where
  pub left : numbers_at s from.st from.at from.clinic ≡ take next d ++ numbers_at s r.st r.at r.clinic
  pub count : next + from.st.line * 7 ≡ r.st.line * 7
  pub size : length d ≡ 448
  pub few : next ≤ 448
  pub begun : from.at ≤ r.at
  pub more : 1 ≤ next → from.at < r.at

pub filling_start : (from : Reader) (s : List ℕ) (d : List ℕ) → length d ≡ 448 → Filling from s from d 0
filling_start from s d n = record { left = refl; count = omega arith; size = n; few = omega arith; begun = omega arith; more = λ h. absurd (omega arith) }

module _ {from : Reader} {s : List ℕ} {r : Reader} {d : List ℕ} {next : ℕ}
    (v : Filling from s r d next) (o : Reading from.st s from.at r.st r.at) where
  -- the array is full
  pub filling_full : 448 ≤ next → BatchOf s from d (Ok (Full r))
  filling_full h = record {
    means = record {
      answer = o.left;
      list = v.left ∙ ap (λ (w : List ℕ). w ++ numbers_at s r.st r.at r.clinic) (take_all next d (omega (arith, v.size)));
      midway = o.midway;
      lines = omega (arith, v.count, v.few);
      less = v.more (omega arith);
    };
    size = v.size;
  }

  -- nothing is left
  all_written : {c : Values} → Done c.a c.b c.c ≡ answer_at s from.st from.at → entries_from r.st r.at (rows (drop r.at s)) ≡ [] → BatchOf s from d (Ok (Last c next))
  unfolding numbers listed_from
  all_written q e = record {
    means = record {
      answer = q;
      list =
          sym (append-nil (take next d))
          ∙ ap (λ (es : List Entry). take next d ++ numbers (listed_from (r.st.line + 1) r.clinic es)) (sym e) ∙ sym v.left;
      high = v.few;
    };
    size = v.size;
  }

  -- where no record is left
  filling_none : {stops : List ℕ} → LineOf s r.at stops (Ok None) → entries_from r.st r.at (rows (drop r.at s)) ≡ []
  unfolding entries_from is_line
  filling_none w = ⊎_elim (ap (entries_from r.st r.at)) (ap (entries_from r.st r.at)) (over_rows w.means)

  module _ {stops : List ℕ} {l : Scan} (w : LineOf s r.at stops (Ok (Some l))) where
    line : WholeLine s r.at l.end l.good
    line = whole_line w

    -- the entries of the line here and of those after it
    here : Step → List Entry
    here = entered r.at (part s r.at l.end) (λ t. entries_from t (l.end + 2) (rows (drop (l.end + 2) s)))

    line_entries : entries_from r.st r.at (rows (drop r.at s)) ≡ here (step_line r.st (part s r.at l.end))
    unfolding entries_from here
    line_entries =
        let n : r.at + length (part s r.at l.end ++ line_end) ≡ l.end + 2 = rw (length-append, whole_length w) (omega (arith, line.low)) in
        rw (line.cut, line_is (part s r.at l.end) line.clear, line_text (part s r.at l.end) line.clear, n)

  module _ {stops : List ℕ} where
    pub filling_over : {c : Values} → TurnOf r.st s r.at stops (Ok None) → Done c.a c.b c.c ≡ tally r.st (closed r.st) → BatchOf s from d (Ok (Last c next))
    filling_over w p = all_written (reading_over o w p) (filling_none w.means)

    -- a refusal answers, of a record or of the end
    pub filling_stopped : {x : RefusedAtLine} → TurnOf r.st s r.at stops (Err x) → BatchOf s from d (Err x)
    filling_stopped w = record { means = reading_stopped o w; size = v.size }

    pub filling_missing : {x : RefusedAtLine} → TurnOf r.st s r.at stops (Ok None) → Refused (number_of x.refusal) x.line ≡ tally r.st (closed r.st) → BatchOf s from d (Err x)
    filling_missing w p = record { means = reading_over o w p; size = v.size }

    module _ {t : Turn} (w : TurnOf r.st s r.at stops (Ok (Some t))) where
      found : LineOf s r.at stops (Ok (Some (record { end = t.end; good = w.means.good; commas = t.commas })))
      found = w.means.line

      whole : WholeLine s r.at t.end w.means.good
      whole = whole_line found

      pub filling_span : Spanned r.at t.end
      filling_span = record { low = whole.low; small = omega (arith, whole.high, o.midway.small) }

      taken_here : Placed r.st (part s r.at t.end) t.moved.state t.moved.rp t.moved.doctor
      taken_here = placed r.st (part s r.at t.end) t.moved.state t.moved.rp t.moved.doctor (sym w.means.step)

      next_here : t.moved.state.line ≡ r.st.line + 1
      next_here = next_line r.st (facts_of (record_of (part s r.at t.end))) t.moved.state t.moved.rp t.moved.doctor taken_here.step

      -- the array is filled entry by entry
      pub filling_room : next < 448 → (a b c x y z u : ℕ) → Room d next (seven_numbers a b c x y z u)
      unfolding seven_numbers
      filling_room h a b c x y z u = omega (arith, v.count, v.size)

      module _ {kept : ℕ} (c : kept ≡ clinic_after t.moved.state.line r.clinic t.moved.state.place) where
        own : List ℕ
        own = seven_numbers t.moved.state.place r.at (t.end - r.at) (group_of t.moved.state) t.moved.doctor (drug_of t.moved.state) (clinic_of t.moved.state.place kept)

        -- the record's own numbers, and those after it
        written : numbers_at s r.st r.at r.clinic ≡ own ++ numbers_at s t.moved.state (t.end + 2) kept
        unfolding numbers listed_from here entered entry_of own
        written =
            ap (λ (es : List Entry). numbers (listed_from (r.st.line + 1) r.clinic es)) (line_entries found ∙ ap (here found) (sym w.means.step))
            ∙ rw (c, place_number taken_here, whole_length found, next_here)

        pub filling_on : {behind : ℕ} {d' : List ℕ}
            → Wrote d d' next behind (seven_numbers t.moved.state.place r.at (t.end - r.at) (group_of t.moved.state) t.moved.doctor (drug_of t.moved.state) (clinic_of t.moved.state.place kept))
            → Filling from s (record { st = t.moved.state; clinic = kept; at = t.end + 2 }) d' behind
        unfolding own
        filling_on x =
            let n = seven_length t.moved.state.place r.at (t.end - r.at) (group_of t.moved.state) t.moved.doctor (drug_of t.moved.state) (clinic_of t.moved.state.place kept) in
            record {
              left =
                  v.left ∙ ap (λ (x : List ℕ). take next d ++ x) written ∙ sym (append_assoc (take next d) own (numbers_at s t.moved.state (t.end + 2) kept))
                  ∙ ap (λ (x : List ℕ). x ++ numbers_at s t.moved.state (t.end + 2) kept) (sym (front_more x));
              count = omega (arith, x.next, n, v.count, next_here);
              size = x.size ∙ v.size;
              few = omega (arith, x.high, v.size);
              begun = omega (arith, v.begun, whole.low);
              more = λ _. omega (arith, v.begun, whole.low);
            }

pub ruleset filling_laws = (filling_start, filling_full, filling_over, filling_stopped, filling_missing, filling_span, filling_room, filling_on)
