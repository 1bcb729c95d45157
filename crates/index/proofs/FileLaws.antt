-- The whole call: line 1, the batches one after another, the answer and the output. One law for each way through the code. Assumes nothing.
use Prim.Native.Nat.{ℕ, ◌+◌, ◌*◌, ◌-◌, ◌≤◌, ◌<◌}
use native.Mathlib.Omega.{arith}
use mathlib.Core.Path.{◌≡◌, refl, sym, ap, ap₂, ◌∙◌, subst}
use mathlib.Core.Bool.{Bool, true, false, cond}
use mathlib.Core.List.{List, [], ◌∷◌, ◌++◌, append_assoc}
use borrow.Author.Tests.{leb-true}
use lib.Dec.{leb}
use lib.ListN.{length, take, drop, length-append}
use lib.Seq.{sets, length-take-le}
use Rattle.lists.specs.Lists.{bytes, Res, ok, refused, map_res}
use Rattle.characters.specs.Rows.{rows, is_line}
use Rattle.records.specs.Records.{header}
use Rattle.order.specs.declared.State.{State}
use Rattle.order.specs.State.{start}
use Rattle.order.proofs.Laws.{line_start}
use Rattle.buffers.specs.Buffers.{Room, Wrote}
use Rattle.buffers.proofs.Runs.{sets_all, sets_behind}
use Rattle.std.specs.Prelude.{Ok, Err}
use Rattle.replies.specs.declared.refusal.Refused.{Refused as RefusedAtLine}
use Rattle.replies.specs.declared.reply.Values.{Values}
use Rattle.replies.specs.Refusals.{number_of}
use Rattle.replies.specs.Replies.{Answer, Done, Refused}
use Rattle.replies.specs.Results.{Result, at_exit, answer_of, fitting, answer_in, output_of}
use Rattle.replies.specs.CallContracts.{Gives}
use Rattle.replies.proofs.Results.{gives_refusal, gives_20, gives_result}
use Rattle.notebook.specs.Notebook.{Notebook, read_file}
use Rattle.notebook.specs.Canonical.{head_row}
use Rattle.checking.specs.declared.Opening.{Opening}
use Rattle.checking.specs.Opening.{OpensAt, OpeningOf}
use Rattle.checking.proofs.CheckLaws.{midway_start, check_records}
use Rattle.notebook.specs.Index.{Entry, entries_from, entries_after_head, entries_of, listed_from, list_of, numbers, numbers_of, indexed, index_result}
use Rattle.index.specs.Filling.{MidwayIn, numbers_at, FullOf, LastOf, BatchOf, Onward, ExitMeans, Exit}
use Rattle.index.specs.declared.Reader.{Reader}
use Rattle.index.specs.declared.Batch.{Batch}
use Rattle.index.specs.declared.Batch.TheVariants.{Full, Last}
use Rattle.notebook.proofs.Answered.{Counted, answer_refused, answer_accepted}
use Rattle.notebook.proofs.Walk.{Accepted as AcceptedFile, accepted, walk_length, listed_length, numbers_length}

-- ---- what an answer tells of the output

answer_kept : (x : Res Result) (d : List ℕ) {n line : ℕ} → answer_in x d ≡ Refused n line → d ≡ output_of x d
unfolding answer_in output_of
answer_kept x d {n} {line} e = go (fitting x d) e
  where
    go : (y : Res Result) → answer_of y ≡ Refused n line → d ≡ at_exit (λ (r : Result). r.written) y d
    go (ok r) e = let z : ◌≡◌ {A = ℕ} 0 1 = cc in absurd (omega arith)
    go (refused m l) e = refl

-- the index is written
record Accepts (s d : List ℕ) (n : ℕ) : Type 0 where
  room : length (numbers_of s) ≤ length d
  done : Done n 0 0 ≡ answer_in (index_result s) d
  output : sets d 0 (numbers_of s) ≡ output_of (index_result s) d

answer_accepts : (s d : List ℕ) {n g y : ℕ} → answer_in (index_result s) d ≡ Done n g y → Accepts s d n
unfolding answer_in index_result
answer_accepts s d {n} {g} {y} e = go (read_file s) refl e
  where
    go : (x : Res Notebook) → read_file s ≡ x → answer_of (fitting (map_res (indexed s) x) d) ≡ Done n g y → Accepts s d n
    go (refused m l) q e = let z : ◌≡◌ {A = ℕ} 0 1 = cc in absurd (omega arith)
    go (ok b) q e = by (leb (length (numbers_of s)) (length d)) refl e
      where
        by : (f : Bool) → leb (length (numbers_of s)) (length d) ≡ f → answer_of (cond f (ok (indexed s b)) (refused 20 0)) ≡ Done n g y → Accepts s d n
        by false f e = let z : ◌≡◌ {A = ℕ} 0 1 = cc in absurd (omega arith)
        by true f e =
            let h : length (numbers_of s) ≤ length d = leb-true (length (numbers_of s)) (length d) f in
            let given : index_result s ≡ ok (indexed s b) = ap (map_res (indexed s)) q in
            let w = gives_result d given h in
            let k : length b.records ≡ n = cc in
            record { room = h; done = subst (λ (k : ℕ). Done k 0 0 ≡ answer_in (index_result s) d) k w.answer; output = sets_all (numbers_of s) d h ∙ w.output }

-- ---- line 1

entries_behind : (provider : Bool) (rs : List (List ℕ)) → entries_after_head (head_row provider ∷ rs) ≡ entries_from (start provider) (length (head_row provider)) rs
unfolding entries_after_head header bytes is_line
entries_behind true rs = refl
entries_behind false rs = refl

module _ {s : List ℕ} {provider : Bool} {from : ℕ} (o : OpensAt s provider from) where
  file_entries : entries_of s ≡ entries_from (start provider) from (rows (drop from s))
  unfolding entries_of
  file_entries =
      let n : length (head_row provider) ≡ from = ap length (sym o.first) ∙ length-take-le (from - 0) s (omega (arith, o.behind.high)) ∙ omega arith in
      ap entries_after_head o.cut ∙ entries_behind provider (rows (drop from s)) ∙ ap (λ (j : ℕ). entries_from (start provider) j (rows (drop from s))) n

  file_numbers : numbers_of s ≡ numbers_at s (start provider) from 0
  unfolding numbers_of list_of
  file_numbers =
      ap (λ (es : List Entry). numbers (listed_from 2 0 es)) file_entries
      ∙ ap (λ (j : ℕ). numbers (listed_from (j + 1) 0 (entries_from (start provider) from (rows (drop from s))))) (sym (line_start provider))

  begins : Onward s (record { st = start provider; clinic = 0; at = from })
  begins = record {
    checked = sym (check_records {o = record { provider = provider; from = from }} (record { means = o }) refl);
    before = [];
    listed = file_numbers;
    count = omega (arith, line_start provider);
    midway = midway_start provider s from o.behind;
  }

-- line 1 is read: what is left is the whole
module _ {s : List ℕ} where
  pub index_unopened : {x : RefusedAtLine} (d : List ℕ) → OpeningOf s (Err x) → Gives (index_result s) d d (Refused (number_of x.refusal) x.line)
  unfolding index_result
  index_unopened d w = gives_refusal d (ap (map_res (indexed s)) w.means)

  module _ {o : Opening} (w : OpeningOf s (Ok o)) {st : State} (e : st ≡ start o.provider) where
    pub index_begins : Onward s (record { st = st; clinic = 0; at = o.from })
    index_begins = subst (λ (x : State). Onward s (record { st = x; clinic = 0; at = o.from })) (sym e) (begins w.means)

    pub index_whole : {d d' : List ℕ} {r : Answer} → Exit s (record { st = st; clinic = 0; at = o.from }) d d' r → Gives (index_result s) d d' r
    index_whole {d} {d'} {r} x = record { answer = x.answer; output = go r x.answer x.output }
      where
        all : sets d ((st.line - 1) * 7) (numbers_at s st o.from 0) ≡ sets d 0 (numbers_of s)
        all =
            ap (λ (t : State). sets d ((t.line - 1) * 7) (numbers_at s t o.from 0)) e
            ∙ ap₂ (λ (j : ℕ) (v : List ℕ). sets d j v) {x = ((start o.provider).line - 1) * 7} {y = 0} (omega (arith, line_start o.provider)) (sym (file_numbers w.means))

        go : (r : Answer) → r ≡ answer_in (index_result s) d → ExitMeans s (record { st = st; clinic = 0; at = o.from }) d d' r → d' ≡ output_of (index_result s) d
        go (Refused n line) a q = q ∙ answer_kept (index_result s) d (sym a)
        go (Done n g y) a q = q ∙ all ∙ (answer_accepts s d (sym a)).output

-- ---- the answer and the buffer, midway in a file

pub batch_is : {s : List ℕ} {from : Reader} {entries : List ℕ} {b c : Batch} → BatchOf s from entries (Ok b) → b ≡ c → BatchOf s from entries (Ok c)
batch_is {s} {from} {entries} w q = subst (λ (x : Batch). BatchOf s from entries (Ok x)) q w

module _ {s : List ℕ} {from : Reader} (v : Onward s from) where
  pub onward_midway : MidwayIn s from
  onward_midway = record { is = v.midway }

  pub onward_line : 1 ≤ from.st.line
  onward_line = v.midway.low

  -- where the records or the end are refused
  pub batch_refused : (d : List ℕ) {entries : List ℕ} {x : RefusedAtLine} → BatchOf s from entries (Err x) → Exit s from d d (Refused (number_of x.refusal) x.line)
  unfolding index_result
  batch_refused d {entries} {x} b = record {
    answer = (gives_refusal d (ap (map_res (indexed s)) (answer_refused s (number_of x.refusal) x.line (v.checked ∙ sym b.means)))).answer;
    output = refl;
    size = refl;
  }

  module _ (d : List ℕ) {entries : List ℕ} {c : Values} {filled : ℕ} (b : BatchOf s from entries (Ok (Last c filled))) where
    last : LastOf s from entries c filled
    last = b.means

    pub last_end : filled ≤ length entries
    last_end = omega (arith, last.high, b.size)

    by_count : Counted s c.a
    by_count = answer_accepted s c.a c.b c.c (v.checked ∙ sym last.answer)

    file : AcceptedFile s by_count.book
    file = accepted s by_count.book by_count.read

    given : index_result s ≡ ok (indexed s by_count.book)
    unfolding index_result
    given = ap (map_res (indexed s)) by_count.read

    size : length (numbers_of s) ≡ c.a * 7
    unfolding numbers_of list_of
    size = omega (arith, numbers_length (listed_from 2 0 (entries_of s)), listed_length 2 0 (entries_of s), walk_length file.walked, by_count.count)

    pub last_short : length d < c.a * 7 → Exit s from d d (Refused 20 0)
    last_short h = record { answer = (gives_20 d given (omega (arith, size))).answer; output = refl; size = refl }

    module _ (h : c.a * 7 ≤ length d) where
      room : (from.st.line - 1) * 7 + length (numbers_at s from.st from.at from.clinic) ≤ length d
      room = omega (arith, size, ap length v.listed ∙ length-append v.before (numbers_at s from.st from.at from.clinic), v.count)

      done : Done c.a 0 0 ≡ answer_in (index_result s) d
      done = subst (λ (k : ℕ). Done k 0 0 ≡ answer_in (index_result s) d) by_count.count (gives_result d given (omega (arith, size))).answer

      pub last_room : Room d ((from.st.line - 1) * 7) (take filled entries)
      last_room = omega (arith, room, ap length last.list)

      pub last_written : {d' : List ℕ} {r : ℕ} → Wrote d d' ((from.st.line - 1) * 7) r (take filled entries) → Exit s from d d' (Done c.a 0 0)
      last_written x = record { answer = done; output = x.list ∙ ap (sets d ((from.st.line - 1) * 7)) last.list; size = x.size }

  -- a batch was read, and more follow
  module _ {entries : List ℕ} {after : Reader} (w : BatchOf s from entries (Ok (Full after))) where
    b : FullOf s from entries after
    b = w.means

    z : length entries ≡ 448
    z = w.size

    pub full_onward : Onward s after
    full_onward = record {
      checked = v.checked ∙ b.answer;
      before = v.before ++ entries;
      listed = v.listed ∙ ap (λ (r : List ℕ). v.before ++ r) b.list ∙ sym (append_assoc v.before entries (numbers_at s after.st after.at after.clinic));
      count = length-append v.before entries ∙ omega (arith, v.count, z, b.lines, v.midway.low);
      midway = b.midway;
    }

    -- the measure of the calls
    pub full_less : length s - after.at < length s - from.at
    full_less = omega (arith, b.less, b.midway.high)

    pub full_refused : {d d₁ : List ℕ} {n line : ℕ} → Exit s after d d₁ (Refused n line) → Exit s from d d₁ (Refused n line)
    full_refused x = record { answer = x.answer; output = x.output; size = x.size }

    module _ {d d₁ : List ℕ} {n g y : ℕ} (x : Exit s after d d₁ (Done n g y)) where
      accepts : Accepts s d n
      accepts = answer_accepts s d (sym x.answer)

      whole_room : length (numbers_of s) ≤ length d
      whole_room = accepts.room

      parts : length (numbers_of s) ≡ (from.st.line - 1) * 7 + 448 + length (numbers_at s after.st after.at after.clinic)
      parts =
          ap length (v.listed ∙ ap (λ (r : List ℕ). v.before ++ r) b.list) ∙ length-append v.before (entries ++ numbers_at s after.st after.at after.clinic)
          ∙ omega (arith, length-append entries (numbers_at s after.st after.at after.clinic), z, v.count)

      pub full_room : Room d₁ ((from.st.line - 1) * 7) entries
      full_room = omega (arith, z, x.size, whole_room, parts)

      pub full_written : {d' : List ℕ} {r : ℕ} → Wrote d₁ d' ((from.st.line - 1) * 7) r entries → Exit s from d d' (Done n g y)
      full_written {d'} u =
          let behind : d₁ ≡ sets d ((after.st.line - 1) * 7) (numbers_at s after.st after.at after.clinic) = x.output in
          let place : (after.st.line - 1) * 7 ≡ (from.st.line - 1) * 7 + length entries = omega (arith, b.lines, z, v.midway.low) in
          record {
            answer = x.answer;
            output =
                u.list ∙ ap (λ (y : List ℕ). sets y ((from.st.line - 1) * 7) entries) (behind ∙ ap (λ (k : ℕ). sets d k (numbers_at s after.st after.at after.clinic)) place)
                ∙ sets_behind entries (numbers_at s after.st after.at after.clinic) d ((from.st.line - 1) * 7) (omega (arith, z, whole_room, parts))
                ∙ ap (sets d ((from.st.line - 1) * 7)) (sym b.list);
            size = u.size ∙ x.size;
          }
