-- For every spelling of a day of seven bytes an accepted file that has it: a record 1 with that day of birth. Assumes nothing.
use Prim.Native.Nat.{ℕ, ◌≤◌}
use native.Mathlib.Omega.{arith}
use mathlib.Core.Path.{◌≡◌, refl, sym, ap, ap₂, subst, ◌∙◌}
use mathlib.Core.Bool.{true, false}
use mathlib.Core.List.{List, [], ◌∷◌, ◌++◌}
use lib.ListN.{length, drop, length-append}
use Rattle.lists.specs.Lists.{bytes, empty, ok}
use Rattle.digits.specs.Digits.{spell}
use Rattle.characters.specs.Text.{text}
use Rattle.characters.specs.Rows.{rows, flat, line_end}
use Rattle.characters.proofs.RowLaws.{line_text}
use Rattle.eras.specs.Day.{is_day}
use Rattle.eras.specs.Era.{write_day}
use Rattle.std.specs.Prelude.{Some}
use Rattle.calendar.specs.Era.{read_day}
use Rattle.calendar.proofs.Laws.{Plain, read_write, write_plain}
use Rattle.records.specs.Split.{items_of, joined}
use Rattle.records.specs.Table.{table}
use Rattle.records.specs.Items.{raw, day, edge, one_width, is_decimal, sized, fault, value_of}
use Rattle.records.specs.Records.{Record, item_fault, item_value, items_fault, items_value, row_in, table_row, pairs, t911, record_from, fault_from, line_fault, record_of, header}
use Rattle.records.specs.Reading.{ok as read, read_line}
use Rattle.records.proofs.Splits.{items_joined, joined_length, AllChars, chars_joined, plain_chars, plain_no_comma}
use Rattle.records.proofs.LineLaws.{reads}
use Rattle.records.proofs.TheLanguage.{clear}
use Rattle.rules.specs.Places.{in_group, may_follow}
use Rattle.rules.specs.Rules.{pair_broken, misplaced, continues, closes_rp, lacking, missing, value_wrong, newer_group, order_refusal, unfinished}
use Rattle.order.specs.State.{nothing_yet, start, had_after, advance, refusal_of, finish_of, step_of}
use Rattle.notebook.specs.Facts.{facts_of}
use Rattle.notebook.specs.Notebook.{Notebook, read_file}
use Rattle.notebook.specs.Same.{arrange}
use Rattle.notebook.specs.Canonical.{head_row, canonical_bytes}
use Rattle.notebook.proofs.Accepted.{Reads, none, more, Ruled, over, next, carries, row_cut, rows_flat, head_line, head_length}
use Rattle.notebook.proofs.WrittenLaws.{row_of}
use Rattle.division.specs.Orders.{Insert, here}
use Rattle.division.proofs.Answers.{canonical_file_lem}
use Rattle.dates.specs.Dates.{Spelled, dates_among, line_dates, rows_dates, file_dates, WrittenFor}
use Rattle.dates.proofs.Written.{file_dates_lem, head_dates}

-- a record 1 with the day n of birth, and its items
birth : ℕ → Record
birth n = record {
  number = 1;
  values = raw (bytes "A") ∷ raw (bytes "1") ∷ day n ∷ raw [] ∷ raw [] ∷ raw [] ∷ raw [] ∷ raw [] ∷ raw [] ∷ raw [] ∷ [];
}

abbrev items : List ℕ → List (List ℕ)
items s = bytes "A" ∷ bytes "1" ∷ s ∷ [] ∷ [] ∷ [] ∷ [] ∷ [] ∷ [] ∷ [] ∷ []

no_fault : (n : ℕ) (s : List ℕ) → empty s ≡ false → read_day s ≡ Some (record { ymd = n })
    → (fault_from false (bytes "1" ∷ items s) ≡ 0) × (record_from (bytes "1" ∷ items s) ≡ birth n)
unfolding birth bytes spell table edge one_width is_decimal sized fault value_of item_fault item_value items_fault items_value row_in table_row pairs t911 record_from fault_from
no_fault n s f e = (rw (f, e) refl, rw (f, e) refl)

-- a file with this record, the day in any spelling: it is accepted, and has that spelling for the day
module _ (n : ℕ) (s : List ℕ) (f : empty s ≡ false) (p : Plain s) (z : length s ≡ 7) (e : read_day s ≡ Some (record { ymd = n })) where
  pub line : List ℕ
  line = joined (bytes "1") (items s)

  cut : items_of line ≡ bytes "1" ∷ items s
  unfolding line bytes
  cut =
      items_joined (bytes "1") (items s) (refl, tt)
      ((refl, tt), ((refl, tt), (plain_no_comma s p, (tt, (tt, (tt, (tt, (tt, (tt, (tt, tt))))))))))

  chars : AllChars line
  unfolding line bytes
  chars =
      chars_joined (bytes "1") (items s) refl
      (refl, (refl, (plain_chars s p, (refl, (refl, (refl, (refl, (refl, (refl, (refl, tt))))))))))

  is_birth : record_of line ≡ birth n
  unfolding record_of
  is_birth = ap record_from cut ∙ (no_fault n s f e).1

  birth_read : read_line false line ≡ read (birth n)
  unfolding line_fault
  birth_read =
      let g : line_fault false line ≡ 0 = rw (chars, cut) (no_fault n s f e).0 in
      reads false line g ∙ ap read is_birth

  pub book : Notebook
  book = record { provider = false; records = birth n ∷ [] }

  -- the order takes it
  ruled : Ruled (start false) (birth n ∷ [])
  unfolding birth in_group may_follow pair_broken misplaced continues closes_rp lacking missing value_wrong newer_group order_refusal unfinished nothing_yet start had_after advance refusal_of finish_of step_of facts_of
  ruled = next refl (over refl)

  pub file : List ℕ
  file = head_row false ++ flat ((line ++ line_end) ∷ [])

  small : length file ≤ 65536
  unfolding file line bytes header
  small =
      omega (
        arith,
        length-append (joined (bytes "1") (items s)) line_end,
        length-append (joined (bytes "1") (items s) ++ line_end) [],
        length-append (head_row false) (flat ((joined (bytes "1") (items s) ++ line_end) ∷ [])),
        joined_length (bytes "1") (items s),
        head_length false,
      )

  row : Reads false (birth n) (line ++ line_end)
  row = row_of false (birth n) line birth_read

  pub birth_file : read_file file ≡ ok book
  unfolding file book
  birth_file = carries false (birth n ∷ []) ((line ++ line_end) ∷ []) (more row none) ruled small

  birth_dates : line_dates line ≡ record { ymd = n; bytes = s } ∷ []
  unfolding line_dates birth
  birth_dates =
      ap (λ (r : Record). dates_among r.values (drop 1 (items_of line))) is_birth
      ∙ ap (λ (ss : List (List ℕ)). dates_among (birth n).values (drop 1 ss)) cut

  pub its_dates_lem : file_dates file ≡ record { ymd = n; bytes = s } ∷ []
  unfolding file_dates file
  its_dates_lem =
      let k : rows (head_row false ++ flat ((line ++ line_end) ∷ [])) ≡ head_row false ∷ (line ++ line_end) ∷ [] =
      row_cut (head_row false) (flat ((line ++ line_end) ∷ [])) (head_line false)
      ∙ ap (λ (x : List (List ℕ)). head_row false ∷ x) (rows_flat ((line ++ line_end) ∷ []) (row.line, tt)) in
      let t : text (line ++ line_end) ≡ line = line_text line (clear false line (birth n) birth_read) in
      let a : line_dates (text (head_row false)) ≡ [] = head_dates false in
      let b : line_dates (text (line ++ line_end)) ≡ record { ymd = n; bytes = s } ∷ [] = ap line_dates t ∙ birth_dates in
      ap rows_dates k ∙ rw (a, b) refl

-- every day is written in some canonical file
pub written_once : (n : ℕ) → is_day n ≡ true → WrittenFor n (write_day n)
unfolding write_day book birth arrange
written_once n d =
    let c = birth_file n (write_day n) refl (write_plain n d) refl (read_write n d) in
    let g = file n (write_day n) refl (write_plain n d) refl (read_write n d) in
    let b = book n (write_day n) refl (write_plain n d) refl (read_write n d) in
    record {
      file = g;
      notebook = b;
      accepted = c;
      canonical = canonical_bytes b;
      is = canonical_file_lem g b c;
      stands = record { others = []; found = subst (Insert (record { ymd = n; bytes = write_day n }) []) (sym (file_dates_lem g b c)) here };
    }
