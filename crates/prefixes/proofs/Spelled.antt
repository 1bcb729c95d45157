-- Lines that are read to the records which complete a group: so that what completes a group over records does so over bytes. Assumes nothing.
use Prim.Native.Nat.{ℕ, ◌+◌, ◌*◌, ◌≤◌}
use native.Mathlib.Omega.{arith}
use mathlib.Core.Path.{◌≡◌, refl, ap, ap₂, ◌∙◌}
use mathlib.Core.Bool.{Bool, true, false}
use Rattle.std.specs.Prelude.{Some}
use mathlib.Core.List.{List, [], ◌∷◌, ◌++◌, map}
use lib.Dec.{leb}
use lib.ListN.{length, length-append}
use borrow.Author.Tests.{le-leb}
use Rattle.lists.specs.Lists.{bytes, empty, all, All}
use Rattle.digits.specs.Digits.{is_digit, value as digits_value, number, spell, digit_count}
use Rattle.digits.proofs.Numbers.{number_spell, digits_spell, length_spell, some_digit}
use Rattle.characters.specs.Cells.{full_row, part_row, allowed, cell_script, trail_script, pair_script}
use Rattle.characters.specs.Text.{all_chars}
use Rattle.eras.specs.Day.{leap, month_length, is_real, is_day}
use Rattle.calendar.specs.Day.{gregorian}
use Rattle.eras.specs.Era.{era_of, era_on}
use Rattle.calendar.specs.Era.{in_era, from_era, read_day}
use Rattle.calendar.proofs.Laws.{Plain}
use Rattle.records.specs.Table.{table}
use Rattle.records.specs.Split.{items_of, joined}
use Rattle.records.specs.Items.{edge, one_width, one_script, prefecture, is_decimal, sized, fault, value_of}
use Rattle.records.specs.Records.{Record, item_fault, item_value, items_fault, items_value, row_in, table_row, code_pair, form_pair, pairs, t911, record_from, fault_from, line_fault, record_of, 日分}
use Rattle.records.specs.Reading.{Read, read_line}
use Rattle.order.specs.declared.Facts.{Facts}
use Rattle.notebook.specs.Facts.{facts_of}
use Rattle.lists.proofs.Tests.{both}
use Rattle.digits.proofs.Numbers.{digit_is, number_is}
use Rattle.records.proofs.Splits.{NoComma, items_joined, weight, joined_length, AllChars, chars_joined, plain_chars, plain_no_comma}
use Rattle.records.proofs.LineLaws.{reads}
use Rattle.characters.specs.Rows.{line_end}
use Rattle.grammar.specs.Grammar.{rec}
use Rattle.verdict.specs.Acceptance.{lines_then, Reads}
use Rattle.prefixes.proofs.GoingOn.{Usual, usual_1, usual_5, usual_11, usual_411, usual_201, usual_301, plain, dated, medical, of_rp, used}

-- a line that is read to a record with these facts
record Line (o : Bool) (f : Facts) : Type 0 where
  line : List ℕ
  rec' : Record
  read : read_line o line ≡ Read.ok rec'
  facts : facts_of rec' ≡ f
  short : length line ≤ 40

one : number (49 ∷ []) ≡ Some 1
unfolding spell
one = number_spell 1 (omega arith)

-- records without an RP value
fixed : (o : Bool) → Line o (rec 1 plain) × Line o (rec 5 dated) × Line o (rec 11 medical) × Line o (rec 411 plain)
unfolding bytes digits_value spell leap month_length is_real is_day gregorian era_of era_on in_era from_era read_day table edge one_width one_script prefecture is_decimal sized fault value_of item_fault item_value items_fault items_value row_in table_row code_pair form_pair pairs t911 record_from fault_from line_fault record_of read_line facts_of
fixed o = (
  record { line = bytes "1,A,1,19890108,,,,,,,"; rec' = _; read = refl; facts = refl; short = omega arith },
  record { line = bytes "5,19890108,1"; rec' = _; read = refl; facts = refl; short = omega arith },
  record { line = bytes "11,A,01,1,,,,,1"; rec' = _; read = refl; facts = rw one; short = omega arith },
  record { line = bytes "411,A,99,1"; rec' = _; read = refl; facts = refl; short = omega arith },
)

-- ---- lines with an RP value

plain_digits : (s : List ℕ) → all is_digit s ≡ true → Plain s
plain_digits [] e = tt
plain_digits (b ∷ s) e =
    let p = both (is_digit b) (all is_digit s) e in
    let d = digit_is b p.0 in
    (d.0, omega arith, plain_digits s p.1)

-- the items after the RP value of a 201; of a 301 of form 1, with its unit
abbrev items201 : List (List ℕ)
items201 = bytes "A" ∷ bytes "1" ∷ bytes "A" ∷ bytes "1" ∷ [] ∷ bytes "1" ∷ []

abbrev items301 : List (List ℕ)
items301 = bytes "A" ∷ bytes "1" ∷ 日分 ∷ bytes "1" ∷ bytes "1" ∷ [] ∷ bytes "1" ∷ []

module _ (v : ℕ) (s : List ℕ) (filled : empty s ≡ false) (is : number s ≡ Some v) (lo : leb 1 v ≡ true) where
  fault_rp : (o : Bool) → (fault_from o (bytes "201" ∷ s ∷ items201) ≡ 0) × (fault_from o (bytes "301" ∷ s ∷ items301) ≡ 0)
  unfolding bytes spell table edge one_width one_script prefecture is_decimal sized fault value_of item_fault item_value items_fault items_value row_in table_row code_pair form_pair pairs t911 record_from fault_from facts_of
  fault_rp o = (rw (filled, is, lo), rw (filled, is, lo, one))

  facts_rp : (facts_of (record_from (bytes "201" ∷ s ∷ items201)) ≡ rec 201 (of_rp v)) × (facts_of (record_from (bytes "301" ∷ s ∷ items301)) ≡ rec 301 (used v))
  unfolding bytes spell table edge one_width one_script prefecture is_decimal sized fault value_of item_fault item_value items_fault items_value row_in table_row code_pair form_pair pairs t911 record_from fault_from facts_of
  facts_rp = (rw (filled, is), rw (filled, is, one))

days_chars : all_chars 日分 ≡ true
unfolding full_row part_row allowed cell_script trail_script pair_script
days_chars = refl

module _ (v : ℕ) (lo : 1 ≤ v) (hi : v ≤ 999) where
  some_bytes : empty (spell v) ≡ false
  some_bytes = by (spell v) (length_spell v hi) (some_digit v)
    where
      by : (s : List ℕ) → length s ≡ digit_count v → 1 ≤ digit_count v → empty s ≡ false
      by [] e h = absurd (omega arith)
      by (b ∷ s) e h = refl

  -- a line of a number, the RP value and other items
  rp_line : (o : Bool) (h : List ℕ) (ss : List (List ℕ)) → NoComma h → All NoComma ss → AllChars h → All AllChars ss → fault_from o (h ∷ spell v ∷ ss) ≡ 0
      → length h + weight ss ≤ 36
      → {f : Facts} → facts_of (record_from (h ∷ spell v ∷ ss)) ≡ f → Line o f
  unfolding line_fault record_of
  rp_line o h ss a b c d z n g =
      let p : Plain (spell v) = plain_digits (spell v) (digits_spell v hi) in
      let l : List ℕ = joined h (spell v ∷ ss) in
      let i : items_of (joined h (spell v ∷ ss)) ≡ h ∷ spell v ∷ ss = items_joined h (spell v ∷ ss) a (plain_no_comma (spell v) p, b) in
      let k : all_chars (joined h (spell v ∷ ss)) ≡ true = chars_joined h (spell v ∷ ss) c (plain_chars (spell v) p, d) in
      let e : line_fault o (joined h (spell v ∷ ss)) ≡ 0 = rw (k, i) z in
      record {
        line = l;
        rec' = record_of l;
        read = reads o (joined h (spell v ∷ ss)) e;
        facts = ap (λ (x : List (List ℕ)). facts_of (record_from x)) i
            ∙ g;
        short = omega (arith, joined_length h (spell v ∷ ss), (number_is (spell v) v (number_spell v hi)).high);
      }

  line_201 : (o : Bool) → Line o (rec 201 (of_rp v))
  unfolding bytes
  line_201 o =
      rp_line o (bytes "201") items201 (refl, (refl, (refl, tt))) ((refl, tt), ((refl, tt), ((refl, tt), ((refl, tt), (tt, ((refl, tt), tt)))))) refl
      (refl, (refl, (refl, (refl, (refl, (refl, tt))))))
      (fault_rp v (spell v) some_bytes (number_spell v hi) (le-leb 1 v lo) o).0 (omega arith)
      (facts_rp v (spell v) some_bytes (number_spell v hi) (le-leb 1 v lo)).0

  line_301 : (o : Bool) → Line o (rec 301 (used v))
  unfolding bytes
  line_301 o =
      rp_line o (bytes "301") items301 (refl, (refl, (refl, tt)))
      ((refl, tt), ((refl, tt), ((refl, (refl, (refl, (refl, tt)))), ((refl, tt), ((refl, tt), (tt, ((refl, tt), tt))))))) refl
      (refl, (refl, (days_chars, (refl, (refl, (refl, (refl, tt)))))))
      (fault_rp v (spell v) some_bytes (number_spell v hi) (le-leb 1 v lo) o).1 (omega arith)
      (facts_rp v (spell v) some_bytes (number_spell v hi) (le-leb 1 v lo)).1

-- ---- the records that complete a group, as lines

spell_one : (o : Bool) (f : Facts) → Usual f → Line o f
spell_one o _ usual_1 = (fixed o).0
spell_one o _ usual_5 = (fixed o).1
spell_one o _ usual_11 = (fixed o).2
spell_one o _ usual_411 = (fixed o).3
spell_one o _ (usual_201 v lo hi) = line_201 v lo hi o
spell_one o _ (usual_301 v lo hi) = line_301 v lo hi o

pub record Spelling (o : Bool) (fs : List Facts) : Type 0 where
  pub lines : List (List ℕ)
  pub recs : List Record
  pub read : Reads o lines recs
  pub facts : map facts_of recs ≡ fs
  pub short : length (lines_then lines []) ≤ 42 * length fs

pub spell_all : (o : Bool) (fs : List Facts) → All Usual fs → Spelling o fs
spell_all o [] t = record { lines = []; recs = []; read = tt; facts = refl; short = omega arith }
spell_all o (f ∷ fs) (u, t) =
    let l = spell_one o f u in
    let r = spell_all o fs t in
    record {
      lines = l.line ∷ r.lines;
      recs = l.rec' ∷ r.recs;
      read = (l.read, r.read);
      facts = ap₂ (λ (x : Facts) (xs : List Facts). x ∷ xs) l.facts r.facts;
      short = omega (arith, length-append l.line (line_end ++ lines_then r.lines []), l.short, r.short);
    }
