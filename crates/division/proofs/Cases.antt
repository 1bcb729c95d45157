-- Every case of specs/Cases.antt holds, by the definitions that the contracts cite. The files of the cases of cutting are read first, each once;
-- the list is then one computation. Assumes nothing.
use Prim.Native.Nat.{ℕ, zero, suc}
use mathlib.Core.Path.{◌≡◌, refl, ap, ◌∙◌}
use mathlib.Core.Bool.{false}
use mathlib.Core.List.{List, [], ◌∷◌, map}
use lib.ListN.{length}
use Rattle.lists.specs.Lists.{bytes, Res, ok, map_res, and_then}
use Rattle.digits.specs.Digits.{value as digits_value, spell, digit_count}
use Rattle.characters.specs.Rows.{is_line}
use Rattle.eras.specs.Day.{leap, month_length, is_real, is_day}
use Rattle.calendar.specs.Day.{gregorian}
use Rattle.eras.specs.Era.{era_of, era_on, write_day}
use Rattle.calendar.specs.Era.{in_era, from_era, read_day}
use Rattle.records.specs.Split.{joined}
use Rattle.records.specs.Table.{table}
use Rattle.records.specs.Items.{raw, day, edge, one_width, is_decimal, sized, fault, value_of}
use Rattle.records.specs.Records.{Record, item_fault, item_value, items_fault, items_value, row_in, table_row, pairs, t911, record_from, fault_from, line_fault, record_of, header, write}
use Rattle.rules.specs.Places.{in_group, may_follow}
use Rattle.rules.specs.Rules.{pair_broken, misplaced, closes_rp, lacking, missing, value_wrong, newer_group, order_refusal, unfinished}
use Rattle.order.specs.State.{nothing_yet, start, had_after, advance, refusal_of, step_of, finish_of}
use Rattle.notebook.specs.Facts.{facts_of}
use Rattle.notebook.specs.Notebook.{Notebook, step_line, closed, onward, records_from, read_rows, read_file}
use Rattle.notebook.specs.Check.{count, check_result}
use Rattle.notebook.specs.Same.{arrange}
use Rattle.notebook.specs.Canonical.{record_rows, write_file, canonical_bytes, canonical_file, canonical_result}
use Rattle.printing.specs.Printed.{digit_list as decimal_digits, decimal as decimal_of, spaced, line, printed}
use Rattle.packing.specs.Packing.{total, put}
use Rattle.packing.specs.Widths.{Plan, over, serves}
use Rattle.packing.proofs.Computed.{packed, tried, planned, plan_is}
use Rattle.ids.specs.Used.{first_ids, ids_in, unused}
use Rattle.division.specs.Marks.{valid_id, mark_line, mark_row}
use Rattle.replies.specs.Replies.{Answer}
use Rattle.replies.specs.Replies.{Done, Refused}
use Rattle.replies.specs.Results.{answer_of, fitting, answer_in}
use Rattle.division.specs.Cut.{piece_bytes, numbered, planned as pieces_of, cutting, listed, for_id, list_for, cut_list, writes_pieces, cut_result}
use Rattle.division.specs.Cases.{with_notes, Case, cases, thousand, answer}

-- ---- the files of the cases of cutting, read

notes : ℕ → List Record
notes zero = []
notes (suc n) = record { number = 4; values = raw (bytes "x") ∷ raw [] ∷ raw (bytes "2") ∷ [] } ∷ notes n

-- record 1, with n records 4
book : ℕ → Notebook
book n = record {
  provider = false;
  records = record {
    number = 1;
    values = raw (bytes "A") ∷ raw (bytes "1") ∷ day 19890108 ∷ raw [] ∷ raw [] ∷ raw [] ∷ raw [] ∷ raw [] ∷ raw [] ∷ raw [] ∷ [];
  } ∷ notes n;
}

abbrev Read : ℕ → Type 0
Read n = read_file (with_notes n) ≡ ok (book n)

reads : Read 20 × Read 18 × Read 2
unfolding notes book bytes spell is_line digits_value leap month_length is_real is_day gregorian era_of era_on in_era from_era read_day write_day table edge one_width is_decimal sized fault value_of item_fault item_value items_fault items_value row_in table_row pairs t911 record_from fault_from line_fault record_of header in_group may_follow pair_broken misplaced closes_rp lacking missing value_wrong newer_group order_refusal unfinished nothing_yet start had_after advance refusal_of step_of finish_of facts_of step_line closed onward records_from read_rows read_file
reads = (refl, refl, refl)

-- ---- cut

abbrev ident : List ℕ
ident = bytes "20261115000001"

-- the answer from the notebook on, of which only what is needed is computed
abbrev answering : Res (List (List ℕ)) → Answer
answering x = answer_of (fitting (map_res writes_pieces x) thousand)

abbrev planning : Notebook → Plan (List ℕ) → Answer
planning b p = answering (for_id (valid_id ident) (unused ident []) (listed (pieces_of ident b p)))

abbrev computed : ℕ → Notebook → Answer
computed c b = planning (arrange b) (planned length c (record_rows (arrange b).records))

answered : (s : List ℕ) (b : Notebook) (c : ℕ) → read_file s ≡ ok b → answer_in (cut_result s c ident []) thousand ≡ computed c b
unfolding answer_in cut_result cut_list cutting
answered s b c e =
    ap (λ (r : Res Notebook). answering (and_then r (list_for ident [] c))) e
    ∙ ap (planning (arrange b)) (plan_is length c (record_rows (arrange b).records))

abbrev Cut : ℕ → ℕ → Answer → Type 0
Cut n c r = answer_in (cut_result (with_notes n) c ident []) thousand ≡ r

cut : (n c : ℕ) → Read n → Cut n c (computed c (book n))
cut n c e = answered (with_notes n) (book n) c e

cuts : Cut 20 69 (Done 6 404 0) × Cut 18 60 (Done 10 547 0) × Cut 18 59 (Refused 18 0) × Cut 2 51 (Done 1 51 0) × Cut 2 50 (Refused 18 0)
unfolding notes book bytes spell era_on in_era write_day joined header write record_rows arrange write_file canonical_bytes total put packed digit_count over serves tried planned valid_id first_ids ids_in unused mark_line mark_row piece_bytes numbered t911
cuts = (cut 20 69 reads.0, cut 18 60 reads.1, cut 18 59 reads.1, cut 2 51 reads.2, cut 2 50 reads.2)

-- ---- ALL CASES

pub cases_hold : map (λ (c : Case). answer c.asked) cases ≡ map (λ (c : Case). c.said) cases
unfolding bytes spell is_line digits_value leap month_length is_real is_day gregorian era_of era_on in_era from_era read_day write_day table edge one_width is_decimal sized fault value_of item_fault item_value items_fault items_value row_in table_row pairs t911 record_from fault_from line_fault record_of header in_group may_follow pair_broken misplaced closes_rp lacking missing value_wrong newer_group order_refusal unfinished nothing_yet start had_after advance refusal_of step_of finish_of facts_of step_line closed onward records_from read_rows read_file count check_result joined write record_rows arrange write_file canonical_bytes canonical_file canonical_result answer_in decimal_digits decimal_of spaced line printed
cases_hold = rw (cuts.4, cuts.3, cuts.2, cuts.1, cuts.0) refl
