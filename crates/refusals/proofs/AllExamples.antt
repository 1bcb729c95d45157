-- The examples of specs/Examples.antt come out as written there, and reach every number of every call but 1. Assumes nothing.
use mathlib.Core.Path.{◌≡◌, refl}
use mathlib.Core.Bool.{true}
use Prim.Native.Nat.{ℕ}
use native.Mathlib.Omega.{arith}
use mathlib.Core.List.{◌++◌, map}
use Rattle.notebook.specs.Clinics.{IndexIn}
use Rattle.lists.specs.Lists.{bytes}
use Rattle.digits.specs.Digits.{value, number, spell, digit_count}
use Rattle.characters.specs.Rows.{is_line}
use Rattle.eras.specs.Day.{leap, month_length, is_real, is_day}
use Rattle.eras.specs.Era.{era_of, era_on, write_day}
use Rattle.calendar.specs.Day.{gregorian}
use Rattle.calendar.specs.Era.{in_era, from_era, read_day}
use Rattle.records.specs.Split.{joined}
use Rattle.records.specs.Table.{table}
use Rattle.records.specs.Items.{edge, one_width, is_decimal, sized, fault, value_of as value_of, seven, postal, prefecture}
use Rattle.records.specs.Records.{item_fault, item_value, items_fault, items_value, row_in, table_row, pairs, code_pair, t911, is_mark, record_from, fault_from, line_fault, record_of, header, write}
use Rattle.rules.specs.Places.{in_group, may_follow}
use Rattle.rules.specs.Rules.{pair_broken, misplaced, continues, closes_rp, lacking, missing, value_wrong, newer_group, order_refusal, unfinished}
use Rattle.order.specs.State.{nothing_yet, start, had_after, advance, refusal_of, step_of, finish_of, group_of, drug_of, doctor_of, rp_of}
use Rattle.notebook.specs.Facts.{facts_of}
use Rattle.notebook.specs.Notebook.{step_line, closed, onward, records_from, read_rows, read_file}
use Rattle.buffers.specs.Entries.{seven_numbers}
use Rattle.replies.specs.Results.{answer_in, output_of}
use Rattle.notebook.specs.Check.{check_result}
use Rattle.notebook.specs.Index.{entry_of, entered, entries_from, entries_after_head, entries_of, clinic_after, clinic_of, listed_from, list_of, numbers, numbers_of, index_result}
use Rattle.notebook.specs.Same.{arrange}
use Rattle.notebook.specs.Canonical.{record_rows, write_file, canonical_bytes, canonical_file, canonical_result}
use Rattle.ids.specs.Used.{first_ids, ids_in, unused}
use Rattle.packing.specs.Packing.{total, put, pack}
use Rattle.packing.specs.Widths.{over, serves, tries, plan}
use Rattle.division.specs.Marks.{valid_id, mark_line, read_mark}
use Rattle.division.specs.Pieces.{kind_of, broken_from, broken_line, body_of, pieces_in, split_rows, split, file_of}
use Rattle.division.specs.Join.{unmarked, part_of, all_parts, agree, find_part, gather, join_pieces, joined_file, join_file, join_result}
use Rattle.division.specs.Cut.{piece_bytes, numbered, cutting, cut_list, cut_result}
use Rattle.refusals.specs.Refusals.{line_ends}
use Rattle.refusals.specs.Examples.{checks, indexes, canonicals, cuts, joins, all_hold, all_reached, clinic_file, its_output}

pub examples_reach : all_reached ≡ true
examples_reach = refl

pub examples_hold : all_hold (checks ++ (indexes ++ (canonicals ++ (cuts ++ joins)))) ≡ true
unfolding answer_in seven_numbers entry_of entered entries_from entries_after_head entries_of clinic_after clinic_of listed_from list_of numbers numbers_of bytes value number spell is_line leap month_length is_real is_day gregorian era_of era_on in_era from_era read_day write_day joined table edge one_width is_decimal sized fault value_of seven postal prefecture item_fault item_value items_fault items_value row_in table_row pairs code_pair t911 is_mark record_from fault_from line_fault record_of header write in_group may_follow pair_broken misplaced continues closes_rp lacking missing value_wrong newer_group order_refusal unfinished nothing_yet start had_after advance refusal_of step_of finish_of facts_of step_line closed onward records_from read_rows read_file check_result index_result record_rows arrange write_file canonical_bytes canonical_file canonical_result total put pack digit_count over serves tries plan valid_id first_ids ids_in unused mark_line read_mark kind_of broken_from broken_line body_of pieces_in split_rows split file_of unmarked part_of all_parts agree find_part gather join_pieces joined_file join_file join_result piece_bytes numbered cutting cut_list cut_result line_ends
examples_hold = refl

pub index_holds : IndexIn clinic_file (map (λ (n : ℕ). 9) its_output) its_output 7
unfolding answer_in seven_numbers entry_of entered entries_from entries_after_head entries_of clinic_after clinic_of listed_from list_of numbers numbers_of bytes value number is_line leap month_length is_real is_day gregorian era_of era_on in_era from_era read_day joined table edge one_width is_decimal sized fault value_of seven postal prefecture item_fault item_value items_fault items_value row_in table_row pairs code_pair t911 is_mark record_from fault_from line_fault record_of header in_group may_follow pair_broken misplaced continues closes_rp lacking missing value_wrong newer_group order_refusal unfinished nothing_yet start had_after advance refusal_of step_of finish_of facts_of step_line closed onward records_from read_rows read_file index_result output_of group_of drug_of doctor_of rp_of spell
index_holds = record { file = _; accepted = refl; records = refl; room = omega arith; left = refl }
