-- The files of specs/Examples.antt come out as written there, in every call; and the premises of `MixedRefused` and `ScriptAlone` hold of names there. Assumes
-- nothing.
use Prim.Native.Nat.{ℕ}
use mathlib.Core.Path.{◌≡◌, refl, sym, ◌∙◌}
use mathlib.Core.Bool.{true, false, ◌&&◌, false≢true}
use native.Mathlib.Omega.{arith}
use mathlib.Core.List.{List, [], ◌∷◌, ◌++◌}
use Rattle.lists.specs.Lists.{bytes, All}
use Rattle.digits.specs.Digits.{value, number, spell, digit_count}
use Rattle.characters.specs.Rows.{is_line}
use Rattle.characters.specs.Cells.{full_row, part_row, allowed, cell_script, trail_script, pair_script}
use Rattle.eras.specs.Day.{leap, month_length, is_real, is_day}
use Rattle.eras.specs.Era.{era_of, era_on, write_day}
use Rattle.calendar.specs.Day.{gregorian}
use Rattle.calendar.specs.Era.{in_era, from_era, read_day}
use Rattle.records.specs.Split.{joined}
use Rattle.records.specs.Table.{table}
use Rattle.records.specs.Items.{edge, one_width, one_script, is_decimal, sized, fault, value_of as value_of, seven, postal, prefecture}
use Rattle.records.specs.Records.{item_fault, item_value, items_fault, items_value, row_in, table_row, pairs, code_pair, t911, is_mark, record_from, fault_from, line_fault, record_of, header, write}
use Rattle.rules.specs.Places.{in_group, may_follow}
use Rattle.rules.specs.Rules.{pair_broken, misplaced, continues, closes_rp, lacking, missing, value_wrong, newer_group, order_refusal, unfinished}
use Rattle.order.specs.State.{nothing_yet, start, had_after, advance, refusal_of, step_of, finish_of, group_of, drug_of, doctor_of, rp_of}
use Rattle.notebook.specs.Facts.{facts_of}
use Rattle.notebook.specs.Notebook.{step_line, closed, onward, records_from, read_rows, read_file}
use Rattle.buffers.specs.Entries.{seven_numbers}
use Rattle.replies.specs.Results.{answer_in}
use Rattle.notebook.specs.Check.{count, check_result}
use Rattle.notebook.specs.Index.{entry_of, entered, entries_from, entries_after_head, entries_of, clinic_after, clinic_of, listed_from, list_of, numbers, numbers_of, index_result}
use Rattle.notebook.specs.Same.{arrange}
use Rattle.notebook.specs.Canonical.{record_rows, write_file, canonical_bytes, canonical_file, canonical_result}
use Rattle.ids.specs.Used.{first_ids, ids_in, unused}
use Rattle.packing.specs.Packing.{total, put, pack}
use Rattle.packing.specs.Widths.{over, serves, tries, plan}
use Rattle.division.specs.Marks.{valid_id, mark_line, read_mark}
use Rattle.division.specs.Pieces.{kind_of, broken_from, broken_line, body_of, pieces_in, split_rows, split, file_of as piece_file}
use Rattle.division.specs.Join.{unmarked, part_of, all_parts, agree, find_part, gather, join_pieces, joined_file, join_file, join_result}
use Rattle.division.specs.Cut.{piece_bytes, numbered, cutting, cut_list, cut_result}
use Rattle.names.specs.Scripts.{OneScript}
use Rattle.names.specs.Names.{file_after, AreItems, Proper}
use Rattle.names.specs.Examples.{filled, wide, mixed, hira, kata, long, said, said_hold, is_hira_file, visit_holds, pieces_hold, late_holds, longest}
use Rattle.names.proofs.Scripts.{in_one_script, one_script_lem}

pub hira_file_lem : is_hira_file ≡ true
unfolding bytes joined file_after header
hira_file_lem = refl

pub files_hold : (said_hold said && (visit_holds && (pieces_hold && late_holds))) ≡ true
unfolding count file_after full_row part_row allowed cell_script trail_script pair_script answer_in seven_numbers entry_of entered entries_from entries_after_head entries_of clinic_after clinic_of listed_from list_of numbers numbers_of bytes value number spell is_line leap month_length is_real is_day gregorian era_of era_on in_era from_era read_day write_day joined table edge one_width one_script is_decimal sized fault value_of seven postal prefecture item_fault item_value items_fault items_value row_in table_row pairs code_pair t911 is_mark record_from fault_from line_fault record_of header write in_group may_follow pair_broken misplaced continues closes_rp lacking missing value_wrong newer_group order_refusal unfinished nothing_yet start had_after advance refusal_of step_of finish_of facts_of step_line closed onward records_from read_rows read_file check_result index_result record_rows arrange write_file canonical_bytes canonical_file canonical_result total put pack digit_count over serves tries plan valid_id first_ids ids_in unused mark_line read_mark kind_of broken_from broken_line body_of pieces_in split_rows split piece_file unmarked part_of all_parts agree find_part gather join_pieces joined_file join_file join_result piece_bytes numbered cutting cut_list cut_result group_of drug_of doctor_of rp_of
files_hold = refl

-- mixtures: proper, of items, and in no script
pub proper_mixtures : All Proper mixed
unfolding bytes full_row part_row allowed cell_script trail_script pair_script edge
proper_mixtures =
    (record { chars = refl; short = omega arith; inner = refl }, (record { chars = refl; short = omega arith; inner = refl }, (record { chars = refl; short = omega arith; inner = refl }, (record { chars = refl; short = omega arith; inner = refl }, tt))))

pub mixture_items : AreItems filled (hira ++ kata) × AreItems wide longest × AreItems wide (kata ++ long)
unfolding bytes
mixture_items =
    ((refl, (refl, (refl, (refl, (refl, (refl, (refl, (refl, (refl, (refl, tt)))))))))), (refl, (refl, (refl, (refl, (refl, (refl, (refl, (refl, (refl, (refl, tt)))))))))), (refl, (refl, (refl, (refl, (refl, (refl, (refl, (refl, (refl, (refl, tt)))))))))))

mixed_are : All (λ s. one_script s ≡ false) mixed
unfolding bytes one_script full_row part_row allowed cell_script trail_script pair_script
mixed_are = (refl, (refl, (refl, (refl, tt))))

no_scripts : (ss : List (List ℕ)) → All (λ s. one_script s ≡ false) ss → All (λ s. OneScript s → ⊥) ss
no_scripts [] a = tt
no_scripts (s ∷ ss) (e, a) = ((λ h. false≢true (sym e ∙ one_script_lem s h)), no_scripts ss a)

pub no_script : All (λ s. OneScript s → ⊥) mixed
no_script = no_scripts mixed mixed_are

-- names in one script
pub proper_names : Proper [] × Proper hira × Proper (kata ++ long)
unfolding full_row part_row allowed cell_script trail_script pair_script edge
proper_names =
    (record { chars = refl; short = omega arith; inner = refl }, record { chars = refl; short = omega arith; inner = refl }, record { chars = refl; short = omega arith; inner = refl })

pub proper_longest : Proper longest
unfolding bytes edge
proper_longest = record { chars = refl; short = omega arith; inner = refl }

pub scripts_are : OneScript [] × OneScript hira × OneScript (kata ++ long) × OneScript (0xb1 ∷ 0x41 ∷ [])
unfolding one_script full_row part_row allowed cell_script trail_script pair_script
scripts_are = (in_one_script [] refl, in_one_script hira refl, in_one_script (kata ++ long) refl, in_one_script (0xb1 ∷ 0x41 ∷ []) refl)
