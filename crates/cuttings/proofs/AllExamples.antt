-- The cuttings of specs/Examples.antt are such as the promises speak of. Assumes nothing.
use mathlib.Core.Path.{refl}
use mathlib.Core.Logic.{inl, inr}
use mathlib.Core.List.{[], ◌∷◌}
use Rattle.lists.specs.Lists.{bytes}
use Rattle.digits.specs.Digits.{value, number, spell, digit_count}
use Rattle.characters.specs.Rows.{is_line}
use Rattle.eras.specs.Day.{leap, month_length, is_real, is_day}
use Rattle.eras.specs.Era.{era_of, era_on, write_day}
use Rattle.calendar.specs.Day.{gregorian}
use Rattle.calendar.specs.Era.{in_era, from_era, read_day}
use Rattle.records.specs.Split.{joined}
use Rattle.records.specs.Table.{table}
use Rattle.records.specs.Items.{edge, one_width, is_decimal, sized, fault, value_of as value_of}
use Rattle.records.specs.Records.{item_fault, item_value, items_fault, items_value, row_in, table_row, pairs, t911, is_mark, record_from, fault_from, line_fault, record_of, header, write}
use Rattle.rules.specs.Places.{in_group, may_follow}
use Rattle.rules.specs.Rules.{pair_broken, misplaced, closes_rp, lacking, missing, value_wrong, newer_group, order_refusal, unfinished}
use Rattle.order.specs.State.{nothing_yet, start, had_after, advance, refusal_of, step_of, finish_of}
use Rattle.notebook.specs.Facts.{facts_of}
use Rattle.notebook.specs.Notebook.{step_line, closed, onward, records_from, read_rows, read_file}
use Rattle.notebook.specs.Same.{arrange}
use Rattle.notebook.specs.Canonical.{record_rows, write_file, canonical_bytes}
use Rattle.ids.specs.Used.{first_ids, ids_in, unused}
use Rattle.packing.specs.Packing.{total, put, pack}
use Rattle.packing.specs.Widths.{over, serves, tries, plan}
use Rattle.replies.specs.Results.{answer_in, output_of}
use Rattle.division.specs.Marks.{valid_id, mark_line, mark_row, read_mark}
use Rattle.division.specs.Pieces.{kind_of, broken_from, broken_line, body_of, pieces_in, split_rows, split}
use Rattle.division.specs.Join.{unmarked, part_of, all_parts, agree, find_part, gather, join_pieces, joined_file, join_file}
use Rattle.division.specs.Cut.{piece_bytes, numbered, cutting, cut_list, cut_result}
use Rattle.division.specs.Orders.{here, there}
use Rattle.division.specs.Examples.{ident, longer}
use Rattle.cuttings.specs.Examples.{piece_one, piece_two, other_id, known_ids, room, TwoCuttings}

pub two_cuttings : TwoCuttings
unfolding bytes value number spell is_line leap month_length is_real is_day gregorian era_of era_on in_era from_era read_day write_day table edge one_width is_decimal sized fault value_of item_fault item_value items_fault items_value row_in table_row pairs t911 is_mark record_from fault_from line_fault record_of header in_group may_follow pair_broken misplaced closes_rp lacking missing value_wrong newer_group order_refusal unfinished nothing_yet start had_after advance refusal_of step_of finish_of facts_of step_line closed onward records_from read_rows read_file joined write record_rows arrange write_file canonical_bytes total put pack digit_count over serves tries plan valid_id first_ids ids_in unused mark_line mark_row read_mark piece_bytes numbered cutting cut_list cut_result answer_in output_of kind_of broken_from broken_line body_of pieces_in split_rows split unmarked part_of all_parts agree find_part gather join_pieces joined_file join_file
two_cuttings = record {
  one = record { file = longer; book = _; capacity = 67; id = ident; used = []; out = room; count = 2; size = 131; accepted = refl; wrote = refl };
  other = record { file = longer; book = _; capacity = 67; id = other_id; used = known_ids; out = room; count = 2; size = 131; accepted = refl; wrote = refl };
  files = (refl, refl);
  ids = (refl, refl);
  known = record { before = bytes "20261115000000" ∷ []; after = []; run = record { each = (refl, (refl, tt)); is = refl } };
  first = record {
    list = piece_one ident ∷ piece_two ident ∷ [];
    written = record { bytes = refl; whole = (record { piece = _; is = refl }, (record { piece = _; is = refl }, tt)); count = refl };
    piece = piece_one ident;
    one = record { others = piece_two ident ∷ []; found = here };
    is = inl refl;
  };
  second = record {
    list = piece_one other_id ∷ piece_two other_id ∷ [];
    written = record { bytes = refl; whole = (record { piece = _; is = refl }, (record { piece = _; is = refl }, tt)); count = refl };
    piece = piece_two other_id;
    one = record { others = piece_one other_id ∷ []; found = there here };
    is = inr refl;
  };
  mixed = refl;
}
