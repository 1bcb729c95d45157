-- Every case of specs/Cases.antt holds, by the definitions: one computation over the list. Assumes nothing.
use lib.Dec.{T}
use Rattle.lists.specs.Lists.{bytes}
use Rattle.digits.specs.Digits.{value, number, spell}
use Rattle.characters.specs.Cells.{full_row, part_row, allowed, cell_script, trail_script, pair_script}
use Rattle.eras.specs.Day.{leap, month_length, is_real, is_day}
use Rattle.calendar.specs.Day.{gregorian}
use Rattle.calendar.specs.Era.{read_day}
use Rattle.records.specs.Table.{table}
use Rattle.records.specs.Items.{edge, one_width, one_script, seven, postal, prefecture, is_decimal, sized, fault, value_of as value_of}
use Rattle.records.specs.Records.{item_fault, item_value, items_fault, items_value, row_in, table_row, code_pair, form_pair, pairs, t911, record_from, fault_from, line_fault, header, is_mark}
use Rattle.records.specs.Cases.{cases, all_hold}

pub cases_hold : T (all_hold cases)
unfolding bytes value number spell full_row part_row allowed cell_script trail_script pair_script leap month_length is_real is_day gregorian read_day table edge one_width one_script seven postal prefecture is_decimal sized fault value_of item_fault item_value items_fault items_value row_in table_row code_pair form_pair pairs t911 record_from fault_from line_fault header is_mark
cases_hold = tt
