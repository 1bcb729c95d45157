-- The dates of specs/Examples.antt come out as written there. Assumes nothing.
use mathlib.Core.Path.{◌≡◌, refl}
use Rattle.lists.specs.Lists.{bytes, ok, map_res}
use Rattle.digits.specs.Digits.{value as digits_value, spell}
use Rattle.characters.specs.Rows.{is_line}
use Rattle.eras.specs.Day.{leap, month_length, is_real, is_day}
use Rattle.eras.specs.Era.{era_of, era_on, write_day}
use Rattle.calendar.specs.Day.{gregorian}
use Rattle.calendar.specs.Era.{in_era, from_era, read_day}
use Rattle.records.specs.Split.{joined}
use Rattle.records.specs.Table.{table}
use Rattle.records.specs.Items.{edge, one_width, is_decimal, sized, fault, value_of}
use Rattle.records.specs.Records.{item_fault, item_value, items_fault, items_value, row_in, table_row, pairs, t911, record_from, fault_from, line_fault, record_of, write, header}
use Rattle.rules.specs.Places.{in_group, may_follow}
use Rattle.rules.specs.Rules.{pair_broken, misplaced, closes_rp, lacking, missing, value_wrong, newer_group, order_refusal, unfinished}
use Rattle.order.specs.State.{nothing_yet, start, had_after, advance, refusal_of, finish_of, step_of}
use Rattle.notebook.specs.Facts.{facts_of}
use Rattle.notebook.specs.Notebook.{step_line, closed, onward, records_from, read_rows, read_file}
use Rattle.notebook.specs.Same.{arrange}
use Rattle.notebook.specs.Canonical.{record_rows, write_file, canonical_bytes, canonical_file}
use Rattle.dates.specs.Dates.{line_dates, file_dates}
use Rattle.dates.specs.Examples.{notes, its_dates, canonical_dates}

pub dates_hold : (file_dates notes ≡ its_dates) × (map_res file_dates (canonical_file notes) ≡ ok canonical_dates)
unfolding bytes spell is_line digits_value leap month_length is_real is_day gregorian era_of era_on in_era from_era read_day write_day table edge one_width is_decimal sized fault value_of item_fault item_value items_fault items_value row_in table_row pairs t911 record_from fault_from line_fault record_of header in_group may_follow pair_broken misplaced closes_rp lacking missing value_wrong newer_group order_refusal unfinished nothing_yet start had_after advance refusal_of step_of finish_of facts_of step_line closed onward records_from read_rows read_file joined write record_rows arrange write_file canonical_bytes canonical_file line_dates file_dates
dates_hold = (refl, refl)
