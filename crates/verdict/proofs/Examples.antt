-- The records that the grammar's examples call wrong are no notebook's, and document 01's small file is a file. Assumes nothing.
use mathlib.Core.Path.{◌≡◌, refl, sym, ap, ◌∙◌}
use mathlib.Core.Bool.{Bool, true, false, not, false≢true}
use mathlib.Core.List.{List, [], ◌∷◌}
use Rattle.lists.specs.Lists.{All, bytes}
use Rattle.lists.proofs.Tests.{both}
use Rattle.order.specs.declared.Facts.{Facts}
use Rattle.rules.specs.Places.{in_group, may_follow}
use Rattle.rules.specs.Rules.{pair_broken, misplaced, continues, closes_rp, lacking, missing, value_wrong, newer_group, order_refusal, unfinished}
use Rattle.order.specs.State.{nothing_yet, start, had_after, advance, refusal_of, finish_of, step_of}
use Rattle.digits.specs.Digits.{value as digits_value, spell}
use Rattle.characters.specs.Rows.{is_line}
use Rattle.eras.specs.Day.{leap, month_length, is_real, is_day}
use Rattle.calendar.specs.Day.{gregorian}
use Rattle.eras.specs.Era.{era_of, era_on}
use Rattle.calendar.specs.Era.{in_era, from_era, read_day}
use Rattle.records.specs.Table.{table}
use Rattle.records.specs.Items.{edge, one_width, is_decimal, sized, fault, value_of}
use Rattle.records.specs.Records.{item_fault, item_value, items_fault, items_value, row_in, table_row, pairs, t911, record_from, fault_from, line_fault, record_of, header}
use Rattle.notebook.specs.Facts.{facts_of}
use Rattle.notebook.specs.Notebook.{step_line, closed, onward, records_from, read_rows, read_file}
use Rattle.notebook.specs.Check.{count, check_result}
use Rattle.notebook.specs.Samples.{small_file}
use Rattle.verdict.specs.Acceptance.{Carries}
use Rattle.verdict.proofs.Verdict.{check_is_grammar}
use Rattle.grammar.specs.Grammar.{all_of, Grammatical}
use Rattle.grammar.specs.Examples.{wrong}
use Rattle.verdict.proofs.Machine.{accepts}
use Rattle.verdict.proofs.Groups.{grammar_machine}

-- no tree has the records: the machine, which is quicker to ask, refuses them
abbrev refuses : List Facts → Bool
refuses rs = not (accepts (start false) rs)

none_has : (rss : List (List Facts)) → all_of refuses rss ≡ true → All (λ rs. Grammatical false rs → ⊥) rss
none_has [] h = tt
none_has (rs ∷ rss) h =
    let g = both (refuses rs) (all_of refuses rss) h in
    (λ a. false≢true (sym (ap not (grammar_machine false rs a)) ∙ g.0), none_has rss g.1)

pub wrong_hold : All (λ rs. Grammatical false rs → ⊥) wrong
unfolding in_group may_follow pair_broken misplaced continues closes_rp lacking missing value_wrong newer_group order_refusal unfinished nothing_yet start had_after advance refusal_of finish_of accepts
wrong_hold = none_has wrong refl

-- document 01's file of 37 bytes is a file in the sense of specs/Acceptance.antt
pub small_file_lem : Carries small_file 1 0 0
unfolding bytes spell is_line digits_value leap month_length is_real is_day gregorian era_of era_on in_era from_era read_day table edge one_width is_decimal sized fault value_of item_fault item_value items_fault items_value row_in table_row pairs t911 record_from fault_from line_fault record_of header in_group may_follow pair_broken misplaced closes_rp lacking missing value_wrong newer_group order_refusal unfinished nothing_yet start had_after advance refusal_of step_of finish_of facts_of step_line closed onward records_from read_rows read_file count check_result
small_file_lem = (check_is_grammar small_file 1 0 0).0 refl
