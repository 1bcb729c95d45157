use Rattle.std.proofs.Common.{rules, tests, ◌∙◌}
use Rattle.std.proofs.lemmas.Iterator.{YieldsList-from_slice}
use Rattle.std.proofs.lemmas.Iterator.Search.{find_from_yields_List}
use Rattle.eras.specs.Era.{eras, has_begun}
use Rattle.calendar.proofs.era_of_day.Goals as goal

pub returns : goal.returns
returns c = c.copied.ensures ∙ find_from_yields_List (has_begun c.args.n) _ _ _ c.find.ensures.ran (YieldsList-from_slice eras c.iter.ensures.rest) (λ x b q k. search (rules, tests))
