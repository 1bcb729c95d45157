use Rattle.std.proofs.Common.{rules, tests, ◌∙◌, sym}
use Rattle.std.proofs.lemmas.Iterator.{YieldsList-from_slice}
use Rattle.std.proofs.lemmas.Iterator.Search.{all_from_yields_List}
use Rattle.records.specs.Items.{is_code}
use Rattle.lists.proofs.Tests.{all_pass}
use Rattle.items.proofs.all_code.Goals as goal

pub returns : goal.returns
returns c =
    all_from_yields_List is_code _ _ c.all.result c.all.ensures.ran (YieldsList-from_slice c.args.s.now cc) (λ x b q k. search (rules, tests))
    ∙ sym (all_pass is_code c.args.s.now)
