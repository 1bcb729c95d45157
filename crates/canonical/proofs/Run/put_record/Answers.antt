use Rattle.std.proofs.Common.{rules}
use Rattle.canonical.proofs.LineLaws.{spotting_laws, spotting_item, spotting_spellable, spotting_ready}
use Rattle.canonical.proofs.Run.put_record.Goals as goal

pub loop-j-init : goal.loop-j-init
loop-j-init c = search (rules, spotting_laws)

pub pass_item-run-requires-clause-item_of : goal.pass_item-run-requires-clause-item_of
pass_item-run-requires-clause-item_of c = search (rules, spotting_laws, spotting_item)

pub pass_item-run-requires-clause-spellable : goal.pass_item-run-requires-clause-spellable
pass_item-run-requires-clause-spellable c = search (rules, spotting_laws, spotting_spellable)

pub pass_item-run-requires-clause-ready : goal.pass_item-run-requires-clause-ready
pass_item-run-requires-clause-ready c = search (rules, spotting_laws, spotting_ready)

pub loop-j-preserved : goal.loop-j-preserved
loop-j-preserved c = search (rules, spotting_laws)

pub returns : goal.returns
returns c = search (rules, spotting_laws)
