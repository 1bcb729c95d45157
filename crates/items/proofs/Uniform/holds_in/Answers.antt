use Rattle.items.proofs.TextLaws.{told_within, told_uniform}
use Rattle.items.proofs.Uniform.holds_in.Goals as goal

pub holds-requires : goal.holds-requires
holds-requires c = told_within c.scripts_of.ensures c.in-Some.is

pub returns-in-Some : goal.returns-in-Some
returns-in-Some c = told_uniform c.scripts_of.ensures c.args.self c.in-Some.is c.holds.ensures
