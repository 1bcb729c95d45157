use Rattle.items.proofs.EndLaws.{run_within}
use Rattle.items.proofs.uniform_item.Goals as goal

pub holds-requires : goal.holds-requires
holds-requires c = run_within c.run_at-run.result.scripts c.run_at-run.ensures.run c.run_at-run.ensures.counted
