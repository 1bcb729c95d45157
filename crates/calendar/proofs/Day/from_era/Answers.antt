use Rattle.std.proofs.Common.{◌≡◌, arith}
use Rattle.std.proofs.lemmas.Grind.{common_steps}
use Rattle.eras.specs.Era.{era_of}
use Rattle.calendar.specs.Era.{from_era, in_era}
use Rattle.calendar.proofs.Steps.{era_of_first}
use Rattle.calendar.proofs.Day.from_era.Goals as goal

pub returns-then-contains : goal.returns-then-contains
unfolding from_era in_era
returns-then-contains c =
    let e : era_of c.args.letter ≡ c.in_ok-e.e = grind (arith, common_steps, era_of_first c.args.letter) in
    rw e (grind (arith, common_steps))

pub returns-else-contains : goal.returns-else-contains
unfolding from_era in_era
returns-else-contains c =
    let e : era_of c.args.letter ≡ c.in_ok-e.e = grind (arith, common_steps, era_of_first c.args.letter) in
    rw e (grind (arith, common_steps))
