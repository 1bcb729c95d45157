use Rattle.std.proofs.Common.{[], ◌∷◌}
use Rattle.std.proofs.lemmas.List.{take_min}
use Rattle.lists.specs.Lists.{bytes}
use Rattle.answers.proofs.Lines.{ok_prints, no_prints}
use Rattle.answers.proofs.print.Goals as goal

pub returns-then-r-eq0-clause-prints : goal.returns-then-r-eq0-clause-prints
unfolding bytes
returns-then-r-eq0-clause-prints c =
    let r = c.args.r in
    let w = rw (c.min.ensures, take_min c.args.values (r.a ∷ r.b ∷ r.c ∷ [])) at c.put_line.ensures in
    (ok_prints c.args.values r c.if-r-eq0.true w).0

pub returns-clause-prints : goal.returns-clause-prints
unfolding bytes
returns-clause-prints c = (no_prints c.args.values c.args.r c.if-r-eq0.false c.put_line-2.ensures).0
