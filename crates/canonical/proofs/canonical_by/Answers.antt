use Rattle.std.proofs.Common.{rules, arith}
use Rattle.std.proofs.lemmas.Grind.{common_steps}
use Rattle.canonical.proofs.WholeLaws.{canonical_laws, canonical_refused}
use Rattle.canonical.proofs.canonical_by.Goals as goal

pub returns-in_err-made : goal.returns-in_err-made
returns-in_err-made c = grind (arith, common_steps, canonical_refused _ c.args.out.now _ _ c.in_err-made.ensures)

pub returns-then-out-bytes : goal.returns-then-out-bytes
returns-then-out-bytes c = rw c.at.ensures (search (rules, canonical_laws, c.in_ok-made.ensures))

pub returns : goal.returns
returns c = search (rules, canonical_laws, c.in_ok-made.ensures)
