use Rattle.std.proofs.Common.{rules, arith}
use Rattle.std.proofs.lemmas.Grind.{common_steps}
use Rattle.cut.proofs.FileLaws.{cut_laws, cut_refused}
use Rattle.cut.proofs.cut_by.Goals as goal

pub returns-in_err-made : goal.returns-in_err-made
returns-in_err-made c = grind (arith, common_steps, cut_refused c.args.file.now c.args.capacity c.args.id.now c.args.used.now c.args.out.now _ c.in_err-made.ensures)

pub returns-then-not-valid_id : goal.returns-then-not-valid_id
returns-then-not-valid_id c = rw c.at.ensures (search (rules, cut_laws, c.in_ok-made.ensures))

pub is_unused-requires : goal.is_unused-requires
is_unused-requires c = search (rules, cut_laws, c.in_ok-made.ensures)

pub returns-then-not-is_unused : goal.returns-then-not-is_unused
returns-then-not-is_unused c = rw c.at-then-not-is_unused.ensures (search (rules, cut_laws, c.in_ok-made.ensures))

pub cut_bytes-requires : goal.cut_bytes-requires
cut_bytes-requires c = search (rules, cut_laws, c.in_ok-made.ensures)

pub returns : goal.returns
returns c = search (rules, cut_laws, c.in_ok-made.ensures)
