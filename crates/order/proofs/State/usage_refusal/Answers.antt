-- What remains is each answer of the code beside the law of its number. Assumes nothing.
use Rattle.std.proofs.Common.{sym}
use Rattle.order.proofs.ByNumber.{of_301_named, of_301_unnamed, of_301_free}
use Rattle.order.proofs.State.usage_refusal.Goals as goal

pub returns-then-r : goal.returns-then-r
returns-then-r c =
    simp (c.kept_rp.ensures, c.in_drugs.ensures, of_301_named c.args.self c.args.r c.requires c.if-r.true)

pub returns-then-self-in_group : goal.returns-then-self-in_group
returns-then-self-in_group c =
    sym (of_301_unnamed c.args.self c.args.r c.requires c.if-r.false (rw c.in_group.ensures at c.if-self-in_group.true))

pub returns : goal.returns
returns c =
    simp (
      c.kept_rp-2.ensures,
      c.in_drugs-2.ensures,
      of_301_free c.args.self c.args.r c.requires c.if-r.false (rw c.in_group.ensures at c.if-self-in_group.false),
    )
