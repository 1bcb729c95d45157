-- What remains is each answer of the code beside the law of its number. Assumes nothing.
use Rattle.std.proofs.Common.{sym, ◌∙◌}
use Rattle.order.proofs.ByNumber.{of_55}
use Rattle.order.proofs.State.doctor_refusal.Goals as goal

pub returns-then-in_rp : goal.returns-then-in_rp
returns-then-in_rp c =
    simp (
      c.pick.ensures,
      c.rp_closed.ensures,
      c.barred-barred.ensures,
      of_55 c.args.self c.args.r c.requires,
      sym c.in_rp.ensures ∙ c.if-in_rp.true,
    )

pub returns-then-in_front : goal.returns-then-in_front
returns-then-in_front c =
    simp (
      c.pick-then-in_front.ensures,
      c.barred-barred.ensures,
      of_55 c.args.self c.args.r c.requires,
      sym c.in_rp.ensures ∙ c.if-in_rp.false,
      sym c.in_front.ensures ∙ c.if-in_front.true,
    )

pub returns : goal.returns
returns c =
    simp (
      of_55 c.args.self c.args.r c.requires,
      sym c.in_rp.ensures ∙ c.if-in_rp.false,
      sym c.in_front.ensures ∙ c.if-in_front.false,
    )
