-- What remains is each answer of the code beside the law of its number. Assumes nothing.
use Rattle.std.proofs.Common.{sym, ◌∙◌}
use Rattle.order.proofs.ByNumber.{of_201_new}
use Rattle.order.proofs.State.new_rp.Goals as goal

pub returns-then-in_rp : goal.returns-then-in_rp
returns-then-in_rp c =
    simp (
      c.pick.ensures,
      c.pick-good.ensures,
      of_201_new c.args.self c.args.r c.requires.number_value c.requires.rp_value,
      sym c.in_rp.ensures ∙ c.if-in_rp.true,
    )

pub returns : goal.returns
returns c =
    simp (
      c.pick-2.ensures,
      c.in_front.ensures,
      c.pick-good.ensures,
      of_201_new c.args.self c.args.r c.requires.number_value c.requires.rp_value,
      sym c.in_rp.ensures ∙ c.if-in_rp.false,
    )
