use Rattle.std.proofs.Common.{sym, ◌∙◌}
use Rattle.items.proofs.EndLaws.{code_next}
use Rattle.items.proofs.code_end.Goals as goal

pub loop-i-preserved : goal.loop-i-preserved
loop-i-preserved c =
    code_next c.args.s.now c.args.from c.loop-i.i c.loop-i.invariant c.loop-i-test.true (sym c.is_code.ensures ∙ c.if-not-is_code.false)
