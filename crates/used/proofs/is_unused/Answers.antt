use Rattle.std.proofs.Common.{◌≡◌, ◌+◌, ◌*◌, ℕ, arith, subst}
use Rattle.used.specs.Searching.{Left}
use Rattle.used.proofs.RunLaws.{run_start, other_length, run_go}
use Rattle.used.proofs.is_unused.Goals as goal

-- answered by their laws, so that another remainder and another first ID are refused at once
pub returns-then-used-ne0 : goal.returns-then-used-ne0
returns-then-used-ne0 c = other_length c.args.id.now c.args.used.now c.if-used-ne0.true

pub loop-k-init : goal.loop-k-init
loop-k-init c = run_start c.args.id.now c.args.used.now c.if-used-ne0.false

pub loop-k-preserved : goal.loop-k-preserved
loop-k-preserved c =
    let z : 14 * c.loop-k.k + 14 ≡ 14 * (c.loop-k.k + 1) = omega arith in
    subst (λ (i : ℕ). Left c.args.id.now c.args.used.now i) z
    (run_go c.loop-k.invariant (omega (arith, c.loop-k-test.true, c.loop-k.auto.k-end)) c.stands_at.ensures c.if-stands_at.false)
