use Rattle.items.proofs.NumberLaws.{spelled_2, spelled_3}
use Rattle.items.proofs.spelled_at.Goals as goal

-- answered by their laws, so that another value is refused for the fact
pub returns-in_default-digit : goal.returns-in_default-digit
returns-in_default-digit c = spelled_2 c.args.s.now c.args.at c.if-s-at.false c.digit.ensures c.in_ok-one.was c.digit-2.ensures c.in-Some.is

pub returns : goal.returns
returns c = spelled_3 c.args.s.now c.args.at c.if-s-at.false c.digit.ensures c.in_ok-one.was c.digit-2.ensures c.in-Some.is c.digit-3.ensures c.in-Some-digit.is
