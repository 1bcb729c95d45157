use Rattle.std.proofs.Common.{rules, arith}
use Rattle.digits.proofs.Reading.{short_third, short_two, short_three}
use Rattle.digits.proofs.short_value.Goals as goal

pub returns-in_err-digit-in-len3-3 : goal.returns-in_err-digit-in-len3-3
returns-in_err-digit-in-len3-3 c =
    short_third _ (omega arith) c.digit-in-len3.ensures (omega arith) (omega arith) {x = c.in_ok-digit-in-len3.field-0} (search rules) c.digit-in-len3-2.ensures (omega arith) {y = c.in_ok-digit-in-len3-2.field-0} (search rules)
    c.digit-in-len3-3.ensures (search rules) (search rules)

pub returns-in_ok-digit-in-len2-2 : goal.returns-in_ok-digit-in-len2-2
returns-in_ok-digit-in-len2-2 c =
    short_two _ (omega arith) c.digit-in-len2.ensures (omega arith) (omega arith) (search rules) c.digit-in-len2-2.ensures (omega arith) (search rules)

pub returns-in_ok-digit-in-len3-3 : goal.returns-in_ok-digit-in-len3-3
returns-in_ok-digit-in-len3-3 c =
    short_three _ (omega arith) c.digit-in-len3.ensures (omega arith) (omega arith) {x = c.in_ok-digit-in-len3.field-0} (search rules) c.digit-in-len3-2.ensures (omega arith) (search rules)
    c.digit-in-len3-3.ensures (search rules)
