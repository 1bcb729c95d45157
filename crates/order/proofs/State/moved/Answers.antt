use Rattle.std.proofs.Common.{rules}
use Rattle.order.specs.State.{advance, rp_of, doctor_of}
use Rattle.order.proofs.State.moved.Goals as goal

pub returns-in-5 : goal.returns-in-5
unfolding advance rp_of doctor_of
returns-in-5 c = search rules

pub returns-in-201 : goal.returns-in-201
unfolding advance rp_of doctor_of
returns-in-201 c = search rules

pub returns-in-281 : goal.returns-in-281
unfolding advance rp_of doctor_of
returns-in-281 c = search rules

pub returns-in_default : goal.returns-in_default
unfolding advance rp_of doctor_of
returns-in_default c = search rules
