-- The worked examples of specs/Examples.antt come out as written there. Assumes nothing.
use mathlib.Core.Path.{◌≡◌, refl}
use mathlib.Core.Bool.{true, false}
use Rattle.rules.specs.Places.{in_group, may_follow}
use Rattle.rules.specs.Rules.{pair_broken, misplaced, continues, closes_rp, lacking, missing, value_wrong, newer_group, order_refusal, unfinished}
use Rattle.order.specs.State.{nothing_yet, start, had_after, advance, refusal_of, doctor_of, step_of, finish_of}
use Rattle.order.specs.Run.{at_end, stepped, run_of}
use Rattle.order.specs.Examples.{holds, cases, doctors, two_groups, their_doctors}

pub cases_hold : holds cases ≡ true
unfolding in_group may_follow pair_broken misplaced continues closes_rp lacking missing value_wrong newer_group order_refusal unfinished
    nothing_yet start had_after advance refusal_of step_of finish_of at_end stepped run_of
cases_hold = refl

pub doctors_hold : doctors (start false) two_groups ≡ their_doctors
unfolding nothing_yet start had_after advance doctor_of
doctors_hold = refl
