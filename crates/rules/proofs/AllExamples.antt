-- The worked examples of specs/Examples.antt come out as written there. Assumes nothing.
use mathlib.Core.Path.{◌≡◌, refl}
use mathlib.Core.Bool.{true}
use Rattle.rules.specs.Places.{in_group, may_follow}
use Rattle.rules.specs.Rules.{pair_broken, misplaced, continues, closes_rp, lacking, missing, value_wrong, newer_group, order_refusal, unfinished}
use Rattle.rules.specs.Examples.{lines, lines_hold, ends, ends_hold}

pub lines_hold_lem : lines_hold lines ≡ true
unfolding in_group may_follow pair_broken misplaced continues closes_rp lacking missing value_wrong newer_group order_refusal
lines_hold_lem = refl

pub ends_hold_lem : ends_hold ends ≡ true
unfolding in_group lacking unfinished
ends_hold_lem = refl
