-- The examples of specs/Examples.antt hold. Assumes nothing.
use mathlib.Core.Path.{◌≡◌, refl}
use mathlib.Core.List.{map}
use Rattle.replies.specs.Results.{answer_in, reply_to, output_of}
use Rattle.replies.specs.Examples.{outputs, two, two_replies, two_outputs, no, no_replies}

pub two_replies_lem : map (reply_to two) outputs ≡ two_replies
unfolding answer_in
two_replies_lem = refl

pub two_outputs_lem : map (output_of two) outputs ≡ two_outputs
unfolding output_of
two_outputs_lem = refl

pub no_replies_lem : map (reply_to no) outputs ≡ no_replies
unfolding answer_in
no_replies_lem = refl

pub no_outputs : map (output_of no) outputs ≡ outputs
unfolding output_of
no_outputs = refl
