use Rattle.answers.proofs.Lines.{Spaced}
use Rattle.answers.proofs.put_numbers.Given as goal

abbrev pub invariant-loop-n : goal.invariant-loop-n
invariant-loop-n l = Spaced l.numbers l.initial.out l.out l.fn.at l.n-index l.end
