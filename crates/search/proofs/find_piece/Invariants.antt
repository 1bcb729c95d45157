use Rattle.search.proofs.Looks.{Looking}
use Rattle.search.proofs.find_piece.Given as goal

abbrev pub invariant-loop-before : goal.invariant-loop-before
invariant-loop-before l = Looking l.k l.ks l.before
