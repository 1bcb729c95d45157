use Rattle.used.specs.Searching.{Compared}
use Rattle.used.proofs.same_eight.Given as goal

abbrev pub invariant-loop-k : goal.invariant-loop-k
invariant-loop-k l = Compared l.a l.i l.b l.j l.equal l.k
