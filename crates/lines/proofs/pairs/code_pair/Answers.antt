use Rattle.std.proofs.Common.{rules}
use Rattle.lines.proofs.PairLaws.{code_is}
use Rattle.lines.proofs.pairs.code_pair.Goals as goal

pub returns : goal.returns
returns c = search (rules, code_is)
