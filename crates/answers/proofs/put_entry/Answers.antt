use Rattle.std.proofs.Common.{arith}
use Rattle.answers.proofs.Lines.{entry_wrote, after_first}
use Rattle.answers.proofs.put_entry.Goals as goal

pub returns-clause-wrote : goal.returns-clause-wrote
returns-clause-wrote c =
    entry_wrote _ c.put_decimal-next.ensures.wrote c.put_numbers-end.ensures.wrote (after_first c.args.numbers.now (omega arith)) c.put_byte.ensures
