use Rattle.lists.specs.Lists.{bytes}
use Rattle.buffers.proofs.Runs.{then}
use Rattle.printing.specs.Printed.{line}
use Rattle.answers.proofs.put_error.Goals as goal

pub returns-clause-wrote : goal.returns-clause-wrote
unfolding bytes line
returns-clause-wrote c = then c.put_all-at.ensures c.put_line.ensures
