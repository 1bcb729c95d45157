use Rattle.std.proofs.Common.{◌≡◌, Err, rules}
use Rattle.index.proofs.FileLaws.{index_unopened, index_begins, index_whole}
use Rattle.index.proofs.index.Goals as goal

pub returns-in_err-opening : goal.returns-in_err-opening
returns-in_err-opening c =
    let e : c.from_residual.result ≡ Err c.in_err-opening.field-0.0 = search rules in
    rw e (index_unopened _ c.in_err-opening.ensures)

pub index_on-requires : goal.index_on-requires
index_on-requires c = index_begins c.in_ok-opening.ensures c.new.ensures

pub returns : goal.returns
returns c = index_whole c.in_ok-opening.ensures c.new.ensures c.index_on.ensures
