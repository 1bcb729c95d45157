use Rattle.std.proofs.Common.{◌≡◌, ◌<◌, ◌-◌, ℕ, Err, length, rules, subst}
use Rattle.index.proofs.FileLaws.{batch_is, batch_refused, last_short, last_room, last_written, full_onward, full_less, full_refused, full_room, full_written}
use Rattle.index.proofs.+index_on.Goals as goal

pub returns-in_err-counts : goal.returns-in_err-counts
returns-in_err-counts t c =
    let e : c.from_residual.result ≡ Err c.in_err-counts.field-0.0 = search rules in
    rw e (batch_refused c.requires _ c.in_err-counts.ensures)

pub returns-then-out-records : goal.returns-then-out-records
returns-then-out-records t c = rw c.at.ensures (last_short c.requires _ (batch_is c.in_ok-counts.ensures c.in-Last.is) c.if-out-records.true)

pub put_all-requires : goal.put_all-requires
put_all-requires t c = last_room c.requires _ (batch_is c.in_ok-counts.ensures c.in-Last.is) c.if-out-records.false

-- what is left of the file falls
pub index_on-requires : goal.index_on-requires
index_on-requires t c =
    let w = batch_is c.in_ok-counts.ensures c.in-Full.is in
    (subst (λ (j : ℕ). length c.args.s.now - c.in-Full.after.at < j) c.decreases (full_less c.requires w), full_onward c.requires w)

pub put_all-requires-in-Full : goal.put_all-requires-in-Full
put_all-requires-in-Full t c = full_room c.requires (batch_is c.in_ok-counts.ensures c.in-Full.is) c.in_ok-written-in-Full.ensures

pub returns-else-out-records : goal.returns-else-out-records
returns-else-out-records t c =
    last_written c.requires _ (batch_is c.in_ok-counts.ensures c.in-Last.is) c.if-out-records.false c.put_all.ensures

pub returns-in_err-written-in-Full : goal.returns-in_err-written-in-Full
returns-in_err-written-in-Full t c =
    let e : c.from_residual-in_err-written-in-Full.result ≡ Err c.in_err-written-in-Full.field-0.0 = search rules in
    rw e (full_refused c.requires (batch_is c.in_ok-counts.ensures c.in-Full.is) c.in_err-written-in-Full.ensures)

pub returns-in_ok-written-in-Full : goal.returns-in_ok-written-in-Full
returns-in_ok-written-in-Full t c =
    full_written c.requires (batch_is c.in_ok-counts.ensures c.in-Full.is) c.in_ok-written-in-Full.ensures c.put_all-in-Full.ensures
