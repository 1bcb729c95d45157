use Rattle.buffers.specs.Entries.{seven_numbers}
use Rattle.index.proofs.FillLaws.{entry_written}
use Rattle.index.proofs.put_entry.Goals as goal

pub put_all-requires : goal.put_all-requires
unfolding seven_numbers
put_all-requires c = c.requires.room

pub returns : goal.returns
returns c = entry_written c.args.st c.args.at _ c.args.doctor c.args.clinic c.group.ensures c.drug.ensures c.clinic_of-shown.ensures c.put_all.ensures
