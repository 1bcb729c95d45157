use Rattle.std.proofs.Common.{arith}
use Rattle.buffers.proofs.Runs.{front}
use Rattle.answers.proofs.Known.{part_of}
use Rattle.answers.proofs.write_number.Goals as goal

pub returns : goal.returns
returns g c =
    let w = c.put_number-end.ensures.wrote in
    part_of _ _ (front w (omega (arith, w.next, w.high))) c.write_whole.ensures.part
