use Rattle.std.proofs.Common.{rules, ◌≤◌, ◌-◌, length, ◌∙◌}
use Rattle.std.proofs.lemmas.Slice.{take-put_mid_below}
use Rattle.std.proofs.KnownBytes.{Consumes-trans}
use Rattle.inputs.proofs.Read.{read_more, read_inside}
use Rattle.inputs.proofs.read_from.Goals as goal

pub loop-end-preserved : goal.loop-end-preserved
loop-end-preserved g c =
    let i = c.loop-end.invariant in
    let w = c.in_ok-more.ensures in
    let xs = c.loop-end.buf in
    let ys = c.read_once.new.buf in
    let at_end : c.args.at ≤ c.loop-end.end = i.1 in
    let end_in : c.loop-end.end ≤ length xs = i.0 in
    let moved = read_more c.args.at c.loop-end.end c.in_ok-more.more (length xs - c.loop-end.end) xs ys at_end end_in w.in_bounds.0 in (
      read_inside _ _ _ xs ys end_in w.in_bounds.0,
      search rules,
      take-put_mid_below _ _ xs ys _ at_end end_in ∙ i.2,
      rw moved (Consumes-trans _ _ _ _ _ i.3 w.bytes.taken),
    )
