use Rattle.std.proofs.Common.{rules, arith, ◌∙◌}
use Rattle.scanning.proofs.RunLaws.{pass_laws, run_comma, run_more, run_bad}
use Rattle.scanning.proofs.lines.scan_text.Goals.{then-b-eq44, then-commas-lt16, else-commas-lt16, else-b-eq44+else-is_stop}
use Rattle.scanning.proofs.lines.scan_text.Goals as goal

pub returns-then-s-end : goal.returns-then-s-end
returns-then-s-end c = search (rules, pass_laws)

pub returns-then-is_stop : goal.returns-then-is_stop
returns-then-is_stop c = search (rules, pass_laws)

pub loop-i-preserved : goal.loop-i-preserved
loop-i-preserved c =
    elim c.if-b-eq44.branch [
      | then-b-eq44 w ↦ elim w.if-commas-lt16.branch [
        | then-commas-lt16 x ↦ run_comma c.loop-i.invariant c.run_end-end.ensures.run (omega arith) w.if-b-eq44.true x.if-commas-lt16.true (w.stops-is ∙ x.stops-is) w.good-is w.commas-is
        | else-commas-lt16 x ↦ run_more c.loop-i.invariant c.run_end-end.ensures.run (omega arith) w.if-b-eq44.true x.if-commas-lt16.false (w.stops-is ∙ x.stops-is) w.good-is w.commas-is
      ]
      | else-b-eq44+else-is_stop w ↦ run_bad c.loop-i.invariant c.run_end-end.ensures.run (omega arith) c.run_end-end.ensures.ends w.if-b-eq44.false w.is_stop.ensures w.if-is_stop.false w.stops-is w.good-is w.commas-is
    ]

pub returns : goal.returns
returns c = search (rules, pass_laws)
