use Rattle.std.proofs.Common.{rules}
use Rattle.scanning.proofs.RunLaws.{run_laws}
use Rattle.scanning.proofs.runs.run_at.Goals as goal

pub overflow_add-seen : goal.overflow_add-seen
overflow_add-seen c = search (rules, run_laws)

pub loop-i-preserved-in-One : goal.loop-i-preserved-in-One
loop-i-preserved-in-One c = search (rules, run_laws)

pub overflow_add-seen-in-Hiragana : goal.overflow_add-seen-in-Hiragana
overflow_add-seen-in-Hiragana c = search (rules, run_laws)

pub loop-i-preserved-in-Hiragana : goal.loop-i-preserved-in-Hiragana
loop-i-preserved-in-Hiragana c = search (rules, run_laws)

pub overflow_add-seen-in-Katakana : goal.overflow_add-seen-in-Katakana
overflow_add-seen-in-Katakana c = search (rules, run_laws)

pub loop-i-preserved-in-Katakana : goal.loop-i-preserved-in-Katakana
loop-i-preserved-in-Katakana c = search (rules, run_laws)

pub overflow_add-seen-in-Either : goal.overflow_add-seen-in-Either
overflow_add-seen-in-Either c = search (rules, run_laws)

pub loop-i-preserved-in-Either : goal.loop-i-preserved-in-Either
loop-i-preserved-in-Either c = search (rules, run_laws)

pub loop-i-preserved : goal.loop-i-preserved
loop-i-preserved c = search (rules, run_laws)

pub returns-in-Bad-clause-ends : goal.returns-in-Bad-clause-ends
returns-in-Bad-clause-ends c = search (rules, run_laws)

pub last_run-requires-clause-one_le_i : goal.last_run-requires-clause-one_le_i
last_run-requires-clause-one_le_i c = search (rules, run_laws)
