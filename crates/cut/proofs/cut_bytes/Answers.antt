use Rattle.std.proofs.Common.{rules}
use Rattle.cut.proofs.AnswerLaws.{answer_laws}
use Rattle.cut.proofs.cut_bytes.Goals as goal

pub returns-then-out-len : goal.returns-then-out-len
returns-then-out-len c = rw c.at.ensures (search (rules, answer_laws))

pub returns-then-len-c : goal.returns-then-len-c
returns-then-len-c c = search (rules, answer_laws)

pub returns-in_default : goal.returns-in_default
returns-in_default c = rw c.at-in_default.ensures (search (rules, answer_laws))

pub overflow_add-total : goal.overflow_add-total
overflow_add-total c = search (rules, answer_laws)

pub returns-then-out-total : goal.returns-then-out-total
returns-then-out-total c = rw c.at-then-out-total.ensures (search (rules, answer_laws))

pub invariant_of-cutting : goal.invariant_of-cutting
invariant_of-cutting c = search (rules, answer_laws)

pub pour_pieces-requires : goal.pour_pieces-requires
pour_pieces-requires c = search (rules, answer_laws)

pub overflow_cast-result-2 : goal.overflow_cast-result-2
overflow_cast-result-2 c = search (rules, answer_laws)

pub returns : goal.returns
returns c = search (rules, answer_laws)
