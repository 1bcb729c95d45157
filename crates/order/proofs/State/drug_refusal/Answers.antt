-- What remains is the answer of the code beside the law of its number. Assumes nothing.
use Rattle.std.proofs.Common.{sym, ◌∙◌, eq-eqb}
use Rattle.order.proofs.ByNumber.{of_201_on}
use Rattle.order.proofs.State.drug_refusal.Goals as goal

pub returns-then-in_drugs : goal.returns-then-in_drugs
returns-then-in_drugs c =
    sym (of_201_on c.args.self c.args.r c.requires (sym c.in_drugs.ensures ∙ c.if-in_drugs.true) (eq-eqb _ _ c.if-r-self.true))
