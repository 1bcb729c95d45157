use Rattle.items.proofs.TextLaws.{kana_fault}
use Rattle.items.proofs.kind_fault.Goals as goal

-- answered by its law, so that another rule for the kana name is refused at once
pub returns-in-Kana : goal.returns-in-Kana
returns-in-Kana c = kana_fault c.in-Kana.most c.args.s.now c.in-Kana.is c.holds_in-in-Kana.ensures c.sized-in-Kana.ensures
