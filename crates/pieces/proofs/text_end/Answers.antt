use Rattle.std.proofs.Common.{rules, tests, ◌≡◌, true, false, get_or}
use Rattle.std.proofs.lemmas.Iterator.{first_from_Range}
use Rattle.characters.specs.Text.{is_stop}
use Rattle.pieces.proofs.ScanLaws.{text_end_lem}
use Rattle.pieces.proofs.text_end.Goals as goal

pub returns : goal.returns
returns c =
    text_end_lem c.skip_plain-from.ensures c.find.result
    (first_from_Range _ _ _ _ (λ i. is_stop (get_or c.args.s.now i 0) ≡ true) (λ i. is_stop (get_or c.args.s.now i 0) ≡ false) c.find.ensures.ran (λ x q k. search (rules, tests))
    (λ x q k. (search (rules, tests), search (rules, tests))))
    c.unwrap_or.ensures
