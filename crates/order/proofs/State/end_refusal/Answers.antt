-- What remains is each answer of the code beside the law of its number. Assumes nothing.
use Rattle.std.proofs.Common.{Bool, ◌&&◌, ◌||◌, refl, sym, ◌∙◌, eqb}
use Rattle.order.specs.declared.State.{State}
use Rattle.rules.specs.Places.{in_head}
use Rattle.order.proofs.ByNumber.{closing_rp, closing_group, closing_else, of_701}
use Rattle.order.proofs.State.end_refusal.Goals as goal

abbrev outside : State → Bool
outside s = in_head s.place || eqb s.place 701

abbrev missing : State → Bool → Bool
missing s b = b || s.provider && eqb s.groups 0

pub returns-then-in_rp : goal.returns-then-in_rp
returns-then-in_rp c =
    let s = c.args.self in let r = c.args.r in
    closing_rp s r (outside s) (missing s) c.lacking-lacks.ensures refl c.in_rp.ensures c.if-in_rp.true c.pick.ensures
    ∙ sym (of_701 s r c.requires)

pub returns-then-in_front-in_rest : goal.returns-then-in_front-in_rest
returns-then-in_front-in_rest c =
    let s = c.args.self in let r = c.args.r in
    closing_group s r (outside s) (missing s) c.lacking-lacks.ensures refl c.in_rp.ensures c.if-in_rp.false c.in_front.ensures
    c.in_rest.ensures c.if-in_front-in_rest.true c.pick-then-in_front-in_rest.ensures c.pick-then-in_front-in_rest-2.ensures
    ∙ sym (of_701 s r c.requires)

pub returns : goal.returns
returns c =
    let s = c.args.self in let r = c.args.r in
    closing_else s r (outside s) (missing s) c.lacking-lacks.ensures refl c.in_rp.ensures c.if-in_rp.false c.in_front.ensures
    c.in_rest.ensures c.if-in_front-in_rest.false c.pick-2.ensures (rw c.in_head.ensures at c.pick-3.ensures)
    ∙ sym (of_701 s r c.requires)
