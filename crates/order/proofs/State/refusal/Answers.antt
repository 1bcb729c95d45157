-- What remains is each answer of the code beside the law of its number. Assumes nothing.
use Rattle.order.proofs.ByNumber.{of_1, of_2, of_3, of_4, of_11, of_15, of_51, of_281, of_291, of_311, of_391, of_401, of_411, of_501, of_601, of_other}
use Rattle.std.proofs.Common.{◌≡◌, false, sym, eqb, ne_eqb, rules}
use Rattle.rules.specs.Places.{pattern, may_follow}
use Rattle.rules.proofs.Rows.{Other, no_row}
use Rattle.order.proofs.State.refusal.Goals as goal

pub returns-in-1 : goal.returns-in-1
returns-in-1 c = simp (c.pick.ensures, of_1 c.args.self c.args.r c.in-1.is)

pub returns-in-2 : goal.returns-in-2
returns-in-2 c = simp (c.head_refusal.ensures, of_2 c.args.self c.args.r c.in-2.is)

pub returns-in-3 : goal.returns-in-3
returns-in-3 c = simp (c.head_refusal-in-3.ensures, of_3 c.args.self c.args.r c.in-3.is)

pub returns-in-4 : goal.returns-in-4
returns-in-4 c = simp (c.head_refusal-in-4.ensures, c.in_head.ensures, of_4 c.args.self c.args.r c.in-4.is)

pub returns-in-11 : goal.returns-in-11
returns-in-11 c = simp (c.pick-in-11.ensures, of_11 c.args.self c.args.r c.in-11.is)

pub returns-in-15 : goal.returns-in-15
returns-in-15 c = simp (c.pick-in-15.ensures, of_15 c.args.self c.args.r c.in-15.is)

pub returns-in-51 : goal.returns-in-51
returns-in-51 c = simp (c.pick-in-51-2.ensures, c.pick-in-51.ensures, c.barred.ensures, of_51 c.args.self c.args.r c.in-51.is)

pub returns-in-281 : goal.returns-in-281
returns-in-281 c = simp (c.kept_rp.ensures, of_281 c.args.self c.args.r c.in-281.is)

pub returns-in-291 : goal.returns-in-291
returns-in-291 c = simp (c.kept_rp-in-291.ensures, c.in_drugs.ensures, of_291 c.args.self c.args.r c.in-291.is)

pub returns-in-311 : goal.returns-in-311
returns-in-311 c = simp (c.kept_rp-in-311.ensures, of_311 c.args.self c.args.r c.in-311.is)

pub returns-in-391 : goal.returns-in-391
returns-in-391 c = simp (c.kept_rp-in-391.ensures, c.in_rp.ensures, of_391 c.args.self c.args.r c.in-391.is)

pub returns-in-401 : goal.returns-in-401
returns-in-401 c = simp (c.pick-in-401.ensures, c.rest_refusal.ensures, of_401 c.args.self c.args.r c.in-401.is)

pub returns-in-411 : goal.returns-in-411
returns-in-411 c = simp (c.rest_refusal-in-411.ensures, of_411 c.args.self c.args.r c.in-411.is)

pub returns-in-501 : goal.returns-in-501
returns-in-501 c = simp (c.rest_refusal-in-501.ensures, of_501 c.args.self c.args.r c.in-501.is)

pub returns-in-601 : goal.returns-in-601
returns-in-601 c = simp (c.rest_refusal-in-601.ensures, c.in_rest.ensures, of_601 c.args.self c.args.r c.in-601.is)

pub returns-in_default : goal.returns-in_default
unfolding may_follow
returns-in_default c =
    let n = c.args.r.number in
    let p = c.args.self.place in
    let o : Other (Unit {0}) n (pattern p) = search rules in
    let h : eqb n 301 ≡ false = ne_eqb n 301 o.0.0.0.0.0.0.0.1 in
    sym (of_other c.args.self c.args.r (no_row (Unit {0}) n (pattern p) o).1 h)
