-- A piece of a set, by its direction, ID and count. Assumes nothing.
use Prim.Native.Nat.{ℕ}
use mathlib.Core.Path.{◌≡◌, refl, sym, ap, ap₂, ◌∙◌}
use mathlib.Core.Bool.{Bool, true, false, not, ◌&&◌, beq, and-false}
use mathlib.Core.List.{List}
use borrow.Author.Tests.{ne_eqb, not-true}
use lib.Dec.{eqb}
use Rattle.std.specs.Prelude.{Some, Ok, Err, Option, None}
use Rattle.lists.specs.Lists.{same}
use Rattle.replies.specs.declared.refusal.Refusal.TheVariants.{Set}
use Rattle.division.specs.Join.{Part, part_with, agree}
use Rattle.join.specs.declared.rows.Opening.{Opening}
use Rattle.pieces.specs.declared.Mark.{Mark}
use Rattle.join.specs.declared.body.Lines.{Lines}
use Rattle.join.specs.declared.member.Member.{Member}
use Rattle.join.specs.Spans.{part_by, ident_at, MarkedLines, LinesAre, agreed, MemberIs}
use Rattle.join.proofs.BodyLaws.{with_mark}

module _ {s : List ℕ} (o : Opening) (x : Member) {l : Lines} (v : LinesAre s o.end (Ok l)) {m : Mark} (q : l.mark ≡ Some m) where
  abbrev part : MarkedLines s o.end l.end l.stop m.count m.place
  part = with_mark v q

  -- the test of a part
  abbrev test : Bool
  test = beq x.provider o.provider && (same (ident_at s x.rows.to) (ident_at s l.end) && eqb x.mark.count m.count)

  foreign : test ≡ false → MemberIs s o x (Err Set)
  unfolding agree
  foreign t = record {
    means = record {
      number = refl;
      none = λ ps. ap (λ (p : Option Part). agreed x.provider (ident_at s x.rows.to) x.mark.count (part_with p ps)) (part.is o.provider) ∙ go ps;
    };
  }
    where
      go : (ps : Option (List Part)) → agreed x.provider (ident_at s x.rows.to) x.mark.count (part_with (Some (part_by o.provider (ident_at s l.end) m.count m.place part.lines)) ps) ≡ false
      go None = refl
      go (Some ps) = rw t

  pub member_side : not (beq x.provider o.provider) ≡ true → MemberIs s o x (Err Set)
  member_side t = foreign (rw (not-true (beq x.provider o.provider) t))

  pub member_count : (x.mark.count ≡ m.count → ⊥) → MemberIs s o x (Err Set)
  member_count u =
      foreign (rw (ne_eqb x.mark.count m.count u) (ap (λ (b : Bool). beq x.provider o.provider && b) (and-false (same (ident_at s x.rows.to) (ident_at s l.end))) ∙ and-false (beq x.provider o.provider)))

  pub member_id : {a b : List ℕ} {y : Bool} → a ≡ ident_at s x.rows.to → b ≡ ident_at s l.end → y ≡ not (same a b) → y ≡ true → MemberIs s o x (Err Set)
  member_id {a} {b} c d w z =
      let f : same (ident_at s x.rows.to) (ident_at s l.end) ≡ false = sym (ap₂ same c d) ∙ not-true (same a b) (sym w ∙ z) in
      foreign (rw f (and-false (beq x.provider o.provider)))

pub ruleset member_laws = (member_side, member_count, member_id)
