-- DOCUMENT 02 (vii): each statement of specs/Cuttings.antt, proved. Assumes nothing.
use Prim.Native.Nat.{ℕ, ◌≤◌}
use native.Mathlib.Omega.{arith}
use mathlib.Core.Path.{◌≡◌, sym, ap, ◌∙◌, subst}
use mathlib.Core.Bool.{Bool, true, false, true≢false}
use mathlib.Core.Logic.{◌⊎◌, inl, inr}
use mathlib.Core.List.{List, ◌++◌, append-nil}
use Rattle.lists.specs.Lists.{All}
use Rattle.replies.specs.Replies.{reply_of}
use Rattle.replies.specs.Results.{reply_to, output_of}
use Rattle.replies.proofs.Results.{gives_refusal}
use Rattle.notebook.specs.Same.{arrange}
use Rattle.notebook.specs.Canonical.{write_file}
use Rattle.notebook.proofs.Arranging.{arranged_carries}
use Rattle.ids.specs.Used.{unused}
use Rattle.ids.proofs.Runs.{in_refused}
use Rattle.division.specs.Demand.{Sound, ListIn}
use Rattle.division.proofs.Answers.{numbered, done_told, Wrote, wrote, own_sound, pieces_once}
use Rattle.division.proofs.Chunks.{mark}
use Rattle.division.proofs.Own.{Marked, marked}
use Rattle.cuttings.specs.Cuttings.{UsedExactly, IdFirst, FileFirst, AsBefore, CutCall, left_by, AnotherId, NeverMixed}
use Rattle.cuttings.proofs.Replies.{file_first, id_first, used_reply, same_result}
use Rattle.cuttings.proofs.Mixed.{holds_in, two_ids}

pub used_exactly : UsedExactly
used_exactly f b c id used out e v = used_reply f c id used out b e v

pub id_comes_first : IdFirst
id_comes_first f b c id used out e v = id_first f c id used out b e v

pub file_comes_first : FileFirst
file_comes_first f n line e c id used out = file_first f c id used out n line e

pub as_before : AsBefore
as_before f c id used out v =
    let e = same_result f c id used v in
    (ap (λ x. reply_to x out) e, ap (λ x. output_of x out) e)

-- ---- two cuttings

written : (x : CutCall) → Wrote x.file x.book x.capacity x.id x.used x.accepted x.out x.count x.size
written x =
    wrote x.file x.book x.capacity x.id x.used x.accepted x.out x.count x.size
    (done_told _ x.count x.size 0 (numbered x.file x.book x.capacity x.id x.used x.out x.accepted) x.wrote)

pub another_id : AnotherId
another_id x y h e =
    let p : unused y.id y.used ≡ true = (written y).found.valid.passes in
    true≢false (sym p ∙ ap (λ (i : List ℕ). unused i y.used) (sym e) ∙ in_refused x.id y.used h)

-- the pieces of more than one have the ID
pieces_marked : (x : CutCall) → 2 ≤ x.count → (ps : List (List ℕ)) → ListIn (left_by x) x.count x.size ps → All (Marked x.id) ps
pieces_marked x h ps i =
    let w = written x in
    let b = arrange x.book in
    let s : Sound x.file x.capacity w.list =
    own_sound x.file x.book x.capacity x.id x.used x.accepted w.found.valid.digits w.list w.found.is in
    let q : ps ≡ w.list = pieces_once ps w.list i.whole s.pieces (sym i.bytes ∙ w.front) in
    subst (All (Marked x.id)) (sym q)
    (marked (write_file b) x.id b x.capacity (arranged_carries x.file x.book x.accepted) w.found.valid.digits w.list w.found.is
    (omega (arith, h, w.count)))

-- with a 1Ah or without
record Ended (p a : List ℕ) : Type 0 where
  mark_is : Bool
  is : p ≡ a ++ mark mark_is

ended : (p a : List ℕ) → (p ≡ a) ⊎ (p ≡ a ++ mark true) → Ended p a
ended p a (inl e) = record { mark_is = false; is = e ∙ sym (append-nil a) }
ended p a (inr e) = record { mark_is = true; is = e }

pub never_mixed : NeverMixed
never_mixed x y h m n ps w l p q u v a b out =
    let i = ended p u.piece u.is in
    let j = ended q v.piece v.is in
    let r =
    two_ids ps w l (another_id x y h) a b i.mark_is i.is (holds_in (Marked x.id) u.one (pieces_marked x m u.list u.written))
    j.mark_is j.is (holds_in (Marked y.id) v.one (pieces_marked y n v.list v.written)) in
    (sym (ap reply_of (gives_refusal out r).answer), sym (gives_refusal out r).output)
