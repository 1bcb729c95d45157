-- What cutting replies by the ID and the run of used IDs. Assumes nothing.
use Prim.Native.Nat.{ℕ}
use native.Mathlib.Omega.{arith}
use mathlib.Core.Path.{◌≡◌, refl, sym, ap, ◌∙◌, subst}
use mathlib.Core.Bool.{Bool, true, false}
use mathlib.Core.Logic.{◌↔◌, ◌⊎◌}
use mathlib.Core.List.{List, []}
use Rattle.lists.specs.Lists.{Res, ok, refused, map_res, and_then}
use Rattle.replies.specs.Replies.{refusal, reply_of}
use Rattle.replies.specs.Results.{Result, reply_to}
use Rattle.replies.proofs.Results.{gives_refusal}
use Rattle.notebook.specs.Notebook.{Notebook, read_file}
use Rattle.notebook.specs.Same.{arrange}
use Rattle.ids.specs.Used.{unused}
use Rattle.ids.specs.Runs.{InRun, OtherLength}
use Rattle.ids.proofs.Runs.{used_exactly, none_used}
use Rattle.division.specs.Marks.{valid_id}
use Rattle.division.specs.Cut.{cutting, listed, for_id, list_for, cut_list, writes_pieces, cut_result}
use Rattle.division.specs.Demand.{Valid, OneOfThree}
use Rattle.division.proofs.Answers.{none_of_three}
use Rattle.division.proofs.Promises.{cutting_says}

-- a call that has a refusal to give
refuses : {x : Res Result} (out : List ℕ) {n line : ℕ} → x ≡ refused n line → reply_to x out ≡ refusal n line
refuses out e = sym (ap reply_of (gives_refusal out e).answer)

module _ (f : List ℕ) (c : ℕ) (id used out : List ℕ) where
  pub file_first : (n line : ℕ) → read_file f ≡ refused n line → reply_to (cut_result f c id used) out ≡ refusal n line
  unfolding cut_result cut_list
  file_first n line e = refuses out (ap (λ (r : Res Notebook). map_res writes_pieces (and_then r (list_for id used c))) e)

  module _ (b : Notebook) (e : read_file f ≡ ok b) where
    given : cut_result f c id used ≡ map_res writes_pieces (list_for id used c b)
    unfolding cut_result cut_list
    given = ap (λ (r : Res Notebook). map_res writes_pieces (and_then r (list_for id used c))) e

    pub id_first : valid_id id ≡ false → reply_to (cut_result f c id used) out ≡ refusal 17 0
    id_first v = refuses out (given ∙ rw v)

    pub used_reply : valid_id id ≡ true → (reply_to (cut_result f c id used) out ≡ refusal 24 0) ↔ (OtherLength used ⊎ InRun id used)
    used_reply v = (λ h. (used_exactly id used).0 (refuse (unused id used) refl h), λ h. refuses out (given ∙ rw (v, (used_exactly id used).1 h)))
      where
        refuse : (x : Bool) → unused id used ≡ x → reply_to (cut_result f c id used) out ≡ refusal 24 0 → x ≡ false
        refuse false p h = refl
        refuse true p h =
            absurd (none_of_three 24 (λ z. omega (arith, z)) (λ z. omega (arith, z)) (λ z. omega (arith, z))
            (subst OneOfThree h ((cutting_says f b c id used out e).0 (record { digits = v; passes = p }))))

-- ---- as for no used IDs

same_list : (id used : List ℕ) (c : ℕ) (b : Notebook) → Valid id used → list_for id used c b ≡ list_for id [] c b
same_list id used c b v = go (valid_id id) (unused id used) (unused id []) (v.passes ∙ sym (none_used id))
  where
    go : (x y z : Bool) → y ≡ z → for_id x y (listed (cutting id c (arrange b))) ≡ for_id x z (listed (cutting id c (arrange b)))
    go x y z e = ap (λ (u : Bool). for_id x u (listed (cutting id c (arrange b)))) e

pub same_result : (f : List ℕ) (c : ℕ) (id used : List ℕ) → Valid id used → cut_result f c id used ≡ cut_result f c id []
unfolding cut_result cut_list
same_result f c id used v = go (read_file f)
  where
    go : (r : Res Notebook) → map_res writes_pieces (and_then r (list_for id used c)) ≡ map_res writes_pieces (and_then r (list_for id [] c))
    go (ok b) = ap (map_res writes_pieces) (same_list id used c b v)
    go (refused n line) = refl
