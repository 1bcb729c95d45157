-- The call: the pieces of a notebook are those of its canonical bytes, and the answer by the way through the code. Assumes nothing.
use Prim.Native.Nat.{ℕ, suc, ◌≤◌}
use mathlib.Core.Path.{◌≡◌, refl, sym, ap, ◌∙◌, subst}
use mathlib.Core.Bool.{Bool, true, false, not}
use mathlib.Core.List.{List, [], ◌∷◌, ◌++◌}
use borrow.Author.Tests.{eqb-true}
use lib.Dec.{eqb}
use lib.ListN.{length, take}
use Rattle.std.specs.Prelude.{Some}
use Rattle.lists.specs.Lists.{all, Res, ok, refused, map_res, and_then}
use Rattle.lists.proofs.Tests.{both, not_true', not_false'}
use Rattle.digits.specs.Digits.{is_digit}
use Rattle.characters.specs.Rows.{flat}
use Rattle.notebook.specs.Notebook.{Notebook, read_file}
use Rattle.notebook.specs.Same.{arrange}
use Rattle.replies.specs.declared.refusal.Refused.{Refused as RefusedAtLine}
use Rattle.replies.specs.Refusals.{number_of}
use Rattle.replies.specs.Replies.{Answer, Done, Refused}
use Rattle.replies.specs.Results.{Result}
use Rattle.replies.specs.CallContracts.{Gives}
use Rattle.replies.proofs.Results.{gives_refusal}
use Rattle.notebook.specs.Canonical.{head_row, record_rows, canonical_bytes, canonical_file}
use Rattle.canonical.specs.Writing.{MadeOf}
use Rattle.notebook.proofs.CanonicalLaws.{canonical_head, canonical_rows, canonical_small, canonical_long}
use Rattle.packing.specs.Widths.{Plan, in_one, in_runs, no_plan, plan}
use Rattle.ids.specs.Used.{unused}
use Rattle.division.specs.Marks.{valid_id, mark_row}
use Rattle.division.specs.Cut.{piece_bytes, numbered, planned, cutting, listed, for_id, list_for, cut_list, writes_pieces, cut_result}
use Rattle.cut.specs.Loops.{numbered_as, planned_as, cutting_of, Given, cut_of_bytes}

-- ---- the pieces of a notebook are those of its canonical bytes

numbered_as_lem : (provider : Bool) (id : List ℕ) (n k : ℕ) (xs : List (List (List ℕ)))
    → numbered_as (head_row provider) id n k xs ≡ numbered provider id n k xs
unfolding numbered_as numbered piece_bytes
numbered_as_lem provider id n k [] = refl
numbered_as_lem provider id n k (x ∷ xs) =
    ap (λ (ps : List (List ℕ)). (head_row provider ++ (flat x ++ mark_row id n k)) ∷ ps) (numbered_as_lem provider id n (suc k) xs)

module _ (f : List ℕ) (b : Notebook) (e : read_file f ≡ ok b) (id : List ℕ) where
  planned_as_lem : (p : Plan (List ℕ)) → planned_as id (canonical_bytes b) p ≡ planned id (arrange b) p
  unfolding canonical_bytes
  planned_as_lem in_one = refl
  planned_as_lem (in_runs xs) =
      ap (λ (h : List ℕ). Some (numbered_as h id (length xs) 1 xs)) (canonical_head f b e) ∙ ap Some (numbered_as_lem (arrange b).provider id (length xs) 1 xs)
  planned_as_lem no_plan = refl

  pub cutting_as : (c : ℕ) → cutting_of id c (canonical_bytes b) ≡ cutting id c (arrange b)
  unfolding cutting_of cutting
  cutting_as c =
      ap (λ (rs : List (List ℕ)). planned_as id (canonical_bytes b) (plan length c rs)) (canonical_rows f b e)
      ∙ planned_as_lem (plan length c (record_rows (arrange b).records))

-- ---- the ways through cut

-- an accepted file whose canonical bytes are s
record Made (f s : List ℕ) : Type 0 where
  book : Notebook
  read : read_file f ≡ ok book
  bytes : canonical_bytes book ≡ s

made_of : (f s : List ℕ) (r : Res Notebook) → read_file f ≡ r → map_res canonical_bytes r ≡ ok s → Made f s
made_of f s (ok b) q e = record { book = b; read = q; bytes = cc }
made_of f s (refused n line) q e = cc

refused_of : (n line : ℕ) (r : Res Notebook) → map_res canonical_bytes r ≡ refused n line → r ≡ refused n line
refused_of n line (ok b) e = cc
refused_of n line (refused m l) e = cc

id_length : (id : List ℕ) → valid_id id ≡ true → length id ≡ 14
unfolding valid_id
id_length id e = eqb-true (length id) 14 (both (eqb (length id) 14) (all is_digit id) e).0

-- ---- the ways through cut_by

module _ (f : List ℕ) (c : ℕ) (id used d : List ℕ) {buf : List ℕ} {l : ℕ} where
  pub cut_refused : (x : RefusedAtLine) → MadeOf l (canonical_file f) buf (Refused (number_of x.refusal) x.line) → Gives (cut_result f c id used) d d (Refused (number_of x.refusal) x.line)
  unfolding canonical_file cut_result cut_list
  cut_refused x p =
      let q : read_file f ≡ refused (number_of x.refusal) x.line = refused_of (number_of x.refusal) x.line (read_file f) p.means in
      gives_refusal d (ap (λ (r : Res Notebook). map_res writes_pieces (and_then r (list_for id used c))) q)

  module _ {t i j : ℕ} (p : MadeOf l (canonical_file f) buf (Done t i j)) where
    pub cut_inside : t ≤ length buf
    cut_inside = p.means.1

    made : Made f (take t buf)
    unfolding canonical_file
    made = made_of f (take t buf) (read_file f) refl p.means.0

    -- x, y: what the tests of the ID said
    module _ {x : Bool} (q : x ≡ valid_id id) where
      list_is : (v u : Bool) → v ≡ valid_id id → u ≡ unused id used → cut_list f c id used ≡ for_id v u (listed (cutting id c (arrange made.book)))
      unfolding cut_list
      list_is v u e₁ e₂ = ap (λ (r : Res Notebook). and_then r (list_for id used c)) made.read ∙ rw (← e₁, ← e₂)

      pub cut_no_id : not x ≡ true → Gives (cut_result f c id used) d d (Refused 17 0)
      unfolding cut_result
      cut_no_id z = gives_refusal d (ap (map_res writes_pieces) (list_is false (unused id used) (sym (not_true' x z) ∙ q) refl))

      module _ (z : not x ≡ false) where
        digits : true ≡ valid_id id
        digits = sym (not_false' x z) ∙ q

        pub cut_long : length id ≡ 14
        cut_long = id_length id (sym digits)

        pub cut_given : Given (take t buf) id
        cut_given = record {
          bytes = rw (← made.bytes) (canonical_small f made.book made.read);
          header = rw (← made.bytes) (canonical_long f made.book made.read);
          ident = cut_long;
        }

        module _ {y : Bool} (p₁ : y ≡ unused id used) where
          pub cut-used : not y ≡ true → Gives (cut_result f c id used) d d (Refused 24 0)
          unfolding cut_result
          cut-used w = gives_refusal d (ap (map_res writes_pieces) (list_is true false digits (sym (not_true' y w) ∙ p₁)))

          module _ (w : not y ≡ false) where
            pieces_are : cut_list f c id used ≡ listed (cutting_of id c (take t buf))
            pieces_are =
                list_is true true digits (sym (not_false' y w) ∙ p₁)
                ∙ ap listed (sym (cutting_as f made.book made.read id c) ∙ ap (cutting_of id c) made.bytes)

            pub cut-gives : {d' : List ℕ} {r : Answer} → Gives (cut_of_bytes (take t buf) c id) d d' r → Gives (cut_result f c id used) d d' r
            unfolding cut_result cut_of_bytes
            cut-gives {d'} {r} v = subst (λ (x : Res Result). Gives x d d' r) (ap (map_res writes_pieces) (sym pieces_are)) v

pub ruleset cut_laws = (cut_inside, cut_no_id, cut_long, cut-used, cut_given, cut-gives)
