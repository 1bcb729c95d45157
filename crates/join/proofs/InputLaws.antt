-- The refusals of the input, before and after 19. Assumes nothing.
use Prim.Native.Nat.{ℕ, ◌≤◌, ◌<◌}
use mathlib.Core.Path.{◌≡◌, refl, sym, ap, ◌∙◌, subst}
use mathlib.Core.Bool.{Bool, true, false, cond}
use mathlib.Core.Logic.{inl, inr}
use native.Mathlib.Omega.{arith}
use mathlib.Core.List.{List}
use borrow.Author.Tests.{eq-eqb, ne_eqb, le-leb, lt-leb}
use lib.Dec.{eqb}
use lib.ListN.{length}
use Rattle.std.specs.Prelude.{Some, None, Ok, Err}
use Rattle.lists.specs.Lists.{Res, ok, refused}
use Rattle.characters.specs.Rows.{rows}
use Rattle.replies.specs.declared.refusal.Refusal.{Refusal}
use Rattle.replies.specs.declared.refusal.Refusal.TheVariants.{Large, LineEnd, Set}
use Rattle.replies.specs.declared.refusal.Refused.{Refused}
use Rattle.replies.specs.Refusals.{number_of}
use Rattle.division.specs.Pieces.{broken_line, pieces_in, starts_well, split_rows, split}
use Rattle.division.specs.Join.{join_pieces, or_set, join_split, joined_file}
use Rattle.join.specs.Spans.{sound, LineIs, TooLong, NotMade, MadeIs, JoinedMeans, JoinedIs}
use Rattle.join.proofs.SoundLaws.{sound_line, line_sound}

by_rows : (s : List ℕ) → length s ≤ 131072
    → joined_file s ≡ join_split (cond (eqb (broken_line (rows s)) 0) (cond (starts_well (rows s)) (ok (pieces_in (rows s))) (refused 19 0)) (refused 2 (broken_line (rows s))))
unfolding joined_file split split_rows
by_rows s h = rw (le-leb (length s) 131072 h)

module _ {N : ℕ} {D : List ℕ} {r : Refused} {x : Res (List ℕ)} (size : length D ≡ N) where
  -- a refusal with its line
  given : {n : Refusal} {l : ℕ} → r ≡ record { refusal = n; line = l } → x ≡ refused (number_of n) l → JoinedIs N x D (Err r)
  given {n} {l} q e = record { means = subst (λ (j : Refused). JoinedMeans x D (Err j)) (sym q) (inl e); size = size }

  wide : r ≡ record { refusal = Large; line = 0 } → TooLong x D → JoinedIs N x D (Err r)
  wide q w = record { means = inr (q, w); size = size }

pub into_large : (D s : List ℕ) {r : Refused} → 131072 < length s → r ≡ record { refusal = Large; line = 0 } → JoinedIs (length D) (joined_file s) D (Err r)
unfolding joined_file
into_large D s h q = given refl q (rw (lt-leb (length s) 131072 h))

module _ (s : List ℕ) (h : length s ≤ 131072) where
  by_pieces : broken_line (rows s) ≡ 0 → starts_well (rows s) ≡ true → joined_file s ≡ or_set (join_pieces (pieces_in (rows s)))
  by_pieces p q = by_rows s h ∙ rw (eq-eqb (broken_line (rows s)) 0 p, q)

  of_sound : sound (rows s) ≡ true → joined_file s ≡ or_set (join_pieces (pieces_in (rows s)))
  of_sound e = let l : (broken_line (rows s) ≡ 0) × (starts_well (rows s) ≡ true) = sound_line (rows s) e in by_pieces l.0 l.1

  module _ {N : ℕ} {D : List ℕ} where
    pub into_done : {t : ℕ} → MadeIs (sound (rows s)) N (or_set (join_pieces (pieces_in (rows s)))) D (Ok t) → JoinedIs N (joined_file s) D (Ok t)
    into_done z = record { means = (of_sound z.means.0 ∙ z.means.1, z.means.2); size = z.size }

    module _ {r : Refused} {n : Refusal} (z : MadeIs (sound (rows s)) N (or_set (join_pieces (pieces_in (rows s)))) D (Err n)) where
      still : sound (rows s) ≡ true → TooLong (or_set (join_pieces (pieces_in (rows s)))) D → r ≡ record { refusal = Large; line = 0 } → JoinedIs N (joined_file s) D (Err r)
      still b w q = wide z.size q (subst (λ (x : Res (List ℕ)). TooLong x D) (sym (of_sound b)) w)

      pub into_wide : n ≡ Large → r ≡ record { refusal = Large; line = 0 } → JoinedIs N (joined_file s) D (Err r)
      into_wide u q = go z.means
        where
          go : NotMade (sound (rows s)) (or_set (join_pieces (pieces_in (rows s)))) D n → JoinedIs N (joined_file s) D (Err r)
          go (inl (e, f)) = let i : Large ≡ Set = sym u ∙ e in cc
          go (inr (e, b, w)) = still b w q

      pub into_ends : {line : ℕ} → LineIs (broken_line (rows s)) (Some line) → r ≡ record { refusal = LineEnd; line = line } → JoinedIs N (joined_file s) D (Err r)
      into_ends {line} p q =
          let e : broken_line (rows s) ≡ 0 → ⊥ = λ w. omega (arith, p.means.0, p.means.1, w) in
          given z.size q (by_rows s h ∙ rw (ne_eqb (broken_line (rows s)) 0 e) (ap (λ (l : ℕ). refused 2 l) (sym p.means.0)))

      pub into_no : LineIs (broken_line (rows s)) None → r ≡ record { refusal = n; line = 0 } → JoinedIs N (joined_file s) D (Err r)
      into_no p q = go z.means
        where
          nineteen : (sound (rows s) ≡ true → or_set (join_pieces (pieces_in (rows s))) ≡ refused 19 0) → (y : Bool) → starts_well (rows s) ≡ y → joined_file s ≡ refused 19 0
          nineteen f true t = by_pieces p.means t ∙ f (line_sound (rows s) p.means t)
          nineteen f false t = by_rows s h ∙ rw (eq-eqb (broken_line (rows s)) 0 p.means, t)

          at_0 : {j : Refusal} → n ≡ j → r ≡ record { refusal = j; line = 0 }
          at_0 e = q ∙ ap (λ (j : Refusal). record { refusal = j; line = 0 }) e

          go : NotMade (sound (rows s)) (or_set (join_pieces (pieces_in (rows s)))) D n → JoinedIs N (joined_file s) D (Err r)
          go (inl (e, f)) = given z.size (at_0 e) (nineteen f (starts_well (rows s)) refl)
          go (inr (e, b, w)) = still b w (at_0 e)

pub ruleset into_laws = (into_large, into_done, into_wide, into_ends, into_no)
