-- The answer for canonical bytes, and the output, by the way through the code. Assumes nothing.
use Prim.Native.Nat.{ℕ, suc, ◌+◌, ◌-◌, ◌≤◌, ◌<◌}
use native.Mathlib.Omega.{arith}
use mathlib.Core.Path.{◌≡◌, refl, sym, ap, ◌∙◌, subst}
use Rattle.std.specs.Prelude.{Option, Some, None}
use mathlib.Core.List.{List, [], ◌∷◌, append-nil}
use mir.Val.{Fits}
use mir.Syntax.{w32, w64}
use lib.ListN.{length}
use Rattle.lists.specs.Lists.{map_res}
use Rattle.lists.specs.Searching.{part}
use Rattle.characters.specs.Rows.{flat}
use Rattle.buffers.specs.Buffers.{Room, Wrote}
use Rattle.replies.specs.Replies.{Done, Refused}
use Rattle.replies.specs.CallContracts.{Gives}
use Rattle.replies.proofs.Results.{gives_refusal, gives_20, gives_written}
use Rattle.division.specs.Cut.{listed, writes_pieces}
use Rattle.cut.specs.declared.Plan.{Plan}
use Rattle.cut.specs.Loops.{chosen, numbered_as, poured, Planned, planned_as, cutting_of, Given, cut_of_bytes}
use Rattle.cut.proofs.PlanLaws.{Found, plan_fits, plan_fails, plan_found, overheads_most, found_few, found_wide, found_ends, found_bytes, found_length}

-- ---- a list of pieces is found, whose bytes are b

module _ (s : List ℕ) (c : ℕ) (id d : List ℕ) where
  given : {m : Option (List (List ℕ))} → cutting_of id c s ≡ m → cut_of_bytes s c id ≡ map_res writes_pieces (listed m)
  unfolding cut_of_bytes
  given p = ap (λ (m : Option (List (List ℕ))). map_res writes_pieces (listed m)) p

  none_found : cutting_of id c s ≡ None → Gives (cut_of_bytes s c id) d d (Refused 18 0)
  none_found p = gives_refusal d (given p)

  module _ (ps : List (List ℕ)) (b : List ℕ) (p : cutting_of id c s ≡ Some ps) (q : flat ps ≡ b) where
    held_short : length d < length b → Gives (cut_of_bytes s c id) d d (Refused 20 0)
    held_short l = gives_20 d (given p) (omega (arith, ap length q))

    held_done : {d' : List ℕ} {r m : ℕ} → m ≡ length b → Wrote d d' 0 r b → Gives (cut_of_bytes s c id) d d' (Done (length ps) m 0)
    held_done {d'} {r} {m} e x =
        subst (λ (t : ℕ). Gives (cut_of_bytes s c id) d d' (Done (length ps) t 0)) (ap length q ∙ sym e)
        (gives_written d (given p) (subst (λ (w : List ℕ). Wrote d d' 0 r w) (sym q) x))

numbered_count : (head id : List ℕ) (n : ℕ) (xs : List (List (List ℕ))) (k : ℕ) → length (numbered_as head id n k xs) ≡ length xs
unfolding numbered_as
numbered_count head id n [] k = refl
numbered_count head id n (x ∷ xs) k = ap suc (numbered_count head id n xs (suc k))

-- ---- the ways through cut_bytes

module _ {s id : List ℕ} {c : ℕ} (d : List ℕ) (g : Given s id) where
  module _ (h : length s ≤ c) where
    one_piece_lem : cutting_of id c s ≡ Some (s ∷ [])
    unfolding cutting_of
    one_piece_lem = ap (planned_as id s) (plan_fits s c g.header h)

    pub whole_short : length d < length s → Gives (cut_of_bytes s c id) d d (Refused 20 0)
    whole_short l = held_short s c id d (s ∷ []) s one_piece_lem (append-nil s) l

    pub whole_done : {d₁ : List ℕ} {r : ℕ} → Wrote d d₁ 0 r s → Gives (cut_of_bytes s c id) d d₁ (Done 1 (length s) 0)
    whole_done p = held_done s c id d (s ∷ []) s one_piece_lem (append-nil s) refl p

  module _ (h : c < length s) {r : Option Plan} (p : r ≡ chosen s c) where
    pub no_width : r ≡ None → Gives (cut_of_bytes s c id) d d (Refused 18 0)
    unfolding cutting_of
    no_width q = none_found s c id d (ap (planned_as id s) (plan_fails s c g.header h (sym p ∙ q)))

    module _ {x : Plan} (q : r ≡ Some x) where
      found : Found s c x
      found = plan_found s c g.header h (sym p ∙ q)

      many : cutting_of id c s ≡ Some (numbered_as (part s 0 13) id x.count 1 found.runs)
      unfolding cutting_of
      many = ap (planned_as id s) found.is ∙ ap (λ (m : ℕ). Some (numbered_as (part s 0 13) id m 1 found.runs)) found.count

      size : x.bytes + (length s - 13) ≡ length (poured s c x.width id x.count 1 13)
      size = found_length found id g.header g.ident ∙ ap length (found_bytes found id)

      small : x.bytes + (length s - 13) < 200000
      small = omega (arith, g.bytes, found.sum, overheads_most x.width x.count (found_wide found), found_few found)

      pub total_fits : Fits w64 (x.bytes + (length s - 13))
      total_fits = omega (arith, small)

      pub total_fits_32 : Fits w32 (x.bytes + (length s - 13))
      total_fits_32 = omega (arith, small)

      pub split_short : length d < x.bytes + (length s - 13) → Gives (cut_of_bytes s c id) d d (Refused 20 0)
      split_short l =
          held_short s c id d (numbered_as (part s 0 13) id x.count 1 found.runs) (poured s c x.width id x.count 1 13) many (found_bytes found id) (omega (arith, size))

      pub split_planned : Planned s c x.width x.count
      split_planned = record {
        small = record { bytes = g.bytes; header = g.header; more = h };
        wide = found_wide found;
        few = found_few found;
        count = found_ends found;
      }

      module _ (l : x.bytes + (length s - 13) ≤ length d) where
        pub split_room : Room d 0 (poured s c x.width id x.count 1 13)
        split_room = omega (arith, size)

        pub split_done : {d₁ : List ℕ} {y : ℕ} → Wrote d d₁ 0 y (poured s c x.width id x.count 1 13) → Gives (cut_of_bytes s c id) d d₁ (Done x.count (x.bytes + (length s - 13)) 0)
        split_done {d₁} {y} z =
            let k : length (numbered_as (part s 0 13) id x.count 1 found.runs) ≡ x.count = numbered_count (part s 0 13) id x.count found.runs 1 ∙ found.count in
            subst (λ (m : ℕ). Gives (cut_of_bytes s c id) d d₁ (Done m (x.bytes + (length s - 13)) 0)) k
            (held_done s c id d (numbered_as (part s 0 13) id x.count 1 found.runs) (poured s c x.width id x.count 1 13) many (found_bytes found id) size z)

pub ruleset answer_laws = (whole_short, whole_done, no_width, total_fits, total_fits_32, split_short, split_planned, split_room, split_done)
