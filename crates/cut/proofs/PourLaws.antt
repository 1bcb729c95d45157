-- The writing of the pieces: the record 911, one piece, and the loop over the pieces. What is left from a piece on, written after what is
-- written, gives all pieces. Assumes nothing.
use Prim.Native.Nat.{ℕ, ◌+◌, ◌-◌, ◌≤◌, ◌<◌}
use native.Mathlib.Omega.{arith}
use native.Mathlib.Numerals.{add-one}
use mathlib.Core.Path.{◌≡◌, refl, sym, ap, ◌∙◌}
use mathlib.Core.Bool.{Bool, true, false}
use Rattle.std.specs.Prelude.{Option, Some, None}
use Rattle.std.specs.Option.{option_map}
use mathlib.Core.List.{List, [], ◌∷◌, ◌++◌, append_assoc, append-nil}
use borrow.Author.Tests.{leb-true, leb-false}
use mir.Val.{Fits}
use mir.Syntax.{w32}
use lib.Dec.{leb}
use lib.ListN.{length, length-append}
use lib.Seq.{sets}
use Rattle.lists.specs.Searching.{part}
use Rattle.lists.proofs.Parts.{part_length}
use Rattle.digits.specs.Digits.{spell}
use Rattle.characters.specs.Rows.{rows, flat}
use Rattle.characters.proofs.RowLaws.{flat_rows}
use Rattle.records.specs.Split.{joined}
use Rattle.records.specs.Records.{t911}
use Rattle.buffers.specs.Buffers.{Room, Wrote}
use Rattle.buffers.proofs.Runs.{then, carry}
use Rattle.packing.specs.Widths.{over}
use Rattle.division.specs.Marks.{mark_line, mark_row}
use Rattle.cut.specs.Loops.{OverOf, RunAt, runs_at, past_last, ends, numbered_as, pieces_as, poured, piece_as, MarkRoom, PieceRoom, Planned}
use Rattle.cut.proofs.CountLaws.{no_some, runs_last, runs_next, ends_next, ends_stuck, ends_from}

-- ---- the record 911

mark_parts : (id : List ℕ) (n k : ℕ)
    → mark_row id n k ≡ ((((((57 ∷ 49 ∷ 49 ∷ 44 ∷ []) ++ id) ++ (44 ∷ [])) ++ spell n) ++ (44 ∷ [])) ++ spell k) ++ (13 ∷ 10 ∷ [])
unfolding mark_row mark_line joined t911
mark_parts id n k = simp append_assoc

pub mark_length : (id : List ℕ) (n k : ℕ) → length (mark_row id n k) ≡ 8 + length id + length (spell n) + length (spell k)
mark_length id n k = ap length (mark_parts id n k) ∙ simp length-append (omega arith)

pub mark_wrote : (n k : ℕ) {d d₁ d₂ d₃ d₄ d₅ d₆ d₇ id : List ℕ} {at a₁ a₂ a₃ a₄ a₅ a₆ r : ℕ}
    → Wrote d d₁ at a₁ (57 ∷ 49 ∷ 49 ∷ 44 ∷ []) → Wrote d₁ d₂ a₁ a₂ id → Wrote d₂ d₃ a₂ a₃ (44 ∷ []) → Wrote d₃ d₄ a₃ a₄ (spell n)
    → Wrote d₄ d₅ a₄ a₅ (44 ∷ []) → Wrote d₅ d₆ a₅ a₆ (spell k) → Wrote d₆ d₇ a₆ r (13 ∷ 10 ∷ []) → Wrote d d₇ at r (mark_row id n k)
mark_wrote n k {id = id} p₁ p₂ p₃ p₄ p₅ p₆ p₇ = rw (mark_parts id n k) (then (then (then (then (then (then p₁ p₂) p₃) p₄) p₅) p₆) p₇)

-- ---- one piece

module _ {s : List ℕ} {c w n : ℕ} (g : Planned s c w n) {d : List ℕ} {at i e : ℕ} {id : List ℕ} {k : ℕ} (v : PieceRoom d at s i e id n k) where
  sizes : at + 13 + (e - i) + length (mark_row id n k) ≤ length d
  unfolding piece_as
  sizes = omega (
    arith,
    v.room,
    length-append (part s 0 13) (part s i e ++ mark_row id n k),
    length-append (part s i e) (mark_row id n k),
    part_length s 0 13 (omega arith) g.small.header,
    part_length s i e v.low v.inside,
  )

  pub piece_head : Room d at (part s 0 13)
  piece_head = omega (arith, sizes, part_length s 0 13 (omega arith) g.small.header)

  module _ {d₁ : List ℕ} {a : ℕ} (p : Wrote d d₁ at a (part s 0 13)) where
    behind_head_lem : a ≡ at + 13
    behind_head_lem = omega (arith, p.next, part_length s 0 13 (omega arith) g.small.header)

    pub piece_rows : Room d₁ a (part s i e)
    piece_rows = omega (arith, sizes, behind_head_lem, p.size, part_length s i e v.low v.inside)

    module _ {d₂ : List ℕ} {b : ℕ} (q : Wrote d₁ d₂ a b (part s i e)) where
      pub piece_mark : MarkRoom d₂ b id n k
      piece_mark = record {
        few = v.few;
        room = omega (arith, sizes, behind_head_lem, p.size, q.size, q.next, part_length s i e v.low v.inside, mark_length id n k);
      }

      pub piece_wrote : {d₃ : List ℕ} {r : ℕ} → Wrote d₂ d₃ b r (mark_row id n k) → Wrote d d₃ at r (piece_as s id n k i e)
      unfolding piece_as
      piece_wrote z = then p (then q z)

pub ruleset piece_laws = (piece_head, piece_rows, piece_mark, piece_wrote)

-- ---- the pieces from piece k on: the last, or one and the next

module _ (s : List ℕ) (c w : ℕ) (id : List ℕ) (n k i e : ℕ) (x : RunAt s i (over w k) c e) where
  rows_are : flat (rows (part s i e)) ≡ part s i e
  rows_are = flat_rows (part s i e)

  poured_last : length s ≤ e → poured s c w id n k i ≡ piece_as s id n k i e
  unfolding poured piece_as numbered_as
  poured_last h =
      ap (pieces_as (part s 0 13) id n k) (runs_last s c w k i e x h) ∙ rw rows_are (append-nil (part s 0 13 ++ (part s i e ++ mark_row id n k)))

  poured_next : e < length s → i < e → (m : ℕ) → ends s c w (k + 1) e ≡ Some m → poured s c w id n k i ≡ piece_as s id n k i e ++ poured s c w id n (k + 1) e
  unfolding poured piece_as numbered_as ends
  poured_next h g m q = ap (pieces_as (part s 0 13) id n k) (runs_next s c w k i e x h g) ∙ go (runs_at s c w (k + 1) e) q
    where
      go : (y : Option (List (List (List ℕ)))) → past_last (k + 1) y ≡ Some m
          → pieces_as (part s 0 13) id n k (option_map (λ xs. rows (part s i e) ∷ xs) y)
          ≡ (part s 0 13 ++ (part s i e ++ mark_row id n k)) ++ pieces_as (part s 0 13) id n (k + 1) y
      go None e = absurd (no_some e)
      go (Some xs) e = rw (rows_are, add-one k)

-- ---- the loop

pub record Pouring (d₀ d s : List ℕ) (c w n : ℕ) (id : List ℕ) (o k i : ℕ) : Type 0 where
  pub planned : Planned s c w n
  pub hold : length (poured s c w id n 1 13) ≤ length d₀
  pub inside : i ≤ length s
  pub count : ends s c w k i ≡ Some (n + 1)
  pub size : length d ≡ length d₀
  pub room : o + length (poured s c w id n k i) ≡ length (poured s c w id n 1 13)
  pub list : sets d o (poured s c w id n k i) ≡ sets d₀ 0 (poured s c w id n 1 13)

pub pour_start : {d s id : List ℕ} {c w n : ℕ} → Planned s c w n → Room d 0 (poured s c w id n 1 13) → Pouring d d s c w n id 0 1 13
pour_start v r = record { planned = v; hold = omega (arith, r); inside = v.small.header; count = v.count; size = refl; room = omega arith; list = refl }

module _ {d₀ d s : List ℕ} {c w n : ℕ} {id : List ℕ} {o k i : ℕ} (v : Pouring d₀ d s c w n id o k i) where
  few : k ≤ n
  few = omega (arith, ends_from s c w k i (n + 1) v.count)

  pub pour_fits : Fits w32 (k + 1)
  pour_fits = omega (arith, few, v.planned.few)

  module _ {u e : ℕ} (y : OverOf w k u) (r : RunAt s i u c e) where
    run : RunAt s i (over w k) c e
    run = rw y.is at r

    last_is : length s ≤ e → poured s c w id n k i ≡ piece_as s id n k i e
    last_is h = poured_last s c w id n k i e run h

    module _ (h : e < length s) where
      -- every row has found a piece
      more : i < e
      more = go (leb e i) refl
        where
          go : (b : Bool) → leb e i ≡ b → i < e
          go true q = absurd (no_some (sym (ends_stuck s c w k i e run h (leb-true _ _ q)) ∙ v.count))
          go false q = leb-false _ _ q

      pub pour_less : length s - e < length s - i
      pour_less = omega (arith, more)

      next_count : ends s c w (k + 1) e ≡ Some (n + 1)
      next_count = sym (ends_next s c w k i e run h more) ∙ v.count

      next_is : poured s c w id n k i ≡ piece_as s id n k i e ++ poured s c w id n (k + 1) e
      next_is = poured_next s c w id n k i e run h more (n + 1) next_count

    piece_fits : length (piece_as s id n k i e) ≤ length (poured s c w id n k i)
    piece_fits = go (leb (length s) e) refl
      where
        go : (b : Bool) → leb (length s) e ≡ b → length (piece_as s id n k i e) ≤ length (poured s c w id n k i)
        go true q = omega (arith, ap length (last_is (leb-true _ _ q)))
        go false q =
            omega (arith, ap length (next_is (leb-false _ _ q)), length-append (piece_as s id n k i e) (poured s c w id n (k + 1) e))

    pub pour_room : PieceRoom d o s i e id n k
    pour_room = record {
      few = omega (arith, few, v.planned.few);
      low = r.low;
      inside = r.inside;
      room = omega (arith, piece_fits, v.room, v.hold, v.size);
    }

    module _ {d₁ : List ℕ} {o₁ : ℕ} (p : Wrote d d₁ o o₁ (piece_as s id n k i e)) where
      pub pour_done : length s ≤ e → Wrote d₀ d₁ 0 o₁ (poured s c w id n 1 13)
      pour_done h = record {
        next = omega (arith, p.next, v.room, ap length (last_is h));
        list = p.list ∙ (rw (last_is h) at v.list);
        size = omega (arith, p.size, v.size);
        high = omega (arith, p.high, v.size);
      }

      pub pour_next : e < length s → Pouring d₀ d₁ s c w n id o₁ (k + 1) e
      pour_next h = record {
        planned = v.planned;
        hold = v.hold;
        inside = r.inside;
        count = next_count h;
        size = p.size ∙ v.size;
        room =
            omega (arith, p.next, v.room, ap length (next_is h), length-append (piece_as s id n k i e) (poured s c w id n (k + 1) e));
        list = carry (poured s c w id n (k + 1) e) p (rw (next_is h) at v.list);
      }

pub ruleset pour_laws = (pour_start, pour_fits, pour_less, pour_room, pour_done, pour_next)
