-- The walk over a line's items: what is left has the same fault. Assumes nothing.
use Prim.Native.Nat.{ℕ, ◌+◌, ◌≤◌, ◌<◌}
use mathlib.Core.Path.{◌≡◌, refl, sym, ap, ◌∙◌}
use mathlib.Core.Bool.{Bool}
use mathlib.Core.List.{List, [], ◌∷◌, map}
use native.Mathlib.Omega.{arith}
use lib.ListN.{length, get_or, drop}
use borrow.Author.Tests.{eqb-false}
use Rattle.lists.specs.Lists.{◌or_else◌}
use Rattle.lists.specs.Searching.{part}
use Rattle.lists.proofs.Tests.{or_stops}
use Rattle.lists.proofs.Cuts.{drop_step, drop_end}
use Rattle.replies.specs.declared.refusal.Refusal.{Refusal}
use Rattle.replies.specs.Refusals.{number_of}
use Rattle.replies.proofs.Numbers.{never_0}
use Rattle.records.specs.Split.{items_of}
use Rattle.records.specs.Records.{item_fault, items_fault}
use Rattle.items.specs.declared.kinds.Item.{Item}
use Rattle.items.specs.Kinds.{item_of}
use Rattle.lines.specs.Line.{LineIn}
use Rattle.lines.proofs.SplitLaws.{items_count}

-- the fault of the items xs of a line, the first of which is its number, is that of the items from j on
pub record Walk (b : Bool) (row : List Item) (xs : List (List ℕ)) (j : ℕ) : Type 0 where
  pub same : items_fault b (map item_of row) (drop 1 xs) ≡ items_fault b (map item_of (drop j row)) (drop (j + 1) xs)

pub walk_start : (b : Bool) (row : List Item) (xs : List (List ℕ)) → Walk b row xs 0
walk_start b row xs = record { same = refl }

none_left : (b : Bool) (ss : List (List ℕ)) → items_fault b [] ss ≡ 0
unfolding items_fault
none_left b [] = refl
none_left b (s ∷ ss) = refl

module _ {b : Bool} {row : List Item} {xs : List (List ℕ)} {j : ℕ} (w : Walk b row xs j) where
  pub walk_over : length row ≤ j → 0 ≡ items_fault b (map item_of row) (drop 1 xs)
  walk_over h = sym (w.same ∙ rw (drop_end row j h) (none_left b (drop (j + 1) xs)))

module _ {s : List ℕ} {at e : ℕ} {stops : List ℕ} {n : ℕ} (v : LineIn s at e stops n) {b : Bool} {row : List Item} (c : n ≡ length row)
    {j : ℕ} (w : Walk b row (items_of (part s at e)) j) (h : j < length row) (d : Item) {t : List ℕ} (q : t ≡ get_or (items_of (part s at e)) (j + 1) []) where
  turn : items_fault b (map item_of row) (drop 1 (items_of (part s at e)))
      ≡ item_fault b (item_of (get_or row j d)) t or_else items_fault b (map item_of (drop (j + 1) row)) (drop (j + 1 + 1) (items_of (part s at e)))
  unfolding items_fault
  turn =
      let m : j + 1 < length (items_of (part s at e)) = omega (arith, items_count (part s at e), v.commas) in
      w.same ∙ rw (drop_step row j d h, drop_step (items_of (part s at e)) (j + 1) [] m, ← q)

  pub walk_fault : (x : Refusal) → number_of x ≡ item_fault b (item_of (get_or row j d)) t → number_of x ≡ items_fault b (map item_of row) (drop 1 (items_of (part s at e)))
  walk_fault x f =
      sym (turn ∙ ap (λ (y : ℕ). y or_else items_fault b (map item_of (drop (j + 1) row)) (drop (j + 1 + 1) (items_of (part s at e)))) (sym f)
      ∙ or_stops (number_of x) _ (eqb-false (number_of x) 0 (never_0 x)))

  pub walk_next : 0 ≡ item_fault b (item_of (get_or row j d)) t → Walk b row (items_of (part s at e)) (j + 1)
  walk_next f =
      record { same = turn ∙ ap (λ (y : ℕ). y or_else items_fault b (map item_of (drop (j + 1) row)) (drop (j + 1 + 1) (items_of (part s at e)))) (sym f) }

pub ruleset walk_laws = (walk_start, walk_over, walk_fault, walk_next)
