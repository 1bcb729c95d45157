-- A sound input is one with no broken line, and with a line 1 first. Assumes nothing.
use Prim.Native.Nat.{ℕ, ◌+◌, ◌≤◌}
use mathlib.Core.Path.{◌≡◌, refl}
use mathlib.Core.Bool.{true, false, ◌&&◌, false≢true}
use mathlib.Core.List.{List, [], ◌∷◌}
use native.Mathlib.Omega.{arith}
use Rattle.division.specs.Pieces.{RowKind, head, end_head, body, end, broken, kind_of, judged, broken_from, broken_line, opens, starts_well}
use Rattle.join.specs.Spans.{is_whole, unbroken, is_head, sound}

from_unbroken : (rs : List (List ℕ)) (n : ℕ) → unbroken rs ≡ true → broken_from true n rs ≡ 0
unfolding broken_from unbroken
from_unbroken [] n e = refl
from_unbroken (r ∷ rs) n e = go (kind_of r) (from_unbroken rs (n + 1)) e
  where
    go : (k : RowKind) → (unbroken rs ≡ true → broken_from true (n + 1) rs ≡ 0) → (is_whole k && unbroken rs) ≡ true
        → judged true n (λ b. broken_from b (n + 1) rs) k ≡ 0
    go (head d) i e = i e
    go (end_head d) i e = i e
    go body i e = i e
    go end i e = i e
    go broken i e = absurd (false≢true e)

unbroken_from : (rs : List (List ℕ)) (n : ℕ) → 1 ≤ n → broken_from true n rs ≡ 0 → unbroken rs ≡ true
unfolding broken_from unbroken
unbroken_from [] n h e = refl
unbroken_from (r ∷ rs) n h e = go (kind_of r) (unbroken_from rs (n + 1) (omega arith)) e
  where
    go : (k : RowKind) → (broken_from true (n + 1) rs ≡ 0 → unbroken rs ≡ true) → judged true n (λ b. broken_from b (n + 1) rs) k ≡ 0
        → (is_whole k && unbroken rs) ≡ true
    go (head d) i e = i e
    go (end_head d) i e = i e
    go body i e = i e
    go end i e = i e
    go broken i e = absurd (omega arith)

pub sound_line : (rs : List (List ℕ)) → sound rs ≡ true → (broken_line rs ≡ 0) × (starts_well rs ≡ true)
unfolding broken_line broken_from
sound_line [] e = absurd (false≢true e)
sound_line (r ∷ rs) e = go (kind_of r) e
  where
    go : (k : RowKind) → (is_head k && unbroken rs) ≡ true → (judged false 1 (λ b. broken_from b 2 rs) k ≡ 0) × (opens k ≡ true)
    go (head d) e = (from_unbroken rs 2 e, refl)
    go (end_head d) e = absurd (false≢true e)
    go body e = absurd (false≢true e)
    go end e = absurd (false≢true e)
    go broken e = absurd (false≢true e)

pub line_sound : (rs : List (List ℕ)) → broken_line rs ≡ 0 → starts_well rs ≡ true → sound rs ≡ true
unfolding broken_line broken_from
line_sound [] e w = absurd (false≢true w)
line_sound (r ∷ rs) e w = go (kind_of r) e w
  where
    go : (k : RowKind) → judged false 1 (λ b. broken_from b 2 rs) k ≡ 0 → opens k ≡ true → (is_head k && unbroken rs) ≡ true
    go (head d) e w = unbroken_from rs 2 (omega arith) e
    go (end_head d) e w = absurd (omega arith)
    go body e w = absurd (false≢true w)
    go end e w = absurd (false≢true w)
    go broken e w = absurd (false≢true w)
