-- Laws of a run of stores, `sets` of lib.Seq: one writing after another, a loop's turn, and what was written read back; and the ways
-- through the code of this crate. Stores past the end do nothing, so few laws ask for room. Assumes nothing.
use Prim.Native.Nat.{ℕ, suc, ◌+◌, ◌/◌, ◌%◌, ◌≤◌, ◌<◌}
use native.Mathlib.Nat.{add-zero, add-suc, suc-add, zero-add}
use native.Mathlib.Numerals.{add-one}
use native.Mathlib.Omega.{arith}
use mathlib.Core.Path.{◌≡◌, refl, sym, ap, ap₂, ◌∙◌}
use mathlib.Core.List.{List, [], ◌∷◌, ◌++◌, append_assoc}
use borrow.Author.Tests.{le-leb, lt-leb}
use lib.ListN.{length, get_or, take, drop, set, length-append, length-set, drop_of_length-le}
use lib.Seq.{sets, sets-eq, length-sets, length-take-le, take-append-le, take-take, take_at, drop_at}
use Rattle.lists.proofs.Cuts.{drop_step}
use Rattle.digits.specs.Digits.{spell}
use Rattle.buffers.specs.Buffers.{Room, Wrote}
use Rattle.buffers.specs.Entries.{seven_numbers}

-- one run after another is one run
pub sets_append : (v d : List ℕ) (at : ℕ) (w : List ℕ) → sets d at (v ++ w) ≡ sets (sets d at v) (at + length v) w
sets_append [] d at w = rw add-zero
sets_append (x ∷ v) d at w = sets_append v (set d at x) (suc at) w ∙ rw (add-suc, suc-add)

-- a run from the start, where it fits
pub sets_all : (w d : List ℕ) → length w ≤ length d → sets d 0 w ≡ w ++ drop (length w) d
sets_all w d h = sets-eq w d 0 (omega arith) ∙ rw zero-add

-- one writing after another
pub then : {d d₁ d₂ : List ℕ} {at a r : ℕ} {v w : List ℕ} → Wrote d d₁ at a v → Wrote d₁ d₂ a r w → Wrote d d₂ at r (v ++ w)
then {d} {d₁} {d₂} {at} {a} {r} {v} {w} x y = record {
  next = rw length-append (omega (arith, x.next, y.next));
  list = y.list ∙ (rw (x.list, x.next) (sym (sets_append v d at w)));
  size = omega (arith, x.size, y.size);
  high = omega (arith, x.size, y.high);
}

-- after a writing of v, what is left of a run that began with v
pub carry : {d d₁ : List ℕ} {at r : ℕ} {v t : List ℕ} (w : List ℕ) → Wrote d d₁ at r v → sets d at (v ++ w) ≡ t → sets d₁ r w ≡ t
carry {d} {d₁} {at} {r} {v} w x h = (rw (x.list, x.next) (sym (sets_append v d at w))) ∙ h

-- what was written from the start, read back
pub front : {d d' : List ℕ} {r : ℕ} {w : List ℕ} → Wrote d d' 0 r w → length w ≤ length d → take r d' ≡ w
front {d} {d'} {r} {w} x h = (rw (x.list, sets_all w d h) (take_at w (drop (length w) d) r (omega (arith, x.next))))

-- what was written behind a front, read back with it
pub front_more : {d d' : List ℕ} {at r : ℕ} {w : List ℕ} → Wrote d d' at r w → take r d' ≡ take at d ++ w
front_more {d} {d'} {at} {r} {w} x =
    let n : length (take at d ++ w) ≡ r = length-append (take at d) w ∙ omega (arith, length-take-le at d (omega (arith, x.next, x.high)), x.next) in
    rw (x.list, sets-eq w d at (omega (arith, x.next, x.high))) (take_at (take at d ++ w) (drop (at + length w) d) r n)

-- the later of two runs may be written first
pub sets_behind : (v w d : List ℕ) (at : ℕ) → at + length v + length w ≤ length d → sets (sets d (at + length v) w) at v ≡ sets d at (v ++ w)
sets_behind v w d at h =
    let b = at + length v in
    let rest = drop (b + length w) d in
    let one : sets d b w ≡ take b d ++ (w ++ rest) = sets-eq w d b h ∙ append_assoc (take b d) w rest in
    let front : take at (sets d b w) ≡ take at d =
    ap (take at) one ∙ take-append-le at (take b d) (w ++ rest) (omega (arith, length-take-le b d (omega arith))) ∙ take-take at b d (omega arith) in
    let back : drop b (sets d b w) ≡ w ++ rest = ap (drop b) one ∙ drop_at (take b d) (w ++ rest) b (length-take-le b d (omega arith)) in
    let n : at + length (v ++ w) ≡ b + length w = rw length-append (omega arith) in
    sets-eq v (sets d b w) at (omega (arith, length-sets d b w))
    ∙ ap₂ (λ (x y : List ℕ). x ++ v ++ y) front back
    ∙ append_assoc (take at d) v (w ++ rest)
    ∙ ap (λ (x : List ℕ). take at d ++ x) (sym (append_assoc v w rest))
    ∙ sym (sets-eq (v ++ w) d at (omega (arith, n)) ∙ append_assoc (take at d) (v ++ w) (drop (at + length (v ++ w)) d)
    ∙ ap (λ (k : ℕ). take at d ++ (v ++ w ++ drop k d)) n)

-- ---- the copy of a list: what is left of it gives the whole run

pub record Copying {A : Type 0} (d : List A) (at : ℕ) (w d' : List A) (i : ℕ) : Type 0 where
  pub left : sets d' (at + i) (drop i w) ≡ sets d at w
  pub within : i ≤ length w
  pub size : length d' ≡ length d
  pub room : at + length w ≤ length d

module _ {A : Type 0} (d : List A) (at : ℕ) (w : List A) where
  pub copying_start : Room d at w → Copying d at w d 0
  copying_start h = let z : at + 0 ≡ at = omega arith in record { left = rw z refl; within = omega arith; size = refl; room = h }

  module _ (d' : List A) (i : ℕ) (v : Copying d at w d' i) where
    pub copying_more : (x : A) → i < length w → x ≡ get_or w i x → Copying d at w (set d' (at + i) x) (i + 1)
    copying_more x h e =
        let z : at + (i + 1) ≡ at + i + 1 = omega arith in
        record {
          left = rw (z, e) (rw (add-one (at + i)) (rw (drop_step w i x h) at v.left));
          within = omega arith;
          size = simp length-set v.size;
          room = v.room;
        }

    pub copying_done : length w ≤ i → Wrote d d' at (at + length w) w
    copying_done h = record {
      next = refl;
      list = rw (drop_of_length-le w h) at v.left;
      size = v.size;
      high = v.room;
    }

pub ruleset copying_laws = (copying_start, copying_more, copying_done)

-- ---- a number by its width

pub spell_1 : (v : ℕ) → v ≤ 9 → spell v ≡ (48 + v) ∷ []
unfolding spell
spell_1 v h = simp (le-leb v 9 h)

pub spell_2 : (v : ℕ) → 9 < v → v ≤ 99 → spell v ≡ (48 + v / 10) ∷ (48 + v % 10) ∷ []
unfolding spell
spell_2 v g h = simp (lt-leb v 9 g, le-leb v 99 h)

pub spell_3 : (v : ℕ) → 99 < v → spell v ≡ (48 + v / 100) ∷ (48 + v / 10 % 10) ∷ (48 + v % 10) ∷ []
unfolding spell
spell_3 v h = simp (lt-leb v 9 (omega arith), lt-leb v 99 h)

pub seven_length : (a b c d e f g : ℕ) → length (seven_numbers a b c d e f g) ≡ 7
unfolding seven_numbers
seven_length a b c d e f g = refl
