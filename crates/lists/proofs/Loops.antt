-- One turn of a loop over a slice, for every test of a byte: what is left decides the same answer; and the place of a byte. Assumes nothing.
use Prim.Native.Nat.{ℕ, ◌+◌, ◌≤◌, ◌<◌}
use mathlib.Core.Path.{◌≡◌, refl, sym, ap, ◌∙◌}
use mathlib.Core.Bool.{Bool, true, false, cond}
use mathlib.Core.List.{List, [], ◌∷◌}
use native.Mathlib.Omega.{arith}
use borrow.Author.Tests.{ltb-false}
use lib.Dec.{ltb}
use lib.ListN.{length, get_or, drop, length-drop, get_or-eq_default}
use Rattle.std.specs.Prelude.{◌==◌, Some, None}
use Rattle.std.specs.List.{position, position_or_len, slice_range}
use Rattle.std.proofs.lemmas.List.Recursion.{is_position_or_len}
use Rattle.std.specs.Option.{unwrap_or}
use Rattle.lists.specs.Lists.{all, same, is, up_to}
use Rattle.lists.specs.Searching.{find_from}
use Rattle.lists.proofs.Tests.{same_true}
use Rattle.lists.proofs.Cuts.{drop_step, drop_end, rest_all, up_to_out, up_to_le}

pub past_end : (s : List ℕ) (i : ℕ) → length s ≤ i → 0 ≡ get_or s i 0
past_end s i h = sym (get_or-eq_default s 0 h)

-- ---- a loop that tests every byte: x is what the test said

pub record AllLeft (p : ℕ → Bool) (s : List ℕ) (i : ℕ) : Type 0 where
  pub left : all p s ≡ all p (drop i s)

pub all_start : (p : ℕ → Bool) (s : List ℕ) → AllLeft p s 0
all_start p s = record { left = refl }

module _ {p : ℕ → Bool} {s : List ℕ} {i : ℕ} (v : AllLeft p s i) where
  pub all_go : {x : Bool} → i < length s → x ≡ p (get_or s i 0) → x ≡ true → AllLeft p s (i + 1)
  all_go h q t = record { left = v.left ∙ rw (drop_step s i 0 h) (simp (sym q ∙ t)) }

  pub all_stop : {x : Bool} → i < length s → x ≡ p (get_or s i 0) → x ≡ false → false ≡ all p s
  all_stop h q t = sym (v.left ∙ rw (drop_step s i 0 h) (simp (sym q ∙ t)))

  pub all_out : length s ≤ i → true ≡ all p s
  all_out h = sym (v.left ∙ rw (drop_end s i h))

pub ruleset all_laws = (all_start, all_go, all_stop, all_out)

-- ---- the place of a byte, from a position on

up_to_place : (c : ℕ) (l : List ℕ) → length (up_to (is c) l) ≡ position_or_len (λ b. b == c) l
up_to_place c = is_position_or_len (λ (l : List ℕ). length (up_to (is c) l)) (is c) refl (λ b l. go (is c b) b l)
  where
    go : (x : Bool) (b : ℕ) (l : List ℕ) → length (cond x [] (b ∷ up_to (is c) l)) ≡ cond x 0 (1 + length (up_to (is c) l))
    go true b l = refl
    go false b l = omega arith

place_or_end : (c : ℕ) (l : List ℕ) → length (up_to (is c) l) ≡ unwrap_or (position (λ b. b == c) l) (length l)
place_or_end c l = go (position_or_len (λ b. b == c) l) (up_to_place c l)
  where
    go : (n : ℕ) → length (up_to (is c) l) ≡ n → length (up_to (is c) l) ≡ unwrap_or (cond (ltb n (length l)) (Some n) None) (length l)
    go n e = by (ltb n (length l)) refl
      where
        by : (x : Bool) → ltb n (length l) ≡ x → length (up_to (is c) l) ≡ unwrap_or (cond x (Some n) None) (length l)
        by true f = e
        by false f = omega (arith, ltb-false n (length l) f, up_to_le (is c) l)

pub find_in : (c : ℕ) (s rest : List ℕ) (at n : ℕ) → at ≤ length s → rest ≡ slice_range s at (length s)
    → n ≡ unwrap_or (position (λ b. b == c) rest) (length rest) → at + n ≡ find_from c s at
unfolding find_from
find_in c s rest at n h e q =
    ap (λ (k : ℕ). at + k) (q ∙ sym (place_or_end c rest) ∙ ap (λ (l : List ℕ). length (up_to (is c) l)) (e ∙ rest_all at s))

pub find_past : (c : ℕ) (s : List ℕ) (at : ℕ) → length s < at → at ≡ find_from c s at
unfolding find_from
find_past c s at h = omega (arith, ap length (up_to_out (is c) s at (omega arith)))

pub ruleset find_laws = (find_in, find_past)

pub find_low : (c : ℕ) (s : List ℕ) (at : ℕ) → at ≤ find_from c s at
unfolding find_from
find_low c s at = omega arith

pub find_high : (c : ℕ) (s : List ℕ) (at : ℕ) → at ≤ length s → find_from c s at ≤ length s
unfolding find_from
find_high c s at h = omega (arith, up_to_le (is c) (drop at s), length-drop at s)

-- ---- two lists

pub same_length : (a b : List ℕ) → (length a ≡ length b → ⊥) → false ≡ same a b
same_length a b h = go (same a b) refl
  where
    go : (x : Bool) → same a b ≡ x → false ≡ x
    go false e = refl
    go true e = absurd (h (ap length (same_true a b e)))
