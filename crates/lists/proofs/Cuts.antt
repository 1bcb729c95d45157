-- Lists cut by `drop`, `take` and `up_to`. Assumes nothing.
use Prim.Native.Nat.{ℕ, suc, ◌+◌, ◌-◌, ◌≤◌, ◌<◌, zero-le, suc-le-suc}
use native.Mathlib.Nat.{not-suc-le-zero, le_of_suc-le-suc}
use mathlib.Core.Path.{◌≡◌, refl, sym, ap, ◌∙◌}
use mathlib.Core.Bool.{Bool, true, false, cond}
use mathlib.Core.List.{List, [], ◌∷◌, ◌++◌}
use native.Mathlib.Numerals.{add-one}
use native.Mathlib.Omega.{arith}
use lib.ListN.{length, take, drop, get_or, length-drop, drop_of_length-le, take-append-drop}
use lib.Seq.{drop-cons, take_all}
use Rattle.lists.specs.Lists.{up_to}

module _ {ℓ} {A : Type ℓ} where
  -- a `while i < s.len()` that reads s[i]: one element off the rest
  pub drop_step : (s : List A) (i : ℕ) (d : A) → i < length s → drop i s ≡ get_or s i d ∷ drop (i + 1) s
  drop_step s i d h = rw (add-one, drop-cons s i d)

  -- after the loop: nothing is left
  pub drop_end : (s : List A) (i : ℕ) → length s ≤ i → drop i s ≡ []
  drop_end s i h = drop_of_length-le s h

  pub two_on : (s : List A) (i : ℕ) (d : A) → i + 1 < length s → drop i s ≡ get_or s i d ∷ get_or s (i + 1) d ∷ drop (i + 2) s
  two_on s i d h =
      let e : i + 1 + 1 ≡ i + 2 = omega arith in
      rw (drop_step s i d (omega arith), drop_step s (i + 1) d h, e)

  pub last_on : (s : List A) (i : ℕ) (d : A) → i < length s → length s ≤ i + 1 → drop i s ≡ get_or s i d ∷ []
  last_on s i d h k = rw (drop_step s i d h, drop_end s (i + 1) k)

  -- the part `&s[n..]`
  pub rest_all : (n : ℕ) (s : List A) → take (length s - n) (drop n s) ≡ drop n s
  rest_all n s = take_all (length s - n) (drop n s) (omega (arith, length-drop n s))

-- `up_to p` from a position: at a byte that p picks out, at another, and past the end
module _ (p : ℕ → Bool) (s : List ℕ) (i : ℕ) where
  pub up_to_hit : i < length s → p (get_or s i 0) ≡ true → up_to p (drop i s) ≡ []
  up_to_hit h t = rw (drop_step s i 0 h) (simp t)

  pub up_to_go : i < length s → p (get_or s i 0) ≡ false → up_to p (drop i s) ≡ get_or s i 0 ∷ up_to p (drop (i + 1) s)
  up_to_go h t = rw (drop_step s i 0 h) (simp t)

  pub up_to_out : length s ≤ i → up_to p (drop i s) ≡ []
  up_to_out h = rw (drop_end s i h)

-- the cut is a front part of the list, and what follows it is nothing or begins with a byte that p picks out
pub take_up_to : (p : ℕ → Bool) (l : List ℕ) → take (length (up_to p l)) l ≡ up_to p l
take_up_to p [] = refl
take_up_to p (a ∷ l) = go (p a) (take_up_to p l)
  where
    go : (b : Bool) → take (length (up_to p l)) l ≡ up_to p l → take (length (cond b [] (a ∷ up_to p l))) (a ∷ l) ≡ cond b [] (a ∷ up_to p l)
    go true ih = refl
    go false ih = ap (λ (r : List ℕ). a ∷ r) ih

pub up_to_le : (p : ℕ → Bool) (l : List ℕ) → length (up_to p l) ≤ length l
up_to_le p [] = zero-le
up_to_le p (a ∷ l) = go (p a) (up_to_le p l)
  where
    go : (b : Bool) → length (up_to p l) ≤ length l → length (cond b [] (a ∷ up_to p l)) ≤ suc (length l)
    go true ih = zero-le
    go false ih = suc-le-suc ih

-- the byte after the cut, if there is one, is picked out
pub up_to_stop : (p : ℕ → Bool) (l : List ℕ) (d : ℕ) → length (up_to p l) < length l → p (get_or l (length (up_to p l)) d) ≡ true
up_to_stop p [] d = λ h. absurd (not-suc-le-zero h)
up_to_stop p (a ∷ l) d = go (p a) refl (up_to_stop p l d)
  where
    go : (b : Bool) → p a ≡ b → (length (up_to p l) < length l → p (get_or l (length (up_to p l)) d) ≡ true)
        → length (cond b [] (a ∷ up_to p l)) < suc (length l) → p (get_or (a ∷ l) (length (cond b [] (a ∷ up_to p l))) d) ≡ true
    go true e ih h = e
    go false e ih h = ih (le_of_suc-le-suc h)

-- the list is the cut and what follows it
pub up_to_split : (p : ℕ → Bool) (l : List ℕ) → up_to p l ++ drop (length (up_to p l)) l ≡ l
up_to_split p l = ap (λ (t : List ℕ). t ++ drop (length (up_to p l)) l) (sym (take_up_to p l)) ∙ take-append-drop (length (up_to p l)) l
