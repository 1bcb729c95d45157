-- Parts of a list: one after another, a part of a part, the first byte of a part. Assumes nothing.
use Prim.Native.Nat.{ℕ, zero, suc, ◌+◌, ◌-◌, ◌≤◌, ◌<◌}
use native.Mathlib.Omega.{arith}
use mathlib.Core.Path.{◌≡◌, sym, ap, ◌∙◌}
use mathlib.Core.List.{List, [], ◌∷◌, ◌++◌}
use lib.ListN.{length, take, drop, get_or, length-take, length-drop}
use lib.Seq.{take-nil, take-take, take-add, take-suc, drop-drop, get_or-take, get_or-drop}
use Rattle.lists.specs.Searching.{part}

pub part_length : (s : List ℕ) (a e : ℕ) → a ≤ e → e ≤ length s → length (part s a e) ≡ e - a
part_length s a e h g = simp (length-take, length-drop) (omega arith)

pub part_none : (s : List ℕ) (a : ℕ) → part s a a ≡ []
part_none s a = let z : a - a ≡ 0 = omega arith in rw z

-- one byte more
pub part_more : (s : List ℕ) (a i : ℕ) → a ≤ i → i < length s → part s a (i + 1) ≡ part s a i ++ (get_or s i 0 ∷ [])
part_more s a i h g =
    let n : i + 1 - a ≡ suc (i - a) = omega arith in
    let m : a + (i - a) ≡ i = omega arith in
    ap (λ (k : ℕ). take k (drop a s)) n ∙ take-suc (drop a s) (i - a) 0 (omega (arith, length-drop a s))
    ∙ ap (λ (b : ℕ). part s a i ++ (b ∷ [])) (get_or-drop a s (i - a) 0 ∙ ap (λ (k : ℕ). get_or s k 0) m)

-- a byte of a part
pub part_at : (s : List ℕ) (a e i : ℕ) → i < e - a → get_or (part s a e) i 0 ≡ get_or s (a + i) 0
part_at s a e i h = get_or-take (e - a) (drop a s) i 0 h ∙ get_or-drop a s i 0

-- one part after another
pub part_join : (s : List ℕ) (a b e : ℕ) → a ≤ b → b ≤ e → part s a b ++ part s b e ≡ part s a e
part_join s a b e h g =
    let n : e - a ≡ (b - a) + (e - b) = omega arith in
    let m : a + (b - a) ≡ b = omega arith in
    ap (λ (x : List ℕ). part s a b ++ take (e - b) x) (sym (drop-drop (b - a) a s ∙ ap (λ (j : ℕ). drop j s) m))
    ∙ (sym (take-add (b - a) (e - b) (drop a s)) ∙ ap (λ (j : ℕ). take j (drop a s)) (sym n))

pub drop_take : (i n : ℕ) (l : List ℕ) → drop i (take n l) ≡ take (n - i) (drop i l)
drop_take zero n l = let z : n - 0 ≡ n = omega arith in rw z
drop_take (suc i) zero l = let z : 0 - suc i ≡ 0 = omega arith in rw z
drop_take (suc i) (suc n) [] = sym (take-nil (suc n - suc i))
drop_take (suc i) (suc n) (a ∷ l) = let z : suc n - suc i ≡ n - i = omega arith in rw z (drop_take i n l)

-- a part of a part
pub part_part : (s : List ℕ) (a e i j : ℕ) → i ≤ j → a + j ≤ e → part (part s a e) i j ≡ part s (a + i) (a + j)
part_part s a e i j h g =
    let n : a + j - (a + i) ≡ j - i = omega arith in
    ap (take (j - i)) (drop_take i (e - a) (drop a s) ∙ ap (take (e - a - i)) (drop-drop i a s))
    ∙ (take-take (j - i) (e - a - i) (drop (a + i) s) (omega arith) ∙ ap (λ (k : ℕ). take k (drop (a + i) s)) (sym n))

-- the first byte, and the others
pub part_first : (s : List ℕ) (p e : ℕ) → p < e → part s p (p + 1) ≡ take 1 (part s p e)
part_first s p e h =
    let z : p + 1 - p ≡ 1 = omega arith in
    ap (λ (k : ℕ). take k (drop p s)) z ∙ sym (take-take 1 (e - p) (drop p s) (omega arith))

pub part_others : (s : List ℕ) (p e : ℕ) → p < e → part s (p + 1) e ≡ drop 1 (part s p e)
part_others s p e h =
    let z : e - (p + 1) ≡ e - p - 1 = omega arith in
    sym (drop_take 1 (e - p) (drop p s) ∙ ap (take (e - p - 1)) (drop-drop 1 p s) ∙ ap (λ (k : ℕ). take k (drop (p + 1) s)) (sym z))
