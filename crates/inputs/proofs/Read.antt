-- A buffer that is read into behind an end. Assumes nothing.
use Rattle.std.proofs.Common.{ℕ, ◌≡◌, List, ◌++◌, length, take, drop, sym, ap, ◌∙◌, ◌+◌, ◌≤◌, arith, length-append}
use Rattle.std.proofs.lemmas.List.{take-append-le, drop-append-le, length-take-le}
use Rattle.std.proofs.Math.Seq.{take-append-add}
use borrow.Rule.Slice.PartMut.{put_mid, post_of}

-- the next bytes stand behind those that were read before
pub read_more : (at end more k : ℕ) (xs ys : List ℕ) → at ≤ end → end ≤ length xs → more ≤ length ys
    → drop at (take (end + more) (put_mid end k xs ys)) ≡ drop at (take end xs) ++ take more ys
read_more at end more k xs ys h i j =
    let p = take end xs in
    let n : length p ≡ end = length-take-le end xs i in
    let rest = ys ++ post_of end k xs in
    let t : take (end + more) (p ++ rest) ≡ p ++ take more ys
    = ap (λ v. take (v + more) (p ++ rest)) (sym n) ∙ take-append-add p rest more ∙ ap (λ v. p ++ v) (take-append-le more ys (post_of end k xs) j) in
    ap (λ v. drop at v) t ∙ drop-append-le at p (take more ys) (omega (arith, n))

-- and are inside the buffer
pub read_inside : (end more k : ℕ) (xs ys : List ℕ) → end ≤ length xs → more ≤ length ys → end + more ≤ length (put_mid end k xs ys)
read_inside end more k xs ys h i =
    let rest = post_of end k xs in
    omega (arith, length-take-le end xs h, length-append (take end xs) (ys ++ rest), length-append ys rest)
