-- Known bytes over several writes: those that one write adds stand behind those of the writes before it. Assumes nothing.
use Rattle.std.proofs.Common.{ℕ, ◌+◌, ◌≡◌, List, length, take, drop, Option, take-add, take_all, ◌-◌, ◌≤◌, length-drop, arith}
use Rattle.std.proofs.KnownBytes.{Appends-trans}
use Rattle.std.specs.Io.KnownBytes.{Appends}
use Rattle.answers.specs.Written.{WrittenInPart}

pub appends_more : (a b c : Option (List ℕ)) (done more : ℕ) (s : List ℕ) → Appends a b (take done s)
    → Appends b c (take more (take (length s - done) (drop done s))) → Appends a c (take (done + more) s)
appends_more a b c done more s h k =
    let l : length (drop done s) ≤ length s - done = omega (arith, length-drop done s) in
    let e : take (length s - done) (drop done s) ≡ drop done s = take_all (length s - done) (drop done s) l in
    rw (take-add done more s) (Appends-trans a b c (take done s) (take more (drop done s)) h (rw e at k))

-- what was written of a buffer's front
pub part_of : (a b : Option (List ℕ)) {s t : List ℕ} → s ≡ t → WrittenInPart a b s → WrittenInPart a b t
part_of a b e w = rw e at w
