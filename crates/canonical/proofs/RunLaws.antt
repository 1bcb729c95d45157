-- A file in runs: what waits is as good as written, and a run that is copied makes it so. Assumes nothing.
use Prim.Native.Nat.{ℕ, ◌+◌, ◌-◌, ◌≤◌}
use native.Mathlib.Omega.{arith}
use mathlib.Core.Path.{◌≡◌, refl, sym, ap, ◌∙◌}
use mathlib.Core.Bool.{Bool, false}
use mathlib.Core.List.{List, ◌++◌}
use lib.ListN.{length, take, drop}
use lib.Seq.{sets, length-sets}
use Rattle.lists.specs.Searching.{part}
use Rattle.buffers.specs.Buffers.{Room, Wrote}
use Rattle.buffers.proofs.Runs.{sets_append, then}
use Rattle.records.specs.Table.{Kind}
use Rattle.canonical.specs.declared.Run.{Run}
use Rattle.canonical.specs.Writing.{item_bytes, OwnUnless, ahead, reach, Ready, Passed, Lies}
use Rattle.lists.proofs.Parts.{part_length, part_none, part_join}

-- one after another
pub passes : {s d d₁ d₂ : List ℕ} {run r t : Run} {p m e : ℕ} {v w : List ℕ} → Passed s d d₁ run r p m v → Passed s d₁ d₂ r t m e w → Passed s d d₂ run t p e (v ++ w)
passes x y = record { wrote = then x.wrote y.wrote; low = y.low; size = y.size ∙ x.size }

-- kept bytes wait
pub waits : (s d : List ℕ) (run : Run) (p e : ℕ) (w : List ℕ) → p ≤ e → e ≤ length s → part s p e ≡ w → Ready d run p w → Passed s d d run run p e w
waits s d run p e w m h q r =
    let n : length w ≡ e - p = sym (ap length q) ∙ part_length s p e m h in
    let f : length (part s run.from p) ≡ p - run.from = part_length s run.from p r.low (omega arith) in
    let a : part s run.from e ≡ part s run.from p ++ w = sym (part_join s run.from p e r.low m) ∙ ap (λ (x : List ℕ). part s run.from p ++ x) q in
    let z : length (ahead s d run p) ≡ length d = length-sets d run.at (part s run.from p) in
    record {
      wrote = record {
        next = omega (arith, n, r.low);
        list = ap (sets d run.at) a ∙ sets_append (part s run.from p) d run.at w ∙ ap (λ (k : ℕ). sets (ahead s d run p) (run.at + k) w) f;
        size = length-sets d run.at (part s run.from e) ∙ sym z;
        high = omega (arith, n, r.low, r.room, z);
      };
      low = omega (arith, r.low);
      size = refl;
    }

-- a run is copied, and w is written after it, for the bytes up to e
pub copied : (s : List ℕ) {d d₁ d₂ : List ℕ} (run : Run) (p e : ℕ) {a b : ℕ} {w : List ℕ} → run.from ≤ p → p ≤ length s
    → Wrote d d₁ run.at a (part s run.from p) → Wrote d₁ d₂ a b w → Passed s d d₂ run (record { from = e; at = b }) p e w
copied s {d} {d₁} {d₂} run p e {a} {b} {w} l h x y =
    let n : a ≡ reach run p = x.next ∙ ap (λ (k : ℕ). run.at + k) (part_length s run.from p l h) in
    let o : sets d₂ b (part s e e) ≡ d₂ = ap (sets d₂ b) (part_none s e) in
    let i : Wrote (ahead s d run p) d₂ (reach run p) b w = rw (x.list, n) at y in
    record {
      wrote = record {
        next = omega (arith, i.next);
        list = o ∙ i.list;
        size = ap length o ∙ i.size;
        high = omega (arith, i.high);
      };
      low = omega arith;
      size = y.size ∙ x.size;
    }

-- ---- one item

module _ (s d : List ℕ) (run : Run) (a e : ℕ) (c : Kind) (t : Lies s a e) (r : Ready d run a (item_bytes c (take (e - a) (drop a s)))) where
  pub respell_from : run.from ≤ a
  respell_from = r.low

  pub respell_own : {b : Bool} → OwnUnless b c (take (e - a) (drop a s)) → b ≡ false → Passed s d d run run a e (item_bytes c (take (e - a) (drop a s)))
  respell_own o f = waits s d run a e _ t.low t.high (sym (o.own f)) r

  run_length : length (part s run.from a) ≡ a - run.from
  run_length = part_length s run.from a r.low (omega (arith, t.low, t.high))

  pub respell_room : Room d run.at (take (a - run.from) (drop run.from s))
  respell_room = omega (arith, r.room, run_length)

  module _ {d₁ : List ℕ} {n : ℕ} (x : Wrote d d₁ run.at n (take (a - run.from) (drop run.from s))) where
    pub respell_item_room : Room d₁ n (item_bytes c (take (e - a) (drop a s)))
    respell_item_room = omega (arith, r.room, x.next, x.size, run_length)

    pub respell_done : {d₂ : List ℕ} {b : ℕ} → Wrote d₁ d₂ n b (item_bytes c (take (e - a) (drop a s))) → Passed s d d₂ run (record { from = e; at = b }) a e (item_bytes c (take (e - a) (drop a s)))
    respell_done y = copied s run a e r.low (omega (arith, t.low, t.high)) x y

pub ruleset respell_laws = (respell_from, respell_own, respell_room, respell_item_room, respell_done)
