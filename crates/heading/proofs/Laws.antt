-- Line 1: the ways through the code, and what its answer says of a row. Assumes nothing.
use Prim.Native.Nat.{ℕ}
use mathlib.Core.Path.{◌≡◌, refl, sym, ap, ap₂, ◌∙◌}
use mathlib.Core.Bool.{Bool, true, false, cond}
use mathlib.Core.List.{List, [], ◌∷◌}
use lib.ListN.{length}
use Rattle.std.specs.Array.{IsWholeChunk}
use Rattle.lists.specs.Lists.{bytes, same}
use Rattle.lists.proofs.Tests.{same_true}
use Rattle.lists.proofs.Loops.{same_length}
use Rattle.records.specs.Records.{header}
use Rattle.notebook.specs.Canonical.{head_row}
use Rattle.std.specs.Prelude.{Option, Some, None}
use Rattle.heading.specs.Reading.{heading_of}

-- ---- the texts

-- line 1 with its line end, as the code's bytes have it
abbrev line1 : ℕ → List ℕ
line1 d = 74 ∷ 65 ∷ 72 ∷ 73 ∷ 83 ∷ 84 ∷ 67 ∷ 48 ∷ 52 ∷ 44 ∷ d ∷ 13 ∷ 10 ∷ []

pub heading_bytes : (provider : Bool) → head_row provider ≡ line1 (cond provider 49 50)
unfolding header bytes
heading_bytes true = refl
heading_bytes false = refl

pub row_provider : {provider : Bool} → provider ≡ true → line1 49 ≡ head_row provider
row_provider e = sym (ap head_row e ∙ heading_bytes true)

pub row_patient : {provider : Bool} → provider ≡ false → line1 50 ≡ head_row provider
row_patient e = sym (ap head_row e ∙ heading_bytes false)

pub ruleset row_laws = (row_provider, row_patient)

-- ---- the ways through read_heading

pub heading_length : (row : List ℕ) {r : Option Bool} → (length row ≡ 13 → ⊥) → r ≡ None → r ≡ heading_of row
unfolding heading_of
heading_length row {r} h q = q ∙ rw (other true, other false)
  where
    other : (d : Bool) → same row (head_row d) ≡ false
    other d = sym (same_length row (head_row d) (λ e. h (e ∙ ap length (heading_bytes d))))

module _ {row a l : List ℕ} {x : Bool} (w : IsWholeChunk row a 13) (o : l ≡ head_row true) (p : x ≡ same a l) where
  first : same row (head_row true) ≡ x
  first = ap₂ same (sym w.same) (sym o) ∙ sym p

  pub heading_provider : x ≡ true → Some true ≡ heading_of row
  unfolding heading_of
  heading_provider q = rw (first ∙ q)

  module _ (q : x ≡ false) {m : List ℕ} {y : Bool} (u : m ≡ head_row false) (r : y ≡ same a m) where
    second : same row (head_row false) ≡ y
    second = ap₂ same (sym w.same) (sym u) ∙ sym r

    pub heading_patient : y ≡ true → Some false ≡ heading_of row
    unfolding heading_of
    heading_patient t = rw (first ∙ q, second ∙ t)

    pub heading_other : y ≡ false → None ≡ heading_of row
    unfolding heading_of
    heading_other t = rw (first ∙ q, second ∙ t)

-- ---- what is read says of a row

some_same : {a b : Bool} → Some a ≡ Some b → a ≡ b
some_same e = cc

module _ (row : List ℕ) {k : Option Bool} (p : k ≡ heading_of row) where
  by_tests : (x y : Bool) → same row (head_row true) ≡ x → same row (head_row false) ≡ y → k ≡ cond x (Some true) (cond y (Some false) None)
  unfolding heading_of
  by_tests x y a b = p ∙ rw (a, b)

  pub heading_is : {d : Bool} → k ≡ Some d → row ≡ head_row d
  heading_is {d} q = go (same row (head_row true)) (same row (head_row false)) refl refl
    where
      go : (x y : Bool) → same row (head_row true) ≡ x → same row (head_row false) ≡ y → row ≡ head_row d
      go true y a b = let e : true ≡ d = some_same (sym (by_tests true y a b) ∙ q) in same_true row (head_row true) a ∙ ap head_row e
      go false true a b = let e : false ≡ d = some_same (sym (by_tests false true a b) ∙ q) in same_true row (head_row false) b ∙ ap head_row e
      go false false a b = let u : None ≡ Some d = sym (by_tests false false a b) ∙ q in cc

  pub heading_not : k ≡ None → (d : Bool) → same row (head_row d) ≡ false
  heading_not q = go (same row (head_row true)) (same row (head_row false)) refl refl
    where
      go : (x y : Bool) → same row (head_row true) ≡ x → same row (head_row false) ≡ y → (d : Bool) → same row (head_row d) ≡ false
      go true y a b d = let u : Some true ≡ None = sym (by_tests true y a b) ∙ q in cc
      go false true a b d = let u : Some false ≡ None = sym (by_tests false true a b) ∙ q in cc
      go false false a b true = a
      go false false a b false = b
