-- The items of a row, by one induction over the law of a kind: nothing here is about one record. Assumes nothing.
use Prim.Native.Nat.{ℕ, ◌≤◌}
use mathlib.Core.Path.{◌≡◌, refl, sym, ◌∙◌, subst}
use mathlib.Core.Bool.{Bool}
use mathlib.Core.Logic.{◌⊎◌, inl, ⊎_elim}
use mathlib.Core.List.{List, [], ◌∷◌, map}
use native.Mathlib.Omega.{arith}
use lib.ListN.{length}
use Rattle.lists.specs.Lists.{All}
use Rattle.lists.proofs.Tests.{or_zero_lem, both_zero}
use Rattle.calendar.proofs.Laws.{Plain}
use Rattle.records.specs.Table.{Item}
use Rattle.records.specs.Items.{Value, write_value, fault, value_of}
use Rattle.records.specs.Records.{item_fault, item_value, items_fault, items_value}
use Rattle.records.proofs.KindLaws.{Good, good}
use Rattle.records.proofs.Splits.{NoComma, AllChars, weight, plain_chars, plain_no_comma}

-- an item of a line of characters
abbrev pub Fine : List ℕ → Type 0
Fine s = AllChars s × NoComma s

-- v is what the item s is read to
record Kept (d : Bool) (i : Item) (s : List ℕ) (v : Value) : Type 0 where
  again : item_fault d i (write_value v) ≡ 0
  same : item_value i (write_value v) ≡ v
  short : length (write_value v) ≤ length s
  spelled : (write_value v ≡ s) ⊎ Plain (write_value v)

kind_of_lem : (d : Bool) (i : Item) (w : List ℕ) → 1 ≤ length w → (item_fault d i w ≡ fault i.kind w) × (item_value i w ≡ value_of i.kind w)
unfolding item_fault item_value
kind_of_lem d i [] h = absurd (omega arith)
kind_of_lem d i (b ∷ w) h = (refl, refl)

item_kept : (d : Bool) (i : Item) (s : List ℕ) → item_fault d i s ≡ 0 → Kept d i s (item_value i s)
unfolding item_fault item_value
item_kept d i [] h = record { again = h; same = refl; short = omega arith; spelled = inl refl }
item_kept d i (b ∷ s) h =
    let g : Good i.kind (b ∷ s) (value_of i.kind (b ∷ s)) = good i.kind (b ∷ s) h in
    let w = write_value (value_of i.kind (b ∷ s)) in
    let k : (item_fault d i w ≡ fault i.kind w) × (item_value i w ≡ value_of i.kind w) = kind_of_lem d i w (g.some (omega arith)) in
    record { again = k.0 ∙ g.again; same = k.1 ∙ g.same; short = g.short; spelled = g.spelled }

fine_written : (s w : List ℕ) → (w ≡ s) ⊎ Plain w → Fine s → Fine w
fine_written s w o f = ⊎_elim (λ e. subst Fine (sym e) f) (λ p. (plain_chars w p, plain_no_comma w p)) o

-- the items as they are written
abbrev pub written : List Item → List (List ℕ) → List (List ℕ)
written is ss = map write_value (items_value is ss)

pub record Written (d : Bool) (is : List Item) (ss : List (List ℕ)) : Type 0 where
  pub again : items_fault d is (written is ss) ≡ 0
  pub same : items_value is (written is ss) ≡ items_value is ss
  pub count : length (written is ss) ≡ length is
  pub short : weight (written is ss) ≤ weight ss
  pub fine : All Fine (written is ss)

pub items_written : (d : Bool) (is : List Item) (ss : List (List ℕ)) → length ss ≡ length is → items_fault d is ss ≡ 0 → All Fine ss → Written d is ss
unfolding items_fault items_value
items_written d [] [] n h f = record { again = refl; same = refl; count = refl; short = omega arith; fine = tt }
items_written d [] (s ∷ ss) n h f = absurd (omega arith)
items_written d (i ∷ is) [] n h f = absurd (omega arith)
items_written d (i ∷ is) (s ∷ ss) n h (f, fs) =
    let z : (item_fault d i s ≡ 0) × (items_fault d is ss ≡ 0) = or_zero_lem (item_fault d i s) (items_fault d is ss) h in
    let k : Kept d i s (item_value i s) = item_kept d i s z.0 in
    let r : Written d is ss = items_written d is ss (omega arith) z.1 fs in
    let a : item_value i (write_value (item_value i s)) ≡ item_value i s = k.same in
    let b : items_value is (written is ss) ≡ items_value is ss = r.same in
    record {
      again = both_zero (item_fault d i (write_value (item_value i s))) (items_fault d is (written is ss)) k.again r.again;
      same = cc;
      count = omega (arith, r.count);
      short = omega (arith, k.short, r.short);
      fine = (fine_written s (write_value (item_value i s)) k.spelled f, r.fine);
    }
