-- The numbers that a line can be refused with: 4 to 16, and 6 only for a record 911 (`step_number`). Assumes nothing.
use Prim.Native.Nat.{ℕ, ◌≤◌, ◌<◌}
use native.Mathlib.Omega.{arith}
use mathlib.Core.Path.{◌≡◌, refl}
use mathlib.Core.Bool.{Bool, true, false, not, ◌||◌}
use mathlib.Core.List.{List, [], ◌∷◌, ◌++◌}
use lib.Dec.{eqb, leb}
use lib.ListN.{length}
use Rattle.lists.specs.Lists.{same, unless}
use Rattle.characters.specs.Text.{all_chars}
use Rattle.records.specs.Split.{items_of}
use Rattle.records.specs.Records.{record_of, record_from, items_fault, table_row, pairs, t911, first_of, is_mark}
use Rattle.order.specs.declared.State.{State}
use Rattle.order.specs.declared.Facts.{Facts}
use Rattle.order.specs.State.{Fault}
use Rattle.order.specs.Questions.{before_of, asked_of}
use Rattle.rules.specs.Rules.{pair_broken, misplaced, missing, value_wrong, newer_group}
use Rattle.notebook.specs.Facts.{facts_of}
use Rattle.notebook.specs.Notebook.{step_line}
use Rattle.faults.specs.Faults.{only_if, item_faults, order_faults, faults_of, FirstGiven, here, there, Lowest}
use Rattle.faults.proofs.FaultLaws.{OfItem, items_item, lowest_number}

-- 0, or a number that a line can have; marked: the line is a record 911
abbrev OfLine : Bool → ℕ → Type 0
OfLine marked n = 0 < n → (4 ≤ n) × (n ≤ 16) × (n ≡ 6 → marked ≡ true)

data Numbers (marked : Bool) : List ℕ → Type 0 where
  end : Numbers marked []
  more : {n : ℕ} {ns : List ℕ} → OfLine marked n → Numbers marked ns → Numbers marked (n ∷ ns)

among : {marked : Bool} {n : ℕ} {ns : List ℕ} → FirstGiven n ns → Numbers marked ns → OfLine marked n
among here (more h t) = h
among (there g) (more h t) = among g t

-- the number of a rule, any but 6
unless_number : {marked : Bool} {ns : List ℕ} (b : Bool) (n : ℕ) → 4 ≤ n → n ≤ 16 → (n ≡ 6 → ⊥) → Numbers marked ns → Numbers marked (unless b n ∷ ns)
unless_number true n lo hi other r = more {n = 0} (λ (z : 0 < 0). absurd (omega arith)) r
unless_number false n lo hi other r = more {n = n} (λ z. (lo, hi, λ e. absurd (other e))) r

when_number : {marked : Bool} {ns : List ℕ} (b : Bool) (n : ℕ) → 4 ≤ n → n ≤ 16 → (n ≡ 6 → ⊥) → Numbers marked ns → Numbers marked (only_if b n ∷ ns)
when_number true n lo hi other r = more {n = n} (λ z. (lo, hi, λ e. absurd (other e))) r
when_number false n lo hi other r = more {n = 0} (λ (z : 0 < 0). absurd (omega arith)) r

six : (marked : Bool) → OfLine marked (unless (not marked) 6)
six true = λ h. (omega arith, omega arith, λ e. refl)
six false = λ h. absurd (omega arith)

of_item : (marked : Bool) (n : ℕ) → OfItem n → OfLine marked n
of_item marked n i = λ h. let z = i h in (omega arith, omega arith, λ e. absurd (omega arith))

order_numbers : (marked : Bool) (st : State) (r : Facts) → Numbers marked (order_faults st r)
order_numbers m st r =
    let b = before_of st in
    let a = asked_of st r in
    when_number (pair_broken b a) 12 (omega arith) (omega arith) (λ e. omega arith)
    (when_number (misplaced b a) 13 (omega arith) (omega arith) (λ e. omega arith)
    (when_number (missing b a) 14 (omega arith) (omega arith) (λ e. omega arith)
    (when_number (value_wrong b a) 15 (omega arith) (omega arith) (λ e. omega arith)
    (when_number (newer_group b a) 16 (omega arith) (omega arith) (λ e. omega arith) end))))

item_numbers : (provider : Bool) (hs : List (List ℕ)) (ns : List ℕ) → Numbers (same (first_of hs) t911) ns
    → Numbers (same (first_of hs) t911) (item_faults provider hs ++ ns)
item_numbers provider [] ns r = unless_number false 5 (omega arith) (omega arith) (λ e. omega arith) r
item_numbers provider (h ∷ ss) ns r =
    unless_number (leb 1 (table_row h).number || same h t911) 5 (omega arith) (omega arith) (λ e. omega arith)
    (more (six (same h t911))
    (unless_number (eqb (length ss) (length (table_row h).items)) 7 (omega arith) (omega arith) (λ e. omega arith)
    (more (of_item (same h t911) (items_fault provider (table_row h).items ss) (items_item provider (table_row h).items ss))
    (unless_number (pairs (record_from (h ∷ ss))) 12 (omega arith) (omega arith) (λ e. omega arith) r))))

line_numbers : (st : State) (l : List ℕ) → Numbers (is_mark l) (faults_of st l)
unfolding is_mark
line_numbers st l =
    unless_number (all_chars l) 4 (omega arith) (omega arith) (λ e. omega arith)
    (item_numbers st.provider (items_of l) _ (order_numbers (is_mark l) st (facts_of (record_of l))))

-- a line that is refused
pub record LineRefused (marked : Bool) (n : ℕ) : Type 0 where
  pub low : 4 ≤ n
  pub high : n ≤ 16
  pub six : n ≡ 6 → marked ≡ true

pub step_number : (st : State) (l : List ℕ) (n : ℕ) → step_line st l ≡ Fault n → LineRefused (is_mark l) n
step_number st l n e =
    let g : Lowest n (faults_of st l) = (lowest_number st l n).0 e in
    let z = among g.given (line_numbers st l) g.some in
    record { low = z.0; high = z.1; six = z.2 }
