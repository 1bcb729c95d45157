-- A second statement, proved equal.
-- What is claimed of refusals. Document 01: "Then the first faulty line; within it the lowest number, but 8–11 item by item from the left (F, C, P,
-- D, A, braces, R, W, Q: only 8 and 11)". Names of proofs/FaultLaws.antt have these types: `first_fault`, `lowest_number`, `item_by_item`,
-- `only_form`.
use Rattle.std.specs.Prelude.{ℕ, ◌+◌, ◌≤◌, ◌<◌, ◌≡◌, ◌⊎◌, ◌↔◌, Bool, true, false, cond, not, ◌||◌, List, [], ◌∷◌, ◌++◌, eqb, leb, length}
use Rattle.lists.specs.Lists.{same, All, refused, unless}
use Rattle.characters.specs.Text.{all_chars}
use Rattle.characters.specs.Rows.{rows}
use Rattle.records.specs.Table.{Kind, N, U, X, K, A, F, C, P, R, W, Q, D, among, Item}
use Rattle.records.specs.Split.{items_of}
use Rattle.records.specs.Records.{record_of, record_from, item_fault, items_fault, table_row, pairs, t911}
use Rattle.order.specs.declared.State.{State}
use Rattle.order.specs.declared.Facts.{Facts}
use Rattle.order.specs.State.{Fault}
use Rattle.order.specs.Questions.{before_of, asked_of}
use Rattle.rules.specs.Rules.{pair_broken, misplaced, missing, value_wrong, newer_group}
use Rattle.notebook.specs.Facts.{facts_of}
use Rattle.notebook.specs.Notebook.{step_line, read_file}

-- ---- the first faulty line

-- the bytes are whole lines: there are none, or the last is 0Ah
abbrev pub whole_lines : List ℕ → Bool
whole_lines [] = true
whole_lines (a ∷ []) = eqb a 0x0a
whole_lines (a ∷ b ∷ s) = whole_lines (b ∷ s)

-- p is the first lines of a file, and the refusal stands at one of them: whatever follows them, the answer is the same. A refusal at the end has
-- the line after all lines, so it is none of these.
abbrev pub FirstFault : Type 0
FirstFault =
    (p q r : List ℕ) (n line : ℕ) → whole_lines p ≡ true → length (p ++ q) ≤ 65536 → length (p ++ r) ≤ 65536
    → line ≤ length (rows p) → read_file (p ++ q) ≡ refused n line → read_file (p ++ r) ≡ refused n line

-- ---- the lowest number of a line

-- the number of a rule that is broken, else 0
abbrev pub only_if : Bool → ℕ → ℕ
only_if broken n = cond broken n 0

-- the line's own rules, 4 to 12; of its items the first that is faulty
abbrev pub item_faults : Bool → List (List ℕ) → List ℕ
item_faults provider [] = 5 ∷ []
item_faults provider (h ∷ ss) =
    unless (leb 1 (table_row h).number || same h t911) 5
    ∷ unless (not (same h t911)) 6
    ∷ unless (eqb (length ss) (length (table_row h).items)) 7
    ∷ items_fault provider (table_row h).items ss
    ∷ unless (pairs (record_from (h ∷ ss))) 12
    ∷ []

abbrev pub own_faults : Bool → List ℕ → List ℕ
own_faults provider l = unless (all_chars l) 4 ∷ item_faults provider (items_of l)

-- the rules of order, 12 to 16
abbrev pub order_faults : State → Facts → List ℕ
order_faults st r =
    only_if (pair_broken (before_of st) (asked_of st r)) 12
    ∷ only_if (misplaced (before_of st) (asked_of st r)) 13
    ∷ only_if (missing (before_of st) (asked_of st r)) 14
    ∷ only_if (value_wrong (before_of st) (asked_of st r)) 15
    ∷ only_if (newer_group (before_of st) (asked_of st r)) 16
    ∷ []

abbrev pub faults_of : State → List ℕ → List ℕ
faults_of st l = own_faults st.provider l ++ order_faults st (facts_of (record_of l))

-- n is one of them
pub data FirstGiven (n : ℕ) : List ℕ → Type 0 where
  here : {ns : List ℕ} → FirstGiven n (n ∷ ns)
  there : {m : ℕ} {ns : List ℕ} → FirstGiven n ns → FirstGiven n (m ∷ ns)

pub record Lowest (n : ℕ) (ns : List ℕ) : Type 0 where
  pub some : 0 < n
  pub given : FirstGiven n ns
  pub least : All (λ m. (m ≡ 0) ⊎ (n ≤ m)) ns

-- a line is refused with n exactly if n is the lowest number that it has
abbrev pub LowestNumber : Type 0
LowestNumber = (st : State) (l : List ℕ) (n : ℕ) → (step_line st l ≡ Fault n) ↔ Lowest n (faults_of st l)

-- ---- item by item

-- the faults of items against their row, from the left
abbrev pub each_fault : Bool → List Item → List (List ℕ) → List ℕ
each_fault provider [] ss = []
each_fault provider (i ∷ is) [] = []
each_fault provider (i ∷ is) (s ∷ ss) = item_fault provider i s ∷ each_fault provider is ss

pub record Leftmost (n : ℕ) (ns : List ℕ) : Type 0 where
  pub some : 0 < n
  pub before : List ℕ
  pub behind : List ℕ
  pub is : ns ≡ before ++ n ∷ behind
  pub none : All (λ m. m ≡ 0) before

abbrev pub ItemByItem : Type 0
ItemByItem = (provider : Bool) (is : List Item) (ss : List (List ℕ)) (n : ℕ) → 0 < n → items_fault provider is ss ≡ n → Leftmost n (each_fault provider is ss)

-- ---- "(F, C, P, D, A, braces, R, W, Q: only 8 and 11)"

-- the kinds that have 9 and 10 too
abbrev pub measured : Kind → Bool
measured (N m) = true
measured (U m) = true
measured (X m) = true
measured (K m) = true
measured A = false
measured F = false
measured C = false
measured P = false
measured R = false
measured W = false
measured Q = false
measured D = false
measured (among ns) = false

abbrev pub OnlyForm : Type 0
OnlyForm =
    (provider : Bool) (i : Item) (s : List ℕ) → measured i.kind ≡ false → 0 < item_fault provider i s
    → (item_fault provider i s ≡ 8) ⊎ (item_fault provider i s ≡ 11)
