-- The facts and pairs of a record are those of its items' bytes: the table's first items by one computed test each, the two rows that
-- have more by their places. Assumes nothing.
use Prim.Native.Nat.{ℕ, zero, suc, ◌≤◌, ◌<◌}
use mathlib.Core.Path.{◌≡◌, refl, ap, ap₂, ◌∙◌}
use mathlib.Core.Bool.{Bool, true, false, cond, not, ◌&&◌, false≢true, beq}
use Rattle.std.specs.Prelude.{Option, Some, None, unwrap_or}
use mathlib.Core.List.{List, [], ◌∷◌}
use native.Mathlib.Omega.{arith}
use borrow.Author.Tests.{le-leb, eqb-true, eqb-false, ne_eqb}
use lib.Dec.{eqb}
use lib.ListN.{length, get_or}
use Rattle.lists.specs.Lists.{empty, member}
use Rattle.digits.specs.Digits.{number}
use Rattle.calendar.specs.declared.Day.{Day}
use Rattle.calendar.specs.Era.{read_day}
use Rattle.records.specs.Table.{Kind, N, U, X, K, A, F, C, P, R, W, Q, D, among, forms, Item, Row, table, from_provider, optional}
use Rattle.records.specs.Items.{Value, raw, value_of, number_value, day_value}
use Rattle.records.specs.Records.{item_value, items_value, nth, is_empty, code_pair, form_pair, pairs}
use Rattle.notebook.specs.Facts.{num_of, day_of, spelled, facts_of}
use Rattle.table.specs.Rows.{row_by, paper_row}
use Rattle.lines.specs.Details.{code_raw, form_raw, pairs_raw, rp_raw, day_raw, rp_records, facts_raw}
use Rattle.table.proofs.TableLaws.{all_rows, listed_row}
use Rattle.lines.proofs.RowLaws.{paper_number}

-- ---- values by their place

pub blank : Item
blank = record { kind = N 0; need = optional }

pub value_at : (is : List Item) (ss : List (List ℕ)) (j : ℕ) → length ss ≡ length is → j < length is → get_or (items_value is ss) j (raw []) ≡ item_value (get_or is j blank) (get_or ss j [])
unfolding items_value
value_at [] ss j n h = absurd (omega arith)
value_at (i ∷ is) [] j n h = absurd (omega arith)
value_at (i ∷ is) (s ∷ ss) zero n h = refl
value_at (i ∷ is) (s ∷ ss) (suc j) n h = value_at is ss j (omega arith) (omega arith)

-- an item of these kinds is its bytes
among_text : (ns : List ℕ) (s : List ℕ) → item_value (record { kind = among ns; need = from_provider }) s ≡ raw s
unfolding item_value value_of
among_text ns [] = refl
among_text ns (b ∷ s) = refl

code_text : (m : ℕ) (s : List ℕ) → item_value (record { kind = X m; need = optional }) s ≡ raw s
unfolding item_value value_of
code_text m [] = refl
code_text m (b ∷ s) = refl

unit_text : (m : ℕ) (s : List ℕ) → item_value (record { kind = N m; need = from_provider }) s ≡ raw s
unfolding item_value value_of
unit_text m [] = refl
unit_text m (b ∷ s) = refl

name_text : (m : ℕ) (s : List ℕ) → item_value (record { kind = N m; need = optional }) s ≡ raw s
unfolding item_value value_of
name_text m [] = refl
name_text m (b ∷ s) = refl

-- ---- the first item: a value of kind R, a day of kind D, else neither

-- kinds told apart by a number
tag : Kind → ℕ
tag (N m) = 0
tag (U m) = 0
tag (X m) = 0
tag (K m) = 0
tag A = 0
tag F = 0
tag C = 0
tag P = 0
tag R = 1
tag W = 0
tag Q = 0
tag D = 2
tag (among ns) = 0

is_r : Kind → Bool
is_r k = eqb (tag k) 1

is_d : Kind → Bool
is_d k = eqb (tag k) 2

num_number : (o : Option ℕ) → num_of (number_value o) ≡ unwrap_or o 0
num_number None = refl
num_number (Some n) = refl

day_number : (o : Option ℕ) → day_of (number_value o) ≡ 0
day_number None = refl
day_number (Some n) = refl

num_day : (o : Option Day) → num_of (day_value o) ≡ 0
num_day (Some d) = refl
num_day None = refl

record First (k : Kind) (s : List ℕ) (v : Value) : Type 0 where
  num : num_of v ≡ cond (is_r k) (rp_raw s) 0
  day : day_of v ≡ cond (is_d k) (day_raw s) 0

kept : (k : Kind) (s t : List ℕ) → is_r k ≡ false → is_d k ≡ false → First k s (raw t)
kept k s t p q = record { num = rw p; day = rw q }

value_first : (k : Kind) (s : List ℕ) → First k s (value_of k s)
unfolding value_of is_r is_d tag rp_raw day_raw
value_first (N m) s = kept (N m) s s refl refl
value_first (U m) s = kept (U m) s s refl refl
value_first (X m) s = kept (X m) s s refl refl
value_first (K m) s = kept (K m) s s refl refl
value_first A s = kept A s s refl refl
value_first F s = kept F s s refl refl
value_first C s = kept C s s refl refl
value_first P s = kept P s _ refl refl
value_first R s = record { num = num_number (number s); day = day_number (number s) }
value_first W s = kept W s s refl refl
value_first Q s = kept Q s s refl refl
value_first D s = record { num = num_day (read_day s); day = refl }
value_first (among ns) s = kept (among ns) s s refl refl

none_first : (k : Kind) → First k [] (raw [])
unfolding rp_raw day_raw number read_day
none_first k = record { num = zero_both (is_r k); day = zero_both (is_d k) }
  where
    zero_both : (b : Bool) → ◌≡◌ {A = ℕ} 0 (cond b 0 0)
    zero_both true = refl
    zero_both false = refl

item_first : (i : Item) (s : List ℕ) → First i.kind s (item_value i s)
unfolding item_value
item_first i [] = none_first i.kind
item_first i (b ∷ s) = value_first i.kind (b ∷ s)

first_is : (Kind → Bool) → List Item → Bool
first_is p [] = false
first_is p (i ∷ is) = p i.kind

first_num : (is : List Item) (ss : List (List ℕ)) → length ss ≡ length is → num_of (nth (items_value is ss) 1) ≡ cond (first_is is_r is) (rp_raw (get_or ss 0 [])) 0
unfolding items_value first_is
first_num [] ss n = refl
first_num (i ∷ is) [] n = absurd (omega arith)
first_num (i ∷ is) (s ∷ ss) n = (item_first i s).num

first_day_lem : (is : List Item) (ss : List (List ℕ)) → length ss ≡ length is → day_of (nth (items_value is ss) 1) ≡ cond (first_is is_d is) (day_raw (get_or ss 0 [])) 0
unfolding items_value first_is
first_day_lem [] ss n = refl
first_day_lem (i ∷ is) [] n = absurd (omega arith)
first_day_lem (i ∷ is) (s ∷ ss) n = (item_first i s).day

-- the rows whose first item is an R, and those whose first item is a D
rp_row : Row → Bool
rp_row r = beq (first_is is_r r.items) (member rp_records r.number)

day_row : Row → Bool
day_row r = beq (first_is is_d r.items) (eqb r.number 5)

rp_rows_lem : all_rows rp_row table ≡ true
unfolding all_rows rp_row first_is is_r tag table
rp_rows_lem = refl

day_rows : all_rows day_row table ≡ true
unfolding all_rows day_row first_is is_d tag table
day_rows = refl

beq_eq : (a b : Bool) → beq a b ≡ true → a ≡ b
beq_eq true true e = refl
beq_eq true false e = absurd (false≢true e)
beq_eq false true e = absurd (false≢true e)
beq_eq false false e = refl

-- ---- the rows that have more: 11, 201 and 301

at_row : (n : ℕ) (ss : List (List ℕ)) (j : ℕ) → length ss ≡ length (paper_row n).items → j < length (paper_row n).items
    → get_or (items_value (paper_row n).items ss) j (raw []) ≡ item_value (get_or (paper_row n).items j blank) (get_or ss j [])
at_row n ss j c h = value_at (paper_row n).items ss j c h

module _ (ss : List (List ℕ)) where
  schedule_11 : length ss ≡ length (paper_row 11).items → spelled (nth (items_value (paper_row 11).items ss) 3) ≡ rp_raw (get_or ss 2 [])
  unfolding row_by table rp_raw
  schedule_11 n = ap spelled (at_row 11 ss 2 n (omega arith) ∙ among_text (1 ∷ 3 ∷ 4 ∷ []) (get_or ss 2 []))

  module _ (n : length ss ≡ length (paper_row 201).items) where
    pairs_of_201 : pairs (record { number = 201; values = items_value (paper_row 201).items ss }) ≡ code_raw (get_or ss 4 []) (get_or ss 5 [])
    unfolding pairs code_raw row_by table
    pairs_of_201 = ap₂ code_pair (at_row 201 ss 4 n (omega arith) ∙ among_text (1 ∷ 2 ∷ 3 ∷ 4 ∷ 6 ∷ []) (get_or ss 4 [])) (at_row 201 ss 5 n (omega arith) ∙ code_text 13 (get_or ss 5 []))

  module _ (n : length ss ≡ length (paper_row 301).items) where
    form_301 : spelled (nth (items_value (paper_row 301).items ss) 5) ≡ rp_raw (get_or ss 4 [])
    unfolding row_by table rp_raw
    form_301 = ap spelled (at_row 301 ss 4 n (omega arith) ∙ among_text forms (get_or ss 4 []))

    name_301 : is_empty (nth (items_value (paper_row 301).items ss) 2) ≡ empty (get_or ss 1 [])
    unfolding row_by table
    name_301 = ap is_empty (at_row 301 ss 1 n (omega arith) ∙ name_text 100 (get_or ss 1 []))

    pairs_of_301 : pairs (record { number = 301; values = items_value (paper_row 301).items ss })
        ≡ (code_raw (get_or ss 5 []) (get_or ss 6 []) && form_raw (get_or ss 4 []) (get_or ss 2 []) (get_or ss 3 []))
    unfolding pairs code_raw form_raw row_by table
    pairs_of_301 =
        ap₂ ◌&&◌
        (ap₂ code_pair (at_row 301 ss 5 n (omega arith) ∙ among_text (1 ∷ 2 ∷ []) (get_or ss 5 [])) (at_row 301 ss 6 n (omega arith) ∙ code_text 16 (get_or ss 6 [])))
        (three (at_row 301 ss 4 n (omega arith) ∙ among_text forms (get_or ss 4 [])) (at_row 301 ss 2 n (omega arith)) (at_row 301 ss 3 n (omega arith) ∙ unit_text 100 (get_or ss 3 [])))
      where
        three : {a b c a' b' c' : Value} → a ≡ a' → b ≡ b' → c ≡ c' → form_pair a b c ≡ form_pair a' b' c'
        three p q r = cc

pairs_of_other : (n : ℕ) (vs : List Value) → (n ≡ 201 → ⊥) → (n ≡ 301 → ⊥) → pairs (record { number = n; values = vs }) ≡ true
unfolding pairs
pairs_of_other n vs a b = simp (ne_eqb n 201 a, ne_eqb n 301 b)

-- ---- a record whose number is listed, ss its items

module _ (n : ℕ) (ss : List (List ℕ)) (count : length ss ≡ length (paper_row n).items) where
  -- its items' count, where its number is k
  count_by : (k : ℕ) → n ≡ k → length ss ≡ length (paper_row k).items
  count_by k e = count ∙ ap (λ (x : ℕ). length (paper_row x).items) e

  pub pairs_is : pairs (record { number = n; values = items_value (paper_row n).items ss }) ≡ pairs_raw n ss
  unfolding pairs_raw
  pairs_is = go (eqb n 201) refl (eqb n 301) refl
    where
      go : (x : Bool) → eqb n 201 ≡ x → (y : Bool) → eqb n 301 ≡ y
          → pairs (record { number = n; values = items_value (paper_row n).items ss })
          ≡ cond x (code_raw (get_or ss 4 []) (get_or ss 5 [])) (cond y (code_raw (get_or ss 5 []) (get_or ss 6 []) && form_raw (get_or ss 4 []) (get_or ss 2 []) (get_or ss 3 [])) true)
      go true p y q = let e : n ≡ 201 = eqb-true n 201 p in rw e (pairs_of_201 ss (count_by 201 e))
      go false p true q = let e : n ≡ 301 = eqb-true n 301 q in rw e (pairs_of_301 ss (count_by 301 e))
      go false p false q = pairs_of_other n _ (eqb-false n 201 p) (eqb-false n 301 q)

  schedule_is : cond (eqb n 11) (spelled (nth (items_value (paper_row n).items ss) 3)) 0 ≡ cond (eqb n 11) (rp_raw (get_or ss 2 [])) 0
  schedule_is = go (eqb n 11) refl
    where
      go : (x : Bool) → eqb n 11 ≡ x → cond x (spelled (nth (items_value (paper_row n).items ss) 3)) 0 ≡ cond x (rp_raw (get_or ss 2 [])) 0
      go true p = let e : n ≡ 11 = eqb-true n 11 p in rw e (schedule_11 ss (count_by 11 e))
      go false p = refl

  form_is : cond (eqb n 301) (spelled (nth (items_value (paper_row n).items ss) 5)) 0 ≡ cond (eqb n 301) (rp_raw (get_or ss 4 [])) 0
  form_is = go (eqb n 301) refl
    where
      go : (x : Bool) → eqb n 301 ≡ x → cond x (spelled (nth (items_value (paper_row n).items ss) 5)) 0 ≡ cond x (rp_raw (get_or ss 4 [])) 0
      go true p = let e : n ≡ 301 = eqb-true n 301 p in rw e (form_301 ss (count_by 301 e))
      go false p = refl

  named_is : (eqb n 301 && not (is_empty (nth (items_value (paper_row n).items ss) 2))) ≡ (eqb n 301 && not (empty (get_or ss 1 [])))
  named_is = go (eqb n 301) refl
    where
      go : (x : Bool) → eqb n 301 ≡ x → (x && not (is_empty (nth (items_value (paper_row n).items ss) 2))) ≡ (x && not (empty (get_or ss 1 [])))
      go true p = let e : n ≡ 301 = eqb-true n 301 p in rw e (ap not (name_301 ss (count_by 301 e)))
      go false p = refl

  module _ (listed : 1 ≤ (paper_row n).number) where
    rp_is : num_of (nth (items_value (paper_row n).items ss) 1) ≡ cond (member rp_records n) (rp_raw (get_or ss 0 [])) 0
    unfolding rp_row
    rp_is =
        let r : first_is is_r (paper_row n).items ≡ member rp_records n =
        beq_eq (first_is is_r (paper_row n).items) (member rp_records (paper_row n).number) (listed_row rp_row table n rp_rows_lem (le-leb 1 _ listed)) ∙ ap (member rp_records) (paper_number n listed) in
        first_num (paper_row n).items ss count ∙ ap (λ (b : Bool). cond b (rp_raw (get_or ss 0 [])) 0) r

    day_is : day_of (nth (items_value (paper_row n).items ss) 1) ≡ cond (eqb n 5) (day_raw (get_or ss 0 [])) 0
    unfolding day_row
    day_is =
        let d : first_is is_d (paper_row n).items ≡ eqb n 5 =
        beq_eq (first_is is_d (paper_row n).items) (eqb (paper_row n).number 5) (listed_row day_row table n day_rows (le-leb 1 _ listed)) ∙ ap (λ (x : ℕ). eqb x 5) (paper_number n listed) in
        first_day_lem (paper_row n).items ss count ∙ ap (λ (b : Bool). cond b (day_raw (get_or ss 0 [])) 0) d

    pub facts_is : facts_of (record { number = n; values = items_value (paper_row n).items ss }) ≡ facts_raw n ss
    unfolding facts_of facts_raw
    facts_is = rw (rp_is, day_is, schedule_is, form_is, named_is)
