-- The claims of specs/Faults.antt: a refusal at a line depends on the lines up to it alone, its number is the lowest that the line has, of the
-- items the leftmost faulty one tells, and an item of most kinds has 8 or 11 only. Assumes nothing.
use Prim.Native.Nat.{ℕ, zero, suc, ◌+◌, ◌≤◌, ◌<◌}
use native.Mathlib.Omega.{arith}
use mathlib.Core.Path.{◌≡◌, refl, ap, ap₂, sym, ◌∙◌, subst}
use mathlib.Core.Logic.{◌⊎◌, inl, inr}
use mathlib.Core.Bool.{Bool, true, false, cond, not, ◌||◌, false≢true}
use Rattle.std.specs.Prelude.{Option, Some, None}
use mathlib.Core.List.{List, [], ◌∷◌, ◌++◌}
use lib.Dec.{eqb, leb, eqb-suc-zero}
use lib.ListN.{length}
use borrow.Author.Tests.{le-leb}
use Rattle.lists.specs.Lists.{empty, all, same, All, Res, ok, refused, ◌or_else◌, unless}
use Rattle.lists.proofs.Tests.{cond_case, or_zero_lem}
use Rattle.characters.specs.Text.{text, all_chars}
use Rattle.characters.specs.Rows.{rows, is_line, end_mark}
use Rattle.calendar.specs.declared.Day.{Day}
use Rattle.calendar.specs.Era.{read_day}
use Rattle.digits.specs.Digits.{number}
use Rattle.records.specs.Table.{Kind, N, U, X, K, A, F, C, P, R, W, Q, D, among, Item, required}
use Rattle.records.specs.Split.{items_of}
use Rattle.records.specs.Items.{edge, one_width, one_script, is_code, spelled_as, seven, postal, prefecture, is_decimal, number_fault, day_fault, sized, fault}
use Rattle.records.specs.Records.{Record, record_of, record_from, header, item_fault, items_fault, table_row, pairs, t911, fault_from, line_fault}
use Rattle.order.specs.declared.State.{State}
use Rattle.order.specs.declared.Facts.{Facts}
use Rattle.order.specs.State.{Step}
use Rattle.order.specs.State.{Fault, On}
use Rattle.order.specs.Questions.{before_of, asked_of}
use Rattle.rules.specs.Rules.{pair_broken, misplaced, missing, value_wrong, newer_group, order_refusal}
use Rattle.order.specs.State.{start, refusal_of, step_of, finish_of}
use Rattle.order.proofs.Laws.{taken, refused as refused_law, next_line, line_start}
use Rattle.notebook.specs.Facts.{facts_of}
use Rattle.notebook.specs.Notebook.{step_line, prepend, closed, onward, records_from, notebook_of, read_rows, read_file}
use Rattle.notebook.proofs.Placing.{placed}
use Rattle.faults.specs.Faults.{FirstFault, only_if, item_faults, own_faults, order_faults, faults_of, FirstGiven, here, there, Lowest, LowestNumber}
use Rattle.faults.specs.Faults.{each_fault, Leftmost, ItemByItem, measured, OnlyForm}
use Rattle.faults.proofs.RowsOf.{rows_append, no_mark}

-- ---- the first faulty line

no_answer : {A : Type 0} {n line : ℕ} {a : A} → ◌≡◌ {A = Res A} (ok a) (refused n line) → ⊥
no_answer e = let z : ◌≡◌ {A = ℕ} 0 1 = cc in omega arith

pub prepended : (r : Record) (res : Res (List Record)) (n line : ℕ) → prepend r res ≡ refused n line → res ≡ refused n line
prepended r (ok rs) n line e = absurd (no_answer e)
prepended r (refused m l) n line e = e

-- the line of a step
pub stepped : (st : State) (l : List ℕ) (t : State) (rp doctor : ℕ) → step_line st l ≡ On t rp doctor → t.line ≡ st.line + 1
stepped st l t rp doctor e = next_line st (facts_of (record_of l)) t rp doctor (placed st l t rp doctor e).step

pub closed_line : (st : State) (n line : ℕ) → closed st ≡ refused n line → line ≡ st.line + 1
unfolding closed
closed_line st n line e = go (eqb (finish_of st) 0) e
  where
    go : (x : Bool) → ◌≡◌ {A = Res (List Record)} (cond x (ok []) (refused (finish_of st) (st.line + 1))) (refused n line) → line ≡ st.line + 1
    go true e = absurd (no_answer e)
    go false e = cc

-- a refusal stands after the lines that are read
later_line : (rs : List (List ℕ)) (st : State) (n line : ℕ) → records_from st rs ≡ refused n line → st.line < line
unfolding records_from onward
later_line [] st n line e = omega (arith, closed_line st n line e)
later_line (r ∷ rs) st n line e = by (same r end_mark) (is_line r) (λ t. later_line rs t n line) e
  where
    step : (m : Step) → step_line st (text r) ≡ m → ((t : State) → records_from t rs ≡ refused n line → t.line < line)
        → onward (st.line + 1) (record_of (text r)) (λ t. records_from t rs) m ≡ refused n line → st.line < line
    step (Fault k) q ih e = let z : st.line + 1 ≡ line = cc in omega arith
    step (On t rp doctor) q ih e = omega (arith, stepped st (text r) t rp doctor q, ih t (prepended (record_of (text r)) (records_from t rs) n line e))

    by : (x y : Bool) → ((t : State) → records_from t rs ≡ refused n line → t.line < line)
        → cond x (closed st) (cond y (onward (st.line + 1) (record_of (text r)) (λ t. records_from t rs) (step_line st (text r)))
        (refused 2 (st.line + 1))) ≡ refused n line → st.line < line
    by true y ih e = omega (arith, closed_line st n line e)
    by false true ih e = step (step_line st (text r)) refl ih e
    by false false ih e = let z : st.line + 1 ≡ line = cc in omega arith

-- the rows up to the refused one decide
rows_decide : (xs ys zs : List (List ℕ)) (st : State) (n line : ℕ) → All (λ r. same r end_mark ≡ false) xs → line ≤ st.line + length xs
    → records_from st (xs ++ ys) ≡ refused n line → records_from st (xs ++ zs) ≡ refused n line
unfolding records_from onward
rows_decide [] ys zs st n line m h e = absurd (omega (arith, later_line ys st n line e))
rows_decide (x ∷ xs) ys zs st n line (m, ms) h e = rw m (by (is_line x) (λ t. rows_decide xs ys zs t n line ms) (rw m at e))
  where
    step : (k : Step) → step_line st (text x) ≡ k
        → ((t : State) → line ≤ t.line + length xs → records_from t (xs ++ ys) ≡ refused n line → records_from t (xs ++ zs) ≡ refused n line)
        → onward (st.line + 1) (record_of (text x)) (λ t. records_from t (xs ++ ys)) k ≡ refused n line
        → onward (st.line + 1) (record_of (text x)) (λ t. records_from t (xs ++ zs)) k ≡ refused n line
    step (Fault k) q ih e = e
    step (On t rp doctor) q ih e =
        ap (prepend (record_of (text x)))
        (ih t (omega (arith, stepped st (text x) t rp doctor q)) (prepended (record_of (text x)) (records_from t (xs ++ ys)) n line e))

    by : (y : Bool) → ((t : State) → line ≤ t.line + length xs → records_from t (xs ++ ys) ≡ refused n line → records_from t (xs ++ zs) ≡ refused n line)
        → cond y (onward (st.line + 1) (record_of (text x)) (λ t. records_from t (xs ++ ys)) (step_line st (text x))) (refused 2 (st.line + 1)) ≡ refused n line
        → cond y (onward (st.line + 1) (record_of (text x)) (λ t. records_from t (xs ++ zs)) (step_line st (text x))) (refused 2 (st.line + 1)) ≡ refused n line
    by true ih e = step (step_line st (text x)) refl ih e
    by false ih e = e

pub of_book : (provider : Bool) (res : Res (List Record)) (n line : ℕ) → notebook_of provider res ≡ refused n line → res ≡ refused n line
of_book provider (ok rs) n line e = absurd (no_answer e)
of_book provider (refused m l) n line e =
    let a : m ≡ n = cc in
    let b : l ≡ line = cc in
    ap₂ (λ (x y : ℕ). refused x y) a b

-- line 1 has a number
numbered : (ys : List (List ℕ)) (n line : ℕ) → read_rows ys ≡ refused n line → 0 < line
unfolding read_rows
numbered [] n line e = let z : ◌≡◌ {A = ℕ} 1 line = cc in omega arith
numbered (y ∷ ys) n line e = by (is_line y) (same (text y) (header true)) (same (text y) (header false)) e
  where
    book : (p : Bool) → notebook_of p (records_from (start p) ys) ≡ refused n line → 0 < line
    book p e = omega (arith, later_line ys (start p) n line (of_book p (records_from (start p) ys) n line e))

    by : (a b c : Bool)
        → cond a (cond b (notebook_of true (records_from (start true) ys)) (cond c (notebook_of false (records_from (start false) ys)) (refused 3 1)))
        (refused 2 1) ≡ refused n line → 0 < line
    by true true c e = book true e
    by true false true e = book false e
    by true false false e = let z : ◌≡◌ {A = ℕ} 1 line = cc in omega arith
    by false b c e = let z : ◌≡◌ {A = ℕ} 1 line = cc in omega arith

file_decides : (xs ys zs : List (List ℕ)) (n line : ℕ) → All (λ r. same r end_mark ≡ false) xs → line ≤ length xs
    → read_rows (xs ++ ys) ≡ refused n line → read_rows (xs ++ zs) ≡ refused n line
unfolding read_rows
file_decides [] ys zs n line m h e = absurd (omega (arith, numbered ys n line e))
file_decides (x ∷ xs) ys zs n line (m, ms) h e = by (is_line x) (same (text x) (header true)) (same (text x) (header false)) e
  where
    book : (p : Bool) → notebook_of p (records_from (start p) (xs ++ ys)) ≡ refused n line → notebook_of p (records_from (start p) (xs ++ zs)) ≡ refused n line
    book p e =
        ap (notebook_of p) (rows_decide xs ys zs (start p) n line ms (omega (arith, line_start p)) (of_book p (records_from (start p) (xs ++ ys)) n line e))

    by : (a b c : Bool)
        → cond a (cond b (notebook_of true (records_from (start true) (xs ++ ys)))
        (cond c (notebook_of false (records_from (start false) (xs ++ ys))) (refused 3 1))) (refused 2 1) ≡ refused n line
        → cond a (cond b (notebook_of true (records_from (start true) (xs ++ zs)))
        (cond c (notebook_of false (records_from (start false) (xs ++ zs))) (refused 3 1))) (refused 2 1) ≡ refused n line
    by true true c e = book true e
    by true false true e = book false e
    by true false false e = e
    by false b c e = e

pub first_fault : FirstFault
unfolding read_file
first_fault p q r n line w a b h e =
    let f : read_rows (rows p ++ rows q) ≡ refused n line = ap read_rows (sym (rows_append p q w)) ∙ rw (le-leb (length (p ++ q)) 65536 a) at e in
    rw (le-leb (length (p ++ r)) 65536 b) (ap read_rows (rows_append p r w) ∙ file_decides (rows p) (rows q) (rows r) n line (no_mark p w) h f)

-- ---- the lowest number

-- the first that is not 0
abbrev first_of : List ℕ → ℕ
first_of [] = 0
first_of (x ∷ xs) = x or_else first_of xs

-- each is 0 or from lo on, and none after it is lower
data Rising : ℕ → List ℕ → Type 0 where
  end : {lo : ℕ} → Rising lo []
  up : {lo hi x : ℕ} {ns : List ℕ} → lo ≤ hi → (0 < x → (lo ≤ x) × (x ≤ hi)) → Rising hi ns → Rising lo (x ∷ ns)

rising_low : {ns : List ℕ} {lo : ℕ} (lim : ℕ) → lim ≤ lo → Rising lo ns → All (λ m. (m ≡ 0) ⊎ (lim ≤ m)) ns
rising_low lim h end = tt
rising_low lim h (up {lo = lo} {hi = hi} {x = x} a b r) = (by x b, rising_low lim (omega arith) r)
  where
    by : (x : ℕ) → (0 < x → (lo ≤ x) × (x ≤ hi)) → (x ≡ 0) ⊎ (lim ≤ x)
    by zero b = inl refl
    by (suc x) b = let z = b (omega arith) in inr (omega arith)

lowest_of : {ns : List ℕ} {lo : ℕ} (n : ℕ) → Rising lo ns → 0 < n → first_of ns ≡ n → Lowest n ns
lowest_of n end h e = absurd (omega arith)
lowest_of n (up {lo = lo} {hi = hi} {x = x} {ns = ns} a b r) h e = by x b (lowest_of n r h) e
  where
    by : (x : ℕ) → (0 < x → (lo ≤ x) × (x ≤ hi)) → (first_of ns ≡ n → Lowest n ns) → x or_else first_of ns ≡ n → Lowest n (x ∷ ns)
    by zero b ih e = let i = ih e in record { some = h; given = there i.given; least = (inl refl, i.least) }
    by (suc x) b ih e =
        let z = b (omega arith) in
        record { some = h; given = subst (λ (m : ℕ). FirstGiven n (m ∷ ns)) (sym e) here; least = (inr (omega arith), rising_low n (omega arith) r) }

-- ---- the numbers of items

-- 0, or one of 8 to 11
abbrev pub OfItem : ℕ → Type 0
OfItem n = 0 < n → (8 ≤ n) × (n ≤ 11)

unless_item : (b : Bool) (n : ℕ) → 8 ≤ n → n ≤ 11 → OfItem (unless b n)
unless_item true n lo hi = λ h. absurd (omega arith)
unless_item false n lo hi = λ h. (lo, hi)

else_item : (a b : ℕ) → OfItem a → OfItem b → OfItem (a or_else b)
else_item zero b p q = q
else_item (suc a) b p q = p

sized_item : (m : ℕ) (s : List ℕ) (good : Bool) → OfItem (sized m s good)
unfolding sized
sized_item m s good =
    else_item (unless (leb (length s) m) 9) _ (unless_item (leb (length s) m) 9 (omega arith) (omega arith))
    (else_item (unless (not (edge s)) 10) _ (unless_item (not (edge s)) 10 (omega arith) (omega arith)) (unless_item good 11 (omega arith) (omega arith)))

fault_item : (k : Kind) (s : List ℕ) → OfItem (fault k s)
unfolding fault
fault_item (N m) s = sized_item m s true
fault_item (U m) s = sized_item m s (one_width s)
fault_item (X m) s = sized_item m s (all is_code s)
fault_item (K m) s = sized_item m s (one_script s)
fault_item A s = unless_item (spelled_as (1 ∷ 2 ∷ 8 ∷ 9 ∷ []) s) 11 (omega arith) (omega arith)
fault_item F s = unless_item (prefecture s) 11 (omega arith) (omega arith)
fault_item C s = unless_item (seven s) 11 (omega arith) (omega arith)
fault_item P s = unless_item (postal s) 11 (omega arith) (omega arith)
fault_item R s = go (number s)
  where
    go : (o : Option ℕ) → OfItem (number_fault o)
    go None = λ h. (omega arith, omega arith)
    go (Some n) = unless_item (leb 1 n) 11 (omega arith) (omega arith)
fault_item W s = unless_item (is_decimal 3 3 s) 11 (omega arith) (omega arith)
fault_item Q s = unless_item (is_decimal 6 5 s) 11 (omega arith) (omega arith)
fault_item D s = go (read_day s)
  where
    go : (r : Option Day) → OfItem (day_fault r)
    go (Some d) = λ h. absurd (omega arith)
    go None = λ h. (omega arith, omega arith)
fault_item (among ns) s = unless_item (spelled_as ns s) 11 (omega arith) (omega arith)

item_item : (provider : Bool) (i : Item) (s : List ℕ) → OfItem (item_fault provider i s)
unfolding item_fault
item_item provider i s =
    cond_case OfItem (empty s) _ _ (λ _. unless_item (not (required provider i.need)) 8 (omega arith) (omega arith)) (λ _. fault_item i.kind s)

pub items_item : (provider : Bool) (is : List Item) (ss : List (List ℕ)) → OfItem (items_fault provider is ss)
unfolding items_fault
items_item provider [] [] = λ h. absurd (omega arith)
items_item provider [] (s ∷ ss) = λ h. absurd (omega arith)
items_item provider (i ∷ is) [] = λ h. absurd (omega arith)
items_item provider (i ∷ is) (s ∷ ss) = else_item (item_fault provider i s) _ (item_item provider i s) (items_item provider is ss)

pub item_by_item : ItemByItem
unfolding items_fault
item_by_item provider [] [] n h e = absurd (omega arith)
item_by_item provider [] (s ∷ ss) n h e = absurd (omega arith)
item_by_item provider (i ∷ is) [] n h e = absurd (omega arith)
item_by_item provider (i ∷ is) (s ∷ ss) n h e = by (item_fault provider i s) refl (item_by_item provider is ss n h) e
  where
    by : (f : ℕ) → item_fault provider i s ≡ f → (items_fault provider is ss ≡ n → Leftmost n (each_fault provider is ss)) → f or_else items_fault provider is ss ≡ n
        → Leftmost n (item_fault provider i s ∷ each_fault provider is ss)
    by zero q ih e =
        let l = ih e in
        record {
          some = h;
          before = item_fault provider i s ∷ l.before;
          behind = l.behind;
          is = ap (λ (x : List ℕ). item_fault provider i s ∷ x)
              l.is;
          none = (q, l.none);
        }
    by (suc f) q ih e = record {
      some = h;
      before = [];
      behind = each_fault provider is ss;
      is = ap (λ (x : ℕ). x ∷ each_fault provider is ss)
          (q ∙ e);
      none = tt;
    }

-- ---- most kinds have 8 and 11 only

unless_form : (b : Bool) → 0 < unless b 11 → unless b 11 ≡ 11
unless_form true h = absurd (omega arith)
unless_form false h = refl

fault_form : (k : Kind) (s : List ℕ) → measured k ≡ false → 0 < fault k s → fault k s ≡ 11
unfolding fault
fault_form (N m) s e h = absurd (false≢true (sym e))
fault_form (U m) s e h = absurd (false≢true (sym e))
fault_form (X m) s e h = absurd (false≢true (sym e))
fault_form (K m) s e h = absurd (false≢true (sym e))
fault_form A s e h = unless_form (spelled_as (1 ∷ 2 ∷ 8 ∷ 9 ∷ []) s) h
fault_form F s e h = unless_form (prefecture s) h
fault_form C s e h = unless_form (seven s) h
fault_form P s e h = unless_form (postal s) h
fault_form R s e h = go (number s) h
  where
    go : (o : Option ℕ) → 0 < number_fault o → number_fault o ≡ 11
    go None h = refl
    go (Some n) h = unless_form (leb 1 n) h
fault_form W s e h = unless_form (is_decimal 3 3 s) h
fault_form Q s e h = unless_form (is_decimal 6 5 s) h
fault_form D s e h = go (read_day s) h
  where
    go : (r : Option Day) → 0 < day_fault r → day_fault r ≡ 11
    go (Some d) h = absurd (omega arith)
    go None h = refl
fault_form (among ns) s e h = unless_form (spelled_as ns s) h

pub only_form : OnlyForm
unfolding item_fault
only_form provider i s e =
    cond_case (λ (n : ℕ). 0 < n → (n ≡ 8) ⊎ (n ≡ 11)) (empty s) _ _ (λ _. go (not (required provider i.need))) (λ _ h. inr (fault_form i.kind s e h))
  where
    go : (b : Bool) → 0 < unless b 8 → (unless b 8 ≡ 8) ⊎ (unless b 8 ≡ 11)
    go true h = absurd (omega arith)
    go false h = inl refl

-- ---- a line's numbers rise

rising_unless : {lo : ℕ} {ns : List ℕ} (n : ℕ) (b : Bool) → lo ≤ n → Rising n ns → Rising lo (unless b n ∷ ns)
rising_unless n true h r = up {x = 0} h (λ (z : 0 < 0). absurd (omega arith)) r
rising_unless n false h r = up {x = n} h (λ z. (h, omega arith)) r

rising_when : {lo : ℕ} {ns : List ℕ} (n : ℕ) (b : Bool) → lo ≤ n → Rising n ns → Rising lo (only_if b n ∷ ns)
rising_when n true h r = up {x = n} h (λ z. (h, omega arith)) r
rising_when n false h r = up {x = 0} h (λ (z : 0 < 0). absurd (omega arith)) r

order_rises : (st : State) (r : Facts) → Rising 12 (order_faults st r)
order_rises st r =
    let b = before_of st in
    let a = asked_of st r in
    rising_when 12 (pair_broken b a) (omega arith) (rising_when 13 (misplaced b a) (omega arith) (rising_when 14 (missing b a) (omega arith)
    (rising_when 15 (value_wrong b a) (omega arith) (rising_when 16 (newer_group b a) (omega arith) end))))

items_rise : (provider : Bool) (hs : List (List ℕ)) (ns : List ℕ) → Rising 12 ns → Rising 4 (item_faults provider hs ++ ns)
items_rise provider [] ns r = up {lo = 4} {hi = 12} {x = 5} (omega arith) (λ z. (omega arith, omega arith)) r
items_rise provider (h ∷ ss) ns r =
    rising_unless 5 (leb 1 (table_row h).number || same h t911) (omega arith) (rising_unless 6 (not (same h t911)) (omega arith)
    (rising_unless 7 (eqb (length ss) (length (table_row h).items)) (omega arith)
    (up {lo = 7} {hi = 11} {x = items_fault provider (table_row h).items ss} (omega arith)
    (λ z. let w = items_item provider (table_row h).items ss z in (omega arith, omega arith))
    (rising_unless 12 (pairs (record_from (h ∷ ss))) (omega arith) r))))

faults_rise : (st : State) (l : List ℕ) → Rising 0 (faults_of st l)
faults_rise st l = rising_unless 4 (all_chars l) (omega arith) (items_rise st.provider (items_of l) _ (order_rises st (facts_of (record_of l))))

-- ---- the first of them is the refusal

else_zero : (a : ℕ) → a or_else 0 ≡ a
else_zero zero = refl
else_zero (suc a) = refl

else_else : (a b c : ℕ) → (a or_else b) or_else c ≡ a or_else (b or_else c)
else_else zero b c = refl
else_else (suc a) b c = refl

first_append : (xs ys : List ℕ) → first_of (xs ++ ys) ≡ first_of xs or_else first_of ys
first_append [] ys = refl
first_append (x ∷ xs) ys = ap (λ (n : ℕ). x or_else n) (first_append xs ys) ∙ sym (else_else x (first_of xs) (first_of ys))

first_items : (provider : Bool) (hs : List (List ℕ)) → fault_from provider hs ≡ first_of (item_faults provider hs)
unfolding fault_from
first_items provider [] = refl
first_items provider (h ∷ ss) = rw (else_zero (unless (pairs (record_from (h ∷ ss))) 12))

first_own : (provider : Bool) (l : List ℕ) → line_fault provider l ≡ first_of (own_faults provider l)
unfolding line_fault
first_own provider l = ap (λ (n : ℕ). unless (all_chars l) 4 or_else n) (first_items provider (items_of l))

when_else : (b : Bool) (n m : ℕ) → cond b (suc n) m ≡ only_if b (suc n) or_else m
when_else true n m = refl
when_else false n m = refl

first_order : (st : State) (r : Facts) → refusal_of st r ≡ first_of (order_faults st r)
unfolding refusal_of order_refusal
first_order st r =
    let b = before_of st in
    let a = asked_of st r in
    when_else (pair_broken b a) 11 _ ∙ ap (λ (n : ℕ). only_if (pair_broken b a) 12 or_else n)
    (when_else (misplaced b a) 12 _ ∙ ap (λ (n : ℕ). only_if (misplaced b a) 13 or_else n)
    (when_else (missing b a) 13 _ ∙ ap (λ (n : ℕ). only_if (missing b a) 14 or_else n)
    (when_else (value_wrong b a) 14 _ ∙ ap (λ (n : ℕ). only_if (value_wrong b a) 15 or_else n) (when_else (newer_group b a) 15 0))))

first_of_lem : (st : State) (l : List ℕ) → first_of (faults_of st l) ≡ line_fault st.provider l or_else refusal_of st (facts_of (record_of l))
first_of_lem st l =
    first_append (own_faults st.provider l) (order_faults st (facts_of (record_of l)))
    ∙ ap₂ ◌or_else◌ (sym (first_own st.provider l)) (sym (first_order st (facts_of (record_of l))))

-- what a line's step is: its own fault first, then the order's
record Stepped (st : State) (l : List ℕ) (n : ℕ) : Type 0 where
  some : 0 < n
  first : first_of (faults_of st l) ≡ n

refused_first : (st : State) (l : List ℕ) (n : ℕ) → step_line st l ≡ Fault n → Stepped st l n
unfolding step_line
refused_first st l n e = by (line_fault st.provider l) refl e
  where
    by : (f : ℕ) → line_fault st.provider l ≡ f → cond (eqb f 0) (step_of st (facts_of (record_of l))) (Fault f) ≡ Fault n → Stepped st l n
    by zero q e =
        let k = refused_law st (facts_of (record_of l)) n e in
        record { some = omega (arith, k.from); first = first_of_lem st l ∙ ap (λ (x : ℕ). x or_else refusal_of st (facts_of (record_of l))) q ∙ sym k.number }
    by (suc f) q e =
        let g : suc f ≡ n = cc (eqb-suc-zero f) in
        record { some = omega arith; first = first_of_lem st l ∙ ap (λ (x : ℕ). x or_else refusal_of st (facts_of (record_of l))) q ∙ g }

taken_first : (st : State) (l : List ℕ) (t : State) (rp doctor : ℕ) → step_line st l ≡ On t rp doctor → first_of (faults_of st l) ≡ 0
taken_first st l t rp doctor e =
    let p = placed st l t rp doctor e in
    first_of_lem st l ∙ ap₂ ◌or_else◌ p.sound (taken st (facts_of (record_of l)) t rp doctor p.step).good

-- two lowest numbers are one
given_least : {n m : ℕ} {ns : List ℕ} → FirstGiven m ns → All (λ k. (k ≡ 0) ⊎ (n ≤ k)) ns → (m ≡ 0) ⊎ (n ≤ m)
given_least here (a, rest) = a
given_least (there g) (a, rest) = given_least g rest

at_most : {n m : ℕ} → 0 < m → (m ≡ 0) ⊎ (n ≤ m) → n ≤ m
at_most h (inl e) = absurd (omega arith)
at_most h (inr e) = e

lowest_one : {n m : ℕ} {ns : List ℕ} → Lowest n ns → Lowest m ns → n ≡ m
lowest_one a b = omega (arith, at_most b.some (given_least b.given a.least), at_most a.some (given_least a.given b.least))

none_given : {n : ℕ} {ns : List ℕ} → first_of ns ≡ 0 → FirstGiven n ns → n ≡ 0
none_given e (here {ns = ns}) = (or_zero_lem _ (first_of ns) e).0
none_given e (there {m = m} {ns = ns} g) = none_given (or_zero_lem m (first_of ns) e).1 g

pub lowest_number : LowestNumber
lowest_number st l n = (to, from)
  where
    lowest : (m : ℕ) → step_line st l ≡ Fault m → Lowest m (faults_of st l)
    lowest m e = let k = refused_first st l m e in lowest_of m (faults_rise st l) k.some k.first

    to : step_line st l ≡ Fault n → Lowest n (faults_of st l)
    to e = lowest n e

    from : Lowest n (faults_of st l) → step_line st l ≡ Fault n
    from a = by (step_line st l) refl
      where
        by : (k : Step) → step_line st l ≡ k → step_line st l ≡ Fault n
        by (Fault m) q = q ∙ ap (λ (x : ℕ). Fault x) (lowest_one (lowest m q) a)
        by (On t rp doctor) q = absurd (omega (arith, a.some, none_given (taken_first st l t rp doctor q) a.given))
