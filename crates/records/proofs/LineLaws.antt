-- One record line: what is written is read as the same, is no longer, and is a line. Nothing here looks at a row of the table.
-- Assumes nothing.
use Prim.Native.Nat.{ℕ, ◌≤◌}
use mathlib.Core.Path.{◌≡◌, refl, sym, ap, ◌∙◌, subst}
use mathlib.Core.Bool.{Bool, true, false, cond, not, ◌||◌}
use mathlib.Core.List.{List, [], ◌∷◌, map}
use native.Mathlib.Omega.{arith}
use borrow.Author.Tests.{leb-true, eqb-true, eq-eqb}
use lib.Dec.{leb, eqb}
use lib.ListN.{length}
use Rattle.lists.specs.Lists.{All, same, unless}
use Rattle.lists.proofs.Tests.{all_both, same_true, or_zero_lem, both_zero, unless_zero, zero_unless, cond_case, or_first, not_true'}
use Rattle.digits.specs.Digits.{spell}
use Rattle.characters.specs.Text.{all_chars}
use Rattle.characters.specs.Scanning.{clean}
use Rattle.characters.proofs.CharLaws.{chars_clean}
use Rattle.records.specs.Split.{items_of, joined}
use Rattle.records.specs.Table.{Item, Row, table}
use Rattle.records.specs.Items.{Value, write_value}
use Rattle.records.specs.Records.{Record, row_in, table_row, pairs, items_fault, record_from, fault_from, line_fault, record_of, t911, write}
use Rattle.records.specs.Reading.{ok, faulty, read_line}
use Rattle.records.proofs.Splits.{NoComma, AllChars, Split, split, items_joined, joined_length, chars_parts, chars_joined}
use Rattle.records.proofs.ItemLaws.{Fine, written, Written, items_written}

-- a number that is listed is spelled as it is written
pub row_spelled : (h : List ℕ) (rs : List Row) → leb 1 (row_in rs h).number ≡ true → h ≡ spell (row_in rs h).number
unfolding row_in
row_spelled h [] e = absurd (omega (arith, leb-true 1 0 e))
row_spelled h (r ∷ rs) e =
    cond_case (λ (x : Row). leb 1 x.number ≡ true → h ≡ spell x.number) (same h (spell r.number)) r (row_in rs h)
    (λ q _. same_true h (spell r.number) q)
    (λ _. row_spelled h rs) e

-- what is known where a line has no fault
pub record Sound (d : Bool) (h : List ℕ) (ss : List (List ℕ)) : Type 0 where
  pub listed : leb 1 (table_row h).number ≡ true
  pub no_mark : same h t911 ≡ false
  pub count : length ss ≡ length (table_row h).items
  pub items : items_fault d (table_row h).items ss ≡ 0
  pub paired : pairs (record_from (h ∷ ss)) ≡ true

pub sound : (d : Bool) (h : List ℕ) (ss : List (List ℕ)) → fault_from d (h ∷ ss) ≡ 0 → Sound d h ss
unfolding fault_from
sound d h ss e =
    let a = or_zero_lem (unless (leb 1 (table_row h).number || same h t911) 5) _ e in
    let b = or_zero_lem (unless (not (same h t911)) 6) _ a.1 in
    let c = or_zero_lem (unless (eqb (length ss) (length (table_row h).items)) 7) _ b.1 in
    let f = or_zero_lem (items_fault d (table_row h).items ss) _ c.1 in
    let m : same h t911 ≡ false = not_true' (same h t911) (unless_zero (not (same h t911)) 5 b.0) in
    record {
      listed = or_left (leb 1 (table_row h).number) (same h t911) m (unless_zero (leb 1 (table_row h).number || same h t911) 4 a.0);
      no_mark = m;
      count = eqb-true _ _ (unless_zero (eqb (length ss) (length (table_row h).items)) 6 c.0);
      items = f.0;
      paired = unless_zero (pairs (record_from (h ∷ ss))) 11 f.1;
    }
  where
    or_left : (a b : Bool) → b ≡ false → (a || b) ≡ true → a ≡ true
    or_left true b p q = refl
    or_left false b p q = sym p ∙ q

no_fault : (d : Bool) (h : List ℕ) (ss : List (List ℕ)) → Sound d h ss → fault_from d (h ∷ ss) ≡ 0
unfolding fault_from
no_fault d h ss s =
    both_zero _ _ (zero_unless (leb 1 (table_row h).number || same h t911) 5 (or_first _ _ s.listed))
    (both_zero _ _ (zero_unless (not (same h t911)) 6 (ap not s.no_mark))
    (both_zero _ _ (zero_unless (eqb (length ss) (length (table_row h).items)) 7 (eq-eqb _ _ s.count))
    (both_zero _ _ s.items (zero_unless (pairs (record_from (h ∷ ss))) 12 s.paired))))

-- a line that has no fault, and its record
pub record Good (d : Bool) (l : List ℕ) (r : Record) : Type 0 where
  pub again : line_fault d (write r) ≡ 0
  pub same : record_of (write r) ≡ r
  pub short : length (write r) ≤ length l
  pub clean : clean l ≡ true
  -- the items of what is written, one for each value
  pub items : items_of (write r) ≡ spell r.number ∷ map write_value r.values
  pub head : List ℕ
  pub rest : List (List ℕ)
  pub cut : items_of l ≡ head ∷ rest
  pub sound : Sound d head rest

pub line_good : (d : Bool) (l : List ℕ) → line_fault d l ≡ 0 → Good d l (record_of l)
unfolding line_fault record_of record_from write table_row
line_good d l e =
    let z : (unless (all_chars l) 4 ≡ 0) × (fault_from d (items_of l) ≡ 0) = or_zero_lem (unless (all_chars l) 4) (fault_from d (items_of l)) e in
    let chars : AllChars l = unless_zero (all_chars l) 3 z.0 in
    let p : Split l = split l in
    let h : List ℕ = p.head in
    let ss : List (List ℕ) = p.rest in
    let cp : AllChars h × All AllChars ss = chars_parts h ss (ap all_chars p.joins ∙ chars) in
    let s : Sound d h ss = sound d h ss (subst (λ (x : List (List ℕ)). fault_from d x ≡ 0) p.cut z.1) in
    let ri : List Item = (table_row h).items in
    let w : Written d ri ss = items_written d ri ss s.count s.items (all_both AllChars NoComma ss cp.1 p.others) in
    let ws : List (List ℕ) = written ri ss in
    let sp : h ≡ spell (table_row h).number = row_spelled h table s.listed in
    let is : write (record_from (h ∷ ss)) ≡ joined h ws = ap (λ (x : List ℕ). joined x ws) (sym sp) in
    let back : items_of (joined h ws) ≡ h ∷ ws = items_joined h ws p.first (commas ws w.fine) in
    let rec : record_from (h ∷ ws) ≡ record_from (h ∷ ss) = ap (λ (vs : List Value). record { number = (table_row h).number; values = vs }) w.same in
    let s' : Sound d h ws = record { listed = s.listed; no_mark = s.no_mark; count = w.count; items = w.again; paired = ap pairs rec ∙ s.paired } in
    let f : line_fault d (joined h ws) ≡ 0 =
    both_zero (unless (all_chars (joined h ws)) 4) (fault_from d (items_of (joined h ws))) (zero_unless (all_chars (joined h ws)) 4 (chars_joined h ws cp.0 (chars_all ws w.fine)))
    (subst (λ (x : List (List ℕ)). fault_from d x ≡ 0) (sym back) (no_fault d h ws s')) in
    let n : length (joined h ws) ≤ length l =
    omega (arith, joined_length h ws, joined_length h ss, ap length p.joins, w.short) in
    subst (λ (x : List (List ℕ)). Good d l (record_from x)) (sym p.cut)
    (record {
      again = ap (line_fault d) is ∙ f;
      same = ap record_of is ∙ ap record_from back ∙ rec;
      short = omega (arith, ap length is, n);
      clean = chars_clean l chars;
      items = ap items_of is ∙ back ∙ ap (λ (x : List ℕ). x ∷ ws) sp;
      head = h;
      rest = ss;
      cut = p.cut;
      sound = s;
    })
  where
    commas : (ws : List (List ℕ)) → All Fine ws → All NoComma ws
    commas [] f = tt
    commas (w ∷ ws) (f, fs) = (f.1, commas ws fs)

    chars_all : (ws : List (List ℕ)) → All Fine ws → All AllChars ws
    chars_all [] f = tt
    chars_all (w ∷ ws) (f, fs) = (f.0, chars_all ws fs)

-- what is read has no fault, and is the line's record
pub read_is : (d : Bool) (l : List ℕ) (r : Record) → read_line d l ≡ ok r → (line_fault d l ≡ 0) × (record_of l ≡ r)
unfolding read_line
read_is d l r e = go (eqb (line_fault d l) 0) refl e
  where
    go : (b : Bool) → eqb (line_fault d l) 0 ≡ b → cond b (ok (record_of l)) (faulty (line_fault d l)) ≡ ok r → (line_fault d l ≡ 0) × (record_of l ≡ r)
    go true q e = (eqb-true _ _ q, cc)
    go false q e = let z : ◌≡◌ {A = ℕ} 0 1 = cc in absurd (omega arith)

pub reads : (d : Bool) (l : List ℕ) → line_fault d l ≡ 0 → read_line d l ≡ ok (record_of l)
unfolding read_line
reads d l e = rw (eq-eqb (line_fault d l) 0 e)

-- the law of a line that is read
pub line_read : (d : Bool) (l : List ℕ) (r : Record) → read_line d l ≡ ok r → Good d l r
line_read d l r e = subst (Good d l) (read_is d l r e).1 (line_good d l (read_is d l r e).0)
