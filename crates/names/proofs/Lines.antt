-- The second line of a file with a record 1: its fault by its items, the facts that the order sees in it, and the file that it begins. Assumes nothing.
use Prim.Native.Nat.{ℕ, zero, suc, ◌+◌, ◌≤◌}
use native.Mathlib.Omega.{arith}
use mathlib.Core.Path.{◌≡◌, refl, sym, ap, ap₂, ◌∙◌}
use mathlib.Core.Bool.{Bool, true, false, cond, not, ◌&&◌, ◌||◌, false≢true}
use mathlib.Core.List.{List, [], ◌∷◌, ◌++◌}
use borrow.Author.Tests.{le-leb}
use lib.Dec.{leb, eqb}
use lib.ListN.{length}
use Rattle.lists.specs.Lists.{bytes, empty, same, all, All, Res, ok, refused, map_res, ◌or_else◌, unless}
use Rattle.lists.proofs.Tests.{both, neither, not_true', or_zero_lem, unless_zero, all_append}
use Rattle.digits.specs.Digits.{spell}
use Rattle.characters.specs.Text.{all_chars, is_stop, text}
use Rattle.characters.specs.Rows.{rows, is_line}
use Rattle.characters.specs.Scanning.{clean}
use Rattle.characters.proofs.RowLaws.{line_is, line_text}
use Rattle.records.specs.Table.{Item, N, U, X, K, P, W, D, among, ◌!, ◌¿, table}
use Rattle.records.specs.Items.{edge, one_script, sized, fault}
use Rattle.records.specs.Split.{items_of, joined}
use Rattle.records.specs.Records.{Record, item_fault, items_fault, items_value, row_in, table_row, pairs, t911, record_from, fault_from, line_fault, record_of, header}
use Rattle.records.proofs.Splits.{NoComma, AllChars, items_joined, chars_split, chars_parts}
use Rattle.order.specs.declared.State.{State}
use Rattle.order.specs.State.{Step}
use Rattle.order.specs.State.{Fault, On}
use Rattle.order.specs.State.{start, step_of}
use Rattle.notebook.specs.Facts.{facts_of}
use Rattle.notebook.specs.Notebook.{Notebook, step_line, onward, records_from, notebook_of, read_rows, read_file}
use Rattle.notebook.specs.Canonical.{ended, head_row}
use Rattle.notebook.proofs.Accepted.{row_cut, head_line, head_text, line_no_end}
use Rattle.names.specs.Names.{Person, items_with, file_after, file_with, IsItem, AreItems, Proper}

-- ---- items have no comma, and are clean

item_parts : (s : List ℕ) → IsItem s → NoComma s × (clean s ≡ true)
item_parts [] e = (tt, refl)
item_parts (b ∷ s) e =
    let p = both (not (eqb b 0x2c || is_stop b)) (all (λ b. not (eqb b 0x2c || is_stop b)) s) e in
    let q = neither (eqb b 0x2c) (is_stop b) (not_true' (eqb b 0x2c || is_stop b) p.0) in
    let r = item_parts s p.1 in
    ((q.0, r.0), rw q.1 r.1)

no_commas : (ss : List (List ℕ)) → All IsItem ss → All NoComma ss
no_commas [] h = tt
no_commas (s ∷ ss) (p, h) = ((item_parts s p).0, no_commas ss h)

joined_clean : (h : List ℕ) (ss : List (List ℕ)) → clean h ≡ true → All IsItem ss → clean (joined h ss) ≡ true
unfolding joined
joined_clean h [] c a = c
joined_clean h (s ∷ ss) c (p, a) =
    all_append (λ b. not (is_stop b)) h (0x2c ∷ joined s ss) ∙ rw (c, joined_clean s ss (item_parts s p).1 a) refl

-- ---- the line

abbrev pub line_with : Person → List ℕ → List ℕ
line_with p kana = joined (49 ∷ []) (items_with p kana)

module _ (p : Person) (kana : List ℕ) (w : AreItems p kana) where
  pub line_clean : clean (line_with p kana) ≡ true
  line_clean = joined_clean (49 ∷ []) (items_with p kana) refl w

  pub line_items : items_of (line_with p kana) ≡ (49 ∷ []) ∷ items_with p kana
  line_items = items_joined (49 ∷ []) (items_with p kana) (refl, tt) (no_commas (items_with p kana) w)

-- ---- its fault: the items before the kana name, then the kana name

or_none : (a : ℕ) → a or_else 0 ≡ a
or_none zero = refl
or_none (suc a) = refl

or_assoc : (a b c : ℕ) → a or_else (b or_else c) ≡ (a or_else b) or_else c
or_assoc zero b c = refl
or_assoc (suc a) b c = refl

last_item : (d : Bool) (is : List Item) (ss : List (List ℕ)) (i : Item) (s : List ℕ) → length is ≡ length ss
    → items_fault d (is ++ i ∷ []) (ss ++ s ∷ []) ≡ items_fault d is ss or_else item_fault d i s
unfolding items_fault
last_item d [] [] i s e = or_none (item_fault d i s)
last_item d [] (t ∷ ss) i s e = absurd (omega arith)
last_item d (j ∷ is) [] i s e = absurd (omega arith)
last_item d (j ∷ is) (t ∷ ss) i s e =
    ap (λ (n : ℕ). item_fault d j t or_else n) (last_item d is ss i s (omega arith)) ∙ or_assoc (item_fault d j t) (items_fault d is ss) (item_fault d i s)

-- the kinds of the nine items, and the nine
nine_kinds : List Item
nine_kinds = U 40 ! ∷ among (1 ∷ 2 ∷ []) ! ∷ D ! ∷ P ¿ ∷ N 800 ¿ ∷ X 13 ¿ ∷ N 800 ¿ ∷ N 20 ¿ ∷ W ¿ ∷ []

abbrev nine : Person → List (List ℕ)
nine p = p.name ∷ p.sex ∷ p.birth ∷ p.postal ∷ p.address ∷ p.telephone ∷ p.emergency ∷ p.blood ∷ p.weight ∷ []

pub nine_fault : Bool → Person → ℕ
nine_fault d p = items_fault d nine_kinds (nine p)

pub kana_fault : Bool → List ℕ → ℕ
kana_fault d kana = item_fault d (K 40 ¿) kana

from_items : (d : Bool) (p : Person) (kana : List ℕ) → fault_from d ((49 ∷ []) ∷ items_with p kana) ≡ nine_fault d p or_else kana_fault d kana
unfolding nine_fault kana_fault nine_kinds spell table row_in table_row pairs t911 record_from fault_from
from_items d p kana = or_none (items_fault d (nine_kinds ++ (K 40 ¿) ∷ []) (nine p ++ kana ∷ [])) ∙ last_item d nine_kinds (nine p) (K 40 ¿) kana refl

pub line_fault_lem : (d : Bool) (p : Person) (kana : List ℕ) → AreItems p kana
    → line_fault d (line_with p kana) ≡ unless (all_chars (line_with p kana)) 4 or_else (nine_fault d p or_else kana_fault d kana)
unfolding line_fault
line_fault_lem d p kana w =
    ap (λ (n : ℕ). unless (all_chars (line_with p kana)) 4 or_else n) (ap (fault_from d) (line_items p kana w) ∙ from_items d p kana)

-- characters of a line by its last item
chars_last : (h : List ℕ) (ss : List (List ℕ)) (s t : List ℕ) → all_chars s ≡ all_chars t → all_chars (joined h (ss ++ s ∷ [])) ≡ all_chars (joined h (ss ++ t ∷ []))
unfolding joined
chars_last h [] s t e = chars_split h s ∙ ap (λ (b : Bool). all_chars h && b) e ∙ sym (chars_split h t)
chars_last h (u ∷ ss) s t e =
    chars_split h (joined u (ss ++ s ∷ [])) ∙ ap (λ (b : Bool). all_chars h && b) (chars_last u ss s t e) ∙ sym (chars_split h (joined u (ss ++ t ∷ [])))

pub line_chars : (p : Person) (s t : List ℕ) → all_chars s ≡ all_chars t → all_chars (line_with p s) ≡ all_chars (line_with p t)
line_chars p s t e = chars_last (49 ∷ []) (nine p) s t e

all_last : (ts : List (List ℕ)) (s : List ℕ) → All AllChars (ts ++ s ∷ []) → all_chars s ≡ true
all_last [] s (q, r) = q
all_last (t ∷ ts) s (q, r) = all_last ts s r

pub last_chars : (p : Person) (s : List ℕ) → all_chars (line_with p s) ≡ true → all_chars s ≡ true
last_chars p s e = all_last (nine p) s (chars_parts (49 ∷ []) (nine p ++ s ∷ []) e).1

-- ---- the kana name's own fault

none_script : one_script [] ≡ true
unfolding one_script
none_script = refl

pub kana_mixed : (d : Bool) (kana : List ℕ) → Proper kana → one_script kana ≡ false → kana_fault d kana ≡ 11
unfolding kana_fault item_fault fault sized
kana_mixed d [] w e = absurd (false≢true (sym e ∙ none_script))
kana_mixed d (b ∷ s) w e = rw (le-leb (length (b ∷ s)) 40 w.short, w.inner, e) refl

pub kana_good : (d : Bool) (kana : List ℕ) → Proper kana → one_script kana ≡ true → kana_fault d kana ≡ 0
unfolding kana_fault item_fault fault sized
kana_good d [] w e = refl
kana_good d (b ∷ s) w e = rw (le-leb (length (b ∷ s)) 40 w.short, w.inner, e) refl

pub kana_script : (d : Bool) (kana : List ℕ) → kana_fault d kana ≡ 0 → one_script kana ≡ true
unfolding kana_fault item_fault fault sized
kana_script d [] e = none_script
kana_script d (b ∷ s) e =
    let x = or_zero_lem (unless (leb (length (b ∷ s)) 40) 9) _ e in
    let y = or_zero_lem (unless (not (edge (b ∷ s))) 10) _ x.1 in
    unless_zero (one_script (b ∷ s)) 10 y.1

-- ---- the file

module _ (d : Bool) (p : Person) (kana rest : List ℕ) (w : AreItems p kana) (small : length (file_with d p kana rest) ≤ 65536) where
  line_row : is_line (ended (line_with p kana)) ≡ true
  line_row = line_is (line_with p kana) (line_clean p kana w)

  file_rows : rows (file_with d p kana rest) ≡ head_row d ∷ ended (line_with p kana) ∷ rows rest
  unfolding file_after
  file_rows =
      row_cut (head_row d) (ended (line_with p kana) ++ rest) (head_line d)
      ∙ ap (λ (rs : List (List ℕ)). head_row d ∷ rs) (row_cut (ended (line_with p kana)) rest line_row)

  abbrev after : Res (List Record)
  after = onward 2 (record_of (line_with p kana)) (λ t. records_from t (rows rest)) (step_line (start d) (line_with p kana))

  second : records_from (start d) (ended (line_with p kana) ∷ rows rest) ≡ after
  unfolding records_from start
  second = rw (line_no_end (ended (line_with p kana)) line_row, line_row, line_text (line_with p kana) (line_clean p kana w)) refl

  by_head : (e : Bool) → read_rows (head_row e ∷ ended (line_with p kana) ∷ rows rest) ≡ notebook_of e (records_from (start e) (ended (line_with p kana) ∷ rows rest))
  unfolding read_rows header bytes is_line
  by_head true = refl
  by_head false = refl

  -- what is read of it goes by the step that the order takes with the second line
  pub file_read : read_file (file_with d p kana rest) ≡ notebook_of d after
  unfolding read_file
  file_read = rw (le-leb (length (file_with d p kana rest)) 65536 small, file_rows) (by_head d ∙ ap (notebook_of d) second)

-- the order sees nothing of the kana name, and the record is a 1
items_facts : (p : Person) (s t : List ℕ) → facts_of (record_from ((49 ∷ []) ∷ items_with p s)) ≡ facts_of (record_from ((49 ∷ []) ∷ items_with p t))
unfolding facts_of record_from spell table row_in table_row items_value
items_facts p s t = refl

pub same_facts : (p : Person) (s t : List ℕ) → AreItems p s → AreItems p t → facts_of (record_of (line_with p s)) ≡ facts_of (record_of (line_with p t))
unfolding record_of
same_facts p s t v w =
    ap (λ (x : List (List ℕ)). facts_of (record_from x)) (line_items p s v) ∙ items_facts p s t ∙ sym (ap (λ (x : List (List ℕ)). facts_of (record_from x)) (line_items p t w))

pub one_number : (p : Person) (s : List ℕ) → AreItems p s → (record_of (line_with p s)).number ≡ 1
unfolding record_of record_from spell table row_in table_row
one_number p s v = ap (λ (x : List (List ℕ)). (record_from x).number) (line_items p s v)
