-- A record line by the code's numbers is the definition's: one law for each way through `number_of`, and what the pairs leave. Assumes nothing.
use Prim.Native.Nat.{ℕ, ◌≤◌}
use mathlib.Core.Path.{◌≡◌, refl, sym, ap, ◌∙◌}
use mathlib.Core.Bool.{Bool, true, false, cond, not, ◌||◌}
use mathlib.Core.List.{List, [], ◌∷◌, map}
use native.Mathlib.Omega.{arith}
use borrow.Author.Tests.{le-leb, eq-eqb, ne_eqb, eqb-false}
use lib.Dec.{leb, eqb}
use lib.ListN.{length, drop, get_or}
use Rattle.std.specs.Prelude.{Option, Some, None, Result, Ok, Err, unwrap_or}
use Rattle.lists.specs.Lists.{same, unless, ◌or_else◌}
use Rattle.lists.proofs.Tests.{or_stops}
use Rattle.digits.specs.Digits.{spell}
use Rattle.digits.specs.Short.{plain_number}
use Rattle.digits.proofs.Spelling.{same_spell}
use Rattle.characters.specs.Scanning.{comma_count}
use Rattle.replies.specs.declared.refusal.Refusal.{Refusal}
use Rattle.replies.specs.declared.refusal.Refusal.TheVariants.{Record as NoRecord, Piece, Items as Count, Pair}
use Rattle.replies.specs.Refusals.{number_of}
use Rattle.replies.proofs.Numbers.{never_0}
use Rattle.order.specs.declared.Facts.{Facts}
use Rattle.records.specs.Split.{items_of}
use Rattle.records.specs.Table.{table}
use Rattle.records.specs.Records.{t911, no_row, table_row, record_from, record_of, items_value, items_fault, pairs, fault_from}
use Rattle.notebook.specs.Facts.{facts_of}
use Rattle.items.specs.declared.kinds.Item.{Item}
use Rattle.items.specs.Kinds.{item_of}
use Rattle.table.specs.Rows.{row_by, paper_row, RowOf}
use Rattle.lines.specs.Details.{pairs_raw, facts_raw, details_raw}
use Rattle.lines.specs.Found.{Sound, NumberOf}
use Rattle.lines.proofs.SplitLaws.{items_count, items_some}
use Rattle.table.proofs.TableLaws.{row_of_number}
use Rattle.lines.proofs.RowLaws.{paper_number, paper_listed, paper_items, paper_length}
use Rattle.lines.proofs.FactLaws.{pairs_is, facts_is}

-- ---- a line's fault by its first item h and the others

module _ (b : Bool) (h : List ℕ) (ss : List (List ℕ)) where
  mark : same h t911 ≡ eqb (unwrap_or (plain_number h) 0) 911
  unfolding t911 spell
  mark = same_spell h 911 (omega arith) (omega arith)

  fault_none : plain_number h ≡ None → fault_from b (h ∷ ss) ≡ 5
  unfolding fault_from row_by table
  fault_none e = rw (row_of_number h, mark, e)

  module _ {n : ℕ} (e : plain_number h ≡ Some n) where
    row_is : table_row h ≡ paper_row n
    row_is = row_of_number h ∙ ap (λ (o : Option ℕ). paper_row (unwrap_or o 0)) e

    mark_is : same h t911 ≡ eqb n 911
    mark_is = mark ∙ ap (λ (o : Option ℕ). eqb (unwrap_or o 0) 911) e

    fault_is : fault_from b (h ∷ ss) ≡
        unless (leb 1 (paper_row n).number || eqb n 911) 5 or_else unless (not (eqb n 911)) 6 or_else unless (eqb (length ss) (length (paper_row n).items)) 7 or_else
        items_fault b (paper_row n).items ss or_else unless (pairs (record_from (h ∷ ss))) 12
    unfolding fault_from
    fault_is = rw (row_is, mark_is)

    record_is : 1 ≤ (paper_row n).number → record_from (h ∷ ss) ≡ record { number = n; values = items_value (paper_row n).items ss }
    unfolding record_from
    record_is l = rw (row_is, paper_number n l)

-- ---- the ways through number_of

-- the number of a record 911 is in no row
no_911 : (paper_row 911).number ≡ 0
unfolding row_by table
no_911 = refl

module _ (b : Bool) (s : List ℕ) {h : List ℕ} (q : h ≡ get_or (items_of s) 0 []) {o : Option ℕ} (m : o ≡ plain_number h) where
  told : {r : Refusal} → fault_from b (get_or (items_of s) 0 [] ∷ drop 1 (items_of s)) ≡ number_of r → NumberOf b s (Err r)
  told e = record { means = sym (ap (fault_from b) (items_some s) ∙ e) }

  pub number_none : o ≡ None → NumberOf b s (Err NoRecord)
  number_none e = told (fault_none b _ _ (ap plain_number (sym q) ∙ sym m ∙ e))

  module _ {n : ℕ} (p : o ≡ Some n) where
    some : plain_number (get_or (items_of s) 0 []) ≡ Some n
    some = ap plain_number (sym q) ∙ sym m ∙ p

    faults : fault_from b (get_or (items_of s) 0 [] ∷ drop 1 (items_of s)) ≡
        unless (leb 1 (paper_row n).number || eqb n 911) 5 or_else unless (not (eqb n 911)) 6 or_else unless (eqb (length (drop 1 (items_of s))) (length (paper_row n).items)) 7 or_else
        items_fault b (paper_row n).items (drop 1 (items_of s)) or_else unless (pairs (record_from (get_or (items_of s) 0 [] ∷ drop 1 (items_of s)))) 12
    faults = fault_is b _ _ some

    pub number_mark : n ≡ 911 → NumberOf b s (Err Piece)
    number_mark e = told (faults ∙ rw (e, no_911))

    module _ (z : n ≡ 911 → ⊥) where
      pub number_unlisted : paper_row n ≡ no_row → NumberOf b s (Err NoRecord)
      number_unlisted e = told (faults ∙ rw (ne_eqb n 911 z, e))

      module _ {row : List Item} (v : RowOf n row) where
        listed : leb 1 (paper_row n).number ≡ true
        listed = le-leb 1 _ (paper_listed v)

        module _ {commas : ℕ} (k : commas ≡ comma_count s) where
          counted : commas ≡ length (drop 1 (items_of s))
          counted = omega (arith, k, items_count s, ap length (items_some s))

          pub number_count : (commas ≡ length row → ⊥) → NumberOf b s (Err Count)
          number_count w =
              told (faults ∙ rw (ne_eqb n 911 z, listed, ne_eqb (length (drop 1 (items_of s))) (length (paper_row n).items) (λ y. w (omega (arith, counted, y, paper_length v)))))

          module _ (w : commas ≡ length row) where
            items_left : fault_from b (get_or (items_of s) 0 [] ∷ drop 1 (items_of s))
                ≡ items_fault b (map item_of row) (drop 1 (items_of s)) or_else unless (pairs (record_from (get_or (items_of s) 0 [] ∷ drop 1 (items_of s)))) 12
            items_left =
                faults ∙ rw (
                  ne_eqb n 911 z,
                  listed,
                  eq-eqb (length (drop 1 (items_of s))) (length (paper_row n).items) (omega (arith, counted, w, paper_length v)),
                  paper_items v,
                )

            pub number_fault : {r : Refusal} → number_of r ≡ items_fault b (map item_of row) (drop 1 (items_of s)) → NumberOf b s (Err r)
            number_fault {r} e = told (items_left ∙ rw (← e) (or_stops (number_of r) _ (eqb-false (number_of r) 0 (never_0 r))))

            pub number_fine : 0 ≡ items_fault b (map item_of row) (drop 1 (items_of s)) → NumberOf b s (Ok n)
            number_fine e = record {
              means = record {
                number = some;
                listed = paper_listed v;
                count = omega (arith, k, w, paper_length v);
                items = ap (λ (x : List _). items_fault b x (drop 1 (items_of s))) (paper_items v) ∙ sym e;
              };
            }

pub ruleset number_laws = (number_none, number_mark, number_unlisted, number_count, number_fault, number_fine)

-- ---- a line without a fault in number and items: its facts, and what its pairs leave

module _ {b : Bool} {s : List ℕ} {n : ℕ} (v : Sound b s n) where
  rest : List (List ℕ)
  rest = drop 1 (items_of s)

  count_is : length (drop 1 (items_of s)) ≡ length (paper_row n).items
  count_is = omega (arith, v.count, items_count s, ap length (items_some s))

  no_mark : n ≡ 911 → ⊥
  no_mark e = omega (arith, v.listed, ap (λ (x : ℕ). (paper_row x).number) e, no_911)

  pairs_are : pairs (record_from (get_or (items_of s) 0 [] ∷ drop 1 (items_of s))) ≡ pairs_raw n (drop 1 (items_of s))
  pairs_are = ap pairs (record_is b _ _ v.number v.listed) ∙ pairs_is n (drop 1 (items_of s)) count_is

  facts_are : facts_of (record_of s) ≡ facts_raw n (drop 1 (items_of s))
  unfolding record_of
  facts_are =
      ap (λ (x : List (List ℕ)). facts_of (record_from x)) (items_some s) ∙ ap facts_of (record_is b _ _ v.number v.listed)
      ∙ facts_is n (drop 1 (items_of s)) count_is v.listed

  left : fault_from b (items_of s) ≡ unless (pairs_raw n (drop 1 (items_of s))) 12
  left =
      ap (fault_from b) (items_some s) ∙ fault_is b _ _ v.number ∙ rw (
        ne_eqb n 911 no_mark,
        le-leb 1 _ v.listed,
        eq-eqb (length (drop 1 (items_of s))) (length (paper_row n).items) count_is,
        v.items,
        pairs_are,
      )

  -- what is told of the pairs and the facts is the record's
  told_pairs : {r : Result Facts Refusal} → r ≡ details_raw n (drop 1 (items_of s)) → (x : Bool) → pairs_raw n (drop 1 (items_of s)) ≡ x
      → r ≡ cond x (Ok (facts_raw n (drop 1 (items_of s)))) (Err Pair)
  unfolding details_raw
  told_pairs e x p = e ∙ rw p

  module _ {r : Result Facts Refusal} (h : r ≡ details_raw n (drop 1 (items_of s))) where
    pub sound_good : {f : Facts} → r ≡ Ok f → (fault_from b (items_of s) ≡ 0) × (f ≡ facts_of (record_of s))
    sound_good {f} q = go (pairs_raw n (drop 1 (items_of s))) refl
      where
        go : (x : Bool) → pairs_raw n (drop 1 (items_of s)) ≡ x → (fault_from b (items_of s) ≡ 0) × (f ≡ facts_of (record_of s))
        go true p = let e : Ok f ≡ Ok (facts_raw n (drop 1 (items_of s))) = sym q ∙ told_pairs h true p in (left ∙ rw p, (let g : f ≡ facts_raw n (drop 1 (items_of s)) = cc in g) ∙ sym facts_are)
        go false p = let e : Ok f ≡ Err Pair = sym q ∙ told_pairs h false p in cc

    pub sound_broken : {x : Refusal} → r ≡ Err x → number_of x ≡ fault_from b (items_of s)
    sound_broken {x} q = go (pairs_raw n (drop 1 (items_of s))) refl
      where
        go : (y : Bool) → pairs_raw n (drop 1 (items_of s)) ≡ y → number_of x ≡ fault_from b (items_of s)
        go true p = let e : Err x ≡ Ok (facts_raw n (drop 1 (items_of s))) = sym q ∙ told_pairs h true p in cc
        go false p = let e : Err x ≡ Err Pair = sym q ∙ told_pairs h false p in (let g : x ≡ Pair = cc in ap number_of g) ∙ sym (left ∙ rw p)
