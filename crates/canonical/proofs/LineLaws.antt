-- A line in its one spelling: its number, and its items one after another. Assumes nothing.
use Prim.Native.Nat.{ℕ, ◌+◌, ◌-◌, ◌≤◌, ◌<◌}
use native.Mathlib.Omega.{arith}
use mathlib.Core.Path.{◌≡◌, refl, sym, ap, ◌∙◌, subst}
use mathlib.Core.Bool.{Bool, true, false}
use mathlib.Core.List.{List, [], ◌∷◌, ◌++◌, map, append-nil}
use lib.ListN.{length, get_or, take, drop, length-append}
use lib.Dec.{leb}
use lib.Seq.{sets, length-sets}
use borrow.Author.Tests.{le-leb, leb-true}
use Rattle.std.specs.Prelude.{unwrap_or}
use Rattle.lists.specs.Searching.{part}
use Rattle.lists.proofs.Tests.{or_zero_lem}
use Rattle.lists.proofs.Cuts.{drop_step, drop_end}
use Rattle.lists.proofs.Parts.{part_length, part_part}
use Rattle.digits.specs.Short.{plain_number}
use Rattle.characters.specs.Scanning.{comma_count}
use Rattle.records.specs.Table.{Kind, Item, Row, table}
use Rattle.records.specs.Split.{items_of, joined}
use Rattle.records.specs.Items.{write_value}
use Rattle.records.specs.Records.{item_value, item_fault, items_fault, items_value, table_row, record_from, record_of, write}
use Rattle.records.proofs.LineLaws.{row_spelled, Good, line_good}
use Rattle.items.specs.declared.kinds.Kind.{Kind as CodeKind}
use Rattle.items.specs.Kinds.{kind_of}
use Rattle.table.specs.Rows.{paper_row}
use Rattle.table.proofs.TableLaws.{all_rows, row_of_number, listed_row}
use Rattle.lines.specs.Line.{comma_at, LineIn, item_at}
use Rattle.lines.proofs.SplitLaws.{items_count, comma_le, comma_last, number_part}
use Rattle.lines.proofs.RowLaws.{paper_number}
use Rattle.buffers.specs.Buffers.{Room, Wrote}
use Rattle.buffers.proofs.Runs.{carry}
use Rattle.canonical.specs.declared.Run.{Run}
use Rattle.canonical.specs.Writing.{item_bytes, Spellable, one_spelling, ahead, reach, Ready, Passed, tail_of, spots_from, spots_of, spot_of, Sound, ItemOf}
use Rattle.canonical.proofs.RunLaws.{passes, waits}
use Rattle.canonical.proofs.PassLaws.{begins_at, ends_at, pass_own}
use Rattle.canonical.proofs.ItemLaws.{own_kind}

-- items without a fault
abbrev AllSpellable : List Item → List (List ℕ) → Type 0
AllSpellable [] ss = Unit {0}
AllSpellable (i ∷ is) [] = Unit {0}
AllSpellable (i ∷ is) (s ∷ ss) = Spellable i.kind s × AllSpellable is ss

-- ---- the items: those of is are left from number j on; w: all of them, as they are written

record Writing (n : ℕ) (w s : List ℕ) (is : List Item) (j : ℕ) (d : List ℕ) (at : ℕ) (d' : List ℕ) (next : ℕ) : Type 0 where
  due : sets d' next (tail_of is (drop j (items_of s))) ≡ sets d at w
  count : next + length (tail_of is (drop j (items_of s))) ≡ at + length w
  hold : at + length w ≤ length d
  size : length d' ≡ length d
  good : AllSpellable is (drop j (items_of s))
  some : 1 ≤ j
  few : j + length is ≡ n + 1

writing_done : {n : ℕ} {w s : List ℕ} {j : ℕ} {d : List ℕ} {at : ℕ} {d' : List ℕ} {next : ℕ} → Writing n w s [] j d at d' next → Wrote d d' at next w
unfolding tail_of
writing_done v = record { next = omega (arith, v.count); list = v.due; size = v.size; high = omega (arith, v.count, v.hold) }

module _ {n : ℕ} {w s : List ℕ} {i : Item} {is : List Item} {j : ℕ} {d : List ℕ} {at : ℕ} {d' : List ℕ} {next : ℕ}
    (v : Writing n w s (i ∷ is) j d at d' next) (m : comma_count s ≡ n) where
  item : List ℕ
  item = get_or (items_of s) j []

  items_left : drop j (items_of s) ≡ item ∷ drop (j + 1) (items_of s)
  unfolding item
  items_left = drop_step (items_of s) j [] (omega (arith, items_count s, m, v.few))

  own : List ℕ
  own = 0x2c ∷ item_bytes i.kind item

  turn : tail_of (i ∷ is) (drop j (items_of s)) ≡ own ++ tail_of is (drop (j + 1) (items_of s))
  unfolding tail_of own
  turn = rw items_left

  goods : AllSpellable (i ∷ is) (item ∷ drop (j + 1) (items_of s))
  goods = rw items_left at v.good

  turn_length : length (tail_of (i ∷ is) (drop j (items_of s))) ≡ length own + length (tail_of is (drop (j + 1) (items_of s)))
  turn_length = ap length turn ∙ length-append own (tail_of is (drop (j + 1) (items_of s)))

  writing_spellable : Spellable i.kind (get_or (items_of s) j [])
  unfolding item
  writing_spellable = goods.0

  writing_room : Room d' next (0x2c ∷ item_bytes i.kind (get_or (items_of s) j []))
  unfolding own item
  writing_room = omega (arith, v.count, v.hold, v.size, turn_length)

  writing_next : {d'' : List ℕ} {behind : ℕ} → Wrote d' d'' next behind (0x2c ∷ item_bytes i.kind (get_or (items_of s) j [])) → Writing n w s is (j + 1) d at d'' behind
  unfolding own item
  writing_next x = record {
    due = carry (tail_of is (drop (j + 1) (items_of s))) x (rw turn at v.due);
    count = omega (arith, x.next, v.count, turn_length);
    hold = v.hold;
    size = x.size ∙ v.size;
    good = goods.1;
    some = omega arith;
    few = omega (arith, v.few);
  }

-- ---- the same in a file, where the items wait or are written

record Turning (n : ℕ) (w s : List ℕ) (at e : ℕ) (is : List Item) (j : ℕ) (start : Run) (d d' : List ℕ) (run : Run) : Type 0 where
  writing : Writing n w (part s at e) is j (ahead s d start (begins_at s at e 1)) (reach start (begins_at s at e 1)) (ahead s d' run (begins_at s at e j)) (reach run (begins_at s at e j))
  low : run.from ≤ begins_at s at e j
  size : length d' ≡ length d

-- w stands for the items of a line: its length is what follows the number
module _ {n : ℕ} {w s : List ℕ} {at e : ℕ} {start : Run} {d d' : List ℕ} {run : Run} {stops : List ℕ} (v : LineIn s at e stops n) where
  turning_done : {j : ℕ} → Turning n w s at e [] j start d d' run → Passed s d d' start run (begins_at s at e 1) e w
  turning_done {j} t =
      let q : begins_at s at e j ≡ e =
      let z : j - 1 ≡ n = omega (arith, t.writing.few) in
      ap (λ (k : ℕ). at + comma_at (part s at e) k) z ∙ omega (arith, comma_last (part s at e) n (omega (arith, v.commas)), part_length s at e v.low v.high, v.low)
      in
      subst (λ (p : ℕ). Passed s d d' start run (begins_at s at e 1) p w) q (record { wrote = writing_done t.writing; low = t.low; size = t.size })

  module _ {i : Item} {is : List Item} {j : ℕ} (t : Turning n w s at e (i ∷ is) j start d d' run) where
    turning_item : n ≤ 15 → ItemOf j n
    turning_item f = record { low = t.writing.some; high = omega (arith, t.writing.few); few = omega (arith, t.writing.few) }

    turning_spellable : Spellable i.kind (item_at s at e j)
    turning_spellable = writing_spellable t.writing (sym v.commas)

    turning_ready : Ready d' run (begins_at s at e j) (0x2c ∷ item_bytes i.kind (item_at s at e j))
    turning_ready = record {
      low = t.low;
      room = omega (arith, writing_room t.writing (sym v.commas), length-sets d' run.at (part s run.from (begins_at s at e j)));
    }

    turning_next : {d'' : List ℕ} {r : Run} → Passed s d' d'' run r (begins_at s at e j) (ends_at s at e j) (0x2c ∷ item_bytes i.kind (item_at s at e j))
        → Turning n w s at e is (j + 1) start d d'' r
    turning_next {d''} {r} x =
        let z : j ≡ j + 1 - 1 = omega arith in
        let q : ends_at s at e j ≡ begins_at s at e (j + 1) = ap (λ (k : ℕ). at + comma_at (part s at e) k) z in
        let y : Passed s d' d'' run r (begins_at s at e j) (begins_at s at e (j + 1)) (0x2c ∷ item_bytes i.kind (item_at s at e j)) =
        subst (λ (p : ℕ). Passed s d' d'' run r (begins_at s at e j) p (0x2c ∷ item_bytes i.kind (item_at s at e j))) q x in
        record { writing = writing_next t.writing (sym v.commas) y.wrote; low = y.low; size = y.size ∙ t.size }

-- ---- the loop over the items xs that may have another spelling: k of them are passed

pub record Spotting (n : ℕ) (w s : List ℕ) (at e : ℕ) (start : Run) (d d' : List ℕ) (run : Run) (xs : List (ℕ × CodeKind)) (k : ℕ) : Type 0 where
  is : List Item
  j : ℕ
  turning : Turning n w s at e is j start d d' run
  spots : map spot_of (drop k xs) ≡ spots_from j is

-- the first of them
record Found (n : ℕ) (w s : List ℕ) (at e : ℕ) (start : Run) (d d' : List ℕ) (run : Run) (x : ℕ × Kind) (xs : List (ℕ × Kind)) : Type 0 where
  i : Item
  is : List Item
  turning : Turning n w s at e (i ∷ is) x.0 start d d' run
  kind : i.kind ≡ x.1
  others : xs ≡ spots_from (x.0 + 1) is

module _ {n : ℕ} {w s : List ℕ} {at e : ℕ} {start : Run} {d d' : List ℕ} {run : Run} {stops : List ℕ} (v : LineIn s at e stops n) (f : n ≤ 15) where
  -- an item that is its own spelling is passed by nothing
  kept_turn : {i : Item} {is : List Item} {j : ℕ} → Turning n w s at e (i ∷ is) j start d d' run → one_spelling i.kind ≡ true → Turning n w s at e is (j + 1) start d d' run
  kept_turn {i} {is} {j} t o =
      turning_next v t (pass_own s at e j v (turning_item v t f) d' run i.kind (own_kind i.kind (item_at s at e j) o) (turning_ready v t))

  found : (is : List Item) (j : ℕ) {x : ℕ × Kind} {xs : List (ℕ × Kind)} → Turning n w s at e is j start d d' run → x ∷ xs ≡ spots_from j is → Found n w s at e start d d' run x xs
  unfolding spots_from
  found [] j t q = cc
  found (i ∷ is) j {x} {xs} t q = go (one_spelling i.kind) refl (λ u p. found is (j + 1) u p)
    where
      go : (o : Bool) → one_spelling i.kind ≡ o → (Turning n w s at e is (j + 1) start d d' run → x ∷ xs ≡ spots_from (j + 1) is → Found n w s at e start d d' run x xs)
          → Found n w s at e start d d' run x xs
      go true o h = h (kept_turn t o) (q ∙ rw o)
      go false o h =
          let y : x ∷ xs ≡ (j, i.kind) ∷ spots_from (j + 1) is = q ∙ rw o in
          let a : (j, i.kind) ≡ x = cc in
          let b : xs ≡ spots_from (j + 1) is = cc in
          subst (λ (z : ℕ × Kind). Found n w s at e start d d' run z xs) a (record { i = i; is = is; turning = t; kind = refl; others = b })

  -- none is left
  over : (is : List Item) (j : ℕ) → Turning n w s at e is j start d d' run → [] ≡ spots_from j is → Passed s d d' start run (begins_at s at e 1) e w
  unfolding spots_from
  over [] j t q = turning_done v t
  over (i ∷ is) j t q = go (one_spelling i.kind) refl (λ u p. over is (j + 1) u p)
    where
      go : (o : Bool) → one_spelling i.kind ≡ o → (Turning n w s at e is (j + 1) start d d' run → [] ≡ spots_from (j + 1) is → Passed s d d' start run (begins_at s at e 1) e w)
          → Passed s d d' start run (begins_at s at e 1) e w
      go true o h = h (kept_turn t o) (q ∙ rw o)
      go false o h = let y : [] ≡ (j, i.kind) ∷ spots_from (j + 1) is = q ∙ rw o in cc

-- ---- a line

-- items without a fault are spellable
all_spellable : (b : Bool) (is : List Item) (ss : List (List ℕ)) → items_fault b is ss ≡ 0 → AllSpellable is ss
unfolding items_fault item_fault
all_spellable b [] ss e = tt
all_spellable b (i ∷ is) [] e = tt
all_spellable b (i ∷ is) (s ∷ ss) e =
    let z : (item_fault b i s ≡ 0) × (items_fault b is ss ≡ 0) = or_zero_lem (item_fault b i s) (items_fault b is ss) e in
    (record { good = λ h. (rw h at z.0) }, all_spellable b is ss z.1)

-- the items of a record, each with its comma
values_tail : (h : List ℕ) (is : List Item) (ss : List (List ℕ)) → joined h (map write_value (items_value is ss)) ≡ h ++ tail_of is ss
unfolding joined items_value tail_of item_bytes item_value
values_tail h [] ss = sym (append-nil h)
values_tail h (i ∷ is) [] = sym (append-nil h)
values_tail h (i ∷ is) (s ∷ ss) = ap (λ (x : List ℕ). h ++ 0x2c ∷ x) (values_tail (write_value (item_value i s)) is ss)

few_row : Row → Bool
few_row r = leb (length r.items) 15

few_rows : all_rows few_row table ≡ true
unfolding all_rows table few_row
few_rows = refl

few_items : (n : ℕ) → 1 ≤ (paper_row n).number → length (paper_row n).items ≤ 15
unfolding few_row
few_items n l = leb-true _ _ (listed_row few_row table n few_rows (le-leb 1 _ l))

-- a line without a fault by its first item and its record's row
record Parts (number : ℕ) (s : List ℕ) : Type 0 where
  head : List ℕ
  rest : List (List ℕ)
  cut : items_of s ≡ head ∷ rest
  few : length (paper_row number).items ≤ 15
  count : length rest ≡ length (paper_row number).items
  items : AllSpellable (paper_row number).items rest
  row : write (record_of s) ≡ head ++ tail_of (paper_row number).items rest

parts : {number : ℕ} {s : List ℕ} → Sound number s → Parts number s
unfolding record_of record_from write table_row
parts {number} {s} v =
    let g : Good v.provider s (record_of s) = line_good v.provider s v.good in
    let h : List ℕ = g.head in
    let m : ℕ = unwrap_or (plain_number h) 0 in
    let t : table_row h ≡ paper_row m = row_of_number h in
    let l : 1 ≤ (paper_row m).number = leb-true 1 _ (ap (λ x. leb 1 x.number) (sym t) ∙ g.sound.listed) in
    let n : number ≡ m = v.number ∙ ap (λ (x : List (List ℕ)). (record_from x).number) g.cut ∙ ap (λ x. x.number) t ∙ paper_number m l in
    let i : (table_row h).items ≡ (paper_row number).items = ap (λ x. x.items) t ∙ ap (λ (x : ℕ). (paper_row x).items) (sym n) in
    record {
      head = h;
      rest = g.rest;
      cut = g.cut;
      few = few_items number (subst (λ (x : ℕ). 1 ≤ (paper_row x).number) (sym n) l);
      count = g.sound.count ∙ ap length i;
      items = subst (λ (x : List Item). AllSpellable x g.rest) i (all_spellable v.provider (table_row h).items g.rest g.sound.items);
      row = ap (λ (x : List (List ℕ)). write (record_from x)) g.cut
          ∙ ap (λ (x : List ℕ). joined x (map write_value (items_value (table_row h).items g.rest))) (sym (row_spelled h table g.sound.listed))
          ∙ values_tail h (table_row h).items g.rest ∙ ap (λ (x : List Item). h ++ tail_of x g.rest) i;
    }

-- the items of a line after its number, each in its one spelling
abbrev pub tail_at : ℕ → List ℕ → ℕ → ℕ → List ℕ
tail_at number s at e = tail_of (paper_row number).items (drop 1 (items_of (part s at e)))

module _ (s : List ℕ) (at e : ℕ) {stops : List ℕ} {n : ℕ} (v : LineIn s at e stops n) {number : ℕ} (q : Sound number (take (e - at) (drop at s))) where
  its : Parts number (part s at e)
  its = parts q

  front : List ℕ
  front = its.head

  written : write (record_of (part s at e)) ≡ front ++ tail_at number s at e
  unfolding front
  written = its.row ∙ ap (λ (x : List (List ℕ)). its.head ++ tail_of (paper_row number).items (drop 1 x)) (sym its.cut)

  sizes : length (write (record_of (part s at e))) ≡ length front + length (tail_at number s at e)
  sizes = ap length written ∙ length-append front (tail_at number s at e)

  commas_are : n ≡ length (paper_row number).items
  commas_are = omega (arith, v.commas, items_count (part s at e), ap length its.cut, its.count)

  few : n ≤ 15
  few = omega (arith, commas_are, its.few)

  first_is_lem : part s at (at + comma_at (part s at e) 0) ≡ front
  unfolding front
  first_is_lem =
      let z : at + 0 ≡ at = omega arith in
      ap (λ (x : ℕ). part s x (at + comma_at (part s at e) 0)) (sym z)
      ∙ sym (part_part s at e 0 (comma_at (part s at e) 0) (omega arith) (omega (arith, comma_le (part s at e) 0, part_length s at e v.low v.high, v.low)))
      ∙ sym (number_part (part s at e)) ∙ ap (λ (x : List (List ℕ)). get_or x 0 []) its.cut

  first_high : at + comma_at (part s at e) 0 ≤ e
  first_high = omega (arith, comma_le (part s at e) 0, part_length s at e v.low v.high, v.low)

  first_length_lem : length front ≡ comma_at (part s at e) 0
  first_length_lem = sym (ap length first_is_lem) ∙ part_length s at (at + comma_at (part s at e) 0) (omega arith) (omega (arith, first_high, v.high)) ∙ omega arith

  module _ {d : List ℕ} {start : Run} (r : Ready d start at (write (record_of (take (e - at) (drop at s))))) where
    pub spotting_start : (xs : List (ℕ × CodeKind)) → map spot_of xs ≡ spots_of number → Spotting n (tail_at number s at e) s at e start d d start xs 0
    unfolding spots_of
    spotting_start xs p =
        let h : reach start (begins_at s at e 1) + length (tail_at number s at e) ≤ length d = omega (arith, r.low, r.room, sizes, first_length_lem) in
        record {
          is = (paper_row number).items;
          j = 1;
          turning = record {
            writing = record {
              due = refl;
              count = refl;
              hold = omega (arith, h, length-sets d start.at (part s start.from (begins_at s at e 1)));
              size = refl;
              good = rw its.cut its.items;
              some = omega arith;
              few = omega (arith, commas_are);
            };
            low = omega (arith, r.low);
            size = refl;
          };
          spots = p;
        }

    module _ {d' : List ℕ} {run : Run} {xs : List (ℕ × CodeKind)} {k : ℕ} (t : Spotting n (tail_at number s at e) s at e start d d' run xs k) where
      pub spotting_done : length xs ≤ k → Passed s d d' start run at e (write (record_of (take (e - at) (drop at s))))
      spotting_done h =
          let z : [] ≡ spots_from t.j t.is = ap (map spot_of) (sym (drop_end xs k h)) ∙ t.spots in
          rw written (passes
          (waits s d start at (at + comma_at (part s at e) 0) front (omega arith) (omega (arith, first_high, v.high)) first_is_lem
          (record { low = r.low; room = omega (arith, r.room, sizes) }))
          (over v few t.is t.j t.turning z))

      module _ (h : k < length xs) (x : ℕ × CodeKind) where
        cut : map spot_of (drop k xs) ≡ spot_of (get_or xs k x) ∷ map spot_of (drop (k + 1) xs)
        cut = ap (map spot_of) (drop_step xs k x h)

        at_here : Found n (tail_at number s at e) s at e start d d' run (spot_of (get_or xs k x)) (map spot_of (drop (k + 1) xs))
        at_here = found v few t.is t.j t.turning (sym cut ∙ t.spots)

        pub spotting_item : ItemOf (get_or xs k x).0 n
        spotting_item = turning_item v at_here.turning few

        pub spotting_spellable : Spellable (kind_of (get_or xs k x).1) (get_or (items_of (take (e - at) (drop at s))) (get_or xs k x).0 [])
        spotting_spellable = subst (λ (c : Kind). Spellable c (item_at s at e (get_or xs k x).0)) at_here.kind (turning_spellable v at_here.turning)

        pub spotting_ready : Ready d' run (at + comma_at (take (e - at) (drop at s)) ((get_or xs k x).0 - 1)) (0x2c ∷ item_bytes (kind_of (get_or xs k x).1) (get_or (items_of (take (e - at) (drop at s))) (get_or xs k x).0 []))
        spotting_ready =
            subst (λ (c : Kind). Ready d' run (begins_at s at e (get_or xs k x).0) (0x2c ∷ item_bytes c (item_at s at e (get_or xs k x).0))) at_here.kind (turning_ready v at_here.turning)

        pub spotting_next : {d'' : List ℕ} {r' : Run}
            → Passed s d' d'' run r' (at + comma_at (take (e - at) (drop at s)) ((get_or xs k x).0 - 1)) (at + comma_at (take (e - at) (drop at s)) (get_or xs k x).0)
            (0x2c ∷ item_bytes (kind_of (get_or xs k x).1) (get_or (items_of (take (e - at) (drop at s))) (get_or xs k x).0 []))
            → Spotting n (tail_at number s at e) s at e start d d'' r' xs (k + 1)
        spotting_next {d''} {r'} y =
            record {
              is = at_here.is;
              j = (get_or xs k x).0 + 1;
              turning = turning_next v at_here.turning (subst (λ (c : Kind). Passed s d' d'' run r' (begins_at s at e (get_or xs k x).0) (ends_at s at e (get_or xs k x).0) (0x2c ∷ item_bytes c (item_at s at e (get_or xs k x).0))) (sym at_here.kind) y);
              spots = at_here.others;
            }

pub ruleset spotting_laws = (spotting_start, spotting_done, spotting_next)
