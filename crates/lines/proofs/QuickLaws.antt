-- A line read item by item: its items grow by one after each comma, and none has a fault. One law for each way through the code.
-- Assumes nothing.
use Prim.Native.Nat.{ℕ, suc, ◌+◌, ◌-◌, ◌≤◌, ◌<◌}
use mathlib.Core.Path.{◌≡◌, refl, sym, ap, ap₂, ◌∙◌, subst}
use mathlib.Core.Bool.{Bool, true}
use mathlib.Core.List.{List, [], ◌∷◌, ◌++◌, map, map-append}
use native.Mathlib.Omega.{arith}
use borrow.Author.Tests.{ne_eqb}
use lib.ListN.{length, take, drop, get_or, set, length-append, length-map, length-take, length-drop, get_or-append}
use lib.Seq.{take-add, drop-append-le}
use Rattle.std.proofs.lemmas.List.{take_all}
use Rattle.std.specs.Prelude.{Option, Some}
use Rattle.lists.specs.Searching.{part}
use Rattle.lists.proofs.Tests.{or_zero_lem, both_zero}
use Rattle.lists.proofs.Cuts.{drop_step}
use Rattle.lists.proofs.Parts.{part_join, part_at}
use Rattle.digits.specs.Short.{plain_number}
use Rattle.characters.specs.Text.{is_stop}
use Rattle.scanning.specs.Scans.{Sixteen, RunOf, ScanOf}
use Rattle.scanning.proofs.TextLaws.{Scanned, scan_start, scan_comma, scan_stop}
use Rattle.scanning.proofs.LineLaws.{line_whole}
use Rattle.scanning.proofs.RunLaws.{run_scanned}
use Rattle.records.specs.Table.{Item as PaperItem}
use Rattle.records.specs.Split.{items_of}
use Rattle.records.specs.Records.{item_fault, items_fault}
use Rattle.items.specs.declared.kinds.Item.{Item}
use Rattle.items.specs.Kinds.{item_of}
use Rattle.items.specs.declared.Spelled.{Spelled}
use Rattle.items.specs.Ends.{FineItem, EndOf, SpelledIs, SpelledAt}
use Rattle.table.specs.Rows.{RowOf}
use Rattle.lines.specs.Found.{WholeAt, SoundAt, QuickLine, LineEnds, LineEndsIf}
use Rattle.lines.proofs.SplitLaws.{items_plain, items_snoc}
use Rattle.lines.proofs.RowLaws.{paper_listed, paper_items, paper_length}

-- ---- one item more

faults_snoc : (b : Bool) (is : List PaperItem) (i : PaperItem) (ss : List (List ℕ)) (t : List ℕ) → length is ≡ length ss → items_fault b is ss ≡ 0 → item_fault b i t ≡ 0
    → items_fault b (is ++ i ∷ []) (ss ++ t ∷ []) ≡ 0
unfolding items_fault
faults_snoc b [] i [] t l e f = both_zero (item_fault b i t) 0 f refl
faults_snoc b [] i (s ∷ ss) t l e f = absurd (omega arith)
faults_snoc b (x ∷ is) i [] t l e f = absurd (omega arith)
faults_snoc b (x ∷ is) i (s ∷ ss) t l e f =
    let p : (item_fault b x s ≡ 0) × (items_fault b is ss ≡ 0) = or_zero_lem (item_fault b x s) (items_fault b is ss) e in
    both_zero (item_fault b x s) (items_fault b (is ++ i ∷ []) (ss ++ t ∷ [])) p.0 (faults_snoc b is i ss t (omega arith) p.1 f)

-- a row's first j items, and one more
abbrev front : List Item → ℕ → List PaperItem
front row j = map item_of (take j row)

front_snoc : (row : List Item) (j : ℕ) (d : Item) → j < length row → front row (j + 1) ≡ front row j ++ item_of (get_or row j d) ∷ []
front_snoc row j d h =
    let o : take 1 (drop j row) ≡ get_or row j d ∷ [] = rw (drop_step row j d h) in
    ap (map item_of) (take-add j 1 row ∙ ap (λ (l : List Item). take j row ++ l) o) ∙ map-append item_of (take j row) (get_or row j d ∷ [])

front_length : (row : List Item) (j : ℕ) → j ≤ length row → length (front row j) ≡ j
front_length row j h = omega (arith, length-map (take j row) item_of, length-take j row)

-- ---- the loop: the items up to e have no fault

pub record Passing (b : Bool) (row : List Item) (s : List ℕ) (at from : ℕ) (a₀ a : List ℕ) (j e : ℕ) : Type 0 where
  pub scan : Scanned s at a₀ a e true j
  pub high : e ≤ length s
  pub within : j ≤ length row
  pub first : get_or (items_of (part s at e)) 0 [] ≡ part s at from
  pub count : length (items_of (part s at e)) ≡ j + 1
  pub fine : items_fault b (front row j) (drop 1 (items_of (part s at e))) ≡ 0

pub passing_start : (b : Bool) (row : List Item) (s : List ℕ) (at from : ℕ) (a : List ℕ) → Sixteen a → RunOf s at from → Passing b row s at from a a 0 from
unfolding items_fault
passing_start b row s at from a z v =
    let c : items_of (part s at from) ≡ part s at from ∷ [] = items_plain (part s at from) v.plain in
    record {
      scan = run_scanned (scan_start s at a z) v;
      high = v.high;
      within = omega arith;
      first = ap (λ (x : List (List ℕ)). get_or x 0 []) c;
      count = ap length c;
      fine = ap (λ (x : List (List ℕ)). items_fault b [] (drop 1 x)) c;
    }

module _ {b : Bool} {row : List Item} {s : List ℕ} {at from : ℕ} {a₀ a : List ℕ} {j e : ℕ} (v : Passing b row s at from a₀ a j e) where
  pub passing_low : at ≤ e
  passing_low = omega (arith, v.scan.few)

  pub passing_high : e ≤ length s
  passing_high = v.high

  module _ (few : length row ≤ 15) (h : j < length row) (i : e < length s) (q : get_or s e 0 ≡ 0x2c) (d : Item) {o : Option ℕ} (w : EndOf b (item_of (get_or row j d)) s (e + 1) o) {r : ℕ} (z : o ≡ Some r) where
    item : FineItem b (item_of (get_or row j d)) s (e + 1) r
    item = w.holds r z

    behind : part s at r ≡ part s at e ++ 0x2c ∷ part s (e + 1) r
    behind =
        let n : r - e ≡ suc (r - (e + 1)) = omega (arith, item.run.low) in
        let c : part s e r ≡ 0x2c ∷ part s (e + 1) r = rw (n, drop_step s e 0 i) (ap (λ (x : ℕ). x ∷ part s (e + 1) r) q) in
        sym (part_join s at e r passing_low (omega (arith, item.run.low))) ∙ ap (λ (x : List ℕ). part s at e ++ x) c

    items_on : items_of (part s at r) ≡ items_of (part s at e) ++ part s (e + 1) r ∷ []
    items_on = ap items_of behind ∙ items_snoc (part s at e) (part s (e + 1) r) item.run.plain

    pub passing_next : Passing b row s at from a₀ (set a j (e - at)) (j + 1) r
    passing_next =
        let t : List ℕ = part s (e + 1) r in
        let x : List (List ℕ) = items_of (part s at e) in
        let y : drop 1 (items_of (part s at r)) ≡ drop 1 x ++ t ∷ [] = ap (drop 1) items_on ∙ drop-append-le 1 x (t ∷ []) (omega (arith, v.count)) in
        let l : length (front row j) ≡ length (drop 1 x) = omega (arith, front_length row j v.within, length-drop 1 x, v.count) in
        record {
          scan = run_scanned (scan_comma v.scan i q (omega arith)) item.run;
          high = item.run.high;
          within = omega arith;
          first = ap (λ (y : List (List ℕ)). get_or y 0 []) items_on ∙ get_or-append x (t ∷ []) [] 0 (omega (arith, v.count)) ∙ v.first;
          count = omega (arith, ap length items_on, length-append x (t ∷ []), v.count);
          fine = ap₂ (items_fault b) (front_snoc row j d h) y ∙ faults_snoc b (front row j) (item_of (get_or row j d)) (drop 1 x) t l v.fine item.fine;
        }

  pub passing_over : length row ≤ j → {x : Bool} → LineEndsIf s e x → x ≡ true → QuickLine b row s at from a e
  passing_over h w f =
      let y : LineEnds s e = w.holds f in
      let c : ScanOf s at a (record { end = e; good = true; commas = j }) =
      scan_stop v.scan (omega (arith, y.inside)) {x = true} (sym (ap is_stop y.return)) refl in
      let n : j ≡ length row = omega (arith, v.within) in
      let m : take j row ≡ row = take_all j row h in
      record {
        line = subst (λ (n : ℕ). WholeAt s at a e true n) n (line_whole s at a (omega (arith, passing_low, y.inside)) c y.inside y.return y.feed);
        first = v.first;
        items = ap (λ (x : List Item). items_fault b (map item_of x) (drop 1 (items_of (part s at e)))) (sym m) ∙ v.fine;
      }

pub ruleset passing_laws = (passing_start, passing_low, passing_high, passing_next, passing_over)

-- ---- the whole line

module _ {s : List ℕ} {at : ℕ} (z : get_or s at 0 ≡ 0x30 → ⊥) {o : Option Spelled} (v : SpelledAt s at o) {x : Spelled} (p : o ≡ Some x) where
  number : SpelledIs s at x
  number = v.holds x p

  pub number_run : RunOf s at x.end
  number_run = number.run

  number_is : plain_number (part s at x.end) ≡ Some x.value
  unfolding plain_number
  number_is =
      let o : at + 0 ≡ at = omega arith in
      let f : get_or (part s at x.end) 0 0 ≡ get_or s at 0 = part_at s at x.end 0 (omega (arith, number.some)) ∙ ap (λ (k : ℕ). get_or s k 0) o in
      rw (f, ne_eqb (get_or s at 0) 0x30 z) number.is

  pub line_quick : {b : Bool} {row : List Item} {a : List ℕ} {e : ℕ} → RowOf x.value row → QuickLine b row s at x.end a e
      → SoundAt b s at a (record { number = x.value; end = e; commas = length row })
  line_quick {b} {row} {a} {e} r q = record {
    line = q.line;
    sound = record {
      number = ap plain_number q.first ∙ number_is;
      listed = paper_listed r;
      count = sym q.line.means.commas ∙ sym (paper_length r);
      items = ap (λ (x : List PaperItem). items_fault b x (drop 1 (items_of (part s at e)))) (paper_items r) ∙ q.items;
    };
  }

pub ruleset quick_laws = (number_run, line_quick)
