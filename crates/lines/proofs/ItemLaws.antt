-- An item of a line without a fault: as a value of its record, and as a span of the file. Assumes nothing.
use Prim.Native.Nat.{ℕ, zero, suc, ◌-◌, ◌≤◌}
use native.Mathlib.Omega.{arith}
use mathlib.Core.Path.{◌≡◌, sym, ap, ◌∙◌}
use mathlib.Core.Bool.{Bool}
use mathlib.Core.List.{List, [], ◌∷◌}
use lib.ListN.{length, get_or}
use Rattle.lists.specs.Searching.{part}
use Rattle.characters.specs.Scanning.{comma_count}
use Rattle.records.specs.Split.{items_of}
use Rattle.records.specs.Records.{first_of, table_row, item_value, nth, record_from, record_of, line_fault}
use Rattle.records.proofs.LineLaws.{Good, line_good}
use Rattle.lines.specs.declared.split.Span.{Span}
use Rattle.lines.specs.Line.{ItemAt}
use Rattle.lines.proofs.SplitLaws.{items_count}
use Rattle.lines.proofs.FactLaws.{blank, value_at}

behind : (x : List ℕ) (xs : List (List ℕ)) (j : ℕ) → 1 ≤ j → get_or xs (j - 1) [] ≡ get_or (x ∷ xs) j []
behind x xs zero h = absurd (omega arith)
behind x xs (suc j) h = let z : suc j - 1 ≡ j = omega arith in ap (λ (i : ℕ). get_or xs i []) z

-- item number j of a record is the value of item number j of its line, by its row
pub item_value_lem : (provider : Bool) (l : List ℕ) (j : ℕ) → line_fault provider l ≡ 0 → 1 ≤ j → j ≤ comma_count l
    → nth (record_of l).values j ≡ item_value (get_or (table_row (first_of (items_of l))).items (j - 1) blank) (get_or (items_of l) j [])
unfolding record_of record_from
item_value_lem provider l j h low high =
    let g : Good provider l (record_of l) = line_good provider l h in
    let n : length g.rest ≡ comma_count l = omega (arith, items_count l, ap length g.cut) in
    rw g.cut (value_at (table_row g.head).items g.rest (j - 1) g.sound.count (omega (arith, n, g.sound.count, low, high)) ∙ ap (item_value (get_or (table_row g.head).items (j - 1) blank)) (behind g.head g.rest j low))

-- the same by the bytes of its span
pub span_value : (provider : Bool) (s : List ℕ) (at e j : ℕ) {n : ℕ} {r : Span} → line_fault provider (part s at e) ≡ 0 → 1 ≤ j → j ≤ comma_count (part s at e) → ItemAt s at e n j r
    → nth (record_of (part s at e)).values j ≡ item_value (get_or (table_row (first_of (items_of (part s at e)))).items (j - 1) blank) (part s r.from r.to)
span_value provider s at e j h low high x =
    item_value_lem provider (part s at e) j h low high ∙ ap (item_value (get_or (table_row (first_of (items_of (part s at e)))).items (j - 1) blank)) (sym x.says)
