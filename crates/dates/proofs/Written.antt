-- The dates of a canonical file are those of its notebook's records, each as `write_day` has it; and the dates of any file are read as their days. Assumes nothing.
use Prim.Native.Nat.{ℕ}
use mathlib.Core.Path.{◌≡◌, refl, sym, ap, ap₂, subst, ◌∙◌}
use mathlib.Core.Bool.{Bool, true, false}
use Rattle.std.specs.Prelude.{Option, Some, None}
use mathlib.Core.List.{List, [], ◌∷◌, ◌++◌, map}
use lib.ListN.{drop}
use Rattle.lists.specs.Lists.{bytes, empty, All, ok}
use Rattle.lists.proofs.Tests.{cond_case}
use Rattle.digits.specs.Digits.{number, spell}
use Rattle.characters.specs.Text.{text}
use Rattle.characters.specs.Rows.{rows, flat}
use Rattle.characters.proofs.RowLaws.{line_text}
use Rattle.eras.specs.Era.{write_day}
use Rattle.calendar.specs.declared.Day.{Day}
use Rattle.calendar.specs.Era.{read_day}
use Rattle.records.specs.Split.{items_of}
use Rattle.records.specs.Table.{Kind, N, U, X, K, A, F, C, P, R, W, Q, D, among, Item, table}
use Rattle.records.specs.Items.{Value, raw, num, day, write_value, number_value, day_value, value_of}
use Rattle.records.specs.Records.{Record, row_in, table_row, item_value, items_value, record_from, record_of, write, header}
use Rattle.records.proofs.LineLaws.{Good, line_read}
use Rattle.records.proofs.TheLanguage.{round, clear}
use Rattle.notebook.specs.Notebook.{Notebook, read_file}
use Rattle.notebook.specs.Same.{arrange}
use Rattle.notebook.specs.Canonical.{head_row, record_row, record_rows, write_file, canonical_bytes}
use Rattle.notebook.proofs.Accepted.{Reads, Lines, none, more, accepted, row_cut, rows_flat, head_line, head_text}
use Rattle.notebook.proofs.WrittenLaws.{row_read, record_lines}
use Rattle.notebook.proofs.CanonicalLaws.{canonical_carries}
use Rattle.division.specs.Orders.{Insert, here, there}
use Rattle.division.proofs.Answers.{canonical_is}
use Rattle.dates.specs.Dates.{Spelled, dated, dates_among, line_dates, rows_dates, file_dates, WrittenFor}

-- ---- the dates of values, as they are written

abbrev pub own_dates : List Value → List Spelled
own_dates [] = []
own_dates (v ∷ vs) = dated v (write_value v) (own_dates vs)

among_own : (vs : List Value) → dates_among vs (map write_value vs) ≡ own_dates vs
among_own [] = refl
among_own (v ∷ vs) = ap (dated v (write_value v)) (among_own vs)

abbrev pub records_dates : List Record → List Spelled
records_dates [] = []
records_dates (r ∷ rs) = own_dates r.values ++ records_dates rs

-- ---- the rows of a canonical file

row_dates : {d : Bool} {r : Record} {l : List ℕ} → Reads d r l → line_dates (text (record_row r)) ≡ own_dates r.values
unfolding line_dates
row_dates {d} {r} {l} x =
    let e = row_read x in
    let g : Good d (text l) r = line_read d (text l) r e in
    let t : text (record_row r) ≡ write r = line_text (write r) (clear d (write r) r (round d (text l) r e)) in
    ap line_dates t ∙ ap (λ (q : Record). dates_among q.values (drop 1 (items_of (write r)))) g.same
    ∙ ap (λ (ss : List (List ℕ)). dates_among r.values (drop 1 ss)) g.items ∙ among_own r.values

rows_dates_lem : {d : Bool} {rs : List Record} {ls : List (List ℕ)} → Lines d rs ls → rows_dates (record_rows rs) ≡ records_dates rs
unfolding record_rows
rows_dates_lem none = refl
rows_dates_lem (more x xs) = ap₂ (λ (a b : List Spelled). a ++ b) (row_dates x) (rows_dates_lem xs)

-- line 1 has none
none_in_head : (d : Bool) → line_dates (header d) ≡ []
unfolding line_dates header bytes spell table row_in table_row items_value record_from record_of
none_in_head true = refl
none_in_head false = refl

pub head_dates : (d : Bool) → line_dates (text (head_row d)) ≡ []
head_dates d = ap line_dates (head_text d) ∙ none_in_head d

pub file_dates_lem : (f : List ℕ) (b : Notebook) → read_file f ≡ ok b → file_dates (canonical_bytes b) ≡ records_dates (arrange b).records
unfolding file_dates canonical_bytes write_file
file_dates_lem f b e =
    let c : Notebook = arrange b in
    let h : read_file (canonical_bytes b) ≡ ok (arrange b) = canonical_carries f b e in
    let k : rows (head_row c.provider ++ flat (record_rows c.records)) ≡ head_row c.provider ∷ record_rows c.records =
    row_cut (head_row c.provider) (flat (record_rows c.records)) (head_line c.provider)
    ∙ ap (λ (x : List (List ℕ)). head_row c.provider ∷ x) (rows_flat (record_rows c.records) (record_lines (canonical_bytes b) (arrange b) h)) in
    ap rows_dates k ∙ ap₂ (λ (x y : List Spelled). x ++ y) (head_dates c.provider) (rows_dates_lem (accepted (canonical_bytes b) (arrange b) h).taken.lines)

-- ---- one of them

pub inserted : (Fact : Spelled → Type 0) {x : Spelled} {xs l : List Spelled} → Insert x xs l → All Fact l → Fact x
inserted Fact here (p, ps) = p
inserted Fact (there i) (p, ps) = inserted Fact i ps

abbrev Own : Spelled → Type 0
Own x = x.bytes ≡ write_day x.ymd

own_then : (vs : List Value) (ds : List Spelled) → All Own ds → All Own (own_dates vs ++ ds)
own_then [] ds a = a
own_then (raw s ∷ vs) ds a = own_then vs ds a
own_then (num n ∷ vs) ds a = own_then vs ds a
own_then (day n ∷ vs) ds a = (refl, own_then vs ds a)

all_own : (rs : List Record) → All Own (records_dates rs)
all_own [] = tt
all_own (r ∷ rs) = own_then r.values (records_dates rs) (all_own rs)

-- what is written for a day is what `write_day` says
pub written_is : (n : ℕ) (s : List ℕ) → WrittenFor n s → s ≡ write_day n
written_is n s w =
    let b = w.notebook in
    let e : w.canonical ≡ canonical_bytes b = canonical_is w.file b w.canonical w.accepted w.is in
    let d : file_dates w.canonical ≡ records_dates (arrange b).records = ap file_dates e ∙ file_dates_lem w.file b w.accepted in
    inserted Own w.stands.found (subst (All Own) (sym d) (all_own (arrange b).records))

-- ---- the dates of any bytes are read as their days

abbrev pub IsRead : Spelled → Type 0
IsRead x = read_day x.bytes ≡ Some (record { ymd = x.ymd })

-- a value that is a day was read from the bytes
abbrev Told : Value → List ℕ → Type 0
Told (raw t) s = Unit {0}
Told (num n) s = Unit {0}
Told (day n) s = read_day s ≡ Some (record { ymd = n })

number_told : (o : Option ℕ) (s : List ℕ) → Told (number_value o) s
number_told None s = tt
number_told (Some n) s = tt

day_told : (o : Option Day) (s : List ℕ) → read_day s ≡ o → Told (day_value o) s
day_told (Some d) s e = e
day_told None s e = tt

kind_told : (k : Kind) (s : List ℕ) → Told (value_of k s) s
unfolding value_of
kind_told (N m) s = tt
kind_told (U m) s = tt
kind_told (X m) s = tt
kind_told (K m) s = tt
kind_told A s = tt
kind_told F s = tt
kind_told C s = tt
kind_told P s = tt
kind_told R s = number_told (number s) s
kind_told W s = tt
kind_told Q s = tt
kind_told D s = day_told (read_day s) s refl
kind_told (among ns) s = tt

item_told : (i : Item) (s : List ℕ) → Told (item_value i s) s
unfolding item_value
item_told i s = cond_case (λ v. Told v s) (empty s) (raw []) (value_of i.kind s) (λ _. tt) (λ _. kind_told i.kind s)

dated_read : (v : Value) (s : List ℕ) (ds : List Spelled) → Told v s → All IsRead ds → All IsRead (dated v s ds)
dated_read (raw t) s ds h a = a
dated_read (num n) s ds h a = a
dated_read (day n) s ds h a = (h, a)

items_read : (is : List Item) (ss : List (List ℕ)) → All IsRead (dates_among (items_value is ss) ss)
unfolding items_value
items_read [] ss = tt
items_read (i ∷ is) [] = tt
items_read (i ∷ is) (s ∷ ss) = dated_read (item_value i s) s _ (item_told i s) (items_read is ss)

from_read : (xs : List (List ℕ)) → All IsRead (dates_among (record_from xs).values (drop 1 xs))
unfolding record_from
from_read [] = tt
from_read (h ∷ ss) = items_read (table_row h).items ss

line_dates_read : (l : List ℕ) → All IsRead (line_dates l)
unfolding line_dates record_of
line_dates_read l = from_read (items_of l)

both_read : (xs ys : List Spelled) → All IsRead xs → All IsRead ys → All IsRead (xs ++ ys)
both_read [] ys a b = b
both_read (x ∷ xs) ys (p, a) b = (p, both_read xs ys a b)

rows_dates_read : (rs : List (List ℕ)) → All IsRead (rows_dates rs)
rows_dates_read [] = tt
rows_dates_read (r ∷ rs) = both_read (line_dates (text r)) (rows_dates rs) (line_dates_read (text r)) (rows_dates_read rs)

pub dates_read : (f : List ℕ) → All IsRead (file_dates f)
unfolding file_dates
dates_read f = rows_dates_read (rows f)
