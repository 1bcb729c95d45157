-- Vocabulary of the code.
-- The canonical file as the code writes it: runs of kept bytes and the items between them that are spelled anew, and what is left of a
-- file from a row on.
use Rattle.std.specs.Prelude.{ℕ, ◌+◌, ◌-◌, ◌≤◌, ◌≡◌, Bool, cond, true, false, List, [], ◌∷◌, ◌++◌, eqb, length, get_or, take}
use Rattle.std.proofs.lemmas.List.Edits.{sets}
use Rattle.lists.specs.Lists.{empty, Res, ok, refused}
use Rattle.lists.specs.Searching.{part}
use Rattle.digits.specs.Digits.{number}
use Rattle.characters.specs.Rows.{flat}
use Rattle.calendar.specs.Era.{read_day}
use Rattle.records.specs.Table.{Kind, N, U, X, K, A, F, C, P, R, W, Q, D, among, Item, ◌¿}
use Rattle.records.specs.Split.{items_of}
use Rattle.records.specs.Items.{write_value, number_value, day_value, unhyphened, fault}
use Rattle.records.specs.Records.{Record, item_value, line_fault, record_of}
use Rattle.order.specs.declared.State.{State}
use Rattle.order.specs.State.{finish_of}
use Rattle.items.specs.declared.kinds.Kind.{Kind as CodeKind}
use Rattle.items.specs.Kinds.{kind_of}
use Rattle.table.specs.Rows.{paper_row}
use Rattle.lines.specs.declared.split.Items.{Items}
use Rattle.lines.specs.Line.{comma_at}
use Rattle.lines.specs.Items.{text_of}
use Rattle.buffers.specs.Buffers.{Wrote}
use Rattle.replies.specs.Replies.{Answer, Done, Refused}
use Rattle.canonical.specs.declared.Run.{Run}
use Rattle.notebook.specs.Canonical.{record_rows}

-- ---- one item

-- "P without hyphen": eight bytes have one
unfoldable pub postal_bytes : List ℕ → List ℕ
postal_bytes s = cond (eqb (length s) 8) (unhyphened s) s

-- "R without leading zeros"
unfoldable pub number_bytes : List ℕ → List ℕ
number_bytes s = write_value (number_value (number s))

-- "D in the era form"
unfoldable pub day_bytes : List ℕ → List ℕ
day_bytes s = write_value (day_value (read_day s))

-- an item of a kind in its one spelling
unfoldable pub item_bytes : Kind → List ℕ → List ℕ
item_bytes k s = write_value (item_value (k ¿) s)

-- an item without a fault
pub record Spellable (k : Kind) (s : List ℕ) : Type 0 where
  pub good : empty s ≡ false → fault k s ≡ 0

-- all items of a kind are their own spelling: all kinds but P, R and D
abbrev pub one_spelling : Kind → Bool
one_spelling (N m) = true
one_spelling (U m) = true
one_spelling (X m) = true
one_spelling (K m) = true
one_spelling A = true
one_spelling F = true
one_spelling C = true
one_spelling P = false
one_spelling R = false
one_spelling W = true
one_spelling Q = true
one_spelling D = false
one_spelling (among ns) = true

-- an item is its own spelling, unless r says that it may not be
pub record OwnUnless (r : Bool) (k : Kind) (s : List ℕ) : Type 0 where
  pub own : r ≡ false → item_bytes k s ≡ s

-- where r says so, an item from a on is a number, and no zero stands there
pub record Stays (r : Bool) (k : Kind) (s : List ℕ) (a : ℕ) : Type 0 where
  pub kind : r ≡ true → k ≡ R
  pub first : r ≡ true → get_or s a 0 ≡ 0x30 → ⊥

-- ---- runs

-- the output as it will be when the bytes of the file s that wait before p are copied after what is written, and where they will end
abbrev pub ahead : List ℕ → List ℕ → Run → ℕ → List ℕ
ahead s d run p = sets d run.at (part s run.from p)

abbrev pub reach : Run → ℕ → ℕ
reach run p = run.at + (p - run.from)

-- there is room for what waits before p, and for w after it
pub record Ready (d : List ℕ) (run : Run) (p : ℕ) (w : List ℕ) : Type 0 where
  pub low : run.from ≤ p
  pub room : reach run p + length w ≤ length d

-- what was written or waited before p became what is written or waits before e: w stands after it
pub record Passed (s d d' : List ℕ) (run r : Run) (p e : ℕ) (w : List ℕ) : Type 0 where
  pub wrote : Wrote (ahead s d run p) (ahead s d' r e) (reach run p) (reach r e) w
  pub low : r.from ≤ e
  pub size : length d' ≡ length d

-- bytes of a file from a to e
pub record Lies (s : List ℕ) (a e : ℕ) : Type 0 where
  pub low : a ≤ e
  pub high : e ≤ length s

-- ---- a line

-- the items of a line after its number, each with its comma and in its one spelling
unfoldable pub tail_of : List Item → List (List ℕ) → List ℕ
tail_of [] ss = []
tail_of (i ∷ is) [] = []
tail_of (i ∷ is) (s ∷ ss) = 0x2c ∷ (item_bytes i.kind s ++ tail_of is ss)

-- those of a row from number j on that may have another spelling: their numbers and kinds
unfoldable pub spots_from : ℕ → List Item → List (ℕ × Kind)
spots_from j [] = []
spots_from j (i ∷ is) = cond (one_spelling i.kind) (spots_from (j + 1) is) ((j, i.kind) ∷ spots_from (j + 1) is)

-- those of a record's row
unfoldable pub spots_of : ℕ → List (ℕ × Kind)
spots_of n = spots_from 1 (paper_row n).items

-- the code's as the paper's
abbrev pub spot_of : ℕ × CodeKind → ℕ × Kind
spot_of x = (x.0, kind_of x.1)

-- a line without a fault, of a record of this number
pub record Sound (n : ℕ) (s : List ℕ) : Type 0 where
  pub provider : Bool
  pub good : line_fault provider s ≡ 0
  pub number : n ≡ (record_of s).number

-- j is the number of an item of a line with n commas, after the record's number
pub record ItemOf (j n : ℕ) : Type 0 where
  pub low : 1 ≤ j
  pub high : j ≤ n
  pub few : j ≤ 15

-- item number j of a line: where its comma stands, where it ends, and its bytes
abbrev pub begins : Items → ℕ → ℕ
begins items j = items.at + comma_at (text_of items) (j - 1)

abbrev pub ends : Items → ℕ → ℕ
ends items j = items.at + comma_at (text_of items) j

abbrev pub bytes_of : Items → ℕ → List ℕ
bytes_of items j = get_or (items_of (text_of items)) j []

-- ---- the file: what stands in the buffer after the records that are left, and where it ends

pub record Output : Type 0 where
  pub buffer : List ℕ
  pub end : ℕ

unfoldable pub poured : List ℕ → ℕ → Res (List Record) → Res Output
poured d at (ok rs) = ok (record { buffer = sets d at (flat (record_rows rs)); end = at + length (flat (record_rows rs)) })
poured d at (refused n line) = refused n line

abbrev pub PouredMeans : Res Output → List ℕ → Answer → Type 0
PouredMeans x d (Done t b c) = (x ≡ ok (record { buffer = d; end = t })) × (t ≤ 65536) × (t ≤ length d)
PouredMeans x d (Refused n line) = x ≡ refused n line

-- m: the array's length
pub record Poured (m : ℕ) (x : Res Output) (d : List ℕ) (r : Answer) : Type 0 where
  pub means : PouredMeans x d r
  pub size : length d ≡ m

-- the end: what is missing there, or the bytes
unfoldable pub closing : State → ℕ → Answer
closing st at = cond (eqb (finish_of st) 0) (Done at 0 0) (Refused (finish_of st) (st.line + 1))

-- ---- the canonical file in an array that can hold the file

pub record Holds (s d : List ℕ) : Type 0 where
  pub room : length s ≤ 65536 → length s ≤ length d

abbrev pub MadeMeans : Res (List ℕ) → List ℕ → Answer → Type 0
MadeMeans x d (Done t b c) = (x ≡ ok (take t d)) × (t ≤ length d)
MadeMeans x d (Refused n line) = x ≡ refused n line

pub record MadeOf (m : ℕ) (x : Res (List ℕ)) (d : List ℕ) (r : Answer) : Type 0 where
  pub means : MadeMeans x d r
  pub size : length d ≡ m
