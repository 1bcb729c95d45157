-- The notebook of an accepted file, written with its records as they stand (`write_file`): its rows, that they are a file of the notebook
-- (`written_carries`), and that it is no longer than the file (`written_short`). Assumes nothing.
use Prim.Native.Nat.{ℕ, ◌+◌, ◌≤◌}
use native.Mathlib.Omega.{arith}
use native.Mathlib.Nat.{le_refl}
use mathlib.Core.Path.{◌≡◌, sym, ap, ◌∙◌}
use mathlib.Core.Bool.{Bool, true}
use mathlib.Core.List.{List, [], ◌∷◌, ◌++◌}
use lib.ListN.{length, take, drop, length-append}
use lib.Seq.{take_at, drop_at}
use Rattle.lists.specs.Lists.{All, ok}
use Rattle.characters.specs.Text.{text}
use Rattle.characters.specs.Scanning.{clean}
use Rattle.characters.specs.Rows.{rows, flat, line_end}
use Rattle.characters.proofs.RowLaws.{flat_rows, line_is, line_text}
use Rattle.records.specs.Records.{Record, record_of, line_fault, write}
use Rattle.records.specs.Reading.{ok as read, read_line}
use Rattle.records.proofs.LineLaws.{reads, read_is}
use Rattle.records.proofs.TheLanguage.{round, short, clear}
use Rattle.notebook.specs.Notebook.{Notebook, read_file}
use Rattle.notebook.specs.Canonical.{head_row, record_row, record_rows, write_file}
use Rattle.notebook.proofs.Accepted.{IsLine, head_length, line_bytes, rows_flat, Reads, Lines, none, more, lines_are, Taken, Carried, accepted, carries}

-- ---- one record: the row that is written of it is read to it, and is no longer

-- the row is read to the record, as records' own laws have it
pub row_read : {d : Bool} {r : Record} {l : List ℕ} → Reads d r l → read_line d (text l) ≡ read r
row_read {d} {r} {l} x = reads d (text l) x.good ∙ ap read x.is

-- what is read and clean is a row with the line end after it
pub row_of : (d : Bool) (r : Record) (t : List ℕ) → read_line d t ≡ read r → Reads d r (t ++ line_end)
row_of d r t e =
    let c : clean t ≡ true = clear d t r e in
    let x : text (t ++ line_end) ≡ t = line_text t c in
    record { line = line_is t c; good = ap (line_fault d) x ∙ (read_is d t r e).0; is = ap record_of x ∙ (read_is d t r e).1 }

pub row_written : {d : Bool} {r : Record} {l : List ℕ} → Reads d r l → Reads d r (record_row r)
row_written {d} {r} {l} x = row_of d r (write r) (round d (text l) r (row_read x))

pub row_short : {d : Bool} {r : Record} {l : List ℕ} → Reads d r l → length (record_row r) ≤ length l
row_short {d} {r} {l} x =
    omega (arith, short d (text l) r (row_read x), length-append (write r) line_end, length-append (text l) line_end, ap length (line_bytes l x.line))

-- ---- the records

pub lines_written : {d : Bool} {rs : List Record} {ls : List (List ℕ)} → Lines d rs ls → Lines d rs (record_rows rs)
unfolding record_rows
lines_written none = none
lines_written (more x xs) = more (row_written x) (lines_written xs)

pub lines_short : {d : Bool} {rs : List Record} {ls : List (List ℕ)} → Lines d rs ls → length (flat (record_rows rs)) ≤ length (flat ls)
unfolding record_rows
lines_short none = le_refl 0
lines_short (more {r = r} {l = l} {rs = rs} {ls = ls} x xs) =
    omega (arith, row_short x, lines_short xs, length-append (record_row r) (flat (record_rows rs)), length-append l (flat ls))

-- ---- the file

module _ (f : List ℕ) (b : Notebook) (e : read_file f ≡ ok b) where
  carried : Carried f b
  carried = accepted f b e

  body : List (List ℕ)
  body = record_rows b.records

  body_lines : Lines b.provider b.records body
  unfolding body
  body_lines = lines_written carried.taken.lines

  pub written_short : length (write_file b) ≤ length f
  unfolding write_file
  written_short =
      let t : Taken b.provider _ carried.rest b.records = carried.taken in
      let c : f ≡ head_row b.provider ++ flat (t.front ++ t.behind) =
      sym (flat_rows f) ∙ ap flat (carried.cut ∙ ap (λ (x : List (List ℕ)). head_row b.provider ∷ x) t.cut) in
      omega (
        arith,
        ap length c,
        flat_front t.front t.behind,
        lines_short t.lines,
        length-append (head_row b.provider) (flat (t.front ++ t.behind)),
        length-append (head_row b.provider) (flat (record_rows b.records)),
      )
    where
      flat_front : (xs ys : List (List ℕ)) → length (flat xs) ≤ length (flat (xs ++ ys))
      flat_front [] ys = omega arith
      flat_front (x ∷ xs) ys = omega (arith, length-append x (flat xs), length-append x (flat (xs ++ ys)), flat_front xs ys)

  pub written_small : length (write_file b) ≤ 65536
  written_small = omega (arith, written_short, carried.small)

  -- its rows: line 1, and each record in its one spelling
  pub written_head : take 13 (write_file b) ≡ head_row b.provider
  unfolding write_file
  written_head = take_at (head_row b.provider) (flat (record_rows b.records)) 13 (head_length b.provider)

  pub written_body : drop 13 (write_file b) ≡ flat (record_rows b.records)
  unfolding write_file
  written_body = drop_at (head_row b.provider) (flat (record_rows b.records)) 13 (head_length b.provider)

  pub record_lines : All IsLine (record_rows b.records)
  unfolding body
  record_lines = lines_are body_lines

  pub written_rows : rows (drop 13 (write_file b)) ≡ record_rows b.records
  written_rows = ap rows written_body ∙ rows_flat (record_rows b.records) record_lines

  pub written_long : 13 ≤ length (write_file b)
  unfolding write_file
  written_long = omega (arith, head_length b.provider, length-append (head_row b.provider) (flat (record_rows b.records)))

  pub written_carries : read_file (write_file b) ≡ ok b
  unfolding write_file body
  written_carries = carries b.provider b.records (record_rows b.records) body_lines carried.taken.ruled (written_small)
