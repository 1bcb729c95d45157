-- A second statement, proved equal.
-- A line read to a record or to its fault: `line_fault` and `record_of` in one, for statements about lines that are read.
use Rattle.std.specs.Prelude.{ℕ, Bool, cond, List, eqb}
use Rattle.records.specs.Records.{Record, line_fault, record_of}

-- what a line is read to, or its fault
pub data Read (A : Type 0) : Type 0 where
  ok : A → Read A
  faulty : ℕ → Read A

unfoldable pub read_line : Bool → List ℕ → Read Record
read_line provider l = cond (eqb (line_fault provider l) 0) (ok (record_of l)) (faulty (line_fault provider l))
