-- Definitions, to be believed.
-- What the order of records looks at in a record. Document 01, "Order of records" and "Pairs" name these and no
-- others, so a respelled file takes the same steps.
use Rattle.std.specs.Prelude.{ℕ, cond, not, ◌&&◌, eqb, unwrap_or}
use Rattle.digits.specs.Digits.{number}
use Rattle.order.specs.declared.Facts.{Facts}
use Rattle.records.specs.Items.{Value, raw, num, day}
use Rattle.records.specs.Records.{Record, item, is_empty}

-- the value of kind R, 0 for any other
abbrev pub num_of : Value → ℕ
num_of (raw s) = 0
num_of (num n) = n
num_of (day n) = 0

-- the day of kind D, 0 for any other
abbrev pub day_of : Value → ℕ
day_of (raw s) = 0
day_of (num n) = 0
day_of (day n) = n

-- the number that the bytes are the digits of, 0 where they are empty
abbrev pub spelled : Value → ℕ
spelled (raw s) = unwrap_or (number s) 0
spelled (num n) = 0
spelled (day n) = 0

-- `Facts` is a struct of order, src/lib.rt. number: the record's; rp: the first item, where it is an R (201 to 391); day: the first item, where
-- it is a D (5); schedule: the third item of an 11 (15-106 3.2.9: fee schedule); form: the fifth item of a 301; named: a 301's second item, the
-- usage name, is not empty. 0, or false, where the record has no such item.
unfoldable pub facts_of : Record → Facts
facts_of r = record {
  number = r.number;
  rp = num_of (item r 1);
  day = day_of (item r 1);
  schedule = cond (eqb r.number 11) (spelled (item r 3)) 0;
  form = cond (eqb r.number 301) (spelled (item r 5)) 0;
  named = eqb r.number 301 && not (is_empty (item r 2));
}
