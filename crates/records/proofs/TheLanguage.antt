-- The records of document 01 are a language as cutting and joining ask for: round, short, clear, plain. Assumes nothing.
use Prim.Native.Nat.{ℕ, ◌≤◌}
use mathlib.Core.Path.{◌≡◌, refl, ap, ◌∙◌}
use mathlib.Core.Bool.{Bool, true, false}
use mathlib.Core.List.{List}
use native.Mathlib.Omega.{arith}
use lib.ListN.{length}
use Rattle.lists.specs.Lists.{bytes, same}
use Rattle.lists.proofs.Tests.{same_true}
use Rattle.digits.specs.Digits.{spell}
use Rattle.characters.specs.Scanning.{clean}
use Rattle.records.specs.Table.{table}
use Rattle.records.specs.Records.{Record, write, line_fault, fault_from, table_row, row_in, t911, first_of, is_mark, header}
use Rattle.records.specs.Reading.{ok, read_line}
use Rattle.records.specs.Language.{Language}
use Rattle.records.proofs.LineLaws.{Good, line_read, read_is, reads}

-- a line 1 is no record
header_refused : (provider d : Bool) → line_fault provider (header d) ≡ 5
unfolding line_fault fault_from table_row row_in table spell t911 header bytes
header_refused provider true = refl
header_refused provider false = refl

module _ (provider : Bool) (l : List ℕ) (r : Record) (e : read_line provider l ≡ ok r) where
  is_good : Good provider l r
  is_good = line_read provider l r e

  pub round : read_line provider (write r) ≡ ok r
  round = reads provider (write r) is_good.again ∙ ap ok is_good.same

  pub short : length (write r) ≤ length l
  short = is_good.short

  pub clear : clean l ≡ true
  clear = is_good.clean

  pub no_header : (d : Bool) → same l (header d) ≡ false
  no_header d = go (same l (header d)) refl
    where
      go : (b : Bool) → same l (header d) ≡ b → b ≡ false
      go true q =
          let z : line_fault provider l ≡ 0 = (read_is provider l r e).0 in
          let y : line_fault provider l ≡ 5 = ap (line_fault provider) (same_true l (header d) q) ∙ header_refused provider d in
          absurd (omega arith)
      go false q = refl

  pub no_mark : is_mark l ≡ false
  unfolding is_mark
  no_mark = ap (λ (x : List (List ℕ)). same (first_of x) t911) is_good.cut ∙ is_good.sound.no_mark

pub notebook_language : Language
notebook_language = record {
  Rec = Record;
  read = read_line;
  write = write;
  round = round;
  short = short;
  clear = clear;
  plain = λ provider l r e. (no_header provider l r e, no_mark provider l r e);
}
