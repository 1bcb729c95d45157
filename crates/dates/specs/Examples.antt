-- Examples, computed.
-- A file with dates in two records and one that is left out, its dates, and those of its canonical file. proofs/AllExamples.antt computes them.
use Rattle.std.specs.Prelude.{ℕ, List, [], ◌∷◌, ◌++◌}
use Prim.Native.String.{String}
use Rattle.lists.specs.Lists.{bytes}
use Rattle.characters.specs.Rows.{line_end}
use Rattle.dates.specs.Dates.{Spelled}

-- record 1 (birth, and a name that looks like a date), a 3 without its second day, two 4s and one without its day
abbrev pub notes : List ℕ
notes =
    bytes "JAHISTC04,2" ++ line_end ++ bytes "1,R010501,1,19890108,,,,,,," ++ line_end ++ bytes "3,x,H310430,,2" ++ line_end ++ bytes "4,x,H310501,2" ++ line_end
    ++ bytes "4,x,,2" ++ line_end ++ bytes "4,x,20871231,2" ++ line_end

infix 90 ◌spelled◌
abbrev pub ◌spelled◌ : ℕ → String → Spelled
n spelled s = record { ymd = n; bytes = bytes s }

-- "H310501 and R010501 are one day", "Heisei ends for writing on 30 April 2019", "20871231 becomes R691231"
abbrev pub its_dates : List Spelled
its_dates = 19890108 spelled "19890108" ∷ 20190430 spelled "H310430" ∷ 20190501 spelled "H310501" ∷ 20871231 spelled "20871231" ∷ []

abbrev pub canonical_dates : List Spelled
canonical_dates = 19890108 spelled "H010108" ∷ 20190430 spelled "H310430" ∷ 20190501 spelled "R010501" ∷ 20871231 spelled "R691231" ∷ []
