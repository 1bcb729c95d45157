-- Examples, computed.
-- Document 01's small file, which its cases and those of other crates start from.
use Rattle.std.specs.Prelude.{ℕ, List, ◌++◌}
use Rattle.lists.specs.Lists.{bytes}
use Rattle.characters.specs.Rows.{line_end, end_mark}

-- "JAHISTC04,2 and 1,A,1,19890108,,,,,,, and 1Ah: 37 bytes"
abbrev pub small_file : List ℕ
small_file = bytes "JAHISTC04,2" ++ line_end ++ bytes "1,A,1,19890108,,,,,,," ++ line_end ++ end_mark
