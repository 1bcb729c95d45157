-- The bytes, pairs, texts and rows of specs/Examples.antt come out as written there. Assumes nothing.
use mathlib.Core.Path.{◌≡◌, refl}
use mathlib.Core.Bool.{true}
use Rattle.characters.specs.Cells.{full_row, part_row, allowed, cell_script, trail_script, pair_script}
use Rattle.characters.specs.Rows.{is_line}
use Rattle.characters.specs.Examples.{ones, ones_hold, pairs, pairs_hold, texts, texts_hold, rows, rows_hold}

pub ones_hold_lem : ones_hold ones ≡ true
ones_hold_lem = refl

pub pairs_hold_lem : pairs_hold pairs ≡ true
unfolding full_row part_row allowed cell_script trail_script pair_script
pairs_hold_lem = refl

pub texts_hold_lem : texts_hold texts ≡ true
unfolding full_row part_row allowed cell_script trail_script pair_script
texts_hold_lem = refl

pub rows_hold_lem : rows_hold rows ≡ true
unfolding is_line
rows_hold_lem = refl
