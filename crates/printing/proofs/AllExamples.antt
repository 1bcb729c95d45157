-- The lines and numbers of specs/Examples.antt come out as written there. Assumes nothing.
use mathlib.Core.Path.{◌≡◌, refl}
use mathlib.Core.List.{map, ◌++◌}
use Rattle.lists.specs.Lists.{bytes}
use Rattle.printing.specs.Printed.{digit_list, decimal, spaced, line, printed}
use Rattle.printing.specs.Examples.{lines, their_lines, values, their_digits}

pub examples_hold : map decimal values ++ lines ≡ their_digits ++ their_lines
unfolding bytes digit_list decimal spaced line printed
examples_hold = refl
