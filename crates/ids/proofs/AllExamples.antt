-- The runs of specs/Examples.antt are judged as written there. Assumes nothing.
use mathlib.Core.Path.{◌≡◌, refl}
use mathlib.Core.List.{map}
use Rattle.lists.specs.Lists.{bytes}
use Rattle.ids.specs.Used.{first_ids, ids_in, unused}
use Rattle.ids.specs.Examples.{given, runs, theirs}

pub runs_hold : map (unused given) runs ≡ theirs
unfolding bytes first_ids ids_in unused
runs_hold = refl
