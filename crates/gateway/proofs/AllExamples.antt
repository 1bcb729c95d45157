-- The examples of specs/Examples.antt hold. Assumes nothing.
use mathlib.Core.Path.{◌≡◌, refl}
use Rattle.gateway.specs.Examples.{versions, numbers}

pub versions_numbers : versions ≡ numbers
versions_numbers = refl
