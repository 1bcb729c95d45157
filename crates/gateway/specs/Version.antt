-- Definitions, to be believed.
-- The version of the library, as one number that a program can ask for. tests/version.py holds it to the file VERSION.
use Rattle.std.specs.Prelude.{ℕ, ◌+◌, ◌*◌}

-- two digits each for the minor and the patch
abbrev pub version_number : ℕ → ℕ → ℕ → ℕ
version_number major minor patch = major * 10000 + minor * 100 + patch

abbrev pub library_version : ℕ
library_version = version_number 0 6 1
