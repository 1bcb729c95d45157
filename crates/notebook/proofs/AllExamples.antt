-- The parts, ordinals, days, institution codes, record 1 and clinics of specs/Examples.antt come out as written there. Assumes nothing.
use mathlib.Core.Path.{◌≡◌, refl}
use Rattle.std.specs.Prelude.{Some}
use mathlib.Core.List.{map}
use Rattle.notebook.specs.Groups.{parts_of, ordinals_from, ordinals, first, group_day, institution, person}
use Rattle.rules.specs.Places.{in_group}
use Rattle.notebook.specs.Index.{Listed, clinic_after, clinic_of, listed_from}
use Rattle.notebook.specs.Examples.{three_groups, their_clinics, r1, two_groups, their_parts, their_ordinals, their_days, their_institutions}

pub parts_hold : parts_of two_groups.records ≡ their_parts
unfolding parts_of
parts_hold = refl

pub ordinals_hold : ordinals their_parts ≡ their_ordinals
unfolding ordinals_from ordinals
ordinals_hold = refl

pub days_hold : map group_day their_parts.groups ≡ their_days
unfolding first group_day
days_hold = refl

pub institutions_hold : map institution their_parts.groups ≡ their_institutions
unfolding first institution
institutions_hold = refl

pub person_holds : person two_groups ≡ Some r1
unfolding first person
person_holds = refl

pub clinics_hold : map (λ (x : Listed). x.clinic) (listed_from 2 0 three_groups) ≡ their_clinics
unfolding listed_from clinic_after clinic_of in_group
clinics_hold = refl
