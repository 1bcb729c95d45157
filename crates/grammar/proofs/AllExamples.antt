-- The worked examples of specs/Examples.antt come out as written there. Assumes nothing.
use mathlib.Core.Path.{◌≡◌, refl}
use mathlib.Core.Bool.{Bool, true, beq}
use mathlib.Core.List.{map}
use Rattle.order.specs.declared.Facts.{Facts}
use Rattle.grammar.specs.Grammar.{Tree, records, all_of, good}
use Rattle.grammar.specs.TreeRows.{TreeRow, tree_rows}
use Rattle.grammar.specs.Examples.{dispensed, pharmacy, two_doctors, cases, two_doctors_records, every_record, their_numbers, two_groups, their_doctors, their_clinics, every_clinic}

abbrev pub holds : Bool × (Tree × Bool) → Bool
holds c = beq (good c.0 c.1.0) c.1.1

pub cases_hold : all_of holds cases ≡ true
cases_hold = refl

pub records_hold : records (dispensed (pharmacy two_doctors)) ≡ two_doctors_records
records_hold = refl

pub numbers_hold : map (λ (r : Facts). r.number) (records every_record) ≡ their_numbers
numbers_hold = refl

pub doctors_hold : map (λ (r : TreeRow). r.doctor) (tree_rows two_groups) ≡ their_doctors
doctors_hold = refl

pub clinics_hold : (map (λ (r : TreeRow). r.clinic) (tree_rows two_groups) ≡ their_clinics) × (map (λ (r : TreeRow). r.clinic) (tree_rows every_record) ≡ every_clinic)
clinics_hold = (refl, refl)
