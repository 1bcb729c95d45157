-- The years and days of specs/Examples.antt come out as written there. Assumes nothing.
use mathlib.Core.Path.{◌≡◌, refl}
use mathlib.Core.Bool.{true, false}
use mathlib.Core.List.{map}
use Rattle.lists.specs.Lists.{bytes}
use Rattle.eras.specs.Day.{leap, month_length, is_real}
use Rattle.eras.specs.Era.{era_of, era_on, write_day}
use Rattle.eras.specs.Orderly.{orderly}
use Rattle.eras.specs.Examples.{years, their_leaps, days, their_forms, letters, their_lasts, orderly_lists, other_lists}

pub leaps_hold : map leap years ≡ their_leaps
unfolding leap
leaps_hold = refl

pub forms_hold : map write_day days ≡ their_forms
unfolding bytes era_on write_day
forms_hold = refl

pub lasts_hold : map (λ c. (era_of c).last) letters ≡ their_lasts
unfolding bytes era_of
lasts_hold = refl

pub orders_hold : (map orderly orderly_lists ≡ map (λ _. true) orderly_lists) × (map orderly other_lists ≡ map (λ _. false) other_lists)
unfolding leap month_length is_real
orders_hold = (refl, refl)
