-- DOCUMENT 02 (i): each statement of specs/Dates.antt, proved. Assumes nothing.
use Prim.Native.Nat.{ℕ, ◌-◌, ◌≤◌}
use native.Mathlib.Omega.{arith}
use mathlib.Core.Path.{◌≡◌, refl, sym, ap, subst, ◌∙◌}
use mathlib.Core.Logic.{◌↔◌}
use mathlib.Core.Bool.{true}
use mathlib.Core.List.{List, [], ◌∷◌}
use lib.ListN.{get_or}
use Rattle.lists.specs.Lists.{All}
use Rattle.digits.specs.Digits.{value}
use Rattle.eras.specs.declared.Era.{Era}
use Rattle.eras.specs.Day.{is_day, last_day}
use Rattle.eras.specs.Era.{eras, era_of, era_on, six_digits, write_day}
use Rattle.eras.specs.Newest.{Newest}
use Rattle.eras.specs.Orderly.{newest_era}
use Rattle.eras.proofs.Eras.{WellMade, day_newest, eras_named, letter_row, on_newest, newest_under}
use Rattle.calendar.proofs.Laws.{Plain, in_range, read_under, read_write, under_plain}
use Rattle.calendar.proofs.EraForm.{Within, EraSpelled, era_spelled}
use Rattle.division.specs.Orders.{Insert, here}
use Rattle.dates.specs.Dates.{WrittenFor, ReadUnder, SpelledOnce, UnderNewest, UnderReiwa, ReiwaYears, ReadInEra, ReadReiwa, ReadHeisei}
use Rattle.dates.proofs.Written.{IsRead, inserted, written_is, dates_read}
use Rattle.dates.proofs.Births.{file, book, birth_file, its_dates_lem, written_once}

-- ---- what is written

pub spelled_once : SpelledOnce
spelled_once n d = record { spelling = write_day n; written = written_once n d; only = written_is n; read = read_write n d }

-- the letter that it begins with
letter_is : (n : ℕ) (s : List ℕ) → WrittenFor n s → get_or s 0 0 ≡ (era_on n).letter
unfolding write_day
letter_is n s w = ap (λ (t : List ℕ). get_or t 0 0) (written_is n s w)

pub under_newest : UnderNewest
under_newest n s d w = subst (λ (c : ℕ). All (λ (e : Era). (e.letter ≡ c) ↔ Newest eras n e) eras) (sym (letter_is n s w)) (day_newest n d)

pub under_Reiwa : UnderReiwa
under_Reiwa n s w = subst (λ (c : ℕ). (c ≡ newest_era.letter) ↔ (newest_era.first ≤ n)) (sym (letter_is n s w)) (newest_under n)

pub reiwa_years : ReiwaYears
unfolding write_day
reiwa_years n s w h =
    let e : era_on n ≡ newest_era = on_newest n h in
    written_is n s w ∙ ap (λ (x : Era). x.letter ∷ six_digits (n - x.before)) e

-- ---- what is read

-- an accepted file has its spelling exactly if it is read
module _ (e : Era) (q : era_of e.letter ≡ e) (w : WellMade e) (n : ℕ) (d : is_day n ≡ true) where
  lies : ReadUnder e.letter n → (e.first ≤ n) × (n ≤ e.last)
  lies r =
      let h : IsRead (record { ymd = n; bytes = r.spelling }) = inserted IsRead r.stands.found (dates_read r.file) in
      let a : EraSpelled r.spelling n = era_spelled r.spelling n h (λ _. omega (arith, r.first, w.from_a)) in
      let l : a.letter ≡ e.letter = ap (λ (t : List ℕ). get_or t 0 0) (sym a.is) ∙ r.first in
      let i : Within e (value 0 a.rest) n = subst (λ (x : Era). Within x (value 0 a.rest) n) (ap era_of l ∙ q) a.within in
      (i.first, i.last)

  stands : e.first ≤ n → n ≤ e.last → ReadUnder e.letter n
  stands lo hi =
      let s : List ℕ = e.letter ∷ six_digits (n - e.before) in
      let h = read_under e n q w lo hi d in
      let p : Plain (e.letter ∷ six_digits (n - e.before)) = under_plain e (n - e.before) w in
      record {
        file = file n s refl p refl h;
        notebook = book n s refl p refl h;
        accepted = birth_file n s refl p refl h;
        spelling = s;
        first = refl;
        stands = record { others = []; found = subst (Insert (record { ymd = n; bytes = s }) []) (sym (its_dates_lem n s refl p refl h)) here };
      }

  under_letter : ReadUnder e.letter n ↔ ((e.first ≤ n) × (n ≤ e.last))
  under_letter = (lies, λ b. stands b.0 b.1)

pub read_in_era : ReadInEra
read_in_era = go eras eras_named
  where
    go : (es : List Era) → All (λ e. (era_of e.letter ≡ e) × WellMade e) es
        → All (λ (e : Era). (n : ℕ) → is_day n ≡ true → ReadUnder e.letter n ↔ ((e.first ≤ n) × (n ≤ e.last))) es
    go [] a = tt
    go (e ∷ es) ((q, w), a) = (λ n d. under_letter e q w n d, go es a)

-- of one letter, by the row that it finds
by_letter : (c : ℕ) → 1 ≤ (era_of c).letter → (n : ℕ) → is_day n ≡ true → ReadUnder (era_of c).letter n ↔ (((era_of c).first ≤ n) × (n ≤ (era_of c).last))
by_letter c h n d = let r = letter_row c h in under_letter (era_of c) r.0 r.1 n d

-- one that is read to the end of the range
to_the_end : (c : ℕ) → 1 ≤ (era_of c).letter → (era_of c).last ≡ last_day → (n : ℕ) → is_day n ≡ true → ReadUnder (era_of c).letter n ↔ ((era_of c).first ≤ n)
to_the_end c h l n d =
    let r = by_letter c h n d in
    (λ x. (r.0 x).0, λ x. r.1 (x, omega (arith, (in_range n d).high, l)))

pub read_Reiwa : ReadReiwa
unfolding era_of
read_Reiwa = to_the_end 82 (omega arith) refl

pub read_Heisei : ReadHeisei
unfolding era_of
read_Heisei = to_the_end 72 (omega arith) refl
