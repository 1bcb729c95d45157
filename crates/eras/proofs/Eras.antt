-- The laws of every list of eras that passes the test of specs/Orderly.antt, and that `eras` passes it. Assumes nothing.
use Prim.Native.Nat.{ℕ, zero, suc, ◌+◌, ◌-◌, ◌<◌, ◌≤◌, zero-le}
use mathlib.Core.Path.{◌≡◌, refl, sym, ap, subst, ◌∙◌}
use mathlib.Core.Logic.{◌↔◌}
use mathlib.Core.Bool.{Bool, true, false, not, cond, ◌&&◌, false≢true}
use mathlib.Core.List.{List, [], ◌∷◌}
use native.Mathlib.Omega.{arith}
use borrow.Author.Tests.{leb-true, leb-false, le-leb, ltb-true, eq-eqb, eqb-true, eqb-false}
use lib.Dec.{leb, ltb, eqb}
use lib.ListN.{drop}
use Rattle.lists.specs.Lists.{All}
use Rattle.lists.proofs.Tests.{cond_case, both, not_true', all_both}
use Rattle.eras.specs.declared.Era.{Era}
use Rattle.eras.specs.Day.{leap, month_length, is_real, first_day, last_day, is_day}
use Rattle.eras.specs.Era.{find, no_era, eras, era_of, era_on, has_letter, has_begun}
use Rattle.eras.specs.Newest.{Newest}
use Rattle.eras.specs.Orderly.{all_eras, well_made, in_order, distinct, no_days, covered, orderly, newest_era}

-- ---- one row

pub record WellMade (e : Era) : Type 0 where
  pub from_a : 65 ≤ e.letter
  pub to_z : e.letter ≤ 90
  pub first_year : e.before + 10000 ≤ e.first
  pub last_year : e.last ≤ e.before + 999999
  pub small : e.before ≤ 40000000

made : (e : Era) → well_made e ≡ true → WellMade e
made e t =
    let l = both (leb 65 e.letter && leb e.letter 90) _ t in
    let c = both (leb 65 e.letter) (leb e.letter 90) l.0 in
    let y = both (leb (e.before + 10000) e.first) _ l.1 in
    let z = both (leb e.last (e.before + 999999)) (leb e.before 40000000) y.1 in
    record {
      from_a = leb-true _ _ c.0;
      to_z = leb-true _ _ c.1;
      first_year = leb-true _ _ y.0;
      last_year = leb-true _ _ z.0;
      small = leb-true _ _ z.1;
    }

all_made : (es : List Era) → all_eras well_made es ≡ true → All WellMade es
all_made [] t = tt
all_made (e ∷ es) t = let b = both (well_made e) (all_eras well_made es) t in (made e b.0, all_made es b.1)

-- ---- what is found, whatever the letter or the number

small_before : (p : Era → Bool) (es : List Era) → All WellMade es → (find p es).before ≤ 40000000
small_before p [] w = zero-le
small_before p (e ∷ es) w = cond_case (λ x. x.before ≤ 40000000) (p e) e (find p es) (λ _. w.0.small) (λ _. small_before p es w.1)

begun_before : (n : ℕ) (es : List Era) → All WellMade es → (find (has_begun n) es).before ≤ n
begun_before n [] w = zero-le
begun_before n (e ∷ es) w =
    cond_case (λ x. x.before ≤ n) (has_begun n e) e (find (has_begun n) es)
    (λ h. omega (arith, leb-true e.first n h, w.0.first_year)) (λ _. begun_before n es w.1)

-- what holds of every era of a list, and of none, holds of what is found
find_of : (P : Era → Type 0) (p : Era → Bool) (es : List Era) → P no_era → All P es → P (find p es)
find_of P p [] z a = z
find_of P p (e ∷ es) z a = cond_case P (p e) e (find p es) (λ _. a.0) (λ _. find_of P p es z a.1)

-- the newest era that has begun on a day is that of any earlier day that lies after its first
begun_since : (n m : ℕ) (es : List Era) → n ≤ m → (find (has_begun m) es).first ≤ n → find (has_begun n) es ≡ find (has_begun m) es
begun_since n m [] h l = refl
begun_since n m (e ∷ es) h l = go (leb e.first m) refl (leb e.first n) refl l (begun_since n m es h)
  where
    go : (x : Bool) → leb e.first m ≡ x → (y : Bool) → leb e.first n ≡ y → (cond x e (find (has_begun m) es)).first ≤ n
        → ((find (has_begun m) es).first ≤ n → find (has_begun n) es ≡ find (has_begun m) es) → cond y e (find (has_begun n) es) ≡ cond x e (find (has_begun m) es)
    go true p true q l k = refl
    go true p false q l k = absurd (omega (arith, leb-false e.first n q))
    go false p true q l k = absurd (omega (arith, leb-false e.first m p, leb-true e.first n q))
    go false p false q l k = k l

-- ---- a letter names its era

past : (x : Era) (es ys : List Era) → all_eras (λ e. not (has_letter e.letter x)) ys ≡ true → All (λ e. find (has_letter e.letter) es ≡ e) ys
    → All (λ e. find (has_letter e.letter) (x ∷ es) ≡ e) ys
past x es [] t a = tt
past x es (y ∷ ys) t a =
    let b = both (not (has_letter y.letter x)) _ t in
    (rw (not_true' (has_letter y.letter x) b.0) a.0, past x es ys b.1 a.1)

by_letter : (es : List Era) → distinct es ≡ true → All (λ e. find (has_letter e.letter) es ≡ e) es
by_letter [] t = tt
by_letter (e ∷ es) t =
    let b = both (all_eras (λ x. not (has_letter x.letter e)) es) (distinct es) t in
    (rw (eq-eqb e.letter e.letter refl) refl, past e es es b.0 (by_letter es b.1))

-- ---- the era that a day is written in

none_among : (n m k : ℕ) → no_days n k ≡ true → n ≤ m → m < n + k → is_real m ≡ false
none_among n m zero t lo hi = absurd (omega arith)
none_among n m (suc k) t lo hi =
    let b = both (not (is_real n)) (no_days (n + 1) k) t in
    here (eqb n m) refl (not_true' (is_real n) b.0) (λ h. none_among (n + 1) m k b.1 h (omega arith))
  where
    here : (x : Bool) → eqb n m ≡ x → is_real n ≡ false → (n + 1 ≤ m → is_real m ≡ false) → is_real m ≡ false
    here true e f g = rw (← (eqb-true n m e)) f
    here false e f g = g (omega (arith, eqb-false n m e))

-- it is of the list, and the day lies in it
record Covers (P : Era → Type 0) (n : ℕ) (e : Era) : Type 0 where
  listed : P e
  low : e.first ≤ n
  high : n ≤ e.last

covers : (P : Era → Type 0) (n top : ℕ) (es : List Era) → All P es → covered top es ≡ true → is_real n ≡ true → first_day ≤ n → n < top
    → Covers P n (find (has_begun n) es)
covers P n top [] a t d lo hi = absurd (omega (arith, leb-true top first_day t))
covers P n top (e ∷ es) a t d lo hi =
    cond_case (Covers P n) (has_begun n e) e (find (has_begun n) es)
    (λ h. record { listed = a.0; low = leb-true _ _ h; high = go (leb n e.last) refl })
    (λ h. covers P n e.first es a.1 c.1 d lo (leb-false _ _ h))
  where
    c : (no_days (e.last + 1) (top - (e.last + 1)) ≡ true) × (covered e.first es ≡ true)
    c = both (no_days (e.last + 1) (top - (e.last + 1))) (covered e.first es) t

    go : (x : Bool) → leb n e.last ≡ x → n ≤ e.last
    go true f = leb-true _ _ f
    go false f =
        let l = leb-false n e.last f in
        absurd (false≢true (sym (none_among (e.last + 1) n (top - (e.last + 1)) c.0 (omega arith) (omega arith)) ∙ d))

not_newer : (n : ℕ) (es : List Era) → in_order es ≡ true → All (λ x. x.first ≤ n → x.first ≤ (find (has_begun n) es).first) es
not_newer n [] t = tt
not_newer n (e ∷ es) t =
    cond_case (λ f. All (λ x. x.first ≤ n → x.first ≤ f.first) (e ∷ es)) (has_begun n e) e (find (has_begun n) es)
    (λ h. (λ (g : e.first ≤ n). omega arith, below es b.0))
    (λ h. (λ (g : e.first ≤ n). absurd (omega (arith, leb-false e.first n h)), not_newer n es b.1))
  where
    b : (all_eras (λ x. ltb x.first e.first) es ≡ true) × (in_order es ≡ true)
    b = both (all_eras (λ x. ltb x.first e.first) es) (in_order es) t

    below : (ys : List Era) → all_eras (λ x. ltb x.first e.first) ys ≡ true → All (λ x. x.first ≤ n → x.first ≤ e.first) ys
    below [] u = tt
    below (y ∷ ys) u =
        let c = both (ltb y.first e.first) (all_eras (λ x. ltb x.first e.first) ys) u in
        (λ (g : y.first ≤ n). omega (arith, ltb-true y.first e.first c.0), below ys c.1)

-- an era of the list that has begun is found, if no other that has begun is newer
newest_found : (n : ℕ) (es : List Era) → in_order es ≡ true → All (λ e. Newest es n e → find (has_begun n) es ≡ e) es
newest_found n [] t = tt
newest_found n (e ∷ es) t =
    let b = both (all_eras (λ x. ltb x.first e.first) es) (in_order es) t in
    (λ (g : Newest (e ∷ es) n e). rw (le-leb e.first n g.begun) refl, among es b.0 (newest_found n es b.1))
  where
    among : (ys : List Era) → all_eras (λ x. ltb x.first e.first) ys ≡ true → All (λ y. Newest es n y → find (has_begun n) es ≡ y) ys
        → All (λ y. Newest (e ∷ es) n y → find (has_begun n) (e ∷ es) ≡ y) ys
    among [] u a = tt
    among (y ∷ ys) u a =
        let c = both (ltb y.first e.first) (all_eras (λ x. ltb x.first e.first) ys) u in
        let l : y.first < e.first = ltb-true y.first e.first c.0 in
        (λ (g : Newest (e ∷ es) n y). later g l (leb e.first n) refl a.0, among ys c.1 a.1)
      where
        later : Newest (e ∷ es) n y → y.first < e.first → (x : Bool) → leb e.first n ≡ x → (Newest es n y → find (has_begun n) es ≡ y)
            → find (has_begun n) (e ∷ es) ≡ y
        later g l true f a = absurd (omega (arith, g.none_newer_lem.0 (leb-true e.first n f)))
        later g l false f a = rw f (a (record { begun = g.begun; none_newer_lem = g.none_newer_lem.1 }))

-- ---- every list that passes the test

-- the era e that a day n is written in, of a list: its letter names it, its years have two digits, the day lies in it, and no era that has begun is newer
pub record Named (es : List Era) (n : ℕ) (e : Era) : Type 0 where
  pub letter : find (has_letter e.letter) es ≡ e
  pub row : WellMade e
  pub high : n ≤ e.last
  pub newest : Newest es n e

module _ (es : List Era) (t : orderly es ≡ true) where
  rows : All WellMade es
  rows = all_made es (both (all_eras well_made es) _ t).0

  rest : (in_order es ≡ true) × ((distinct es && covered (last_day + 1) es) ≡ true)
  rest = both (in_order es) _ (both (all_eras well_made es) _ t).1

  pub before_small : (p : Era → Bool) → (find p es).before ≤ 40000000
  before_small p = small_before p es rows

  pub before_low : (n : ℕ) → (find (has_begun n) es).before ≤ n
  before_low n = begun_before n es rows

  pub named : (n : ℕ) → is_day n ≡ true → Named es n (find (has_begun n) es)
  unfolding is_day
  named n d =
      let r = both (leb first_day n && leb n last_day) (is_real n) d in
      let l = both (leb first_day n) (leb n last_day) r.0 in
      let c = both (distinct es) (covered (last_day + 1) es) rest.1 in
      let lo = leb-true first_day n l.0 in
      let hi = leb-true n last_day l.1 in
      let a = covers (λ e. find (has_letter e.letter) es ≡ e) n (last_day + 1) es (by_letter es c.0) c.1 r.1 lo (omega arith) in
      let w = covers WellMade n (last_day + 1) es rows c.1 r.1 lo (omega arith) in
      record { letter = a.listed; row = w.listed; high = w.high; newest = record { begun = w.low; none_newer_lem = not_newer n es rest.0 } }

  pub row_named : All (λ e. (find (has_letter e.letter) es ≡ e) × WellMade e) es
  row_named = all_both (λ e. find (has_letter e.letter) es ≡ e) WellMade es (by_letter es (both (distinct es) _ rest.1).0) rows

  -- what is found is named by its letter and well made, unless nothing is
  pub found_named : (p : Era → Bool) → 1 ≤ (find p es).letter → (find (has_letter (find p es).letter) es ≡ find p es) × WellMade (find p es)
  found_named p =
      find_of (λ e. 1 ≤ e.letter → (find (has_letter e.letter) es ≡ e) × WellMade e) p es (λ h. absurd (omega arith)) (always es row_named)
    where
      always : (xs : List Era) → All (λ e. (find (has_letter e.letter) es ≡ e) × WellMade e) xs
          → All (λ e. 1 ≤ e.letter → (find (has_letter e.letter) es ≡ e) × WellMade e) xs
      always [] a = tt
      always (x ∷ xs) (a, ls) = (λ _. a, always xs ls)

  -- a letter whose last day is written under it: so is every day that is read under it
  pub kept_letter : (c n : ℕ) → 1 ≤ c → (find (has_begun (find (has_letter c) es).last) es).letter ≡ c
      → (find (has_letter c) es).first ≤ n → n ≤ (find (has_letter c) es).last → (find (has_begun n) es).letter ≡ c
  kept_letter c n h q lo hi =
      let e = find (has_letter c) es in
      let x = find (has_begun e.last) es in
      let i : find (has_letter c) es ≡ x = ap (λ (d : ℕ). find (has_letter d) es) (sym q) ∙ (found_named (has_begun e.last) (omega (arith, q))).0 in
      ap (λ (y : Era). y.letter) (begun_since n e.last es hi (omega (arith, lo, ap (λ (y : Era). y.first) i))) ∙ q

  -- a letter of the list is that of the day's era exactly if its era is the newest that has begun
  pub named_newest : (n : ℕ) → is_day n ≡ true → All (λ e. (e.letter ≡ (find (has_begun n) es).letter) ↔ Newest es n e) es
  named_newest n d = go es (by_letter es (both (distinct es) _ rest.1).0) (newest_found n es rest.0)
    where
      w : Named es n (find (has_begun n) es)
      w = named n d

      go : (xs : List Era) → All (λ e. find (has_letter e.letter) es ≡ e) xs → All (λ e. Newest es n e → find (has_begun n) es ≡ e) xs
          → All (λ e. (e.letter ≡ (find (has_begun n) es).letter) ↔ Newest es n e) xs
      go [] a b = tt
      go (x ∷ xs) (a, ls) (b, bs) =
          ((λ q. subst (Newest es n) (sym w.letter ∙ ap (λ c. find (has_letter c) es) (sym q) ∙ a) w.newest, λ g. ap (λ (e : Era). e.letter) (sym (b g))), go xs ls bs)

-- under the newest era of the list a day is written exactly if it has begun
module _ (e : Era) (es : List Era) (t : orderly (e ∷ es) ≡ true) where
  pub front_letter : (n : ℕ) → ((find (has_begun n) (e ∷ es)).letter ≡ e.letter) ↔ (e.first ≤ n)
  front_letter n = go (leb e.first n) refl
    where
      others : (p : Era → Bool) (xs : List Era) → all_eras (λ x. not (has_letter x.letter e)) xs ≡ true → (find p xs).letter ≡ e.letter → ⊥
      others p [] u = λ q. omega (arith, q, (rows (e ∷ es) t).0.from_a)
      others p (x ∷ xs) u =
          let b = both (not (has_letter x.letter e)) (all_eras (λ x. not (has_letter x.letter e)) xs) u in
          cond_case (λ y. y.letter ≡ e.letter → ⊥) (p x) x (find p xs)
          (λ _ q. eqb-false e.letter x.letter (not_true' (has_letter x.letter e) b.0) (sym q)) (λ _. others p xs b.1)

      go : (x : Bool) → leb e.first n ≡ x → ((cond x e (find (has_begun n) es)).letter ≡ e.letter) ↔ (e.first ≤ n)
      go true f = (λ _. leb-true e.first n f, λ _. refl)
      go false f =
          let d = (both (distinct (e ∷ es)) _ (rest (e ∷ es) t).1).0 in
          let a = (both (all_eras (λ x. not (has_letter x.letter e)) es) (distinct es) d).0 in
          (λ q. absurd (others (has_begun n) es a q), λ l. absurd (omega (arith, leb-false e.first n f)))

-- ---- the eras

-- THEY PASS THE TEST
pub eras_orderly : orderly eras ≡ true
unfolding is_real month_length leap
eras_orderly = refl

pub letter_small : (c : ℕ) → (era_of c).before ≤ 40000000
unfolding era_of
letter_small c = before_small eras eras_orderly (has_letter c)

pub before_le : (n : ℕ) → (era_on n).before ≤ n
unfolding era_on
before_le n = before_low eras eras_orderly n

pub day_named : (n : ℕ) → is_day n ≡ true → Named eras n (era_on n)
unfolding era_on
day_named n d = named eras eras_orderly n d

-- as `era_of` names it
pub letter_names : (n : ℕ) → is_day n ≡ true → era_of (era_on n).letter ≡ era_on n
unfolding era_of
letter_names n d = (day_named n d).letter

pub day_newest : (n : ℕ) → is_day n ≡ true → All (λ e. (e.letter ≡ (era_on n).letter) ↔ Newest eras n e) eras
unfolding era_on
day_newest n d = named_newest eras eras_orderly n d

-- the rows that letters name
pub eras_named : All (λ e. (era_of e.letter ≡ e) × WellMade e) eras
unfolding era_of
eras_named = row_named eras eras_orderly

-- the row that a letter finds
pub letter_row : (c : ℕ) → 1 ≤ (era_of c).letter → (era_of (era_of c).letter ≡ era_of c) × WellMade (era_of c)
unfolding era_of
letter_row c h = found_named eras eras_orderly (has_letter c) h

-- the era of a day on which the newest has begun
pub on_newest : (n : ℕ) → newest_era.first ≤ n → era_on n ≡ newest_era
unfolding era_on
on_newest n h = rw (le-leb newest_era.first n h) refl

-- a day is written under the newest era's letter exactly if it has begun
pub newest_under : (n : ℕ) → ((era_on n).letter ≡ newest_era.letter) ↔ (newest_era.first ≤ n)
unfolding era_on
newest_under n = front_letter newest_era (drop 1 eras) eras_orderly n

-- where the last day that is read under a letter is written under it, so is every day that is read under it
pub letter_kept : (c n : ℕ) → 1 ≤ c → (era_on (era_of c).last).letter ≡ c → (era_of c).first ≤ n → n ≤ (era_of c).last → (era_on n).letter ≡ c
unfolding era_of era_on
letter_kept = kept_letter eras eras_orderly
