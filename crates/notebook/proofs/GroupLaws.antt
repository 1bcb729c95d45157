-- The division of a notebook's records into front, groups and tail (specs/Groups.antt) is the only one of its shape: parts put together are the records
-- (`parts_whole`), have the shape (`parts_shaped`), and are found again (`parts_of_lem`). Assumes nothing.
use mathlib.Core.Path.{◌≡◌, refl, ap, ◌∙◌}
use mathlib.Core.Bool.{Bool, true, false}
use mathlib.Core.List.{List, [], ◌∷◌, ◌++◌, append_assoc, flatten}
use borrow.Author.Tests.{eqb-true}
use lib.Dec.{eqb}
use Rattle.lists.specs.Lists.{All}
use Rattle.lists.proofs.Tests.{neither}
use Rattle.records.specs.Records.{Record}
use Rattle.notebook.specs.Groups.{Parts, parts_of, records_of, Inner, IsGroup, IsTail, Shaped}

-- ---- one record more at the front, by whether it is a 701 or a 5

abbrev pub on_front : Record → Parts → Parts
on_front r p = record { front = r ∷ p.front; groups = p.groups; tail = p.tail }

abbrev pub on_groups : Record → Parts → Parts
on_groups r p = record { front = []; groups = (r ∷ p.front) ∷ p.groups; tail = p.tail }

abbrev pub only_tail : List Record → Parts
only_tail rs = record { front = []; groups = []; tail = rs }

pub parts_701 : (r : Record) (rs : List Record) → r.number ≡ 701 → parts_of (r ∷ rs) ≡ only_tail (r ∷ rs)
unfolding parts_of
parts_701 r rs e = rw e

pub parts_5 : (r : Record) (rs : List Record) → r.number ≡ 5 → parts_of (r ∷ rs) ≡ on_groups r (parts_of rs)
unfolding parts_of
parts_5 r rs e = rw e

pub parts_inner : (r : Record) (rs : List Record) → Inner r → parts_of (r ∷ rs) ≡ on_front r (parts_of rs)
unfolding parts_of
parts_inner r rs e =
    let n = neither (eqb r.number 5) (eqb r.number 701) e in
    rw (n.0, n.1)

-- what holds in each of the three holds of the parts of records
pub by_first : (P : Parts → Type 0) (r : Record) (rs : List Record) → (r.number ≡ 701 → P (only_tail (r ∷ rs))) → (r.number ≡ 5 → P (on_groups r (parts_of rs)))
    → (Inner r → P (on_front r (parts_of rs))) → P (parts_of (r ∷ rs))
by_first P r rs last opens inner = go (eqb r.number 701) refl (eqb r.number 5) refl
  where
    go : (x : Bool) → eqb r.number 701 ≡ x → (y : Bool) → eqb r.number 5 ≡ y → P (parts_of (r ∷ rs))
    go true p y q = let e = eqb-true r.number 701 p in rw (parts_701 r rs e) (last e)
    go false p true q = let e = eqb-true r.number 5 q in rw (parts_5 r rs e) (opens e)
    go false p false q = let e : Inner r = rw (p, q) in rw (parts_inner r rs e) (inner e)

-- ---- the laws

pub parts_whole : (rs : List Record) → records_of (parts_of rs) ≡ rs
unfolding parts_of records_of flatten
parts_whole [] = refl
parts_whole (r ∷ rs) =
    let i : records_of (parts_of rs) ≡ rs = parts_whole rs in
    by_first (λ p. records_of p ≡ r ∷ rs) r rs (λ _. refl)
    (λ _. ap (λ (x : List Record). r ∷ x) (append_assoc (parts_of rs).front (flatten (parts_of rs).groups) (parts_of rs).tail ∙ i))
    (λ _. ap (λ (x : List Record). r ∷ x) i)

pub parts_shaped : (rs : List Record) → Shaped (parts_of rs)
unfolding parts_of
parts_shaped [] = record { front = tt; groups = tt; tail = tt }
parts_shaped (r ∷ rs) =
    let i : Shaped (parts_of rs) = parts_shaped rs in
    by_first Shaped r rs
    (λ e. record { front = tt; groups = tt; tail = e })
    (λ e. record { front = tt; groups = ((e, i.front), i.groups); tail = i.tail })
    (λ e. record { front = (e, i.front); groups = i.groups; tail = i.tail })

tail_parts : (t : List Record) → IsTail t → parts_of t ≡ only_tail t
unfolding parts_of
tail_parts [] e = refl
tail_parts (r ∷ rs) e = parts_701 r rs e

-- records without a 5 or 701, before parts without a front
front_parts : (f rs : List Record) (gs : List (List Record)) (t : List Record) → All Inner f → parts_of rs ≡ record { front = []; groups = gs; tail = t }
    → parts_of (f ++ rs) ≡ record { front = f; groups = gs; tail = t }
front_parts [] rs gs t h e = e
front_parts (r ∷ f) rs gs t (h, k) e = parts_inner r (f ++ rs) h ∙ ap (on_front r) (front_parts f rs gs t k e)

groups_parts : (gs : List (List Record)) (t : List Record) → All IsGroup gs → IsTail t → parts_of (flatten gs ++ t) ≡ record { front = []; groups = gs; tail = t }
unfolding flatten
groups_parts [] t h e = tail_parts t e
groups_parts ([] ∷ gs) t (h, k) e = absurd h
groups_parts ((r ∷ rs) ∷ gs) t (h, k) e =
    ap (λ (x : List Record). parts_of (r ∷ x)) (append_assoc rs (flatten gs) t) ∙ parts_5 r (rs ++ (flatten gs ++ t)) h.0
    ∙ ap (on_groups r) (front_parts rs (flatten gs ++ t) gs t h.1 (groups_parts gs t k e))

pub parts_of_lem : (p : Parts) → Shaped p → parts_of (records_of p) ≡ p
unfolding records_of
parts_of_lem p s = front_parts p.front (flatten p.groups ++ p.tail) p.groups p.tail s.front (groups_parts p.groups p.tail s.groups s.tail)
