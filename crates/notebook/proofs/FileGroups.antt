-- The groups of an accepted file (specs/Groups.antt): what stands before, in and after them (`file_front`, `file_groups`, `file_tail`), how many there are (`file_count`), that
-- their days never rise (`file_days`), and that the index's group ordinals are theirs (`file_ordinals`). All but the days follow from what may
-- follow what, tested once over all places and rows of the pattern (`follow`). Assumes nothing.
use Prim.Native.Nat.{ℕ, ◌+◌, ◌≤◌}
use native.Mathlib.Omega.{arith}
use mathlib.Core.Path.{◌≡◌, refl, sym, ap, ap₂, ◌∙◌, subst}
use mathlib.Core.Bool.{Bool, true, false, cond, not, ◌&&◌, ◌||◌, beq, false≢true}
use mathlib.Core.List.{List, [], ◌∷◌, ◌++◌, map, append_assoc}
use borrow.Author.Tests.{eqb-true, eq-eqb, ne_eqb, ltb-false}
use lib.Dec.{eqb}
use lib.ListN.{length}
use Rattle.lists.specs.Lists.{All, all, member, ok}
use Rattle.lists.proofs.Tests.{both, neither}
use Rattle.characters.specs.Text.{text}
use Rattle.records.specs.Records.{Record, record_of}
use Rattle.rules.specs.Places.{look_up, pattern, may_follow, in_group}
use Rattle.rules.specs.Rules.{misplaced, newer_group}
use Rattle.order.specs.declared.State.{State}
use Rattle.order.specs.declared.Facts.{Facts}
use Rattle.order.specs.State.{start, advance, group_of, refusal_of}
use Rattle.order.proofs.Laws.{taken, good}
use Rattle.notebook.specs.Facts.{facts_of}
use Rattle.notebook.specs.Notebook.{Notebook, read_file}
use Rattle.notebook.specs.Check.{count}
use Rattle.notebook.specs.Index.{Entry, entry_of, entries_of}
use Rattle.notebook.specs.Groups.{Parts, parts_of, Inner, ordinals_from, ordinals, first, group_day, NoneNewer, NewestFirst}
use Rattle.notebook.proofs.Accepted.{Ruled, over, next, accepted}
use Rattle.notebook.proofs.Walk.{Walk, over as nothing, more, accepted as walked}
use Rattle.notebook.proofs.GroupLaws.{only_tail, parts_701, by_first}

-- ---- what may follow what, from one computed test

places : List ℕ
places = 0 ∷ 1 ∷ 2 ∷ 3 ∷ 4 ∷ 5 ∷ 11 ∷ 15 ∷ 51 ∷ 55 ∷ 201 ∷ 281 ∷ 291 ∷ 301 ∷ 311 ∷ 391 ∷ 401 ∷ 411 ∷ 501 ∷ 601 ∷ 701 ∷ []

-- Q holds of each row's number that may stand
rows_pass : (ℕ → Bool) → List (ℕ × Bool) → Bool
rows_pass Q [] = true
rows_pass Q (x ∷ xs) = (not x.1 || Q x.0) && rows_pass Q xs

row_passes : (Q : ℕ → Bool) (n : ℕ) (xs : List (ℕ × Bool)) → rows_pass Q xs ≡ true → look_up n xs ≡ true → Q n ≡ true
unfolding rows_pass
row_passes Q n [] t h = absurd (false≢true h)
row_passes Q n (x ∷ xs) t h = let b = both _ _ t in go (eqb n x.0) refl x.1 b.0 (row_passes Q n xs b.1) h
  where
    go : (e : Bool) → eqb n x.0 ≡ e → (y : Bool) → (not y || Q x.0) ≡ true → (look_up n xs ≡ true → Q n ≡ true) → cond e y (look_up n xs) ≡ true → Q n ≡ true
    go true p true t i h = ap Q (eqb-true n x.0 p) ∙ t
    go true p false t i h = absurd (false≢true h)
    go false p y t i h = i h

passes : (f : ℕ → Bool) (n : ℕ) (xs : List ℕ) → all f xs ≡ true → member xs n ≡ true → f n ≡ true
passes f n [] t h = absurd (false≢true h)
passes f n (x ∷ xs) t h = let y = both (f x) (all f xs) t in go (eqb n x) refl y.0 (passes f n xs y.1) h
  where
    go : (e : Bool) → eqb n x ≡ e → f x ≡ true → (member xs n ≡ true → f n ≡ true) → (e || member xs n) ≡ true → f n ≡ true
    go true p t i h = ap f (eqb-true n x p) ∙ t
    go false p t i h = i h

follow : (Q : ℕ → ℕ → Bool) → all (λ p. rows_pass (Q p) (pattern p)) places ≡ true → (p n : ℕ) → member places p ≡ true → may_follow p n ≡ true → Q p n ≡ true
unfolding may_follow
follow Q t p n k h = row_passes (Q p) n (pattern p) (passes (λ p. rows_pass (Q p) (pattern p)) p places t k) h

-- "At most one 1; then any 2s, then 3s, then 4s"
abbrev pub in_first : ℕ → Bool
in_first n = member (1 ∷ 2 ∷ 3 ∷ 4 ∷ []) n

-- a number that is no 5 and no 701 stands in a group exactly if the place before it does, and else in front of the groups
kept : ℕ → ℕ → Bool
kept p n = eqb n 5 || eqb n 701 || beq (in_group n) (in_group p) && (in_group n || in_first n)

record Next (p n : ℕ) : Type 0 where
  known : member places n ≡ true
  keeps : kept p n ≡ true
  last : p ≡ 701 → n ≡ 701

next_is : (p n : ℕ) → member places p ≡ true → may_follow p n ≡ true → Next p n
unfolding places rows_pass kept in_group
next_is p n k h = record {
  known = follow (λ p n. member places n) refl p n k h;
  keeps = follow kept refl p n k h;
  last = λ e. eqb-true n 701 (go e (follow (λ p n. not (eqb p 701) || eqb n 701) refl p n k h));
}
  where
    go : p ≡ 701 → (not (eqb p 701) || eqb n 701) ≡ true → eqb n 701 ≡ true
    go e t = rw e at t

-- ---- records of which each may follow the one before it

abbrev Pattern : ℕ → List Record → Type 0
Pattern p [] = Unit {0}
Pattern p (r ∷ rs) = Next p r.number × Pattern r.number rs

follows : (st : State) (f : Facts) → refusal_of st f ≡ 0 → may_follow st.place f.number ≡ true
unfolding misplaced
follows st f e = go _ _ _ _ _ (good st f e).place
  where
    go : (a b c d e : Bool) → (not a || b || c || d || e) ≡ false → a ≡ true
    go true b c d e h = refl
    go false b c d e h = absurd (false≢true (sym h))

place_after : (st : State) (r : Record) → (advance st (facts_of r)).place ≡ r.number
unfolding advance facts_of
place_after st r = refl

number_of : (r : Record) → (facts_of r).number ≡ r.number
unfolding facts_of
number_of r = refl

ruled_pattern : {st : State} {rs : List Record} → member places st.place ≡ true → Ruled st rs → Pattern st.place rs
ruled_pattern k (over f) = tt
ruled_pattern {st} k (next {after = t} {rp = rp} {doctor = doctor} {r = r} {rs = rs} s u) =
    let g = taken st (facts_of r) t rp doctor s in
    let n : Next st.place r.number =
    next_is st.place r.number k (rw (number_of r) at (follows st (facts_of r) g.good)) in
    let e : t.place ≡ r.number = ap (λ (x : State). x.place) g.state ∙ place_after st r in
    (n, subst (λ p. Pattern p rs) e (ruled_pattern (rw e n.known) u))

abbrev Is701 : Record → Type 0
Is701 r = r.number ≡ 701

last_ones : (rs : List Record) → Pattern 701 rs → All Is701 rs
last_ones [] h = tt
last_ones (r ∷ rs) (h, t) = let e = h.last refl in (e, last_ones rs (subst (λ p. Pattern p rs) e t))

-- ---- the numbers in each part

-- in a group, or else before the groups
abbrev Stands : Bool → Record → Type 0
Stands true r = in_group r.number ≡ true
Stands false r = in_first r.number ≡ true

-- g: the records come after a record of a group
record Numbers (g : Bool) (p : Parts) : Type 0 where
  front : All (Stands g) p.front
  groups : All (All (Stands true)) p.groups
  tail : All Is701 p.tail

inner_stands : (g : Bool) (p : ℕ) (r : Record) → in_group p ≡ g → Inner r → kept p r.number ≡ true → (in_group r.number ≡ g) × Stands g r
unfolding kept
inner_stands g p r q i h =
    let n = neither (eqb r.number 5) (eqb r.number 701) i in
    go (in_group r.number) refl g (rw (n.0, n.1, q) at h)
  where
    go : (x : Bool) → in_group r.number ≡ x → (g : Bool) → (beq x g && (x || in_first r.number)) ≡ true → (in_group r.number ≡ g) × Stands g r
    go true e true h = (e, e)
    go true e false h = absurd (false≢true h)
    go false e true h = absurd (false≢true h)
    go false e false h = (e, h)

numbers_of_lem : (rs : List Record) (p : ℕ) (g : Bool) → in_group p ≡ g → Pattern p rs → Numbers g (parts_of rs)
unfolding parts_of in_group
numbers_of_lem [] p g q h = record { front = tt; groups = tt; tail = tt }
numbers_of_lem (r ∷ rs) p g q (h, t) =
    by_first (Numbers g) r rs
    (λ e. record { front = tt; groups = tt; tail = (e, last_ones rs (subst (λ p. Pattern p rs) e t)) })
    (λ e. let i = numbers_of_lem rs r.number true (ap in_group e) t in record { front = tt; groups = ((ap in_group e, i.front), i.groups); tail = i.tail })
    (λ e. let s = inner_stands g p r q e h.keeps in
    let i = numbers_of_lem rs r.number g s.0 t in
    record { front = (s.1, i.front); groups = i.groups; tail = i.tail })

-- ---- how many there are

none_5 : (rs : List Record) → All Is701 rs → count 5 rs ≡ 0
unfolding count
none_5 [] h = refl
none_5 (r ∷ rs) (h, t) = rw h (omega (arith, none_5 rs t))

count_of : (rs : List Record) (p : ℕ) → Pattern p rs → length (parts_of rs).groups ≡ count 5 rs
unfolding parts_of count
count_of [] p h = refl
count_of (r ∷ rs) p (h, t) =
    let i : length (parts_of rs).groups ≡ count 5 rs = count_of rs r.number t in
    by_first (λ q. length q.groups ≡ cond (eqb r.number 5) 1 0 + count 5 rs) r rs
    (λ e. rw e (omega (arith, none_5 rs (last_ones rs (subst (λ p. Pattern p rs) e t)))))
    (λ e. rw e (omega arith))
    (λ e. let n = neither (eqb r.number 5) (eqb r.number 701) e in rw n.0 (omega arith))

-- ---- their ordinals in the index

-- o: the ordinal of what stands before the first 5; k: that of the first group
abbrev ordinals_in : ℕ → ℕ → Parts → List ℕ
ordinals_in o k p = map (λ r. o) p.front ++ (ordinals_from k p.groups ++ map (λ r. 0) p.tail)

abbrev groups_of : List Entry → List ℕ
groups_of es = map (λ (e : Entry). e.group) es

only_701s : (rs : List Record) → All Is701 rs → parts_of rs ≡ only_tail rs
unfolding parts_of
only_701s [] h = refl
only_701s (r ∷ rs) (h, t) = parts_701 r rs h

-- the count of groups, the ordinal and the day after a record, by what it is
module _ (st : State) (r : Record) where
  abbrev behind : State
  behind = advance st (facts_of r)

  count_5 : r.number ≡ 5 → behind.groups ≡ st.groups + 1
  unfolding advance facts_of
  count_5 e = rw e

  count_inner : Inner r → behind.groups ≡ st.groups
  unfolding advance facts_of
  count_inner e = rw (neither (eqb r.number 5) (eqb r.number 701) e).0

  ordinal_701 : r.number ≡ 701 → group_of behind ≡ 0
  unfolding group_of advance facts_of in_group
  ordinal_701 e = rw e

  ordinal_5 : r.number ≡ 5 → group_of behind ≡ st.groups + 1
  unfolding group_of advance facts_of in_group
  ordinal_5 e = rw e

  ordinal_inner : Inner r → in_group r.number ≡ in_group st.place → group_of behind ≡ group_of st
  unfolding group_of advance facts_of
  ordinal_inner e q = rw ((neither (eqb r.number 5) (eqb r.number 701) e).0, q)

  day_of_lem : (rs : List Record) → r.number ≡ 5 → group_day (r ∷ rs) ≡ (facts_of r).day
  unfolding group_day first facts_of
  day_of_lem rs e = rw e

  day_5 : (rs : List Record) → r.number ≡ 5 → behind.day ≡ group_day (r ∷ rs)
  unfolding advance facts_of
  day_5 rs e = rw (day_of_lem rs e, eq-eqb r.number 5 e)

  day_inner : Inner r → behind.day ≡ st.day
  unfolding advance facts_of
  day_inner e = rw (neither (eqb r.number 5) (eqb r.number 701) e).0

abbrev cons : ℕ → List ℕ → List ℕ
cons k ks = k ∷ ks

walk_ordinals : {st : State} {at : ℕ} {rs : List (List ℕ)} {recs : List Record} {es : List Entry} → Walk st at rs recs es → Pattern st.place recs
    → groups_of es ≡ ordinals_in (group_of st) (st.groups + 1) (parts_of recs)
unfolding parts_of ordinals_from entry_of
walk_ordinals nothing h = refl
walk_ordinals (more {st = st} {r = line} {after = after} {recs = recs} {es = es} l p w) (h, t) =
    let r : Record = record_of (text line) in
    let e : after.place ≡ r.number = ap (λ (x : State). x.place) p.state ∙ place_after st r in
    let i : groups_of es ≡ ordinals_in (group_of after) (after.groups + 1) (parts_of recs) = walk_ordinals w (subst (λ p. Pattern p recs) (sym e) t) in
    let on : (o k : ℕ) → group_of (behind st r) ≡ o → (behind st r).groups ≡ k → group_of after ∷ groups_of es ≡ o ∷ ordinals_in o (k + 1) (parts_of recs) = λ o k b c.
    ap₂ cons (ap group_of p.state ∙ b)
    (i ∙ ap₂ (λ x y. ordinals_in x (y + 1) (parts_of recs)) (ap group_of p.state ∙ b) (ap (λ (x : State). x.groups) p.state ∙ c)) in
    by_first (λ q. group_of after ∷ groups_of es ≡ ordinals_in (group_of st) (st.groups + 1) q) r recs
    (λ n. on 0 (behind st r).groups (ordinal_701 st r n) refl
    ∙ ap (λ (q : Parts). 0 ∷ ordinals_in 0 ((behind st r).groups + 1) q) (only_701s recs (last_ones recs (subst (λ p. Pattern p recs) n t))))
    (λ n. on (st.groups + 1) (st.groups + 1) (ordinal_5 st r n) (count_5 st r n) ∙ ap (cons (st.groups + 1)) (sym (append_assoc (map (λ r. st.groups + 1) (parts_of recs).front) _ _)))
    (λ n. on (group_of st) st.groups (ordinal_inner st r n (inner_stands (in_group st.place) st.place r refl n h.keeps).0) (count_inner st r n))

-- ---- their days

abbrev Grouped : State → Type 0
Grouped st = eqb st.groups 0 ≡ false

grouped_5 : (st : State) (r : Record) → r.number ≡ 5 → Grouped (behind st r)
grouped_5 st r e = rw (count_5 st r e) (ne_eqb (st.groups + 1) 0 (λ z. omega arith))

-- after a group no 5 is newer
no_newer : (st : State) (r : Record) (rs : List Record) → refusal_of st (facts_of r) ≡ 0 → r.number ≡ 5 → Grouped st → group_day (r ∷ rs) ≤ st.day
unfolding newer_group facts_of
no_newer st r rs e n z =
    let d = (good st (facts_of r) e).date in
    subst (λ x. x ≤ st.day) (sym (day_of_lem st r rs n)) (ltb-false st.day (facts_of r).day (rw (n, z) at d))

days_behind : {st : State} {rs : List Record} → Ruled st rs → Grouped st → NoneNewer st.day (parts_of rs).groups
unfolding parts_of
days_behind (over f) z = tt
days_behind {st} (next {after = t} {rp = rp} {doctor = doctor} {r = r} {rs = rs} s u) z =
    let g = taken st (facts_of r) t rp doctor s in
    let i : (d : ℕ) → (behind st r).day ≡ d → Grouped (behind st r) → NoneNewer d (parts_of rs).groups = λ d q y.
    subst (λ x. NoneNewer x (parts_of rs).groups) (ap (λ (x : State). x.day) g.state ∙ q) (days_behind u (subst Grouped (sym g.state) y)) in
    by_first (λ q. NoneNewer st.day q.groups) r rs (λ _. tt)
    (λ e. (no_newer st r (parts_of rs).front g.good e z, i _ (day_5 st r (parts_of rs).front e) (grouped_5 st r e)))
    (λ e. i _ (day_inner st r e) (ap (λ x. eqb x 0) (count_inner st r e) ∙ z))

days_of : {st : State} {rs : List Record} → Ruled st rs → NewestFirst (parts_of rs).groups
unfolding parts_of
days_of (over f) = tt
days_of {st} (next {after = t} {rp = rp} {doctor = doctor} {r = r} {rs = rs} s u) =
    let g = taken st (facts_of r) t rp doctor s in
    by_first (λ q. NewestFirst q.groups) r rs (λ _. tt)
    (λ e. subst (λ x. NoneNewer x (parts_of rs).groups) (ap (λ (x : State). x.day) g.state ∙ day_5 st r (parts_of rs).front e)
    (days_behind u (subst Grouped (sym g.state) (grouped_5 st r e))))
    (λ e. days_of u)

-- ---- THE GROUPS OF AN ACCEPTED FILE

module _ (s : List ℕ) (b : Notebook) (e : read_file s ≡ ok b) where
  ruled : Ruled (start b.provider) b.records
  ruled = (accepted s b e).taken.ruled

  in_pattern : Pattern (start b.provider).place b.records
  unfolding start places
  in_pattern = ruled_pattern refl ruled

  numbers : Numbers false (parts_of b.records)
  unfolding start in_group
  numbers = numbers_of_lem b.records 0 false refl in_pattern

  pub file_front : All (λ r. in_first r.number ≡ true) (parts_of b.records).front
  file_front = numbers.front

  pub file_groups : All (All (λ r. in_group r.number ≡ true)) (parts_of b.records).groups
  file_groups = numbers.groups

  pub file_tail : All (λ r. r.number ≡ 701) (parts_of b.records).tail
  file_tail = numbers.tail

  pub file_count : length (parts_of b.records).groups ≡ count 5 b.records
  file_count = count_of b.records (start b.provider).place in_pattern

  pub file_days : NewestFirst (parts_of b.records).groups
  file_days = days_of ruled

  pub file_ordinals : map (λ (x : Entry). x.group) (entries_of s) ≡ ordinals (parts_of b.records)
  unfolding start group_of in_group ordinals
  file_ordinals = walk_ordinals (walked s b e).walked in_pattern
