-- An item in its one spelling: what is written for each kind. Assumes nothing.
use Prim.Native.Nat.{ℕ, ◌-◌, ◌≤◌, ◌<◌}
use native.Mathlib.Omega.{arith}
use mathlib.Core.Path.{◌≡◌, refl, sym, ap, ◌∙◌}
use mathlib.Core.Bool.{Bool, true, false, cond, not, ◌&&◌, ◌||◌, false≢true}
use mathlib.Core.List.{List, [], ◌∷◌, ◌++◌}
use borrow.Author.Tests.{eq-eqb, ne_eqb, eqb-true, eqb-false, leb-true}
use lib.Dec.{leb, eqb}
use lib.ListN.{length, get_or, take, drop, length-append, length-take, length-drop}
use Rattle.std.specs.Prelude.{Option, Some, None}
use Rattle.lists.specs.Lists.{empty, all}
use Rattle.lists.proofs.Cuts.{rest_all}
use Rattle.lists.proofs.Tests.{both, not_false', unless_zero, same_true}
use Rattle.digits.specs.Digits.{is_digit, number, spell}
use Rattle.digits.specs.Short.{plain_number}
use Rattle.digits.proofs.Numbers.{number_length}
use Rattle.digits.proofs.Spelling.{same_spell}
use Rattle.calendar.specs.declared.Day.{Day}
use Rattle.calendar.specs.Era.{read_day}
use Rattle.calendar.specs.Form.{TellsForm}
use Rattle.eras.specs.Era.{write_day}
use Rattle.records.specs.Table.{Kind, N, U, X, K, A, F, C, P, R, W, Q, D, among}
use Rattle.records.specs.Items.{write_value, number_fault, number_value, day_fault, day_value, unhyphened, seven, postal, fault, value_of}
use Rattle.records.specs.Records.{item_value}
use Rattle.items.specs.declared.kinds.Kind.{Kind as CodeKind}
use Rattle.items.specs.declared.kinds.Kind.TheVariants.{Text, OneWidth, Kana, Code, Author, Prefecture, SevenDigits, PostalCode, Number, Weight, Dose, Date, Among}
use Rattle.items.specs.Kinds.{kind_of}
use Rattle.buffers.specs.Buffers.{Room, Wrote}
use Rattle.buffers.proofs.Runs.{then}
use Rattle.canonical.specs.Writing.{postal_bytes, number_bytes, day_bytes, item_bytes, Spellable, one_spelling, OwnUnless}
use Rattle.calendar.proofs.EraForm.{not_date, form_is}
use Rattle.calendar.proofs.Steps.{none_else}

-- nothing is written
wrote_none : (d : List ℕ) (at : ℕ) {w : List ℕ} → Room d at w → w ≡ [] → Wrote d d at at w
wrote_none d at r e = rw e (record { next = omega arith; list = refl; size = refl; high = omega (arith, r, ap length e) })

-- ---- P

module _ (s : List ℕ) (h : length s ≡ 8) where
  with_hyphen : postal_bytes s ≡ take 3 s ++ drop 4 s
  unfolding postal_bytes
  with_hyphen = rw (eq-eqb (length s) 8 h)

  two_parts : length (postal_bytes s) ≡ 7
  two_parts = ap length with_hyphen ∙ omega (arith, length-append (take 3 s) (drop 4 s), length-take 3 s, length-drop 4 s)

  pub postal_first : (d : List ℕ) (at : ℕ) → Room d at (postal_bytes s) → Room d at (take 3 s)
  postal_first d at r = omega (arith, two_parts, length-take 3 s)

  pub postal_last : {d d₁ : List ℕ} {at a : ℕ} → Wrote d d₁ at a (take 3 s) → Room d at (postal_bytes s) → Room d₁ a (take (length s - 4) (drop 4 s))
  postal_last w r = omega (arith, two_parts, length-take 3 s, ap length (rest_all 4 s), length-drop 4 s, w.next, w.size)

  pub postal_both : {d d₁ d₂ : List ℕ} {at a r : ℕ} → Wrote d d₁ at a (take 3 s) → Wrote d₁ d₂ a r (take (length s - 4) (drop 4 s)) → Wrote d d₂ at r (postal_bytes s)
  postal_both v w = rw with_hyphen (then v (rw (rest_all 4 s) at w))

without_hyphen : (s : List ℕ) → (length s ≡ 8 → ⊥) → postal_bytes s ≡ s
unfolding postal_bytes
without_hyphen s h = rw (ne_eqb (length s) 8 h)

pub postal_room : (s d : List ℕ) (at : ℕ) → (length s ≡ 8 → ⊥) → Room d at (postal_bytes s) → Room d at s
postal_room s d at h r = rw (without_hyphen s h) at r

pub postal_whole : (s : List ℕ) {d d₁ : List ℕ} {at r : ℕ} → (length s ≡ 8 → ⊥) → Wrote d d₁ at r s → Wrote d d₁ at r (postal_bytes s)
postal_whole s h w = rw (without_hyphen s h) w

pub ruleset postal_laws = (postal_first, postal_last, postal_both, postal_room, postal_whole)

-- ---- R

module _ (s : List ℕ) {o : Option ℕ} (e : o ≡ number s) where
  module _ {v : ℕ} (q : o ≡ Some v) where
    number_some : number_bytes s ≡ spell v
    unfolding number_bytes
    number_some = ap (λ (x : Option ℕ). write_value (number_value x)) (sym e ∙ q)

    pub number_small : v < 1000
    number_small = omega (arith, (number_length s v (sym e ∙ q)).1)

    pub number_room : (d : List ℕ) (at : ℕ) → Room d at (number_bytes s) → Room d at (spell v)
    number_room d at r = rw number_some at r

    pub number_wrote : {d d₁ : List ℕ} {at r : ℕ} → Wrote d d₁ at r (spell v) → Wrote d d₁ at r (number_bytes s)
    number_wrote w = rw number_some w

  pub number_empty : (d : List ℕ) (at : ℕ) → o ≡ None → Room d at (number_bytes s) → Wrote d d at at (number_bytes s)
  unfolding number_bytes
  number_empty d at q r = wrote_none d at r (ap (λ (x : Option ℕ). write_value (number_value x)) (sym e ∙ q))

pub ruleset number_laws = (number_small, number_room, number_wrote, number_empty)

-- ---- D

module _ (s : List ℕ) {o : Option Day} (e : o ≡ read_day s) where
  module _ {t : Day} (q : o ≡ Some t) where
    day_some : day_bytes s ≡ write_day t.ymd
    unfolding day_bytes
    day_some = ap (λ (x : Option Day). write_value (day_value x)) (sym e ∙ q)

    pub day_room : {w : List ℕ} (d : List ℕ) (at : ℕ) → w ≡ write_day t.ymd → Room d at (day_bytes s) → Room d at w
    day_room d at p r = rw (p, sym day_some) r

    pub day_wrote : {w d d₁ : List ℕ} {at r : ℕ} → w ≡ write_day t.ymd → Wrote d d₁ at r w → Wrote d d₁ at r (day_bytes s)
    day_wrote p w = rw (day_some ∙ sym p) w

  pub day_empty : (d : List ℕ) (at : ℕ) → o ≡ None → Room d at (day_bytes s) → Wrote d d at at (day_bytes s)
  unfolding day_bytes
  day_empty d at q r = wrote_none d at r (ap (λ (x : Option Day). write_value (day_value x)) (sym e ∙ q))

pub ruleset day_laws = (day_room, day_wrote, day_empty)

-- ---- any item, by its kind

-- an item that is empty is written as nothing
by_kind : (k : Kind) (s w : List ℕ) → (empty s ≡ true → w ≡ []) → (empty s ≡ false → write_value (value_of k s) ≡ w) → item_bytes k s ≡ w
unfolding item_bytes item_value
by_kind k [] w h g = sym (h refl)
by_kind k (x ∷ s) w h g = g refl

seven_length : (s : List ℕ) → seven s ≡ true → length s ≡ 7
unfolding seven
seven_length s e = eqb-true (length s) 7 (both (eqb (length s) 7) (all is_digit s) e).0

postal_spelled : (s : List ℕ) → postal s ≡ true → cond (seven s) s (unhyphened s) ≡ postal_bytes s
unfolding postal
postal_spelled s e = go (seven s) refl e
  where
    go : (b : Bool) → seven s ≡ b → b || (eqb (get_or s 3 0) 0x2d && seven (unhyphened s)) ≡ true → cond b s (unhyphened s) ≡ postal_bytes s
    go true q f = sym (without_hyphen s (λ h. omega (arith, seven_length s q)))
    go false q f =
        let g : seven (unhyphened s) ≡ true = (both (eqb (get_or s 3 0) 0x2d) (seven (unhyphened s)) f).1 in
        sym (with_hyphen s (omega (arith, seven_length (unhyphened s) g, length-append (take 3 s) (drop 4 s), length-take 3 s, length-drop 4 s)))

postal_empty : (s : List ℕ) → empty s ≡ true → postal_bytes s ≡ []
unfolding postal_bytes
postal_empty [] h = refl
postal_empty (x ∷ s) h = absurd (false≢true h)

number_blank : (s : List ℕ) → empty s ≡ true → number_bytes s ≡ []
unfolding number_bytes number
number_blank [] h = refl
number_blank (x ∷ s) h = absurd (false≢true h)

day_blank : (s : List ℕ) → empty s ≡ true → day_bytes s ≡ []
unfolding day_bytes read_day
day_blank [] h = refl
day_blank (x ∷ s) h = absurd (false≢true h)

blank : (s : List ℕ) → empty s ≡ true → s ≡ []
blank [] h = refl
blank (x ∷ s) h = absurd (false≢true h)

item_postal : (s : List ℕ) → Spellable P s → item_bytes P s ≡ postal_bytes s
unfolding fault value_of
item_postal s g = by_kind P s (postal_bytes s) (postal_empty s) (λ h. postal_spelled s (unless_zero (postal s) 10 (g.good h)))

item_number : (s : List ℕ) → item_bytes R s ≡ number_bytes s
unfolding value_of number_bytes
item_number s = by_kind R s (number_bytes s) (number_blank s) (λ h. refl)

item_day : (s : List ℕ) → item_bytes D s ≡ day_bytes s
unfolding value_of day_bytes
item_day s = by_kind D s (day_bytes s) (day_blank s) (λ h. refl)

-- an item of any other kind
pub own_kind : (k : Kind) (s : List ℕ) → one_spelling k ≡ true → item_bytes k s ≡ s
unfolding value_of
own_kind (N m) s e = by_kind (N m) s s (blank s) (λ h. refl)
own_kind (U m) s e = by_kind (U m) s s (blank s) (λ h. refl)
own_kind (X m) s e = by_kind (X m) s s (blank s) (λ h. refl)
own_kind (K m) s e = by_kind (K m) s s (blank s) (λ h. refl)
own_kind A s e = by_kind A s s (blank s) (λ h. refl)
own_kind F s e = by_kind F s s (blank s) (λ h. refl)
own_kind C s e = by_kind C s s (blank s) (λ h. refl)
own_kind P s e = absurd (false≢true e)
own_kind R s e = absurd (false≢true e)
own_kind W s e = by_kind W s s (blank s) (λ h. refl)
own_kind Q s e = by_kind Q s s (blank s) (λ h. refl)
own_kind D s e = absurd (false≢true e)
own_kind (among ns) s e = by_kind (among ns) s s (blank s) (λ h. refl)

one_else : (k : CodeKind) → (k ≡ PostalCode → ⊥) → (k ≡ Number → ⊥) → (k ≡ Date → ⊥) → one_spelling (kind_of k) ≡ true
one_else (Text m) p r d = refl
one_else (OneWidth m) p r d = refl
one_else (Kana m) p r d = refl
one_else (Code m) p r d = refl
one_else Author p r d = refl
one_else Prefecture p r d = refl
one_else SevenDigits p r d = refl
one_else PostalCode p r d = absurd (p refl)
one_else Number p r d = absurd (r refl)
one_else Weight p r d = refl
one_else Dose p r d = refl
one_else Date p r d = absurd (d refl)
one_else (Among v) p r d = refl

-- what an item's one spelling is, kind by kind
pub postal_kind : (k : CodeKind) (s : List ℕ) → k ≡ PostalCode → Spellable (kind_of k) s → item_bytes (kind_of k) s ≡ postal_bytes s
postal_kind k s e g = rw e (item_postal s (rw e at g))

pub number_kind : (k : CodeKind) (s : List ℕ) → k ≡ Number → item_bytes (kind_of k) s ≡ number_bytes s
number_kind k s e = rw e (item_number s)

pub day_kind : (k : CodeKind) (s : List ℕ) → k ≡ Date → item_bytes (kind_of k) s ≡ day_bytes s
day_kind k s e = rw e (item_day s)

pub other_kind : (k : CodeKind) (s : List ℕ) → (k ≡ PostalCode → ⊥) → (k ≡ Number → ⊥) → (k ≡ Date → ⊥) → item_bytes (kind_of k) s ≡ s
other_kind k s p r d = own_kind (kind_of k) s (one_else k p r d)

-- what is written as that spelling is written as the item
pub room_as : (out : List ℕ) (at : ℕ) (k : CodeKind) (s b : List ℕ) → item_bytes (kind_of k) s ≡ b → Room out at (item_bytes (kind_of k) s) → Room out at b
room_as out at k s b e r = rw e at r

pub wrote_as : {out out₁ : List ℕ} {at next : ℕ} (k : CodeKind) (s b : List ℕ) → item_bytes (kind_of k) s ≡ b → Wrote out out₁ at next b → Wrote out out₁ at next (item_bytes (kind_of k) s)
wrote_as k s b e w = rw e w

pub ruleset item_laws = (room_as, wrote_as, postal_kind, number_kind, day_kind, other_kind)

-- ---- an item that is its own spelling

plain_is : (s : List ℕ) (n : ℕ) → (get_or s 0 0 ≡ 48 → ⊥) → number s ≡ Some n → plain_number s ≡ Some n
unfolding plain_number
plain_is s n h q = rw (ne_eqb (get_or s 0 0) 48 h, q)

-- a number without a leading zero
number_own : (s : List ℕ) → (empty s ≡ false → fault R s ≡ 0) → (get_or s 0 0 ≡ 48 → ⊥) → number_bytes s ≡ s
unfolding number_bytes fault
number_own [] g h = number_blank [] refl
number_own (x ∷ s) g h = go (number (x ∷ s)) refl (g refl)
  where
    go : (o : Option ℕ) → number (x ∷ s) ≡ o → number_fault o ≡ 0 → write_value (number_value o) ≡ x ∷ s
    go None q f = absurd (omega arith)
    go (Some n) q f =
        let b : n ≤ 999 = (number_length (x ∷ s) n q).1 in
        let l : 1 ≤ n = leb-true 1 n (unless_zero (leb 1 n) 10 f) in
        sym (same_true (x ∷ s) (spell n) (same_spell (x ∷ s) n l b ∙ rw (plain_is (x ∷ s) n h q) (eq-eqb n n refl)))

-- a date that is what is written for its day
day_own : (s : List ℕ) → (empty s ≡ false → fault D s ≡ 0) → ((n : ℕ) → read_day s ≡ Some (record { ymd = n }) → write_day n ≡ s) → day_bytes s ≡ s
unfolding day_bytes fault
day_own [] g h = day_blank [] refl
day_own (x ∷ s) g h = go (read_day (x ∷ s)) refl (g refl)
  where
    go : (o : Option Day) → read_day (x ∷ s) ≡ o → day_fault o ≡ 0 → write_value (day_value o) ≡ x ∷ s
    go None q f = absurd (omega arith)
    go (Some d) q f = h d.ymd q

-- it may have another spelling
pub own_open : (k : Kind) (s : List ℕ) → OwnUnless true k s
own_open k s = record { own = λ f. absurd (false≢true (sym f)) }

number_plain : (s : List ℕ) → Spellable R s → (get_or s 0 0 ≡ 48 → ⊥) → item_bytes R s ≡ s
number_plain s g h = item_number s ∙ number_own s g.good h

-- g: the item has no fault
module _ (k : CodeKind) (s : List ℕ) (g : Spellable (kind_of k) s) where
  pub own_postal : k ≡ PostalCode → OwnUnless (eqb (length s) 8) (kind_of k) s
  own_postal e = record { own = λ f. rw e (item_postal s (rw e at g)) ∙ without_hyphen s (eqb-false _ _ f) }

  pub own_number : k ≡ Number → (get_or s 0 0 ≡ 48 → ⊥) → OwnUnless false (kind_of k) s
  own_number e h = record { own = λ f. rw e (number_plain s (rw e at g) h) }

  -- no digit at all
  pub own_none : k ≡ Number → length s < 1 → OwnUnless false (kind_of k) s
  own_none e h = own_number e (no s h)
    where
      no : (s : List ℕ) → length s < 1 → get_or s 0 0 ≡ 48 → ⊥
      no [] h z = omega (arith, z)
      no (x ∷ s) h z = omega arith

  module _ (e : k ≡ Date) where
    date_own : ((n : ℕ) → read_day s ≡ Some (record { ymd = n }) → write_day n ≡ s) → item_bytes (kind_of k) s ≡ s
    date_own o = let h : Spellable D s = rw e at g in rw e (item_day s) ∙ day_own s h.good o

    pub own_date : {b : Bool} → TellsForm b s → OwnUnless (not b) (kind_of k) s
    own_date {b} o = record { own = λ f. date_own (λ n q. form_is s n q (sym (o.is n q) ∙ not_false' b f)) }

    -- a date of another length is none
    pub own_blank : (length s ≡ 8 → ⊥) → (length s ≡ 7 → ⊥) → OwnUnless false (kind_of k) s
    own_blank p q = record { own = λ f. date_own (λ n d. absurd (not_date (none_else s p q ∙ d))) }

  pub own_else : (k ≡ PostalCode → ⊥) → (k ≡ Number → ⊥) → (k ≡ Date → ⊥) → OwnUnless false (kind_of k) s
  own_else p r d = record { own = λ f. own_kind (kind_of k) s (one_else k p r d) }

pub ruleset own_laws = (own_open, own_postal, own_number, own_none, own_date, own_blank, own_else)

-- a number that begins with no zero
pub own_plain : (k : Kind) (s : List ℕ) → Spellable k s → k ≡ R → (get_or s 0 0 ≡ 48 → ⊥) → item_bytes k s ≡ s
own_plain k s g e h = rw e (number_plain s (rw e at g) h)
