-- A second statement, proved equal.
-- Document 01, "Order of records" and the usage name of "Pairs", as a grammar: what a notebook is made of, the records that it is written as,
-- and the conditions, each with its sentence and the clause of 15-106 that it condenses. There is no reader's state here. Parts come before the
-- wholes that name them; the conditions are in document 01's order. Two of its sentences need no line: "A 201 with another value than the open
-- RP begins a new RP; so does any 201 after a 301 or 391" and what closes a part. They tell where a fault stands, and in a notebook without
-- fault they follow from the pattern and the values.
use Rattle.std.specs.Prelude.{ℕ, ◌+◌, ◌≡◌, Bool, true, false, not, ◌&&◌, ◌||◌, List, [], ◌∷◌, Option, Some, None, leb, eqb}
use Rattle.order.specs.declared.Facts.{Facts}

-- ---- the pattern: 15-106 3.2.7, patterns 1 and 2; how many of a number, 3.2.8, last column

-- what the rules look at in a record besides its number (order's Facts); 0, or false for the usage name, where the item is empty
pub record Details : Type 0 where
  pub rp : ℕ
  pub day : ℕ
  pub schedule : ℕ
  pub form : ℕ
  pub named : Bool

-- "drugs (201, any 281s, then any 291s)"
pub record Drug : Type 0 where
  pub r201 : Details
  pub r281s : List Details
  pub r291s : List Details

-- a 301 and what stands only with one: "311s only after a 301"
pub record Usage : Type 0 where
  pub r301 : Details
  pub r311s : List Details

-- "A prescription (RP) is one or more drugs (..), at most one 301, 311s only after a 301, then any 391s."
pub record Prescription : Type 0 where
  pub drug : Drug
  pub drugs : List Drug
  pub usage : Option Usage
  pub r391s : List Details

-- "a 55 may precede any later one"
pub record Later : Type 0 where
  pub r55 : Option Details
  pub prescription : Prescription

-- "Prescriptions are all without doctors, or the first is preceded by 55; a 55 may precede any later one and is followed by 201."
-- 3.2.8 note 3: with pattern 1 every 55 is output, with pattern 2 none.
pub data Prescriptions : Type 0 where
  without_doctors : List Prescription → Prescriptions
  with_doctors : Details → Prescription → List Later → Prescriptions

-- "A group is 5 (always, here), at most one 11, 15 and 51 each, prescriptions, then any 401s, 411s, 501s, 601s, in that order."
pub record Group : Type 0 where
  pub r5 : Details
  pub r11 : Option Details
  pub r15 : Option Details
  pub r51 : Option Details
  pub prescriptions : Prescriptions
  pub r401s : List Details
  pub r411s : List Details
  pub r501s : List Details
  pub r601s : List Details

-- "At most one 1; then any 2s, then 3s, then 4s; then groups; then any 701s."
pub record Tree : Type 0 where
  pub r1 : Option Details
  pub r2s : List Details
  pub r3s : List Details
  pub r4s : List Details
  pub groups : List Group
  pub r701s : List Details

-- ---- the records of each part, written in front of the records after it

abbrev pub rec : ℕ → Details → Facts
rec n d = record { number = n; rp = d.rp; day = d.day; schedule = d.schedule; form = d.form; named = d.named }

-- "at most one"
abbrev pub opt : ℕ → Option Details → List Facts → List Facts
opt n None rs = rs
opt n (Some d) rs = rec n d ∷ rs

-- "any"
abbrev pub any_of : ℕ → List Details → List Facts → List Facts
any_of n [] rs = rs
any_of n (d ∷ ds) rs = rec n d ∷ any_of n ds rs

abbrev pub drug_records : Drug → List Facts → List Facts
drug_records d rs = rec 201 d.r201 ∷ any_of 281 d.r281s (any_of 291 d.r291s rs)

abbrev pub drugs_records : List Drug → List Facts → List Facts
drugs_records [] rs = rs
drugs_records (d ∷ ds) rs = drug_records d (drugs_records ds rs)

abbrev pub usage_records : Option Usage → List Facts → List Facts
usage_records None rs = rs
usage_records (Some u) rs = rec 301 u.r301 ∷ any_of 311 u.r311s rs

abbrev pub rp_records : Prescription → List Facts → List Facts
rp_records p rs = drug_records p.drug (drugs_records p.drugs (usage_records p.usage (any_of 391 p.r391s rs)))

abbrev pub plain_records : List Prescription → List Facts → List Facts
plain_records [] rs = rs
plain_records (p ∷ ps) rs = rp_records p (plain_records ps rs)

abbrev pub later_records : List Later → List Facts → List Facts
later_records [] rs = rs
later_records (l ∷ ls) rs = opt 55 l.r55 (rp_records l.prescription (later_records ls rs))

abbrev pub prescriptions_records : Prescriptions → List Facts → List Facts
prescriptions_records (without_doctors ps) rs = plain_records ps rs
prescriptions_records (with_doctors d p ls) rs = rec 55 d ∷ rp_records p (later_records ls rs)

-- the records after a group's prescriptions
abbrev pub rest_records : Group → List Facts → List Facts
rest_records g rs = any_of 401 g.r401s (any_of 411 g.r411s (any_of 501 g.r501s (any_of 601 g.r601s rs)))

abbrev pub group_records : Group → List Facts → List Facts
group_records g rs =
    rec 5 g.r5 ∷ opt 11 g.r11 (opt 15 g.r15 (opt 51 g.r51 (prescriptions_records g.prescriptions (rest_records g rs))))

abbrev pub groups_records : List Group → List Facts → List Facts
groups_records [] rs = rs
groups_records (g ∷ gs) rs = group_records g (groups_records gs rs)

abbrev pub records : Tree → List Facts
records t = opt 1 t.r1 (any_of 2 t.r2s (any_of 3 t.r3s (any_of 4 t.r4s (groups_records t.groups (any_of 701 t.r701s [])))))

-- ---- words for conditions

abbrev pub all_of : {A : Type 0} → (A → Bool) → List A → Bool
all_of f [] = true
all_of f (x ∷ xs) = f x && all_of f xs

abbrev pub none_of : {A : Type 0} → List A → Bool
none_of [] = true
none_of (x ∷ xs) = false

abbrev pub stands : {A : Type 0} → Option A → Bool
stands None = false
stands (Some a) = true

infixr 25 ◌⇒◌
abbrev pub ◌⇒◌ : Bool → Bool → Bool
true ⇒ b = b
false ⇒ b = true

-- the prescriptions of a group, in order, whoever prescribed them
abbrev pub later_ones : List Later → List Prescription
later_ones [] = []
later_ones (l ∷ ls) = l.prescription ∷ later_ones ls

abbrev pub rps : Prescriptions → List Prescription
rps (without_doctors ps) = ps
rps (with_doctors d p ls) = p ∷ later_ones ls

abbrev pub no_rp : Group → Bool
no_rp g = none_of (rps g.prescriptions)

abbrev pub no55 : Prescriptions → Bool
no55 (without_doctors ps) = true
no55 (with_doctors d p ls) = false

-- the fee schedule of an 11 (3.2.9, record 11, third item: 1 medical, 3 dental, 4 dispensing); 0 where there is none
abbrev pub schedule_of : Option Details → ℕ
schedule_of None = 0
schedule_of (Some d) = d.schedule

-- "an 11 with" n
abbrev pub eleven_with : ℕ → Group → Bool
eleven_with n g = eqb (schedule_of g.r11) n

-- ---- "Pairs": "The usage name (second item) stands in direction 2 always, and in direction 1 when the open group has had an 11 with 4 and the
-- form isn't 9 or 10." 3.2.9, record 301: required of pharmacies but for material (9) and other (10). provider: the direction is 1.

abbrev pub name_asked : Bool → ℕ → ℕ → Bool
name_asked true schedule form = eqb schedule 4 && not (eqb form 9 || eqb form 10)
name_asked false schedule form = true

abbrev pub usage_named : Bool → ℕ → Option Usage → Bool
usage_named provider schedule None = true
usage_named provider schedule (Some u) = name_asked provider schedule u.r301.form ⇒ u.r301.named

abbrev pub all_named : Bool → ℕ → List Prescription → Bool
all_named provider schedule ps = all_of (λ p. usage_named provider schedule p.usage) ps

abbrev pub names : Bool → Group → Bool
names provider g = all_named provider (schedule_of g.r11) (rps g.prescriptions)

-- ---- "The first items of one RP have one value: 1 in a group's first RP, one more in each next." 3.2.9, records 281 to 391: the RP number of
-- their 201; 3.2.10, RP numbers: from 1 in order.

abbrev pub valued : ℕ → Details → Bool
valued v d = eqb d.rp v

abbrev pub drug_valued : ℕ → Drug → Bool
drug_valued v d = valued v d.r201 && (all_of (valued v) d.r281s && all_of (valued v) d.r291s)

abbrev pub usage_valued : ℕ → Option Usage → Bool
usage_valued v None = true
usage_valued v (Some u) = valued v u.r301 && all_of (valued v) u.r311s

abbrev pub one_value : ℕ → Prescription → Bool
one_value v p = drug_valued v p.drug && (all_of (drug_valued v) p.drugs && (usage_valued v p.usage && all_of (valued v) p.r391s))

abbrev pub values_from : ℕ → List Prescription → Bool
values_from v [] = true
values_from v (p ∷ ps) = one_value v p && values_from (v + 1) ps

abbrev pub values : Group → Bool
values g = values_from 1 (rps g.prescriptions)

-- ---- "No group is newer than the one before it; equal days are good." 3.2.7 note 1: from new to old.

abbrev pub none_newer : ℕ → List Group → Bool
none_newer day [] = true
none_newer day (g ∷ gs) = leb g.r5.day day && none_newer g.r5.day gs

abbrev pub days : List Group → Bool
days [] = true
days (g ∷ gs) = none_newer g.r5.day gs

-- ---- "Direction 1 also:" 3.2.8, column of the direction from provider to patient

-- "at least one group" (record 5 is required)
abbrev pub some_group : Tree → Bool
some_group t = not (none_of t.groups)

-- "each has 11" (record 11 is required)
abbrev pub has11 : Group → Bool
has11 g = stands g.r11

-- "each RP has 301" (record 301 is required)
abbrev pub each301 : List Prescription → Bool
each301 ps = all_of (λ p. stands p.usage) ps

-- "after an 11 with 1 or 3, no 51 or 55" (note 1: only where a pharmacy dispensed)
abbrev pub no51_no55 : Group → Bool
no51_no55 g = eleven_with 1 g || eleven_with 3 g ⇒ not (stands g.r51) && no55 g.prescriptions

-- "a group with an RP and an 11 with 4 has 51" (note 1)
abbrev pub has51 : Group → Bool
has51 g = not (no_rp g) && eleven_with 4 g ⇒ stands g.r51

-- "a 51 is followed by 55 or 201" (note 2: no 51 where nothing is dispensed): after a 51 stand the prescriptions, which begin with 55 or 201
abbrev pub rp_after51 : Group → Bool
rp_after51 g = stands g.r51 ⇒ not (no_rp g)

-- "a group without RP has a 411 and no 401" (3.2.10, information without dispensing: 51 to 401 can't stand)
abbrev pub informs : Group → Bool
informs g = no_rp g ⇒ not (none_of g.r411s) && none_of g.r401s

abbrev pub provider_asks : Group → Bool
provider_asks g = has11 g && (each301 (rps g.prescriptions) && (no51_no55 g && (has51 g && (rp_after51 g && informs g))))

-- ---- "Direction 2: record 1 stands." 3.2.8, column of the direction from patient to provider

abbrev pub has1 : Tree → Bool
has1 t = stands t.r1

-- ---- the whole

-- in both directions
abbrev pub common : Bool → Tree → Bool
common provider t = all_of values t.groups && (days t.groups && all_of (names provider) t.groups)

-- in one of them
abbrev pub also : Bool → Tree → Bool
also true t = some_group t && all_of provider_asks t.groups
also false t = has1 t

abbrev pub good : Bool → Tree → Bool
good provider t = common provider t && also provider t

-- the grammar has the records: they are those of a notebook that meets the conditions
pub record Grammatical (provider : Bool) (rs : List Facts) : Type 0 where
  pub tree : Tree
  pub written : records tree ≡ rs
  pub meets : good provider tree ≡ true
