-- The seventh number of an index: what it is without the walk (`index_clinic`), and document 02's sentences over the call's output
-- (specs/Clinics.antt). Assumes nothing.
use Prim.Native.Nat.{ℕ, zero, suc, ◌+◌, ◌*◌, ◌≤◌, ◌<◌}
use native.Mathlib.Nat.{add-zero}
use native.Mathlib.Omega.{arith}
use mathlib.Core.Path.{◌≡◌, refl, sym, ap, ◌∙◌, subst}
use mathlib.Core.Bool.{Bool, true, false, cond, ◌&&◌}
use mathlib.Core.Logic.{◌⊎◌, inl, inr}
use mathlib.Core.List.{List, [], ◌∷◌, ◌++◌}
use lib.Dec.{eqb}
use lib.ListN.{length, get_or, take, drop, get_or-append}
use lib.Seq.{split_at, take-suc, length-take-le}
use Rattle.lists.specs.Lists.{ok, map_res}
use Rattle.records.specs.Records.{record_of}
use Rattle.rules.specs.Places.{in_group}
use Rattle.order.specs.declared.State.{State}
use Rattle.order.specs.declared.Facts.{Facts}
use Rattle.order.specs.State.{advance, group_of}
use Rattle.buffers.specs.Entries.{seven_numbers}
use Rattle.replies.specs.Replies.{reply_of}
use Rattle.replies.proofs.Results.{gives_20, gives_result}
use Rattle.notebook.specs.Facts.{facts_of}
use Rattle.notebook.specs.Notebook.{Notebook, read_file}
use Rattle.notebook.specs.Index.{Entry, entry_of, entries_of, Listed, clinic_after, clinic_of, listed_from, list_of, entry_numbers, numbers, numbers_of, indexed, index_result}
use Rattle.notebook.specs.Meaning.{last_line, Stands, here, there}
use Rattle.notebook.specs.Clinics.{SevenARecord, IndexIn, number_at, sixes, SixAsBefore, OwnLine, NoneOutside, OfGroup, NoneYet, ClinicOfGroup}
use Rattle.notebook.proofs.Walk.{accepted, walk_length, listed_length, numbers_length}
use Rattle.notebook.proofs.Lasts.{kept, kept_after, Keeps, known_step, last_stands}
use Rattle.notebook.proofs.IndexLaws.{kept_before}

-- an entry to stand where there is none
abbrev pub none : Entry
none = record { number = 0; offset = 0; bytes = 0; group = 0; doctor = 0; drug = 0 }

-- the entry i; and as it is listed
abbrev pub entry_at : List Entry → ℕ → Entry
entry_at es i = get_or es i none

abbrev pub listed_at : List Listed → ℕ → Listed
listed_at xs i = get_or xs i (record { entry = none; clinic = 0 })

-- the same, by what is kept of the entries before it
listed_entry : ℕ → ℕ → List Entry → ℕ → Listed
listed_entry line k es i =
    let e = entry_at es i in
    record { entry = e; clinic = clinic_of e.number (clinic_after (line + i) (kept_after 51 line k (take i es)) e.number) }

-- ---- the clinic of an entry, without the walk

last_more : (n g line d : ℕ) (es : List Entry) (e : Entry)
    → last_line n g line d (es ++ e ∷ []) ≡ cond (eqb e.number n && eqb e.group g) (line + length es) (last_line n g line d es)
unfolding last_line
last_more n g line d [] e = ap (λ (x : ℕ). cond (eqb e.number n && eqb e.group g) x d) (sym (add-zero line))
last_more n g line d (y ∷ es) e =
    last_more n g (line + 1) _ es e ∙ ap (λ (x : ℕ). cond (eqb e.number n && eqb e.group g) x (last_line n g line d (y ∷ es))) {x = line + 1 + length es} {y = line + suc (length es)} (omega arith)

-- 51 is kept beside any state
abbrev Any : State → ℕ → Type 0
Any st k = Unit {0}

keeps_clinic : Keeps 51 Any
unfolding in_group
keeps_clinic = record { no_group_lem = λ e. omega (arith, e); grouped = refl; on = λ st f k h. tt }

-- what is kept after the record, told of its entry
of_entry : {m g l n h line : ℕ} (k d : ℕ) → m ≡ n → g ≡ h → l ≡ line → cond (eqb m 51 && eqb g h) l d ≡ kept 51 l k m → cond (eqb n 51 && eqb h h) line d ≡ kept 51 line k n
of_entry {m} {g} {l} {n} {h} {line} k d p q r u =
    subst (λ (x : ℕ). cond (eqb n 51 && eqb x h) line d ≡ kept 51 line k n) q
    (subst (λ (x : ℕ). cond (eqb x 51 && eqb g h) line d ≡ kept 51 line k x) p
    (subst (λ (x : ℕ). cond (eqb m 51 && eqb g h) x d ≡ kept 51 x k m) r u))

module _ (s : List ℕ) (b : Notebook) (r : read_file s ≡ ok b) (before : List Entry) (e : Entry) (behind : List Entry) (q : entries_of s ≡ before ++ e ∷ behind) where
  -- what is kept after a record of a group
  kept_clinic : in_group e.number ≡ true → clinic_after (2 + length before) (kept_after 51 2 0 before) e.number ≡ last_line 51 e.group 2 0 (before ++ e ∷ [])
  unfolding clinic_after kept entry_of facts_of group_of advance
  kept_clinic h =
      let x = kept_before 51 Any keeps_clinic s b r tt before e behind q in
      let k = kept_after 51 2 0 before in
      let d = last_line 51 e.group 2 0 before in
      let f : Facts = facts_of (record_of x.l) in
      let n : f.number ≡ e.number = ap (λ (y : Entry). y.number) x.is in
      let g : group_of (advance x.st f) ≡ e.group = ap group_of (sym x.placed.state) ∙ ap (λ (y : Entry). y.group) x.is in
      let u = (known_step 51 Any keeps_clinic k e.group d x.st f x.known).now (sym g ∙ rw (n, h)) in
      sym (last_more 51 e.group 2 0 before e ∙ of_entry k d n g x.at u)

-- ---- by the place of an entry

listed_get : (line k : ℕ) (es : List Entry) (i : ℕ) → i < length es → listed_at (listed_from line k es) i ≡ listed_entry line k es i
unfolding listed_from listed_entry kept_after kept clinic_after
listed_get line k [] i h = absurd (omega arith)
listed_get line k (e ∷ es) zero h = ap (λ (j : ℕ). record { entry = e; clinic = clinic_of e.number (clinic_after j k e.number) }) (sym (add-zero line))
listed_get line k (e ∷ es) (suc i) h =
    listed_get (line + 1) _ es i (omega arith)
    ∙ ap (λ (j : ℕ). record {
      entry = entry_at es i;
      clinic = clinic_of (entry_at es i).number (clinic_after j (kept_after 51 (line + 1) (clinic_after line k e.number) (take i es)) (entry_at es i).number);
    }) {x = line + 1 + i} {y = line + suc i} (omega arith)

module _ (s : List ℕ) (b : Notebook) (r : read_file s ≡ ok b) (i : ℕ) (h : i < length (entries_of s)) where
  -- the clinic of the record i: in a group the line of the last 51 of that group, up to the record itself; the first record stands at line 2
  pub index_clinic : (listed_at (list_of s) i).clinic
      ≡ cond (in_group (entry_at (entries_of s) i).number) (last_line 51 (entry_at (entries_of s) i).group 2 0 (take (suc i) (entries_of s))) 0
  unfolding list_of listed_entry clinic_of
  index_clinic = ap (λ (x : Listed). x.clinic) (listed_get 2 0 all i h) ∙ go (in_group e.number) refl
    where
      all : List Entry
      all = entries_of s

      e : Entry
      e = entry_at all i

      go : (t : Bool) → in_group e.number ≡ t
          → cond (in_group e.number) (clinic_after (2 + i) (kept_after 51 2 0 (take i all)) e.number) 0 ≡ cond (in_group e.number) (last_line 51 e.group 2 0 (take (suc i) all)) 0
      go false p = rw p
      go true p =
          rw p
          (ap (λ (k : ℕ). clinic_after (2 + k) (kept_after 51 2 0 (take i all)) e.number) (sym (length-take-le i all (omega arith)))
          ∙ kept_clinic s b r (take i all) e (drop (suc i) all) (split_at all i none h) p
          ∙ ap (last_line 51 e.group 2 0) (sym (take-suc all i none h)))

-- a 51 that stands, by its place
record Found (n g x line : ℕ) (es : List Entry) : Type 0 where
  place : ℕ
  within : place < length es
  line_is : x ≡ place + line
  number_is : (entry_at es place).number ≡ n
  group_is : (entry_at es place).group ≡ g

found : {n g x line : ℕ} {es : List Entry} → Stands n g x line es → Found n g x line es
found (here p q r) = record { place = 0; within = omega arith; line_is = omega (arith, r); number_is = p; group_is = q }
found (there s) =
    let f = found s in
    record { place = suc f.place; within = omega (arith, f.within); line_is = omega (arith, f.line_is); number_is = f.number_is; group_is = f.group_is }

stands : (n g line : ℕ) (es : List Entry) (k : ℕ) → k < length es → (entry_at es k).number ≡ n → (entry_at es k).group ≡ g → Stands n g (k + line) line es
stands n g line [] k h p q = absurd (omega arith)
stands n g line (e ∷ es) zero h p q = here {line = line} p q (omega arith)
stands n g line (e ∷ es) (suc k) h p q =
    subst (λ (x : ℕ). Stands n g x line (e ∷ es)) {x = k + (line + 1)} {y = suc k + line} (omega arith) (there (stands n g (line + 1) es k (omega arith) p q))

get_take : (es : List Entry) (n k : ℕ) → k < n → n ≤ length es → entry_at (take n es) k ≡ entry_at es k
get_take [] n k h g = absurd (omega arith)
get_take (e ∷ es) zero k h g = absurd (omega arith)
get_take (e ∷ es) (suc n) zero h g = refl
get_take (e ∷ es) (suc n) (suc k) h g = get_take es n k (omega arith) (omega arith)

-- ---- by the place of a number

listed_numbers : (xs : List Listed) (i j : ℕ) → i < length xs → j < 7 → get_or (numbers xs) (7 * i + j) 0 ≡ get_or (entry_numbers (listed_at xs i)) j 0
unfolding numbers seven_numbers
listed_numbers [] i j h g = absurd (omega arith)
listed_numbers (x ∷ xs) zero j h g =
    ap (λ (k : ℕ). get_or (numbers (x ∷ xs)) k 0) {x = 7 * 0 + j} {y = j} (omega arith) ∙ get_or-append (entry_numbers x) (numbers xs) 0 j (omega arith)
listed_numbers (x ∷ xs) (suc i) j h g =
    ap (λ (k : ℕ). get_or (numbers (x ∷ xs)) k 0) {x = 7 * suc i + j} {y = suc (suc (suc (suc (suc (suc (suc (7 * i + j)))))))} (omega arith) ∙ listed_numbers xs i j (omega arith) g

-- the six numbers of an entry
six : Entry → List ℕ
six e = e.number ∷ e.offset ∷ e.bytes ∷ e.group ∷ e.doctor ∷ e.drug ∷ []

six_numbers : (es : List Entry) (i j : ℕ) → i < length es → j < 6 → get_or (sixes es) (6 * i + j) 0 ≡ get_or (six (entry_at es i)) j 0
unfolding sixes six
six_numbers [] i j h g = absurd (omega arith)
six_numbers (e ∷ es) zero j h g =
    ap (λ (k : ℕ). get_or (sixes (e ∷ es)) k 0) {x = 6 * 0 + j} {y = j} (omega arith) ∙ get_or-append (six e) (sixes es) 0 j (omega arith)
six_numbers (e ∷ es) (suc i) j h g =
    ap (λ (k : ℕ). get_or (sixes (e ∷ es)) k 0) {x = 6 * suc i + j} {y = suc (suc (suc (suc (suc (suc (6 * i + j))))))} (omega arith) ∙ six_numbers es i j (omega arith) g

-- the first six of seven
first_six : (x : Listed) (j : ℕ) → j < 6 → get_or (entry_numbers x) j 0 ≡ get_or (six x.entry) j 0
unfolding six seven_numbers
first_six x j h = get_or-append (six x.entry) (x.clinic ∷ []) 0 j h

-- ---- the promises

given : (s : List ℕ) (b : Notebook) → read_file s ≡ ok b → index_result s ≡ ok (indexed s b)
unfolding index_result
given s b e = ap (map_res (indexed s)) e

entries_count : (s : List ℕ) (b : Notebook) → read_file s ≡ ok b → length (entries_of s) ≡ length b.records
entries_count s b e = walk_length (accepted s b e).walked

numbers_count : (s : List ℕ) (b : Notebook) → read_file s ≡ ok b → length (numbers_of s) ≡ 7 * length b.records
unfolding numbers_of list_of
numbers_count s b e = omega (arith, numbers_length (listed_from 2 0 (entries_of s)), listed_length 2 0 (entries_of s), entries_count s b e)

pub seven_a_record : SevenARecord
seven_a_record s b e d = (
  λ h. ap reply_of (sym (gives_result d (given s b e) (omega (arith, numbers_count s b e))).answer),
  λ h. ap reply_of (sym (gives_20 d (given s b e) (omega (arith, numbers_count s b e))).answer),
)

module _ (s d d' : List ℕ) (n : ℕ) (v : IndexIn s d d' n) where
  entries_n : length (entries_of s) ≡ n
  entries_n = entries_count s v.file v.accepted ∙ v.records

  module _ (i : ℕ) (h : i < n) where
    within : i < length (entries_of s)
    within = omega (arith, entries_n)

    -- the seven numbers of the record i
    seven_of_lem : (j : ℕ) → j < 7 → number_at d' i j ≡ get_or (entry_numbers (listed_entry 2 0 (entries_of s) i)) j 0
    unfolding numbers_of list_of
    seven_of_lem j g =
        let size : length (numbers_of s) ≡ 7 * n = numbers_count s v.file v.accepted ∙ ap (λ (k : ℕ). 7 * k) v.records in
        let out : d' ≡ numbers_of s ++ drop (length (numbers_of s)) d =
        v.left ∙ sym (gives_result d (given s v.file v.accepted) (omega (arith, size, v.room))).output in
        ap (λ (o : List ℕ). number_at o i j) out ∙ get_or-append (numbers_of s) _ 0 (7 * i + j) (omega (arith, size))
        ∙ listed_numbers (listed_from 2 0 (entries_of s)) i j (omega (arith, listed_length 2 0 (entries_of s), within)) g
        ∙ ap (λ (x : Listed). get_or (entry_numbers x) j 0) (listed_get 2 0 (entries_of s) i within)

    number_of : number_at d' i 0 ≡ (entry_at (entries_of s) i).number
    unfolding seven_numbers listed_entry
    number_of = seven_of_lem 0 (omega arith)

    group_of_lem : number_at d' i 3 ≡ (entry_at (entries_of s) i).group
    unfolding seven_numbers listed_entry
    group_of_lem = seven_of_lem 3 (omega arith)

    clinic_of_lem : number_at d' i 6 ≡ clinic_of (entry_at (entries_of s) i).number (clinic_after (2 + i) (kept_after 51 2 0 (take i (entries_of s))) (entry_at (entries_of s) i).number)
    unfolding seven_numbers listed_entry
    clinic_of_lem = seven_of_lem 6 (omega arith)

pub six_as_before : SixAsBefore
unfolding listed_entry
six_as_before s d d' n v i j h g =
    seven_of_lem s d d' n v i h j (omega arith) ∙ first_six (listed_entry 2 0 (entries_of s) i) j g
    ∙ sym (six_numbers (entries_of s) i j (omega (arith, entries_n s d d' n v)) g)

pub own_line : OwnLine
unfolding clinic_after clinic_of in_group
own_line s d d' n v i h e =
    let m : (entry_at (entries_of s) i).number ≡ 51 = sym (number_of s d d' n v i h) ∙ e in
    clinic_of_lem s d d' n v i h ∙ rw m (omega arith)

pub none_outside : NoneOutside
unfolding clinic_of
none_outside s d d' n v i h e =
    let m : in_group (entry_at (entries_of s) i).number ≡ false = ap in_group (sym (number_of s d d' n v i h)) ∙ e in
    clinic_of_lem s d d' n v i h ∙ rw m

pub clinic_of_group : ClinicOfGroup
unfolding list_of listed_entry clinic_of
clinic_of_group s d d' n v i h e = go (last_stands 51 y.group 2 0 (take (suc i) all))
  where
    all : List Entry
    all = entries_of s

    y : Entry
    y = entry_at all i

    size : length all ≡ n
    size = entries_n s d d' n v

    inside : in_group y.number ≡ true
    inside = ap in_group (sym (number_of s d d' n v i h)) ∙ e

    shown : number_at d' i 6 ≡ last_line 51 y.group 2 0 (take (suc i) all)
    shown =
        let low : i < length all = omega (arith, size) in
        clinic_of_lem s d d' n v i h ∙ sym (ap (λ (x : Listed). x.clinic) (listed_get 2 0 all i low)) ∙ index_clinic s v.file v.accepted i low ∙ rw inside

    go : ((last_line 51 y.group 2 0 (take (suc i) all) ≡ 0) × ((x : ℕ) → Stands 51 y.group x 2 (take (suc i) all) → ⊥))
        ⊎ Stands 51 y.group (last_line 51 y.group 2 0 (take (suc i) all)) 2 (take (suc i) all) → NoneYet d' i ⊎ OfGroup d' i
    go (inl (z, o)) = inl (record {
      zero = shown ∙ z;
      none = λ k g p q.
          let low : k < n = omega arith in
          let same : entry_at (take (suc i) all) k ≡ entry_at all k = get_take all (suc i) k (omega arith) (omega (arith, size)) in
          o (k + 2) (stands 51 y.group 2 (take (suc i) all) k (omega (arith, length-take-le (suc i) all (omega (arith, size))))
          (ap (λ (x : Entry). x.number) same ∙ sym (number_of s d d' n v k low) ∙ p)
          (ap (λ (x : Entry). x.group) same ∙ sym (group_of_lem s d d' n v k low) ∙ q ∙ group_of_lem s d d' n v i h));
    })
    go (inr t) =
        let f = found t in
        let low : f.place < suc i = omega (arith, f.within, length-take-le (suc i) all (omega (arith, size))) in
        let same : entry_at (take (suc i) all) f.place ≡ entry_at all f.place = get_take all (suc i) f.place low (omega (arith, size)) in
        inr (record {
          place = f.place;
          before = omega (arith, low);
          line = shown ∙ f.line_is;
          is51 = number_of s d d' n v f.place (omega arith) ∙ ap (λ (x : Entry). x.number) (sym same) ∙ f.number_is;
          group = group_of_lem s d d' n v f.place (omega arith) ∙ ap (λ (x : Entry). x.group) (sym same) ∙ f.group_is ∙ sym (group_of_lem s d d' n v i h);
        })
