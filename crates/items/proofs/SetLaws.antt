-- Values in braces: spelled as one of a set exactly where the plain number is in it. Assumes nothing.
use Prim.Native.Nat.{ℕ, ◌≤◌}
use mathlib.Core.Path.{◌≡◌, refl, sym, ap, ◌∙◌}
use mathlib.Core.Bool.{Bool, true, false, ◌&&◌}
use mathlib.Core.List.{List, [], ◌∷◌}
use native.Mathlib.Omega.{arith}
use Rattle.std.specs.Prelude.{Option, Some, None}
use Rattle.std.specs.Option.{unwrap_or}
use lib.Dec.{leb}
use borrow.Author.Tests.{leb-true, ne_eqb}
use Rattle.lists.specs.Lists.{all, member}
use Rattle.lists.proofs.Tests.{both}
use Rattle.digits.specs.Short.{plain_number}
use Rattle.digits.proofs.Spelling.{same_spell}
use Rattle.records.specs.Items.{spelled_as}
use Rattle.items.specs.declared.kinds.Values.{Values}
use Rattle.items.specs.declared.kinds.Values.TheVariants.{Sex, NoteKind, FeeSchedule, PrescriberSchedule, DrugCodeKind, DosageForm, UsageCodeKind, InformationKind}
use Rattle.items.specs.Kinds.{authors, values_of}

-- the numbers of a set can be spelled
abbrev pub small : ℕ → Bool
small n = leb 1 n && leb n 999

pub small_is : (n : ℕ) → small n ≡ true → (1 ≤ n) × (n ≤ 999)
small_is n e = let p : (leb 1 n ≡ true) × (leb n 999 ≡ true) = both (leb 1 n) (leb n 999) e in (leb-true 1 n p.0, leb-true n 999 p.1)

pub one_of_member : (ns : List ℕ) (s : List ℕ) → all small ns ≡ true → spelled_as ns s ≡ member ns (unwrap_or (plain_number s) 0)
one_of_member [] s h = refl
one_of_member (n ∷ ns) s h =
    let p : (small n ≡ true) × (all small ns ≡ true) = both (small n) (all small ns) h in
    let q : (1 ≤ n) × (n ≤ 999) = small_is n p.0 in
    rw (same_spell s n q.0 q.1, one_of_member ns s p.1)

no_zero : (ns : List ℕ) → all small ns ≡ true → member ns 0 ≡ false
no_zero [] h = refl
no_zero (n ∷ ns) h =
    let p : (small n ≡ true) × (all small ns ≡ true) = both (small n) (all small ns) h in
    let q : (1 ≤ n) × (n ≤ 999) = small_is n p.0 in
    rw (ne_eqb 0 n (λ e. omega arith), no_zero ns p.1)

pub values_small : (v : Values) → all small (values_of v) ≡ true
values_small Sex = refl
values_small NoteKind = refl
values_small FeeSchedule = refl
values_small PrescriberSchedule = refl
values_small DrugCodeKind = refl
values_small DosageForm = refl
values_small UsageCodeKind = refl
values_small InformationKind = refl

-- what the code asks of the plain number o
module _ (s : List ℕ) {o : Option ℕ} (e : o ≡ plain_number s) where
  module _ (ns : List ℕ) (h : all small ns ≡ true) where
    spelled_some : {n : ℕ} {r : Bool} → o ≡ Some n → r ≡ member ns n → r ≡ spelled_as ns s
    spelled_some {n} q m = m ∙ sym (one_of_member ns s h ∙ ap (λ (x : Option ℕ). member ns (unwrap_or x 0)) (sym e ∙ q))

    spelled_none : o ≡ None → false ≡ spelled_as ns s
    spelled_none q = sym (one_of_member ns s h ∙ ap (λ (x : Option ℕ). member ns (unwrap_or x 0)) (sym e ∙ q) ∙ no_zero ns h)

  pub author_some : {n : ℕ} {r : Bool} → o ≡ Some n → r ≡ member authors n → r ≡ spelled_as authors s
  author_some q m = spelled_some authors refl q m

  pub author_none : o ≡ None → false ≡ spelled_as authors s
  author_none q = spelled_none authors refl q

  module _ (v : Values) where
    pub among_some : {n : ℕ} {r : Bool} → o ≡ Some n → r ≡ member (values_of v) n → r ≡ spelled_as (values_of v) s
    among_some q m = spelled_some (values_of v) (values_small v) q m

    pub among_none : o ≡ None → false ≡ spelled_as (values_of v) s
    among_none q = spelled_none (values_of v) (values_small v) q

pub ruleset author_laws = (author_some, author_none)

pub ruleset among_laws = (among_some, among_none)
