-- What is still to come at each place of the pattern, as open parts of a tree: each is the rest of its part and all that follows, with its
-- records. `skip`, `pass` and the like leave a part out, `put` and the like put one record before what is there. Only the shape and the RP
-- values are kept; the other conditions come from proofs/Groups.antt. Assumes nothing.
use Prim.Native.Nat.{ℕ, ◌+◌}
use mathlib.Core.Path.{◌≡◌, refl, ap, sym, ◌∙◌}
use mathlib.Core.Bool.{Bool, true, false, not, ◌&&◌, false≢true}
use Rattle.std.specs.Prelude.{Option, Some, None}
use mathlib.Core.List.{List, [], ◌∷◌}
use Rattle.lists.proofs.Tests.{both}
use Rattle.order.specs.declared.Facts.{Facts}
use Rattle.grammar.specs.Grammar.{Details, Drug, Usage, Prescription, Later, Prescriptions, without_doctors, with_doctors, Group, rec, opt, any_of}
use Rattle.grammar.specs.Grammar.{drugs_records, usage_records, rp_records, plain_records, later_records, prescriptions_records, groups_records}
use Rattle.grammar.specs.Grammar.{all_of, stands, later_ones, rps, valued, drug_valued, usage_valued, one_value, values_from, values}

-- ---- what is still to come

abbrev pub anything : Details → Bool
anything b = true

-- any ns, then X
pub record Any (n : ℕ) (g : Details → Bool) (X : List Facts → Type 0) (rs : List Facts) : Type 0 where
  pub items : List Details
  pub left : List Facts
  pub written : any_of n items left ≡ rs
  pub fits : all_of g items ≡ true
  pub after : X left

-- at most one n, then X
pub record Opt (n : ℕ) (X : List Facts → Type 0) (rs : List Facts) : Type 0 where
  pub item : Option Details
  pub left : List Facts
  pub written : opt n item left ≡ rs
  pub after : X left

pub skip : {n : ℕ} {g : Details → Bool} {X : List Facts → Type 0} {rs : List Facts} → X rs → Any n g X rs
skip {n} {g} {X} {rs} x = record { items = []; left = rs; written = refl; fits = refl; after = x }

pub put : {n : ℕ} {g : Details → Bool} {X : List Facts → Type 0} {rs : List Facts} (b : Details) → g b ≡ true → Any n g X rs → Any n g X (rec n b ∷ rs)
put {n} {g} {X} {rs} b h a = record {
  items = b ∷ a.items;
  left = a.left;
  written = ap (λ l. rec n b ∷ l) a.written;
  fits = rw h a.fits;
  after = a.after;
}

pub pass : {n : ℕ} {X : List Facts → Type 0} {rs : List Facts} → X rs → Opt n X rs
pass {n} {X} {rs} x = record { item = None; left = rs; written = refl; after = x }

pub one_of : {n : ℕ} {X : List Facts → Type 0} {rs : List Facts} (b : Details) → X rs → Opt n X (rec n b ∷ rs)
one_of {n} {X} {rs} b x = record { item = Some b; left = rs; written = refl; after = x }

-- the end
abbrev pub Over : List Facts → Type 0
Over rs = [] ≡ rs

-- groups and 701s
pub record FromGroups (rs : List Facts) : Type 0 where
  pub gs : List Group
  pub zs : List Details
  pub written : groups_records gs (any_of 701 zs []) ≡ rs
  pub valued_so : all_of values gs ≡ true

abbrev pub From601 : List Facts → Type 0
From601 = Any 601 anything FromGroups

abbrev pub From501 : List Facts → Type 0
From501 = Any 501 anything From601

abbrev pub From411 : List Facts → Type 0
From411 = Any 411 anything From501

abbrev pub From401 : List Facts → Type 0
From401 = Any 401 anything From411

abbrev pub no_later55 : List Later → Bool
no_later55 [] = true
no_later55 (l ∷ ls) = not (stands l.r55) && no_later55 ls

-- after an RP of value v; c: a doctor was named
pub record FromLater (v : ℕ) (c : Bool) (rs : List Facts) : Type 0 where
  pub ls : List Later
  pub left : List Facts
  pub written : later_records ls left ≡ rs
  pub valued_so : values_from (v + 1) (later_ones ls) ≡ true
  pub bare : c ≡ false → no_later55 ls ≡ true
  pub after : From401 left

pub record FromUsage (v : ℕ) (c : Bool) (rs : List Facts) : Type 0 where
  pub part : Option Usage
  pub left : List Facts
  pub written : usage_records part left ≡ rs
  pub valued_so : usage_valued v part ≡ true
  pub after : Any 391 (valued v) (FromLater v c) left

pub record FromDrugs (v : ℕ) (c : Bool) (rs : List Facts) : Type 0 where
  pub ds : List Drug
  pub left : List Facts
  pub written : drugs_records ds left ≡ rs
  pub valued_so : all_of (drug_valued v) ds ≡ true
  pub after : FromUsage v c left

abbrev pub From391 : ℕ → Bool → List Facts → Type 0
From391 v c = Any 391 (valued v) (FromLater v c)

abbrev pub From311 : ℕ → Bool → List Facts → Type 0
From311 v c = Any 311 (valued v) (From391 v c)

abbrev pub From291 : ℕ → Bool → List Facts → Type 0
From291 v c = Any 291 (valued v) (FromDrugs v c)

abbrev pub From281 : ℕ → Bool → List Facts → Type 0
From281 v c = Any 281 (valued v) (From291 v c)

-- an RP of value v from its beginning
pub record FromRp (v : ℕ) (c : Bool) (rs : List Facts) : Type 0 where
  pub rp : Prescription
  pub left : List Facts
  pub written : rp_records rp left ≡ rs
  pub valued_so : one_value v rp ≡ true
  pub after : FromLater v c left

pub record FromPrescriptions (rs : List Facts) : Type 0 where
  pub parts : Prescriptions
  pub left : List Facts
  pub written : prescriptions_records parts left ≡ rs
  pub valued_so : values_from 1 (rps parts) ≡ true
  pub after : From401 left

abbrev pub From51 : List Facts → Type 0
From51 = Opt 51 FromPrescriptions

abbrev pub From15 : List Facts → Type 0
From15 = Opt 15 From51

abbrev pub From11 : List Facts → Type 0
From11 = Opt 11 From15

abbrev pub From4 : List Facts → Type 0
From4 = Any 4 anything FromGroups

abbrev pub From3 : List Facts → Type 0
From3 = Any 3 anything From4

abbrev pub From2 : List Facts → Type 0
From2 = Any 2 anything From3

abbrev pub From1 : List Facts → Type 0
From1 = Opt 1 From2

-- ---- the parts put together

-- a 201 begins a drug, which is put before others
pub add_drug : {v : ℕ} {c : Bool} {rs : List Facts} (b : Details) → valued v b ≡ true → From281 v c rs → FromDrugs v c (rec 201 b ∷ rs)
add_drug {v} {c} {rs} b h a =
    let a2 = a.after in
    let a3 = a2.after in
    record {
      ds = record { r201 = b; r281s = a.items; r291s = a2.items } ∷ a3.ds;
      left = a3.left;
      written = ap (λ l. rec 201 b ∷ any_of 281 a.items (any_of 291 a2.items l)) a3.written ∙ ap (λ l. rec 201 b ∷ any_of 281 a.items l) a2.written
          ∙ ap (λ l. rec 201 b ∷ l) a.written;
      valued_so = rw (h, a.fits, a2.fits) a3.valued_so;
      after = a3.after;
    }

pub add_usage : {v : ℕ} {c : Bool} {rs : List Facts} (b : Details) → valued v b ≡ true → From311 v c rs → FromUsage v c (rec 301 b ∷ rs)
add_usage {v} {c} {rs} b h a = record {
  part = Some (record { r301 = b; r311s = a.items });
  left = a.left;
  written = ap (λ l. rec 301 b ∷ l) a.written;
  valued_so = rw h a.fits;
  after = a.after;
}

pub no_usage : {v : ℕ} {c : Bool} {rs : List Facts} → From391 v c rs → FromUsage v c rs
no_usage {v} {c} {rs} a = record { part = None; left = rs; written = refl; valued_so = refl; after = a }

pub no_drug : {v : ℕ} {c : Bool} {rs : List Facts} → FromUsage v c rs → FromDrugs v c rs
no_drug {v} {c} {rs} a = record { ds = []; left = rs; written = refl; valued_so = refl; after = a }

-- a 201 begins an RP
pub begin_rp : {v : ℕ} {c : Bool} {rs : List Facts} (b : Details) → valued v b ≡ true → From281 v c rs → FromRp v c (rec 201 b ∷ rs)
begin_rp {v} {c} {rs} b h a =
    let a2 = a.after in
    let a3 = a2.after in
    let a4 = a3.after in
    let a5 = a4.after in
    record {
      rp = record { drug = record { r201 = b; r281s = a.items; r291s = a2.items }; drugs = a3.ds; usage = a4.part; r391s = a5.items };
      left = a5.left;
      written =
          ap (λ l. rec 201 b ∷ any_of 281 a.items (any_of 291 a2.items (drugs_records a3.ds (usage_records a4.part l)))) a5.written
          ∙ ap (λ l. rec 201 b ∷ any_of 281 a.items (any_of 291 a2.items (drugs_records a3.ds l))) a4.written
          ∙ ap (λ l. rec 201 b ∷ any_of 281 a.items (any_of 291 a2.items l)) a3.written
          ∙ ap (λ l. rec 201 b ∷ any_of 281 a.items l) a2.written
          ∙ ap (λ l. rec 201 b ∷ l) a.written;
      valued_so = rw (h, a.fits, a2.fits, a3.valued_so, a4.valued_so) a5.fits;
      after = a5.after;
    }

pub no_more : {v : ℕ} {c : Bool} {rs : List Facts} → From401 rs → FromLater v c rs
no_more {v} {c} {rs} a = record { ls = []; left = rs; written = refl; valued_so = refl; bare = λ _. refl; after = a }

pub add_rp : {v : ℕ} {c : Bool} {rs : List Facts} → FromRp (v + 1) c rs → FromLater v c rs
add_rp {v} {c} {rs} a =
    let m = a.after in
    record {
      ls = record { r55 = None; prescription = a.rp } ∷ m.ls;
      left = m.left;
      written = ap (rp_records a.rp) m.written ∙ a.written;
      valued_so = rw a.valued_so m.valued_so;
      bare = m.bare;
      after = m.after;
    }

pub add_55 : {v : ℕ} {rs : List Facts} (b : Details) → FromRp (v + 1) true rs → FromLater v true (rec 55 b ∷ rs)
add_55 {v} {rs} b a =
    let m = a.after in
    record {
      ls = record { r55 = Some b; prescription = a.rp } ∷ m.ls;
      left = m.left;
      written = ap (λ l. rec 55 b ∷ l) (ap (rp_records a.rp) m.written ∙ a.written);
      valued_so = rw a.valued_so m.valued_so;
      bare = λ z. absurd (false≢true (sym z));
      after = m.after;
    }

-- ---- the prescriptions of a group

plain_opt : (o : Option Details) (rs : List Facts) → not (stands o) ≡ true → opt 55 o rs ≡ rs
plain_opt None rs h = refl
plain_opt (Some b) rs h = absurd (false≢true h)

plain_later : (ls : List Later) (rs : List Facts) → no_later55 ls ≡ true → later_records ls rs ≡ plain_records (later_ones ls) rs
plain_later [] rs h = refl
plain_later (l ∷ ls) rs h =
    let h2 = both (not (stands l.r55)) (no_later55 ls) h in
    plain_opt l.r55 _ h2.0 ∙ ap (rp_records l.prescription) (plain_later ls rs h2.1)

pub no_script : {rs : List Facts} → From401 rs → FromPrescriptions rs
no_script {rs} a = record { parts = without_doctors []; left = rs; written = refl; valued_so = refl; after = a }

pub plain_script : {rs : List Facts} → FromRp 1 false rs → FromPrescriptions rs
plain_script {rs} a =
    let m = a.after in
    record {
      parts = without_doctors (a.rp ∷ later_ones m.ls);
      left = m.left;
      written = ap (rp_records a.rp) (sym (plain_later m.ls m.left (m.bare refl)) ∙ m.written) ∙ a.written;
      valued_so = rw a.valued_so m.valued_so;
      after = m.after;
    }

pub doctor_script : {rs : List Facts} (b : Details) → FromRp 1 true rs → FromPrescriptions (rec 55 b ∷ rs)
doctor_script {rs} b a =
    let m = a.after in
    record {
      parts = with_doctors b a.rp m.ls;
      left = m.left;
      written = ap (λ l. rec 55 b ∷ l) (ap (rp_records a.rp) m.written ∙ a.written);
      valued_so = rw a.valued_so m.valued_so;
      after = m.after;
    }

pub add_group : {rs : List Facts} (b : Details) → From11 rs → FromGroups (rec 5 b ∷ rs)
add_group {rs} b a =
    let a15 = a.after in
    let a51 = a15.after in
    let s = a51.after in
    let l4 = s.after in
    let l41 = l4.after in
    let l5 = l41.after in
    let l6 = l5.after in
    let g = l6.after in
    record {
      gs = record {
        r5 = b;
        r11 = a.item;
        r15 = a15.item;
        r51 = a51.item;
        prescriptions = s.parts;
        r401s = l4.items;
        r411s = l41.items;
        r501s = l5.items;
        r601s = l6.items;
      } ∷ g.gs;
      zs = g.zs;
      written = ap (λ l. rec 5 b ∷ l)
          (ap (λ l. opt 11 a.item l)
          (ap (λ l. opt 15 a15.item l)
          (ap (λ l. opt 51 a51.item l)
          (ap (prescriptions_records s.parts)
          (ap (any_of 401 l4.items) (ap (any_of 411 l41.items) (ap (any_of 501 l5.items) (ap (any_of 601 l6.items) g.written ∙ l6.written) ∙ l5.written)
          ∙ l41.written) ∙ l4.written)
          ∙ s.written)
          ∙ a51.written)
          ∙ a15.written)
          ∙ a.written);
      valued_so = rw s.valued_so g.valued_so;
    }

pub no_group_lem : {rs : List Facts} → Any 701 anything Over rs → FromGroups rs
no_group_lem {rs} a = record { gs = []; zs = a.items; written = ap (any_of 701 a.items) a.after ∙ a.written; valued_so = refl }
