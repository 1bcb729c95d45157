-- Examples, computed.
-- Worked examples of the grammar, written from document 01: notebooks that meet the conditions, notebooks that break one, and records that no
-- notebook has. proofs/AllExamples.antt shows that they come out so, of the wrong records
-- proofs/Examples.antt of verdict.
use Rattle.std.specs.Prelude.{ℕ, Bool, true, false, List, [], ◌∷◌, Option, Some, None}
use Rattle.order.specs.declared.Facts.{Facts}
use Rattle.grammar.specs.Grammar.{Details, Usage, Prescription, Prescriptions, without_doctors, with_doctors, Group, Tree, rec}

-- ---- words

abbrev pub plain : Details
plain = record { rp = 0; day = 0; schedule = 0; form = 0; named = false }

abbrev pub on : ℕ → Details
on day = record { rp = 0; day = day; schedule = 0; form = 0; named = false }

abbrev pub with : ℕ → Details
with schedule = record { rp = 0; day = 0; schedule = schedule; form = 0; named = false }

abbrev pub of : ℕ → Details
of rp = record { rp = rp; day = 0; schedule = 0; form = 0; named = false }

-- a 301 of form 1 with a usage name; a 301 of a form without one
abbrev pub used : ℕ → Details
used rp = record { rp = rp; day = 0; schedule = 0; form = 1; named = true }

abbrev pub nameless : ℕ → ℕ → Details
nameless rp form = record { rp = rp; day = 0; schedule = 0; form = form; named = false }

-- an RP of one drug
abbrev pub rp_with : ℕ → Option Usage → Prescription
rp_with v u = record { drug = record { r201 = of v; r281s = []; r291s = [] }; drugs = []; usage = u; r391s = [] }

abbrev pub usage : Details → Option Usage
usage d = Some (record { r301 = d; r311s = [] })

-- an RP of one drug and a 301 with a usage name
abbrev pub rp : ℕ → Prescription
rp v = rp_with v (usage (used v))

abbrev pub group : ℕ → Option Details → Option Details → Prescriptions → List Details → List Details → Group
group day eleven fiftyOne ps r401s r411s = record {
  r5 = on day;
  r11 = eleven;
  r15 = None;
  r51 = fiftyOne;
  prescriptions = ps;
  r401s = r401s;
  r411s = r411s;
  r501s = [];
  r601s = [];
}

abbrev pub notebook : Option Details → List Group → Tree
notebook first gs = record { r1 = first; r2s = []; r3s = []; r4s = []; groups = gs; r701s = [] }

-- a notebook of direction 1 of one group, and one of direction 2
abbrev pub dispensed : Group → Tree
dispensed g = notebook None (g ∷ [])

abbrev pub told : List Group → Tree
told gs = notebook (Some plain) gs

abbrev pub pharmacy : Prescriptions → Group
pharmacy ps = group 20160411 (Some (with 4)) (Some plain) ps [] []

abbrev pub hospital : Prescriptions → Group
hospital ps = group 20160411 (Some (with 1)) None ps [] []

-- two RPs under two doctors
abbrev pub two_doctors : Prescriptions
two_doctors = with_doctors plain (rp 1) (record { r55 = Some plain; prescription = rp 2 } ∷ [])

abbrev pub no_doctors : Prescriptions
no_doctors = without_doctors (rp 1 ∷ rp 2 ∷ [])

-- ---- a direction, a notebook, and whether it meets the conditions

abbrev pub cases : List (Bool × (Tree × Bool))
cases =
    (true, (dispensed (pharmacy two_doctors), true))
    ∷ (true, (dispensed (hospital no_doctors), true))
    ∷ (true, (dispensed (group 20160411 (Some (with 4)) None (without_doctors []) [] (plain ∷ [])), true))
    ∷ (true, (dispensed (pharmacy (without_doctors (rp_with 1 (usage (nameless 1 9)) ∷ []))), true))
    ∷ (true, (dispensed (hospital (without_doctors (rp_with 1 (usage (nameless 1 1)) ∷ []))), true))
    ∷ (true, (notebook None (hospital no_doctors ∷ hospital no_doctors ∷ []), true))
    ∷ (false, (told [], true))
    ∷ (false, (told (group 20160411 None None (without_doctors (rp_with 1 None ∷ [])) [] [] ∷ []), true))
    ∷ (false, (told (group 20160411 (Some (with 1)) (Some plain) two_doctors [] [] ∷ []), true))
    -- 12: no usage name
    ∷ (true, (dispensed (pharmacy (without_doctors (rp_with 1 (usage (nameless 1 1)) ∷ []))), false))
    ∷ (false, (told (hospital (without_doctors (rp_with 1 (usage (nameless 1 9)) ∷ [])) ∷ []), false))
    -- 15: the second RP has value 3; the first has 2; a 301 has another value than its drug
    ∷ (true, (dispensed (hospital (without_doctors (rp 1 ∷ rp 3 ∷ []))), false))
    ∷ (true, (dispensed (hospital (without_doctors (rp 2 ∷ []))), false))
    ∷ (true, (dispensed (hospital (without_doctors (rp_with 1 (usage (used 2)) ∷ []))), false))
    -- 16: the second group is newer
    ∷ (true, (notebook None (hospital no_doctors ∷ group 20160412 (Some (with 1)) None no_doctors [] [] ∷ []), false))
    -- 14 and 13 of direction 1: no group; no 11; an RP without 301; 51 or 55 of a hospital; no 51 of a pharmacy; a 51 and no RP after it; no
    -- RP and no 411; no RP and a 401
    ∷ (true, (told [], false))
    ∷ (true, (dispensed (group 20160411 None None no_doctors [] []), false))
    ∷ (true, (dispensed (hospital (without_doctors (rp_with 1 None ∷ []))), false))
    ∷ (true, (dispensed (group 20160411 (Some (with 3)) (Some plain) no_doctors [] []), false))
    ∷ (true, (dispensed (hospital two_doctors), false))
    ∷ (true, (dispensed (group 20160411 (Some (with 4)) None two_doctors [] []), false))
    ∷ (true, (dispensed (group 20160411 (Some (with 4)) (Some plain) (without_doctors []) [] (plain ∷ [])), false))
    ∷ (true, (dispensed (hospital (without_doctors [])), false))
    ∷ (true, (dispensed (group 20160411 (Some (with 1)) None (without_doctors []) (plain ∷ []) (plain ∷ [])), false))
    -- 14 of direction 2: no record 1
    ∷ (false, (notebook None [], false))
    ∷ []

-- ---- records

-- the records of the first notebook above
abbrev pub two_doctors_records : List Facts
two_doctors_records =
    rec 5 (on 20160411)
    ∷ rec 11 (with 4)
    ∷ rec 51 plain
    ∷ rec 55 plain
    ∷ rec 201 (of 1)
    ∷ rec 301 (used 1)
    ∷ rec 55 plain
    ∷ rec 201 (of 2)
    ∷ rec 301 (used 2)
    ∷ []

-- a notebook with every record: two in each place that takes any number of them, so that an order shows
abbrev pub twice : ℕ → List Details
twice v = of v ∷ of v ∷ []

abbrev pub whole_rp : Prescription
whole_rp = record {
  drug = record { r201 = of 1; r281s = twice 1; r291s = twice 1 };
  drugs = (rp 1).drug ∷ [];
  usage = Some (record { r301 = used 1; r311s = twice 1 });
  r391s = twice 1;
}

abbrev pub every_record : Tree
every_record = record {
  r1 = Some plain;
  r2s = twice 0;
  r3s = twice 0;
  r4s = twice 0;
  groups = record {
    r5 = on 20160411;
    r11 = Some (with 4);
    r15 = Some plain;
    r51 = Some plain;
    prescriptions = with_doctors plain whole_rp [];
    r401s = twice 0;
    r411s = twice 0;
    r501s = twice 0;
    r601s = twice 0;
  } ∷ [];
  r701s = twice 0;
}

-- "At most one 1; then any 2s, then 3s, then 4s; then groups; then any 701s": in document 01's order
abbrev pub their_numbers : List ℕ
their_numbers =
    1 ∷ 2 ∷ 2 ∷ 3 ∷ 3 ∷ 4 ∷ 4 ∷ 5 ∷ 11 ∷ 15 ∷ 51 ∷ 55 ∷ 201 ∷ 281 ∷ 281 ∷ 291 ∷ 291 ∷ 201 ∷ 301 ∷ 311 ∷ 311 ∷ 391 ∷ 391 ∷ 401 ∷ 401 ∷ 411 ∷ 411
    ∷ 501 ∷ 501 ∷ 601 ∷ 601 ∷ 701 ∷ 701 ∷ []

-- Records of direction 2 that no notebook has. The first two are the mistake that document 01 excludes, "letting a doctor reach into the next
-- group": a 55 that a 5 follows, and a 55 in a group whose first RP has none, whatever doctor the group before it had.
abbrev pub wrong : List (List Facts)
wrong =
    (rec 1 plain ∷ rec 5 (on 1) ∷ rec 55 plain ∷ rec 5 (on 1) ∷ rec 201 (of 1) ∷ [])
    ∷ (rec 1 plain ∷ rec 5 (on 1) ∷ rec 55 plain ∷ rec 201 (of 1) ∷ rec 5 (on 1) ∷ rec 201 (of 1) ∷ rec 55 plain ∷ rec 201 (of 2) ∷ [])
    ∷ (rec 1 plain ∷ rec 1 plain ∷ [])
    ∷ (rec 1 plain ∷ rec 3 plain ∷ rec 2 plain ∷ [])
    ∷ (rec 1 plain ∷ rec 11 (with 1) ∷ [])
    ∷ (rec 1 plain ∷ rec 5 (on 1) ∷ rec 15 plain ∷ rec 11 (with 1) ∷ [])
    ∷ (rec 1 plain ∷ rec 5 (on 1) ∷ rec 201 (of 1) ∷ rec 311 (of 1) ∷ [])
    ∷ (rec 1 plain ∷ rec 5 (on 1) ∷ rec 201 (of 1) ∷ rec 301 (used 1) ∷ rec 201 (of 1) ∷ [])
    ∷ (rec 1 plain ∷ rec 5 (on 1) ∷ rec 411 plain ∷ rec 401 plain ∷ [])
    ∷ (rec 1 plain ∷ rec 701 plain ∷ rec 5 (on 1) ∷ [])
    ∷ []

-- ---- the index

-- a group with two doctors, then one with none
abbrev pub two_groups : Tree
two_groups = told (pharmacy two_doctors ∷ hospital no_doctors ∷ [])

-- The doctor of each record, from line 2 on: 1, 5, 11, 51, then 55, 201, 301 twice, then 5, 11 and 201, 301 twice. "letting a doctor reach into
-- the next group" would put 9 at the last four.
abbrev pub their_doctors : List ℕ
their_doctors = 0 ∷ 0 ∷ 0 ∷ 0 ∷ 0 ∷ 6 ∷ 6 ∷ 0 ∷ 9 ∷ 9 ∷ 0 ∷ 0 ∷ 0 ∷ 0 ∷ 0 ∷ 0 ∷ []

-- The clinic of each: the 51 stands at line 5. A clinic that reached into the next group would be at the last six, too.
abbrev pub their_clinics : List ℕ
their_clinics = 0 ∷ 0 ∷ 0 ∷ 5 ∷ 5 ∷ 5 ∷ 5 ∷ 5 ∷ 5 ∷ 5 ∷ 0 ∷ 0 ∷ 0 ∷ 0 ∷ 0 ∷ 0 ∷ []

-- of every record: the 51 stands at line 12, after 1, 2s, 3s, 4s, 5, 11 and 15; 701s have none
abbrev pub every_clinic : List ℕ
every_clinic =
    0 ∷ 0 ∷ 0 ∷ 0 ∷ 0 ∷ 0 ∷ 0 ∷ 0 ∷ 0 ∷ 0 ∷ 12 ∷ 12 ∷ 12 ∷ 12 ∷ 12 ∷ 12 ∷ 12 ∷ 12 ∷ 12 ∷ 12 ∷ 12 ∷ 12 ∷ 12 ∷ 12 ∷ 12 ∷ 12 ∷ 12
    ∷ 12 ∷ 12 ∷ 12 ∷ 12 ∷ 0 ∷ 0 ∷ []
