-- Examples, computed.
-- Worked examples of the order of records: small files as lists of records, each with the refusal and line that document 01 gives; and the
-- doctor of each record. Written from the paper; proofs/Examples.antt computes them by the definitions.
use Rattle.std.specs.Prelude.{ℕ, Bool, true, false, ◌&&◌, List, [], ◌∷◌, ◌++◌, eqb}
use Rattle.order.specs.declared.State.{State}
use Rattle.order.specs.declared.Facts.{Facts}
use Rattle.order.specs.State.{start, advance, doctor_of}
use Rattle.order.specs.Run.{Ran, refused_at, ran_to, run_of}

-- ---- records

-- a record of which the rules look at the number alone
abbrev pub rec : ℕ → Facts
rec n = record { number = n; rp = 0; day = 0; schedule = 0; form = 0; named = false }

abbrev pub r5 : ℕ → Facts
r5 day = record { number = 5; rp = 0; day = day; schedule = 0; form = 0; named = false }

abbrev pub r11 : ℕ → Facts
r11 schedule = record { number = 11; rp = 0; day = 0; schedule = schedule; form = 0; named = false }

-- a record of an RP
abbrev pub of : ℕ → ℕ → Facts
of rp n = record { number = n; rp = rp; day = 0; schedule = 0; form = 0; named = false }

-- a 301 with a usage name, of form 1
abbrev pub use301 : ℕ → Facts
use301 rp = record { number = 301; rp = rp; day = 0; schedule = 0; form = 1; named = true }

-- a 301 of this form without a usage name
abbrev pub bare301 : ℕ → ℕ → Facts
bare301 rp form = record { number = 301; rp = rp; day = 0; schedule = 0; form = form; named = false }

-- ---- cases

-- the refusal and its line of a file in direction 1 (`provider`) or 2; 0 and 0 where it is good
pub record Case : Type 0 where
  pub provider : Bool
  pub refusal : ℕ
  pub line : ℕ
  pub records : List Facts

abbrev pub one : ℕ → ℕ → List Facts → Case
one n l rs = record { provider = true; refusal = n; line = l; records = rs }

abbrev pub two : ℕ → ℕ → List Facts → Case
two n l rs = record { provider = false; refusal = n; line = l; records = rs }

abbrev pub says : ℕ → ℕ → Ran → Bool
says n l (refused_at m k) = eqb n m && eqb l k
says n l (ran_to s) = eqb n 0 && eqb l 0

abbrev pub holds : List Case → Bool
holds [] = true
holds (c ∷ cs) = says c.refusal c.line (run_of (start c.provider) c.records) && holds cs

-- line 1 is read before the first record, which has line 2

-- 12: the usage name. Asked for in direction 2 wherever the 301 stands, in direction 1 while a group with an 11 with 4 is open.
abbrev pub names : List Case
names =
    two 12 5 (rec 1 ∷ r5 1 ∷ of 1 201 ∷ bare301 1 1 ∷ [])
    ∷ two 12 5 (rec 1 ∷ r5 1 ∷ of 1 201 ∷ bare301 1 9 ∷ [])
    ∷ two 0 0 (rec 1 ∷ r5 1 ∷ of 1 201 ∷ use301 1 ∷ [])
    ∷ two 12 3 (rec 1 ∷ bare301 1 1 ∷ [])
    ∷ one 12 6 (r5 1 ∷ r11 4 ∷ rec 51 ∷ of 1 201 ∷ bare301 1 1 ∷ [])
    ∷ one 0 0 (r5 1 ∷ r11 4 ∷ rec 51 ∷ of 1 201 ∷ bare301 1 9 ∷ [])
    ∷ one 0 0 (r5 1 ∷ r11 4 ∷ rec 51 ∷ of 1 201 ∷ bare301 1 10 ∷ [])
    ∷ one 0 0 (r5 1 ∷ r11 1 ∷ of 1 201 ∷ bare301 1 1 ∷ [])
    ∷ one 12 5 (r5 1 ∷ r11 4 ∷ rec 411 ∷ bare301 1 1 ∷ [])
    ∷ one 13 6 (r5 1 ∷ r11 4 ∷ rec 411 ∷ r5 1 ∷ bare301 1 1 ∷ [])
    ∷ one 13 6 (r5 1 ∷ r11 4 ∷ rec 411 ∷ rec 701 ∷ bare301 1 1 ∷ [])
    ∷ []

-- 14: a group without its 11, 51 or 411 at the line that closes it, an RP without its 301 at the first record not of it.
abbrev pub lacks : List Case
lacks =
    one 14 6 (r5 1 ∷ of 1 201 ∷ use301 1 ∷ rec 401 ∷ r5 1 ∷ [])
    ∷ one 14 5 (r5 1 ∷ of 1 201 ∷ use301 1 ∷ rec 701 ∷ [])
    ∷ one 14 5 (r5 1 ∷ of 1 201 ∷ use301 1 ∷ [])
    ∷ one 14 6 (r5 1 ∷ r11 4 ∷ of 1 201 ∷ use301 1 ∷ r5 1 ∷ [])
    ∷ one 14 8 (r5 1 ∷ r11 4 ∷ rec 55 ∷ of 1 201 ∷ use301 1 ∷ rec 501 ∷ rec 701 ∷ [])
    ∷ one 14 6 (r5 1 ∷ r11 4 ∷ of 1 201 ∷ use301 1 ∷ [])
    ∷ one 14 5 (r5 1 ∷ r11 1 ∷ rec 501 ∷ r5 1 ∷ [])
    ∷ one 14 5 (r5 1 ∷ r11 1 ∷ rec 501 ∷ rec 701 ∷ [])
    ∷ one 14 5 (r5 1 ∷ r11 1 ∷ rec 501 ∷ [])
    ∷ one 0 0 (r5 1 ∷ r11 1 ∷ rec 411 ∷ rec 701 ∷ [])
    ∷ one 14 5 (r5 1 ∷ r11 1 ∷ of 1 201 ∷ of 2 201 ∷ [])
    ∷ one 14 6 (r5 1 ∷ r11 1 ∷ of 1 201 ∷ of 1 391 ∷ rec 401 ∷ [])
    ∷ one 14 6 (r5 1 ∷ r11 1 ∷ of 1 201 ∷ of 1 391 ∷ [])
    ∷ one 14 7 (r5 1 ∷ r11 4 ∷ rec 51 ∷ rec 55 ∷ of 1 201 ∷ rec 55 ∷ [])
    ∷ two 0 0 (rec 1 ∷ r5 1 ∷ of 1 201 ∷ of 1 391 ∷ of 2 201 ∷ [])
    ∷ one 14 2 []
    ∷ one 14 4 (rec 1 ∷ rec 2 ∷ [])
    ∷ one 14 3 (rec 1 ∷ rec 701 ∷ [])
    ∷ two 14 2 []
    ∷ two 14 2 (rec 2 ∷ [])
    ∷ two 14 2 (rec 3 ∷ [])
    ∷ two 14 2 (rec 4 ∷ [])
    ∷ two 14 2 (r5 1 ∷ [])
    ∷ two 14 2 (rec 701 ∷ [])
    ∷ two 13 2 (r11 1 ∷ [])
    ∷ two 0 0 (rec 1 ∷ rec 701 ∷ [])
    ∷ []

-- After a 55 only 201, in direction 1 after a 51 only 55 and 201: else 13, and 14 at the end.
abbrev pub follows : List Case
follows =
    two 13 5 (rec 1 ∷ r5 1 ∷ rec 55 ∷ r5 1 ∷ [])
    ∷ two 13 5 (rec 1 ∷ r5 1 ∷ rec 55 ∷ rec 701 ∷ [])
    ∷ two 13 5 (rec 1 ∷ r5 1 ∷ rec 55 ∷ rec 55 ∷ [])
    ∷ two 14 5 (rec 1 ∷ r5 1 ∷ rec 55 ∷ [])
    ∷ one 13 5 (r5 1 ∷ r11 4 ∷ rec 51 ∷ rec 411 ∷ [])
    ∷ one 13 5 (r5 1 ∷ r11 4 ∷ rec 51 ∷ r5 1 ∷ [])
    ∷ one 13 5 (r5 1 ∷ r11 4 ∷ rec 51 ∷ rec 701 ∷ [])
    ∷ one 14 5 (r5 1 ∷ r11 4 ∷ rec 51 ∷ [])
    ∷ one 0 0 (r5 1 ∷ r11 4 ∷ rec 51 ∷ of 1 201 ∷ use301 1 ∷ [])
    ∷ one 0 0 (r5 1 ∷ r11 4 ∷ rec 51 ∷ rec 55 ∷ of 1 201 ∷ use301 1 ∷ [])
    ∷ two 0 0 (rec 1 ∷ r5 1 ∷ rec 51 ∷ rec 401 ∷ [])
    ∷ two 0 0 (rec 1 ∷ r5 1 ∷ rec 51 ∷ [])
    ∷ []

-- 15: only a 201 begins an RP, with the next value; the other records have the open RP's value and close nothing.
abbrev pub values : List Case
values =
    two 15 4 (rec 1 ∷ r5 1 ∷ of 2 201 ∷ [])
    ∷ two 0 0 (rec 1 ∷ r5 1 ∷ of 1 201 ∷ of 1 281 ∷ of 1 291 ∷ of 1 201 ∷ of 2 201 ∷ r5 1 ∷ of 1 201 ∷ [])
    ∷ two 15 5 (rec 1 ∷ r5 1 ∷ of 1 201 ∷ of 2 281 ∷ [])
    ∷ two 15 5 (rec 1 ∷ r5 1 ∷ of 1 201 ∷ of 2 291 ∷ [])
    ∷ two 15 5 (rec 1 ∷ r5 1 ∷ of 1 201 ∷ use301 2 ∷ [])
    ∷ two 15 6 (rec 1 ∷ r5 1 ∷ of 1 201 ∷ use301 1 ∷ of 2 311 ∷ [])
    ∷ two 15 5 (rec 1 ∷ r5 1 ∷ of 1 201 ∷ of 2 391 ∷ [])
    ∷ one 15 5 (r5 1 ∷ r11 1 ∷ of 1 201 ∷ of 2 281 ∷ [])
    ∷ two 15 8 (rec 1 ∷ r5 1 ∷ rec 55 ∷ of 1 201 ∷ use301 1 ∷ rec 55 ∷ of 1 201 ∷ [])
    ∷ two 15 7 (rec 1 ∷ r5 1 ∷ rec 55 ∷ of 1 201 ∷ rec 55 ∷ of 1 201 ∷ [])
    ∷ two 15 6 (rec 1 ∷ r5 1 ∷ of 1 201 ∷ use301 1 ∷ of 1 201 ∷ [])
    ∷ two 15 7 (rec 1 ∷ r5 1 ∷ of 1 201 ∷ use301 1 ∷ of 1 311 ∷ of 1 201 ∷ [])
    ∷ two 15 6 (rec 1 ∷ r5 1 ∷ of 1 201 ∷ of 1 391 ∷ of 1 201 ∷ [])
    ∷ one 14 5 (r5 1 ∷ r11 1 ∷ of 1 201 ∷ of 3 201 ∷ [])
    ∷ two 15 5 (rec 1 ∷ r5 1 ∷ of 1 201 ∷ of 3 201 ∷ [])
    ∷ []

-- 13: order in a file, a group and an RP; 51 and 55 after an 11 with 1 or 3; a 55 after an RP without doctor; 401 without RP.
abbrev pub places : List Case
places =
    two 13 3 (rec 1 ∷ rec 1 ∷ [])
    ∷ two 13 4 (rec 1 ∷ rec 3 ∷ rec 2 ∷ [])
    ∷ two 13 5 (rec 1 ∷ r5 1 ∷ rec 15 ∷ r11 1 ∷ [])
    ∷ two 13 5 (rec 1 ∷ r5 1 ∷ r11 1 ∷ r11 1 ∷ [])
    ∷ two 13 5 (rec 1 ∷ r5 1 ∷ rec 51 ∷ rec 15 ∷ [])
    ∷ two 13 5 (rec 1 ∷ r5 1 ∷ rec 501 ∷ rec 411 ∷ [])
    ∷ two 13 4 (rec 1 ∷ rec 701 ∷ r5 1 ∷ [])
    ∷ two 13 6 (rec 1 ∷ r5 1 ∷ of 1 201 ∷ of 1 291 ∷ of 1 281 ∷ [])
    ∷ two 13 6 (rec 1 ∷ r5 1 ∷ of 1 201 ∷ use301 1 ∷ use301 1 ∷ [])
    ∷ two 13 5 (rec 1 ∷ r5 1 ∷ of 1 201 ∷ of 1 311 ∷ [])
    ∷ one 13 4 (r5 1 ∷ r11 1 ∷ rec 51 ∷ [])
    ∷ one 13 4 (r5 1 ∷ r11 3 ∷ rec 55 ∷ [])
    ∷ one 0 0 (r5 1 ∷ r11 1 ∷ rec 411 ∷ r5 1 ∷ r11 4 ∷ rec 51 ∷ of 1 201 ∷ use301 1 ∷ [])
    ∷ two 0 0 (rec 1 ∷ r5 1 ∷ r11 1 ∷ rec 51 ∷ rec 55 ∷ of 1 201 ∷ [])
    ∷ two 13 5 (rec 1 ∷ r5 1 ∷ of 1 201 ∷ rec 55 ∷ [])
    ∷ one 13 6 (r5 1 ∷ r11 4 ∷ rec 51 ∷ of 1 201 ∷ rec 55 ∷ [])
    ∷ one 13 4 (r5 1 ∷ r11 1 ∷ rec 401 ∷ [])
    ∷ two 0 0 (rec 1 ∷ r5 1 ∷ rec 401 ∷ [])
    ∷ two 13 3 (rec 1 ∷ rec 6 ∷ [])
    ∷ []

-- 16: newest group first; equal days are good.
abbrev pub dates : List Case
dates =
    two 0 0 (rec 1 ∷ r5 20160411 ∷ r5 20160411 ∷ r5 20160410 ∷ [])
    ∷ two 16 4 (rec 1 ∷ r5 20160411 ∷ r5 20160412 ∷ [])
    ∷ two 16 5 (rec 1 ∷ r5 20160411 ∷ r5 20160409 ∷ r5 20160410 ∷ [])
    ∷ one 14 3 (r5 20160411 ∷ r5 20160412 ∷ [])
    ∷ one 16 5 (r5 20160411 ∷ r11 1 ∷ rec 411 ∷ r5 20160412 ∷ [])
    ∷ []

-- 15-106 3.2.10, the file of the divided data: one group of a pharmacy, two doctors, seven RPs, the fifth a material, the last other
abbrev pub sample : List Facts
sample =
    rec 1
    ∷ r5 20160411
    ∷ r11 4
    ∷ rec 15
    ∷ rec 51
    ∷ rec 55
    ∷ of 1 201
    ∷ of 1 201
    ∷ use301 1
    ∷ of 2 201
    ∷ of 2 201
    ∷ of 2 201
    ∷ use301 2
    ∷ of 3 201
    ∷ use301 3
    ∷ of 4 201
    ∷ use301 4
    ∷ of 5 201
    ∷ bare301 5 9
    ∷ rec 55
    ∷ of 6 201
    ∷ use301 6
    ∷ of 7 201
    ∷ bare301 7 10
    ∷ rec 501
    ∷ []

abbrev pub cases : List Case
cases = names ++ lacks ++ follows ++ values ++ places ++ dates ++ (one 0 0 sample ∷ [])

-- ---- doctors

-- the doctor's line of each record
abbrev pub doctors : State → List Facts → List ℕ
doctors s [] = []
doctors s (r ∷ rs) = doctor_of s r ∷ doctors (advance s r) rs

-- an RP without a 55 of its own keeps the group's last doctor; the next group begins without one
abbrev pub two_groups : List Facts
two_groups = rec 1 ∷ r5 1 ∷ rec 55 ∷ of 1 201 ∷ use301 1 ∷ of 2 201 ∷ rec 55 ∷ of 3 201 ∷ r5 1 ∷ of 1 201 ∷ of 1 391 ∷ []

abbrev pub their_doctors : List ℕ
their_doctors = 0 ∷ 0 ∷ 0 ∷ 4 ∷ 4 ∷ 4 ∷ 0 ∷ 8 ∷ 0 ∷ 0 ∷ 0 ∷ []
