-- Examples, computed.
-- A small notebook in direction 2 with what specs/Groups.antt says of it: a 1 and a 4, a group with an 11, a group without one, and 701s.
-- And the records of three groups with the clinics that specs/Index.antt gives them. Written from documents 01 and 02; proofs/AllExamples.antt
-- computes both by the definitions.
use Rattle.std.specs.Prelude.{ℕ, false, List, [], ◌∷◌}
use Rattle.lists.specs.Lists.{bytes}
use Rattle.records.specs.Items.{Value, raw, num, day}
use Rattle.records.specs.Records.{Record}
use Rattle.notebook.specs.Notebook.{Notebook}
use Rattle.notebook.specs.Groups.{Parts}
use Rattle.notebook.specs.Index.{Entry}

-- ---- records, each with the items that the example needs

abbrev pub rec : ℕ → List Value → Record
rec n vs = record { number = n; values = vs }

abbrev pub r1 : Record
r1 = rec 1 (raw (bytes "A") ∷ raw (bytes "1") ∷ day 19890108 ∷ [])

abbrev pub r4 : Record
r4 = rec 4 (raw (bytes "B") ∷ raw [] ∷ raw (bytes "1") ∷ [])

abbrev pub r5 : ℕ → Record
r5 d = rec 5 (day d ∷ raw (bytes "1") ∷ [])

-- its fourth item is the institution code
abbrev pub r11 : Record
r11 = rec 11 (raw (bytes "C") ∷ raw (bytes "13") ∷ raw (bytes "4") ∷ raw (bytes "1234567") ∷ [])

abbrev pub r201 : Record
r201 = rec 201 (num 1 ∷ raw (bytes "D") ∷ raw (bytes "2") ∷ raw (bytes "E") ∷ [])

abbrev pub r701 : Record
r701 = rec 701 (raw (bytes "F") ∷ raw (bytes "G") ∷ raw (bytes "H") ∷ [])

-- ---- the notebook

abbrev pub two_groups : Notebook
two_groups = record { provider = false; records = r1 ∷ r4 ∷ r5 20160411 ∷ r11 ∷ r201 ∷ r5 20160410 ∷ r201 ∷ r701 ∷ r701 ∷ [] }

abbrev pub their_parts : Parts
their_parts = record {
  front = r1 ∷ r4 ∷ [];
  groups = (r5 20160411 ∷ r11 ∷ r201 ∷ []) ∷ (r5 20160410 ∷ r201 ∷ []) ∷ [];
  tail = r701 ∷ r701 ∷ [];
}

abbrev pub their_ordinals : List ℕ
their_ordinals = 0 ∷ 0 ∷ 1 ∷ 1 ∷ 1 ∷ 2 ∷ 2 ∷ 0 ∷ 0 ∷ []

abbrev pub their_days : List ℕ
their_days = 20160411 ∷ 20160410 ∷ []

abbrev pub their_institutions : List (List ℕ)
their_institutions = bytes "1234567" ∷ [] ∷ []

-- ---- document 02, (v): records by number and group, and the clinic of each; the first stands at line 2

abbrev pub entry : ℕ → ℕ → Entry
entry n g = record { number = n; offset = 0; bytes = 0; group = g; doctor = 0; drug = 0 }

-- a 1; a group with a 51 at line 5; one without; one with a 51 at line 12; a 701
abbrev pub three_groups : List Entry
three_groups =
    entry 1 0 ∷ entry 5 1 ∷ entry 11 1 ∷ entry 51 1 ∷ entry 55 1 ∷ entry 201 1 ∷ entry 601 1 ∷ entry 5 2 ∷ entry 201 2 ∷ entry 5 3 ∷ entry 51 3
    ∷ entry 701 0 ∷ []

abbrev pub their_clinics : List ℕ
their_clinics = 0 ∷ 0 ∷ 0 ∷ 5 ∷ 5 ∷ 5 ∷ 5 ∷ 0 ∷ 0 ∷ 0 ∷ 12 ∷ 0 ∷ []
