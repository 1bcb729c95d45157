-- Examples, computed.
-- A list of pieces that is sound and is not ours, and lists that are not sound, each for one reason: `Sound` (Demand.antt) asks what demand 3
-- says, no more and no less. proofs/AllExamples.antt shows each by computing.
use Rattle.std.specs.Prelude.{ℕ, List, [], ◌∷◌, ◌++◌}
use Prim.Native.String.{String}
use Rattle.lists.specs.Lists.{bytes}
use Rattle.characters.specs.Rows.{end_mark}
use Rattle.division.specs.Examples.{lines}

-- the file that is cut: one date in each form
abbrev pub two_dates : List ℕ
two_dates = lines (bytes "JAHISTC04,2" ∷ bytes "1,A,1,19890108,,,,,,," ∷ bytes "4,x,H280411,2" ∷ [])

-- a piece of one record
abbrev pub piece : String → String → List ℕ
piece r mark = lines (bytes "JAHISTC04,2" ∷ bytes r ∷ bytes mark ∷ [])

pub record Claim : Type 0 where
  pub capacity : ℕ
  pub list : List (List ℕ)

abbrev pub claim : ℕ → List (List ℕ) → Claim
claim c ps = record { capacity = c; list = ps }

-- ---- sound, and not ours

-- "pieces in any order, an optional 1Ah after each", any valid ID, n with zeros in front, a piece without records, and each date in its other
-- form: the joined file is neither the file that was cut nor the canonical file
abbrev pub theirs : List (List ℕ)
theirs =
    (piece "4,x,20160411,2" "911,98765432109876,003,3" ++ end_mark)
    ∷ (lines (bytes "JAHISTC04,2" ∷ bytes "911,98765432109876,003,2" ∷ []) ++ end_mark)
    ∷ (piece "1,A,1,H010108,,,,,,," "911,98765432109876,003,1" ++ end_mark)
    ∷ []

abbrev pub their_file : List ℕ
their_file = lines (bytes "JAHISTC04,2" ∷ bytes "1,A,1,H010108,,,,,,," ∷ bytes "4,x,20160411,2" ∷ [])

-- the longest piece has 62 bytes; "one piece without a record 911", of 52
abbrev pub sound : List Claim
sound = claim 62 theirs ∷ claim 52 ((two_dates ++ end_mark) ∷ []) ∷ []

-- ---- not sound

abbrev pub one : List ℕ
one = piece "1,A,1,19890108,,,,,,," "911,20261115000001,2,1"

abbrev pub two : List ℕ
two = piece "4,x,H280411,2" "911,20261115000001,2,2"

abbrev pub not_sound : List Claim
not_sound =
    -- "no piece is longer than the capacity"
    claim 61 theirs
    -- "The lists of demand 3 consist of whole pieces": two in one element; one in two elements
    ∷ claim 131072 ((one ++ two) ∷ [])
    ∷ claim 131072 (lines (bytes "JAHISTC04,2" ∷ bytes "1,A,1,19890108,,,,,,," ∷ []) ∷ lines (bytes "4,x,H280411,2" ∷ []) ∷ [])
    -- "joining accepts a list if none of 1, 2 and 19 arises from the list": 2, no bytes at all; 19, a piece is missing
    ∷ claim 131072 []
    ∷ claim 131072 (one ∷ [])
    -- "and none of 1–16 from the joined file": 8, an empty text
    ∷ claim 131072 (one ∷ piece "4,,H280411,2" "911,20261115000001,2,2" ∷ [])
    -- "the joined file carries the same notebook": another name, another day, a record more
    ∷ claim 131072 (piece "1,B,1,19890108,,,,,,," "911,20261115000001,2,1" ∷ two ∷ [])
    ∷ claim 131072 (one ∷ piece "4,x,H280412,2" "911,20261115000001,2,2" ∷ [])
    ∷ claim 131072 (piece "1,A,1,19890108,,,,,,," "911,20261115000001,3,1" ∷ piece "4,x,H280411,2" "911,20261115000001,3,2" ∷
    piece "4,x,H280411,2" "911,20261115000001,3,3" ∷ [])
    ∷ []
