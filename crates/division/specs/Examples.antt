-- Examples, computed.
-- Worked examples of cutting and joining, written from document 01: records 911, inputs of joining with what is joined or refused, and the
-- refusals of cutting. proofs/AllExamples.antt computes them. The marked cases are in Cases.antt.
use Rattle.std.specs.Prelude.{ℕ, List, [], ◌∷◌, ◌++◌, Option, Some, None}
use Rattle.lists.specs.Lists.{bytes, Res, ok, refused}
use Rattle.characters.specs.Rows.{line_end, end_mark}
use Rattle.replies.specs.Replies.{Answer}
use Rattle.replies.specs.Replies.{Done, Refused}
use Rattle.division.specs.Marks.{Mark}

-- each line with its line end
abbrev pub lines : List (List ℕ) → List ℕ
lines [] = []
lines (l ∷ ls) = l ++ line_end ++ lines ls

abbrev pub ident : List ℕ
ident = bytes "20261115000001"

-- ---- records 911: "911,ID,n,k with no leading zeros in n and k"; "n and k have one to three digits"

abbrev pub mark : ℕ → ℕ → Option Mark
mark n k = Some (record { ident = ident; count = n; place = k })

abbrev pub mark_lines : List (List ℕ)
mark_lines =
    bytes "911,20261115000001,12,3"
    ∷ bytes "911,20261115000001,012,003"
    ∷ bytes "911,20261115000001,999,100"
    ∷ bytes "911,20261115000001,1000,1"
    ∷ bytes "911,20261115000001,2"
    ∷ bytes "911,20261115000001,2,1,"
    ∷ bytes "911,2026111500001,2,1"
    ∷ bytes "911,2026111500000x,2,1"
    ∷ []

abbrev pub their_marks : List (Option Mark)
their_marks = mark 12 3 ∷ mark 12 3 ∷ mark 999 100 ∷ None ∷ None ∷ None ∷ None ∷ None ∷ []

-- ---- joining

abbrev pub first : List ℕ
first = lines (bytes "JAHISTC04,2" ∷ bytes "1,A,1,19890108,,,,,,," ∷ bytes "911,20261115000001,2,1" ∷ [])

abbrev pub second : List ℕ
second = lines (bytes "JAHISTC04,2" ∷ bytes "4,x,,2" ∷ bytes "911,20261115000001,2,2" ∷ [])

abbrev pub whole : List ℕ
whole = lines (bytes "JAHISTC04,2" ∷ bytes "1,A,1,19890108,,,,,,," ∷ bytes "4,x,,2" ∷ [])

abbrev pub inputs : List (List ℕ)
inputs =
    -- "pieces in any order, an optional 1Ah after each"; "n (.. value)"
    (first ++ second)
    ∷ (second ++ first)
    ∷ (first ++ end_mark ++ second ++ end_mark)
    ∷ (lines (bytes "JAHISTC04,2" ∷ bytes "1,A,1,19890108,,,,,,," ∷ bytes "911,20261115000001,002,001" ∷ []) ++ second)
    -- "one piece without a record 911"
    ∷ whole
    ∷ (whole ++ end_mark)
    -- 19: a piece is missing, one too many, one twice
    ∷ first
    ∷ (first ++ second ++ second)
    ∷ (first ++ first)
    -- 19: another ID, another line 1, another n
    ∷ (first ++ lines (bytes "JAHISTC04,2" ∷ bytes "4,x,,2" ∷ bytes "911,20261115000002,2,2" ∷ []))
    ∷ (first ++ lines (bytes "JAHISTC04,1" ∷ bytes "4,x,,2" ∷ bytes "911,20261115000001,2,2" ∷ []))
    ∷ (first ++ lines (bytes "JAHISTC04,2" ∷ bytes "4,x,,2" ∷ bytes "911,20261115000001,3,2" ∷ []))
    -- 19: a set of one; a 911 that is not the last line; a 911 without items; a line before the first piece
    ∷ lines (bytes "JAHISTC04,2" ∷ bytes "1,A,1,19890108,,,,,,," ∷ bytes "911,20261115000001,1,1" ∷ [])
    ∷ (lines (bytes "JAHISTC04,2" ∷ bytes "911,20261115000001,2,1" ∷ bytes "1,A,1,19890108,,,,,,," ∷ []) ++ second)
    ∷ lines (bytes "JAHISTC04,2" ∷ bytes "1,A,1,19890108,,,,,,," ∷ bytes "911" ∷ [])
    ∷ (lines (bytes "4,x,,2" ∷ []) ++ first ++ second)
    -- 2: empty input, 1Ah alone, a 1Ah that is after no piece
    ∷ []
    ∷ end_mark
    ∷ (end_mark ++ first ++ second)
    -- "it is then checked as a file": an empty text is 8, in line 3 of the joined file
    ∷ (first ++ lines (bytes "JAHISTC04,2" ∷ bytes "4,,,2" ∷ bytes "911,20261115000001,2,2" ∷ []))
    ∷ []

abbrev pub their_files : List (Res (List ℕ))
their_files =
    ok whole ∷ ok whole ∷ ok whole ∷ ok whole ∷ ok whole ∷ ok whole
    ∷ refused 19 0 ∷ refused 19 0 ∷ refused 19 0
    ∷ refused 19 0 ∷ refused 19 0 ∷ refused 19 0
    ∷ refused 19 0 ∷ refused 19 0 ∷ refused 19 0 ∷ refused 19 0
    ∷ refused 2 1 ∷ refused 2 1 ∷ refused 2 1
    ∷ refused 8 3
    ∷ []

-- ---- cutting: "Cutting: 1–16, 17, 18, 20", and 24 "after 17 and before 18"

pub record Asked : Type 0 where
  pub file : List ℕ
  pub capacity : ℕ
  pub id : List ℕ
  pub used : List ℕ
  pub room : ℕ

abbrev pub ask_used : List ℕ → ℕ → List ℕ → List ℕ → ℕ → Asked
ask_used s c i u room = record { file = s; capacity = c; id = i; used = u; room = room }

-- no ID has been used
abbrev pub ask : List ℕ → ℕ → List ℕ → ℕ → Asked
ask s c i room = ask_used s c i [] room

-- a file that is cut in two: its canonical file has 70 bytes, its pieces 67 and 64
abbrev pub longer : List ℕ
longer = lines (bytes "JAHISTC04,2" ∷ bytes "1,A,1,19890108,,,,,,," ∷ bytes "4,x,,2" ∷ bytes "4,xxxxxxxxxxxxxxxxxxxx,,2" ∷ [])

abbrev pub asked : List Asked
asked =
    -- the canonical file of `whole` has 43 bytes: outputs that hold it, and one that does not
    ask whole 43 ident 43
    ∷ ask whole 43 ident 44
    ∷ ask whole 43 ident 42
    -- no width serves; two pieces
    ∷ ask whole 42 ident 0
    ∷ ask longer 67 ident 131
    -- "A valid ID is 14 digits and nothing else."
    ∷ ask whole 43 (bytes "98765432109876") 43
    ∷ ask whole 42 (bytes "2026111500001") 0
    ∷ ask whole 43 (bytes "2026111500000x") 43
    -- the file comes first
    ∷ ask (lines (bytes "JAHISTC04,2" ∷ [])) 43 (bytes "1") 43
    -- a run that passes: one piece, two, none
    ∷ ask_used whole 43 ident (bytes "20261115000002") 43
    ∷ ask_used longer 67 ident (bytes "20261115000002") 131
    ∷ ask_used whole 42 ident (bytes "20261115000002") 0
    -- 24: "one of its IDs is the one given", also where one piece serves; "the run's length isn't a multiple of 14"
    ∷ ask_used whole 43 ident (bytes "20261115000002" ++ ident) 43
    ∷ ask_used longer 67 ident ident 131
    ∷ ask_used whole 43 ident (bytes "2") 43
    ∷ ask_used whole 43 (bytes "98765432109876") (bytes "98765432109876") 43
    -- "after 17 and before 18", and so before 20; the file comes first
    ∷ ask_used whole 42 (bytes "2026111500001") (bytes "2026111500001") 0
    ∷ ask_used whole 42 ident ident 0
    ∷ ask_used whole 43 ident ident 42
    ∷ ask_used (lines (bytes "JAHISTC04,2" ∷ [])) 43 ident ident 43
    ∷ []

abbrev pub their_answers : List Answer
their_answers =
    Done 1 43 0 ∷ Done 1 43 0 ∷ Refused 20 0
    ∷ Refused 18 0 ∷ Done 2 131 0
    ∷ Done 1 43 0 ∷ Refused 17 0 ∷ Refused 17 0
    ∷ Refused 14 2
    ∷ Done 1 43 0 ∷ Done 2 131 0 ∷ Refused 18 0
    ∷ Refused 24 0 ∷ Refused 24 0 ∷ Refused 24 0 ∷ Refused 24 0
    ∷ Refused 17 0 ∷ Refused 24 0 ∷ Refused 24 0 ∷ Refused 14 2
    ∷ []
