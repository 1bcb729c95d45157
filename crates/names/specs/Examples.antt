-- Examples, computed.
-- Records 1 with kana names, and what every call says of the file, written from the papers; names that the promises' premises must hold of.
-- proofs/AllExamples.antt computes them.
use Rattle.std.specs.Prelude.{ℕ, Bool, true, false, ◌&&◌, List, [], ◌∷◌, ◌++◌, eqb}
use Rattle.lists.specs.Lists.{bytes, same, Res, ok, refused}
use Rattle.refusals.specs.Refusals.{Call, check, index, canonical, cut, join, replied}
use Rattle.names.specs.Names.{Person, file_after, file_with, asked}

-- the record 1 of document 01's file of 37 bytes
abbrev pub someone : Person
someone = record {
  name = bytes "A";
  sex = bytes "1";
  birth = bytes "19890108";
  postal = [];
  address = [];
  telephone = [];
  emergency = [];
  blood = [];
  weight = [];
}

abbrev pub hira : List ℕ
hira = 0x82 ∷ 0xa0 ∷ []

abbrev pub kata : List ℕ
kata = 0x83 ∷ 0x41 ∷ []

abbrev pub long : List ℕ
long = 0x81 ∷ 0x5b ∷ []

-- direction 2, and nothing after the record
abbrev pub file_of : List ℕ → List ℕ
file_of kana = file_with false someone kana []

-- what every call says: the refusal, and the line
pub record Said : Type 0 where
  pub kana : List ℕ
  pub refusal : ℕ
  pub line : ℕ

abbrev pub says : List ℕ → ℕ → ℕ → Said
says s n l = record { kana = s; refusal = n; line = l }

abbrev pub said : List Said
said =
    says [] 0 0 ∷ says (bytes "A B") 0 0 ∷ says (0xb1 ∷ 0x41 ∷ []) 0 0 ∷ says hira 0 0 ∷ says (kata ++ kata) 0 0 ∷ says (hira ++ long) 0 0 ∷ says (long ++ kata) 0 0
    ∷ says long 0 0 ∷ says (kata ++ 0x81 ∷ 0x40 ∷ kata) 0 0
    -- mixtures, a kanji, and another mark of row 1
    ∷ says (hira ++ kata) 11 2 ∷ says (kata ++ hira) 11 2 ∷ says (hira ++ bytes "A") 11 2 ∷ says (bytes "A" ++ kata) 11 2 ∷ says (0x8a ∷ 0x81 ∷ []) 11 2
    ∷ says (kata ++ 0x81 ∷ 0x45 ∷ []) 11 2 ∷ says (hira ++ long ++ kata) 11 2
    -- 4 and 10 come first
    ∷ says (hira ++ kata ++ 0x82 ∷ []) 4 2 ∷ says (0x81 ∷ 0x40 ∷ []) 10 2 ∷ says (bytes " " ++ hira) 10 2
    ∷ []

-- a call with room enough, and an ID that serves
abbrev pub room : List ℕ
room = bytes "..................................................................................................................................................................................................................................................................................................................................................."

abbrev pub calls : List ℕ → List Call
calls f = check f ∷ index f room ∷ canonical f room ∷ cut f 65536 (bytes "20261117000001") [] room ∷ join f room ∷ []

abbrev pub all_say : List Call → ℕ → ℕ → Bool
all_say [] n l = true
all_say (x ∷ xs) n l = (eqb (replied x).refusal n && eqb (replied x).line l) && all_say xs n l

abbrev pub said_hold : List Said → Bool
said_hold [] = true
said_hold (s ∷ ss) = all_say (calls (file_of s.kana)) s.refusal s.line && said_hold ss

-- a name as long as may be
abbrev pub longest : List ℕ
longest = bytes "abcdefghijklmnopqrst abcdefghijklmnopqrs"

-- a person of whom every item is told, with spaces inside
abbrev pub filled : Person
filled = record {
  name = bytes "A B";
  sex = bytes "2";
  birth = bytes "H010108";
  postal = bytes "105-0004";
  address = bytes "1 2-3 4";
  telephone = bytes "03-3506-8010";
  emergency = bytes "C D 03";
  blood = bytes "A +";
  weight = bytes "52.5";
}

-- direction 1, with a visit after the record
abbrev pub visit : List ℕ
visit = bytes "5,20161231,1" ++ 0x0d ∷ 0x0a ∷ (bytes "11,x,13,4,,,,,1" ++ 0x0d ∷ 0x0a ∷ (bytes "411,x,30,1" ++ 0x0d ∷ 0x0a ∷ []))

abbrev pub visited : List ℕ → List ℕ
visited kana = file_with true filled kana visit

-- each call is asked of the file
abbrev pub is_file : Res (List ℕ) → List ℕ → Bool
is_file (ok g) f = same g f
is_file (refused n l) f = false

abbrev pub all_asked : List Call → List ℕ → Bool
all_asked [] f = true
all_asked (x ∷ xs) f = is_file (asked x) f && all_asked xs f

abbrev pub visit_holds : Bool
visit_holds =
    all_asked (calls (visited hira)) (visited hira)
    && (all_say (calls (visited hira)) 0 0
    && (all_say (calls (visited (hira ++ kata))) 11 2
    && same (visited hira) (bytes "JAHISTC04,1" ++ 0x0d ∷ 0x0a ∷ (bytes "1,A B,2,H010108,105-0004,1 2-3 4,03-3506-8010,C D 03,A +,52.5," ++ 0x82 ∷ 0xa0 ∷ 0x0d ∷ 0x0a ∷ visit))))

-- the two pieces of such a file, the second first
abbrev pub pieces_with : List ℕ → List ℕ
pieces_with kana =
    bytes "JAHISTC04,1" ++ 0x0d ∷ 0x0a ∷ (visit ++ (bytes "911,20261117000001,2,2" ++ 0x0d ∷ 0x0a ∷ (file_with true filled kana [] ++ (bytes "911,20261117000001,2,1" ++ 0x0d ∷ 0x0a ∷ []))))

abbrev pub joins : List ℕ → List Call
joins kana = join (pieces_with kana) room ∷ []

abbrev pub pieces_hold : Bool
pieces_hold = all_asked (joins hira) (visited hira) && (all_say (joins hira) 0 0 && all_say (joins (hira ++ kata)) 11 2)

-- a record 1 after another record is a file with a record 1 too
abbrev pub late_holds : Bool
late_holds =
    same (file_after false (bytes "4,x,,2" ∷ []) someone hira [])
    (bytes "JAHISTC04,2" ++ 0x0d ∷ 0x0a ∷ (bytes "4,x,,2" ++ 0x0d ∷ 0x0a ∷ (bytes "1,A,1,19890108,,,,,,," ++ 0x82 ∷ 0xa0 ∷ 0x0d ∷ 0x0a ∷ [])))

-- a person with items of two-byte characters; the name has 40 bytes, and all scripts in it
abbrev pub wide : Person
wide = record {
  name = 0x8a ∷ 0x81 ∷ (hira ++ kata ++ long ++ hira ++ kata ++ long ++ hira ++ kata ++ long ++ hira ++ kata ++ long ++ hira ++ kata ++ long ++ hira ++ kata ++ long ++ hira);
  sex = bytes "2";
  birth = bytes "H010108";
  postal = [];
  address = 0x8a ∷ 0x81 ∷ [];
  telephone = [];
  emergency = [];
  blood = [];
  weight = [];
}

-- mixtures, and what is of no script: two kana scripts, two widths, a kanji, another mark of row 1
abbrev pub mixed : List (List ℕ)
mixed = (hira ++ kata) ∷ (hira ++ bytes "A") ∷ (0x8a ∷ 0x81 ∷ []) ∷ (kata ++ 0x81 ∷ 0x45 ∷ []) ∷ []

-- the bytes of such a file
abbrev pub hira_file : List ℕ
hira_file = bytes "JAHISTC04,2" ++ 0x0d ∷ 0x0a ∷ (bytes "1,A,1,19890108,,,,,,," ++ 0x82 ∷ 0xa0 ∷ 0x0d ∷ 0x0a ∷ [])

abbrev pub is_hira_file : Bool
is_hira_file = same (file_of hira) hira_file
