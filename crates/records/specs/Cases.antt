-- Examples, computed.
-- Items, record lines and lines 1, each with its fault as document 01 gives it ("Lines and characters", "Items", "Records", "Pairs", refusal 10,
-- "Mistakes to exclude") and request (viii). Written from the paper; proofs/Cases.antt computes them by the definitions. Days and doses are in division, specs/Cases.antt.
use Rattle.std.specs.Prelude.{ℕ, Bool, true, false, ◌&&◌, ◌||◌, List, [], ◌∷◌, ◌++◌, eqb}
use Prim.Native.String.{String}
use Rattle.std.specs.Bool.{beq}
use Rattle.lists.specs.Lists.{bytes, same}
use Rattle.records.specs.Table.{Kind, N, U, X, K, A, F, C, P, R, W, Q, among}
use Rattle.records.specs.Items.{fault, value_of, write_value}
use Rattle.records.specs.Records.{line_fault, header, is_mark}

pub data Case : Type 0 where
  -- an item that is not empty, and its fault, 0 for none
  item : Kind → List ℕ → ℕ → Case
  -- a record line in direction 1, 2, or both, and its fault
  line1 line2 line : List ℕ → ℕ → Case
  -- whether a line is a line 1, and whether it is a record 911
  opens mark : List ℕ → Bool → Case
  -- an item, and how its value is written
  written : Kind → List ℕ → List ℕ → Case

-- ---- bytes of Shift_JIS: a wide space, a long mark, a katakana, a hiragana, a kanji whose trail is 81h, the letter A in two bytes (row 3), alpha (row 6), and
-- the units of the paper
abbrev pub space : List ℕ
space = 0x81 ∷ 0x40 ∷ []

abbrev pub kana : List ℕ
kana = 0x83 ∷ 0x41 ∷ []

abbrev pub long : List ℕ
long = 0x81 ∷ 0x5b ∷ []

abbrev pub hira : List ℕ
hira = 0x82 ∷ 0xa0 ∷ []

abbrev pub wide_a : List ℕ
wide_a = 0x82 ∷ 0x60 ∷ []

abbrev pub alpha : List ℕ
alpha = 0x83 ∷ 0xbf ∷ []

abbrev pub kanji : List ℕ
kanji = 0x8a ∷ 0x81 ∷ []

abbrev pub once : List ℕ
once = 0x92 ∷ 0xb2 ∷ 0x8d ∷ 0xdc ∷ []

abbrev pub days : List ℕ
days = 0x93 ∷ 0xfa ∷ 0x95 ∷ 0xaa ∷ []

abbrev pub times : List ℕ
times = 0x89 ∷ 0xf1 ∷ 0x95 ∷ 0xaa ∷ []

-- a 301 of direction 2 with this quantity, unit and form
abbrev pub usage : String → List ℕ → String → List ℕ
usage quantity unit form = bytes "301,1,u," ++ bytes quantity ++ bytes "," ++ unit ++ bytes "," ++ bytes form ++ bytes ",,,1"

-- ---- the cases

abbrev pub cases : List Case
cases =
    -- "Line 1 is JAHISTC04,1 .. or JAHISTC04,2"
    opens (bytes "JAHISTC04,1") true ∷ opens (bytes "JAHISTC04,2") true ∷ opens (bytes "JAHISTC03,1") false ∷ opens (bytes "JAHISTC04,3") false ∷
    -- "a number, then items, separated by 2Ch"
    line (bytes "4,x,,2") 0 ∷ line (bytes "4,x;y,,2") 0 ∷ line (bytes "4;x,,2") 5 ∷ line (bytes "4,x,2") 7 ∷
    -- "`!` required, `+` required in direction 1, `?` optional. An omitted item is empty."
    line (bytes "4,,,2") 8 ∷ line1 (bytes "11,x,,,,,,,2") 8 ∷ line2 (bytes "11,x,,,,,,,2") 0 ∷
    line1 (bytes "11,x,47,4,,,,,2") 0 ∷ line (bytes "4,x, ,2") 11 ∷
    -- "N text. U text, all one-byte or all two-byte characters." "8341h is one character"
    item (N 3) (kana ++ bytes "A") 0 ∷ item (N 2) (bytes "abc") 9 ∷
    item (U 40) kana 0 ∷ item (U 40) (kana ++ kana) 0 ∷ item (U 40) (bytes "A B") 0 ∷ item (U 40) (0xb1 ∷ 0x41 ∷ []) 0 ∷
    item (U 40) (kana ++ bytes "A") 11 ∷ item (U 40) (bytes "A" ++ kana) 11 ∷ item (U 40) (bytes "A" ++ space ++ bytes "B") 11 ∷
    -- (viii) "all one-byte, or all hiragana (row 4), or all katakana (row 5)"
    item (K 40) (bytes "A B") 0 ∷ item (K 40) (0xb1 ∷ 0x41 ∷ []) 0 ∷ item (K 40) kana 0 ∷ item (K 40) (kana ++ kana) 0 ∷ item (K 40) hira 0 ∷
    item (K 40) (hira ++ hira) 0 ∷ item (K 40) (kana ++ hira) 11 ∷ item (K 40) (hira ++ kana) 11 ∷ item (K 40) (kana ++ bytes "A") 11 ∷
    item (K 40) (bytes "A" ++ hira) 11 ∷ item (K 40) (kanji ++ kana) 11 ∷ item (K 40) kanji 11 ∷
    -- "8140h and 815Bh are allowed with either two-byte script, or by themselves"
    item (K 40) (kana ++ long) 0 ∷ item (K 40) (long ++ hira) 0 ∷ item (K 40) long 0 ∷ item (K 40) (long ++ long) 0 ∷
    item (K 40) (kana ++ space ++ kana) 0 ∷ item (K 40) (hira ++ space ++ hira) 0 ∷ item (K 40) (long ++ space ++ long) 0 ∷
    item (K 40) (hira ++ long ++ kana) 11 ∷ item (K 40) (hira ++ space ++ kana) 11 ∷ item (K 40) (long ++ bytes "A") 11 ∷
    -- rows 1, 3 and 6 beside the scripts: the dot 8145h, a letter that has the lead of hiragana, and one that has the lead of katakana
    item (K 40) (kana ++ 0x81 ∷ 0x45 ∷ []) 11 ∷ item (K 40) wide_a 11 ∷ item (K 40) (hira ++ wide_a) 11 ∷ item (K 40) (kana ++ alpha) 11 ∷
    -- 9 and 10 come first; the name stays as it was
    item (K 40) space 10 ∷ item (K 40) (kana ++ space) 10 ∷ item (K 3) (kana ++ hira) 9 ∷ item (K 40) (space ++ kana ++ hira) 10 ∷
    item (U 40) (kanji ++ kana ++ hira) 0 ∷ line (bytes "1,A,1,19890108,,,,,,," ++ hira ++ kana) 11 ∷ line (bytes "1,A,1,19890108,,,,,,," ++ hira) 0 ∷
    line (bytes "1," ++ hira ++ kana ++ bytes ",1,19890108,,,,,,,") 0 ∷
    -- "X: A–Z, a–z, 0–9, period, hyphen."
    item (X 13) (bytes "AZaz09.-") 0 ∷ item (X 13) (bytes "A/1") 11 ∷ item (X 13) (bytes "A 1") 11 ∷ item (X 13) (0xb1 ∷ []) 11 ∷
    -- "A author: 1, 2, 8, 9. F prefecture: 01–47. C: seven digits."
    item A (bytes "1") 0 ∷ item A (bytes "2") 0 ∷ item A (bytes "8") 0 ∷ item A (bytes "9") 0 ∷ item A (bytes "3") 11 ∷ item A (bytes "01") 11 ∷
    item F (bytes "01") 0 ∷ item F (bytes "47") 0 ∷ item F (bytes "00") 11 ∷ item F (bytes "48") 11 ∷ item F (bytes "1") 11 ∷
    item C (bytes "0000000") 0 ∷ item C (bytes "000000") 11 ∷ item C (bytes "123456a") 11 ∷
    -- "P postal code: seven digits, or three, hyphen, four."
    item P (bytes "1050004") 0 ∷ item P (bytes "105-0004") 0 ∷ item P (bytes "1050-004") 11 ∷
    item P (bytes "105 0004") 11 ∷ item P (bytes "105-000a") 11 ∷
    -- "R: one to three digits with value 1–999; leading zeros are read (here)."
    item R (bytes "1") 0 ∷ item R (bytes "001") 0 ∷ item R (bytes "999") 0 ∷ item R (bytes "000") 11 ∷ item R (bytes "0001") 11 ∷
    -- "W weight, Q dose: whole part up to 3 (Q: 6) digits, optionally a period and up to 3 (Q: 5) digits."
    item W (bytes "123.456") 0 ∷ item W (bytes "1000") 11 ∷ item W (bytes "1.2345") 11 ∷
    item Q (bytes "123456.78901") 0 ∷ item Q (bytes "1000000") 11 ∷ item Q (bytes "1.234567") 11 ∷
    -- "No extra leading zero, no trailing zero in the fraction, no bare period; 0 is good."
    item W (bytes "01") 11 ∷ item W (bytes "0.10") 11 ∷ item W (bytes "1.") 11 ∷ item W (bytes "0") 0 ∷ item Q (bytes "0") 0 ∷
    -- "braces hold the allowed values; 301's usage kind has no 3 and up, here"
    item (among (30 ∷ 31 ∷ 99 ∷ [])) (bytes "31") 0 ∷ item (among (30 ∷ 31 ∷ 99 ∷ [])) (bytes "32") 11 ∷ line2 (bytes "301,1,u,,,,3,x,1") 11 ∷
    -- "item begins or ends with 20h or the character 8140h, or has two or more bytes, the first and last both 22h or both 27h"
    item (N 40) (bytes " x") 10 ∷ item (N 40) (bytes "x ") 10 ∷ item (N 40) (space ++ bytes "x") 10 ∷ item (N 40) (bytes "x" ++ space) 10 ∷
    item (N 40) (0x22 ∷ 0x78 ∷ 0x22 ∷ []) 10 ∷ item (N 40) (bytes "'x'") 10 ∷ item (N 40) (0x22 ∷ 0x22 ∷ []) 10 ∷
    item (N 40) (0x22 ∷ []) 0 ∷ item (N 40) (bytes "'") 0 ∷ item (N 40) (0x22 ∷ 0x78 ∷ 0x27 ∷ []) 0 ∷
    -- "taking 8Ah 81h 40h at an item's end for a final wide space (it is a kanji and @)"
    item (N 40) (kanji ++ bytes "@") 0 ∷ item (N 40) (kanji ++ space) 10 ∷
    -- "In 201 and 301 the code (X) is empty exactly when its kind, the item before it, is empty or 1."
    line (bytes "201,1,a,1,b,1,,1") 0 ∷ line (bytes "201,1,a,1,b,2,c,1") 0 ∷ line (bytes "201,1,a,1,b,1,c,1") 12 ∷ line (bytes "201,1,a,1,b,2,,1") 12 ∷
    line2 (bytes "201,1,a,1,b,,,1") 0 ∷ line2 (bytes "201,1,a,1,b,,c,1") 12 ∷ line2 (bytes "301,1,u,,,,2,,1") 12 ∷ line2 (bytes "301,1,u,,,,2,c,1") 0 ∷
    -- "forms 2, 4, 5, 9, 10 have a quantity of value 1 and unit 92B28DDCh"
    line2 (usage "1" once "2") 0 ∷ line2 (usage "01" once "4") 0 ∷ line2 (usage "2" once "5") 12 ∷
    line2 (usage "1" days "9") 12 ∷ line2 (usage "1" times "10") 12 ∷
    -- "forms 1, 6, 7 unit 93FA95AAh; form 3, and also 6 and 7, unit 89F195AAh"
    line2 (usage "10" days "1") 0 ∷ line2 (usage "10" times "1") 12 ∷ line2 (usage "10" times "3") 0 ∷ line2 (usage "10" days "3") 12 ∷
    line2 (usage "10" days "6") 0 ∷ line2 (usage "10" times "6") 0 ∷ line2 (usage "10" once "7") 12 ∷ line2 (usage "10" times "7") 0 ∷
    -- "an empty quantity or unit is let pass"
    line2 (usage "" once "5") 0 ∷ line2 (usage "1" [] "5") 0 ∷ line2 (usage "" [] "1") 0 ∷
    line2 (usage "" (bytes "x") "5") 12 ∷ line2 (usage "2" [] "5") 12 ∷
    -- "A record 911 is a line that is 911 or begins with 911 and a comma."
    mark (bytes "911") true ∷ mark (bytes "911,20261115000001,2,1") true ∷ mark (bytes "9110") false ∷ mark (bytes "91,1") false ∷
    -- "P without hyphen, R without leading zeros, .. all else kept"
    written P (bytes "105-0004") (bytes "1050004") ∷ written P (bytes "1050004") (bytes "1050004") ∷
    written R (bytes "007") (bytes "7") ∷ written R (bytes "100") (bytes "100") ∷
    written (N 40) (bytes "105-0004") (bytes "105-0004") ∷ written C (bytes "0000001") (bytes "0000001") ∷
    []

-- ---- the test of a case

abbrev pub holds : Case → Bool
holds (item k s n) = eqb (fault k s) n
holds (line1 s n) = eqb (line_fault true s) n
holds (line2 s n) = eqb (line_fault false s) n
holds (line s n) = eqb (line_fault true s) n && eqb (line_fault false s) n
holds (opens s b) = beq (same s (header true) || same s (header false)) b
holds (mark s b) = beq (is_mark s) b
holds (written k s w) = same (write_value (value_of k s)) w

abbrev pub all_hold : List Case → Bool
all_hold [] = true
all_hold (c ∷ cs) = holds c && all_hold cs
