-- Definitions, to be believed.
-- One Shift_JIS character, by row and cell, and its script. Document 01, "Lines and characters"; request (viii); 15-106 3.2.5 (JIS X 0208-1983).
use Rattle.std.specs.Prelude.{ℕ, ◌+◌, ◌-◌, ◌*◌, Bool, true, false, cond, ◌&&◌, ◌||◌, eqb}
use Rattle.lists.specs.Lists.{within}
use Rattle.characters.specs.declared.Char.{Char}
use Rattle.characters.specs.declared.Char.TheVariants.{One, Hiragana, Katakana, Either, Other, Bad}

-- "rows 1, 16–46, 48–83 all 94"
unfoldable pub full_row : ℕ → Bool
full_row r = eqb r 1 || within 16 46 r || within 48 83 r

-- "row 2: 1–14, 26–33, 42–48, 60–74, 82–89, 94"
abbrev pub row2 : ℕ → Bool
row2 c = within 1 14 c || within 26 33 c || within 42 48 c || within 60 74 c || within 82 89 c || eqb c 94

-- "row 3: 16–25, 33–58, 65–90"
abbrev pub row3 : ℕ → Bool
row3 c = within 16 25 c || within 33 58 c || within 65 90 c

-- "row 4: 1–83; 5: 1–86; 6: 1–24, 33–56; 7: 1–33, 49–81; 8: 1–32; 47: 1–51; 84: 1–4"
unfoldable pub part_row : ℕ → ℕ → Bool
part_row r c =
    cond (eqb r 2) (row2 c)
    (cond (eqb r 3) (row3 c)
    (cond (eqb r 4) (within 1 83 c)
    (cond (eqb r 5) (within 1 86 c)
    (cond (eqb r 6) (within 1 24 c || within 33 56 c)
    (cond (eqb r 7) (within 1 33 c || within 49 81 c)
    (cond (eqb r 8) (within 1 32 c)
    (cond (eqb r 47) (within 1 51 c)
    (cond (eqb r 84) (within 1 4 c) false))))))))

-- an allowed cell of JIS X 0208-1983
unfoldable pub allowed : ℕ → ℕ → Bool
unfolding full_row part_row
allowed r c = cond (full_row r) (within 1 94 c) (part_row r c)

-- (viii) "hiragana (row 4)", "katakana (row 5)"; "8140h and 815Bh", row 1, cells 1 and 28, "are allowed with either two-byte script"; Bad: not allowed
unfoldable pub cell_script : ℕ → ℕ → Char
cell_script r c =
    cond (allowed r c)
    (cond (eqb r 4) Hiragana (cond (eqb r 5) Katakana (cond (eqb r 1 && (eqb c 1 || eqb c 28)) Either Other)))
    Bad

-- "Row is 2×(L−81h)+1 for L 81h–9Fh, 2×(L−C1h)+1 for L E0h–EFh", but for the trail's part in it
abbrev pub is_lead : ℕ → Bool
is_lead a = within 0x81 0x9f a || within 0xe0 0xef a

abbrev pub lead_row : ℕ → ℕ
lead_row a = cond (within 0x81 0x9f a) (2 * (a - 0x81) + 1) (cond (within 0xe0 0xef a) (2 * (a - 0xc1) + 1) 0)

abbrev pub is_trail : ℕ → Bool
is_trail b = within 0x40 0x7e b || within 0x80 0xfc b

-- "for T 9Fh–FCh the row is one more"
abbrev pub trail_row : ℕ → ℕ
trail_row b = cond (within 0x9f 0xfc b) 1 0

-- "Cell is T−3Fh for T 40h–7Eh, T−40h for 80h–9Eh; for T 9Fh–FCh .. T−9Eh"
abbrev pub trail_cell : ℕ → ℕ
trail_cell b =
    cond (within 0x40 0x7e b) (b - 0x3f)
    (cond (within 0x80 0x9e b) (b - 0x40)
    (cond (within 0x9f 0xfc b) (b - 0x9e) 0))

-- "one byte 20h–7Eh or A1h–DFh"
abbrev pub is_one : ℕ → Bool
is_one a = within 0x20 0x7e a || within 0xa1 0xdf a

-- a trail after a lead, by the row that the lead tells
unfoldable pub trail_script : ℕ → ℕ → Char
trail_script r b = cond (is_trail b) (cell_script (r + trail_row b) (trail_cell b)) Bad

-- "or lead L and trail T"; (viii) "The reading of one character therefore tells its script too"
unfoldable pub pair_script : ℕ → ℕ → Char
pair_script a b = cond (is_lead a) (trail_script (lead_row a) b) Bad

-- ---- what is asked of a character that was read

-- a question, as its answers for the six of Char in their order
abbrev pub answers : Bool → Bool → Bool → Bool → Bool → Bool → Char → Bool
answers o h k e x n One = o
answers o h k e x n Hiragana = h
answers o h k e x n Katakana = k
answers o h k e x n Either = e
answers o h k e x n Other = x
answers o h k e x n Bad = n

-- one of one byte or of two
abbrev pub is_char : Char → Bool
is_char c = answers true true true true true false c

abbrev pub is_one_byte : Char → Bool
is_one_byte c = answers true false false false false false c

abbrev pub is_two_byte : Char → Bool
is_two_byte c = answers false true true true true false c

-- (viii) "The characters 8140h and 815Bh are allowed with either two-byte script"
abbrev pub is_hiragana : Char → Bool
is_hiragana c = answers false true false true false false c

abbrev pub is_katakana : Char → Bool
is_katakana c = answers false false true true false false c
