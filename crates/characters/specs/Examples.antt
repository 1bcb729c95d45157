-- Examples, computed.
-- Bytes and pairs of bytes, and whether they are a character; texts, and what is told of their scripts; rows, and whether they are a line: what
-- documents 01 and 02 (viii) name, and neighbours on both sides of a rule. proofs/AllExamples.antt computes them; all pairs go through the test program.
use Rattle.std.specs.Prelude.{ℕ, Bool, true, false, ◌&&◌, List, [], ◌∷◌}
use Rattle.std.specs.Bool.{beq}
use Rattle.characters.specs.Cells.{is_one, is_char, is_one_byte, is_two_byte, is_hiragana, is_katakana}
use Rattle.characters.specs.Scanning.{is_pair}
use Rattle.characters.specs.Text.{chars_are}
use Rattle.characters.specs.Rows.{is_line}

-- "one byte 20h–7Eh or A1h–DFh"
abbrev pub ones : List (ℕ × Bool)
ones =
    (0x0a, false) ∷ (0x1a, false) ∷ (0x1f, false) ∷ (0x20, true) ∷ (0x7e, true) ∷ (0x7f, false) ∷ (0x81, false) ∷ (0xa0, false) ∷ (0xa1, true)
    ∷ (0xdf, true) ∷ (0xe0, false) ∷ []

abbrev pub ones_hold : List (ℕ × Bool) → Bool
ones_hold [] = true
ones_hold (x ∷ xs) = beq (is_one x.0) x.1 && ones_hold xs

pub record Pair : Type 0 where
  pub lead : ℕ
  pub trail : ℕ
  pub good : Bool

abbrev pub pair : ℕ → ℕ → Bool → Pair
pair a b g = record { lead = a; trail = b; good = g }

abbrev pub pairs : List Pair
pairs =
    -- "the character 8140h"; "8341h is one character"; 8Ah 81h, "a kanji"; the three units of a 301
    pair 0x81 0x40 true
    ∷ pair 0x83 0x41 true
    ∷ pair 0x8a 0x81 true
    ∷ pair 0x92 0xb2 true
    ∷ pair 0x8d 0xdc true
    ∷ pair 0x93 0xfa true
    ∷ pair 0x95 0xaa true
    ∷ pair 0x89 0xf1 true
    -- 7Fh and FDh are no trail, 85h leads rows 9 and 10, A0h and F0h lead none
    ∷ pair 0x81 0x7f false
    ∷ pair 0x81 0xfd false
    ∷ pair 0x85 0x40 false
    ∷ pair 0xa0 0x40 false
    ∷ pair 0xf0 0x40 false
    -- row 2 has cell 14 and not 15, row 4 cell 83 and not 84, row 84 cell 4 and not 5
    ∷ pair 0x81 0xac true
    ∷ pair 0x81 0xad false
    ∷ pair 0x82 0xf1 true
    ∷ pair 0x82 0xf2 false
    ∷ pair 0xea 0xa2 true
    ∷ pair 0xea 0xa3 false
    ∷ []

abbrev pub pairs_hold : List Pair → Bool
pairs_hold [] = true
pairs_hold (p ∷ ps) = beq (is_pair p.lead p.trail) p.good && pairs_hold ps

-- a text, and whether it is characters, all of one byte, all of two, all hiragana, all katakana
pub record Told : Type 0 where
  pub bytes : List ℕ
  pub chars : Bool
  pub one : Bool
  pub two : Bool
  pub hiragana : Bool
  pub katakana : Bool

abbrev pub told : List ℕ → Bool → Bool → Bool → Bool → Bool → Told
told l c o t h k = record { bytes = l; chars = c; one = o; two = t; hiragana = h; katakana = k }

abbrev pub texts : List Told
texts =
    told [] true true true true true
    -- half-width kana with a letter
    ∷ told (0xb1 ∷ 0x41 ∷ []) true true false false false
    -- "hiragana (row 4)", its first cell and its last, and "katakana (row 5)", with 837Fh between, which is no trail
    ∷ told (0x82 ∷ 0x9f ∷ 0x82 ∷ 0xf1 ∷ []) true false true true false
    ∷ told (0x83 ∷ 0x40 ∷ 0x83 ∷ 0x7e ∷ 0x83 ∷ 0x80 ∷ 0x83 ∷ 0x96 ∷ []) true false true false true
    ∷ told (0x82 ∷ 0xf2 ∷ []) false false false false false
    ∷ told (0x83 ∷ 0x7f ∷ []) false false false false false
    -- "8140h and 815Bh are allowed with either two-byte script, or by themselves"; the marks beside them are not
    ∷ told (0x81 ∷ 0x40 ∷ []) true false true true true
    ∷ told (0x81 ∷ 0x5b ∷ []) true false true true true
    ∷ told (0x81 ∷ 0x5b ∷ 0x82 ∷ 0xa0 ∷ []) true false true true false
    ∷ told (0x83 ∷ 0x41 ∷ 0x81 ∷ 0x40 ∷ 0x83 ∷ 0x41 ∷ []) true false true false true
    ∷ told (0x81 ∷ 0x41 ∷ []) true false true false false
    ∷ told (0x81 ∷ 0x5a ∷ []) true false true false false
    ∷ told (0x81 ∷ 0x5c ∷ []) true false true false false
    -- leads that two rows share: 8260h is of row 3, 839Fh of row 6
    ∷ told (0x82 ∷ 0x60 ∷ []) true false true false false
    ∷ told (0x83 ∷ 0x9f ∷ []) true false true false false
    -- a kanji, mixtures, and a lead without a trail
    ∷ told (0x8a ∷ 0x81 ∷ []) true false true false false
    ∷ told (0x82 ∷ 0xa0 ∷ 0x83 ∷ 0x41 ∷ []) true false true false false
    ∷ told (0x82 ∷ 0xa0 ∷ 0x41 ∷ []) true false false false false
    ∷ told (0x41 ∷ 0x82 ∷ []) false false false false false
    ∷ []

abbrev pub texts_hold : List Told → Bool
texts_hold [] = true
texts_hold (t ∷ ts) =
    (beq (chars_are is_char t.bytes) t.chars
    && (beq (chars_are is_one_byte t.bytes) t.one
    && (beq (chars_are is_two_byte t.bytes) t.two
    && (beq (chars_are is_hiragana t.bytes) t.hiragana && beq (chars_are is_katakana t.bytes) t.katakana))))
    && texts_hold ts

-- "lines ended by 0Dh 0Ah"; "0Dh, 0Ah and 1Ah stand nowhere else"
abbrev pub rows : List (List ℕ × Bool)
rows =
    (0x34 ∷ 0x0d ∷ 0x0a ∷ [], true)
    ∷ (0x0d ∷ 0x0a ∷ [], true)
    ∷ (0x34 ∷ 0x0a ∷ [], false)
    ∷ (0x34 ∷ 0x0d ∷ [], false)
    ∷ (0x34 ∷ 0x0d ∷ 0x34 ∷ 0x0d ∷ 0x0a ∷ [], false)
    ∷ (0x34 ∷ 0x1a ∷ 0x0d ∷ 0x0a ∷ [], false)
    ∷ (0x1a ∷ [], false)
    ∷ []

abbrev pub rows_hold : List (List ℕ × Bool) → Bool
rows_hold [] = true
rows_hold (r ∷ rs) = beq (is_line r.0) r.1 && rows_hold rs
