-- Definitions, to be believed.
-- The scripts by the bytes of their characters, as a table of Shift_JIS has them: what the promises of request (viii) speak of (names,
-- specs/Scripts.antt). proofs/ScriptLaws.antt shows that they are those that rows and cells tell, by one computed test over all pairs of bytes.
use Rattle.std.specs.Prelude.{ℕ, Bool, ◌&&◌, ◌||◌, eqb}
use Rattle.lists.specs.Lists.{within}

-- 829Fh to 82F1h
abbrev pub hiragana_bytes : ℕ → ℕ → Bool
hiragana_bytes a b = eqb a 0x82 && within 0x9f 0xf1 b

-- 8340h to 8396h without 837Fh
abbrev pub katakana_bytes : ℕ → ℕ → Bool
katakana_bytes a b = eqb a 0x83 && (within 0x40 0x7e b || within 0x80 0x96 b)

-- "The characters 8140h and 815Bh"
abbrev pub shared_bytes : ℕ → ℕ → Bool
shared_bytes a b = eqb a 0x81 && (eqb b 0x40 || eqb b 0x5b)
