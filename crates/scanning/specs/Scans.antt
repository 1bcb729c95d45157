-- Vocabulary of the code.
-- What a scan finds, as the code answers it: the text from a position on, its commas and their places, and what stands where a row begins.
use Rattle.std.specs.Prelude.{ℕ, ◌+◌, ◌≤◌, ◌<◌, ◌^◌, ◌≡◌, Option, Some, None, is_some, IfSome, Result, Ok, Err, Bool, true, ◌⊎◌, List, [], ◌∷◌, length, drop, get_or}
use Rattle.lists.specs.Searching.{part}
use Rattle.characters.specs.declared.Char.TheVariants.{Bad}
use Rattle.characters.specs.Text.{all_chars, text}
use Rattle.characters.specs.Cells.{is_one_byte}
use Rattle.characters.specs.Scanning.{char_at, bytes_of, is_own_hiragana, is_own_katakana, is_either, comma_count, commas_from, WholeLine, BrokenRow}
use Rattle.characters.specs.Rows.{rows, end_mark}
use Rattle.scanning.specs.declared.runs.Scripts.{Scripts}
use Rattle.scanning.specs.declared.runs.Run.{Run}
use Rattle.scanning.specs.declared.lines.Scan.{Scan}
use Rattle.scanning.specs.declared.lines.Broken.{Broken}

-- a list of places, as the code keeps it: the first sixteen commas of a line
pub record Stops (l : List ℕ) (stops : List ℕ) : Type 0 where
  pub here : (j : ℕ) → j < length (commas_from 0 l) → j < 16 → get_or stops j 0 ≡ get_or (commas_from 0 l) j 0

-- the places are sixteen
pub record Sixteen (stops : List ℕ) : Type 0 where
  pub is : length stops ≡ 16

-- what a scan from a position finds: where the text ends, whether it is characters, how many commas it has, and where
pub record ScanOf (s : List ℕ) (at : ℕ) (stops : List ℕ) (r : Scan) : Type 0 where
  pub ends : r.end ≡ at + length (text (drop at s))
  pub chars : r.good ≡ all_chars (text (drop at s))
  pub commas : r.commas ≡ comma_count (text (drop at s))
  pub places : Stops (text (drop at s)) stops
  pub size : Sixteen stops

-- from a to e stand characters, none of them a comma
pub record RunOf (s : List ℕ) (a e : ℕ) : Type 0 where
  pub low : a ≤ e
  pub high : e ≤ length s
  pub chars : all_chars (part s a e) ≡ true
  pub plain : comma_count (part s a e) ≡ 0

-- such a run ends there: at a comma, at a byte that begins no character, or at the end
pub record RunEnds (s : List ℕ) (e : ℕ) : Type 0 where
  pub holds : e < length s → (get_or s e 0 ≡ 0x2c) ⊎ (char_at s e ≡ Bad)

-- how many bytes the characters of each script take in a list
pub record Bytes (l : List ℕ) (k : Scripts) : Type 0 where
  pub one : k.one ≡ bytes_of is_one_byte l
  pub hiragana : k.hiragana ≡ bytes_of is_own_hiragana l
  pub katakana : k.katakana ≡ bytes_of is_own_katakana l
  pub either : k.either ≡ bytes_of is_either l

-- and from a to e
abbrev pub Counted : List ℕ → ℕ → ℕ → Scripts → Type 0
Counted s a e k = Bytes (part s a e) k

-- counts whose sums fit, and the sums
pub record SumFits (a b : Scripts) : Type 0 where
  pub one : a.one + b.one < 2 ^ 64
  pub hiragana : a.hiragana + b.hiragana < 2 ^ 64
  pub katakana : a.katakana + b.katakana < 2 ^ 64
  pub either : a.either + b.either < 2 ^ 64

abbrev pub sum_of : Scripts → Scripts → Scripts
sum_of a b = record { one = a.one + b.one; hiragana = a.hiragana + b.hiragana; katakana = a.katakana + b.katakana; either = a.either + b.either }

-- a run up to i, which is the last byte's place or past it, with the scripts k, is the run r
pub record Finished (s : List ℕ) (i : ℕ) (k : Scripts) (r : Run) : Type 0 where
  pub holds : (a : ℕ) → RunOf s a i → Counted s a i k → RunOf s a r.end × RunEnds s r.end × Counted s a r.end r.scripts

-- the scripts of a list, if it is characters
pub record ToldOf (s : List ℕ) (t : Option Scripts) : Type 0 where
  pub chars : is_some t ≡ all_chars s
  pub bytes : IfSome t (Bytes s)

-- a whole line with its n commas and their places
pub record ScannedLine (s : List ℕ) (at : ℕ) (stops : List ℕ) (e : ℕ) (good : Bool) (n : ℕ) : Type 0 where
  pub line : WholeLine s at e good
  pub commas : n ≡ comma_count (part s at e)
  pub places : Stops (part s at e) stops

-- no line is left from a position on: nothing at the end of the bytes, before it 1Ah alone
pub record Over (s : List ℕ) (at : ℕ) : Type 0 where
  pub nothing : length s ≤ at → rows (drop at s) ≡ []
  pub mark : at < length s → rows (drop at s) ≡ end_mark ∷ []

-- the line that begins at a position; none, where no line is left; or the first row is broken
abbrev pub LineMeans : List ℕ → ℕ → List ℕ → Result (Option Scan) Broken → Type 0
LineMeans s at stops (Ok (Some r)) = ScannedLine s at stops r.end r.good r.commas
LineMeans s at stops (Ok None) = Over s at
LineMeans s at stops (Err e) = BrokenRow (rows (drop at s))

pub record LineOf (s : List ℕ) (at : ℕ) (stops : List ℕ) (r : Result (Option Scan) Broken) : Type 0 where
  pub means : LineMeans s at stops r
  pub size : Sixteen stops
