-- Vocabulary of the code.
-- Where an item that begins at a position ends, as the code finds it while it reads a line.
use Rattle.std.specs.Prelude.{ℕ, ◌+◌, ◌-◌, ◌≤◌, ◌<◌, ◌≡◌, Bool, true, cond, not, ◌&&◌, ◌||◌, eqb, leb, List, [], ◌∷◌, length, get_or, Option, Some, None}
use Rattle.lists.specs.Lists.{all}
use Rattle.lists.specs.Searching.{part}
use Rattle.scanning.specs.declared.runs.Scripts.{Scripts}
use Rattle.scanning.specs.Scans.{RunOf}
use Rattle.digits.specs.Digits.{number}
use Rattle.records.specs.Table.{Kind, U, K, Item}
use Rattle.records.specs.Items.{is_code, one_width, one_script, edge, fault}
use Rattle.records.specs.Records.{item_fault}
use Rattle.items.specs.declared.Uniform.{Uniform}
use Rattle.items.specs.declared.Uniform.TheVariants.{Width, Script}
use Rattle.items.specs.declared.Spelled.{Spelled}

-- two scripts together take no more than n bytes
pub record Within (k : Scripts) (n : ℕ) : Type 0 where
  pub hiragana : k.hiragana + k.either ≤ n
  pub katakana : k.katakana + k.either ≤ n

-- what kinds U and K ask: of the scripts of characters that take n bytes, and of a text
abbrev pub uniform_scripts : Uniform → Scripts → ℕ → Bool
uniform_scripts Width k n = eqb k.one n || eqb k.one 0
uniform_scripts Script k n = eqb k.one n || eqb (k.hiragana + k.either) n || eqb (k.katakana + k.either) n

abbrev pub uniform_text : Uniform → List ℕ → Bool
uniform_text Width l = one_width l
uniform_text Script l = one_script l

-- and which of the two asks it
abbrev pub uniform_kind : Uniform → ℕ → Kind
uniform_kind Width m = U m
uniform_kind Script m = K m

-- where a text from a to e ends, if it has at most m bytes and no edge
unfoldable pub sized_end : ℕ → List ℕ → ℕ → ℕ → Option ℕ
sized_end m s a e = cond (leb (e - a) m && not (edge (part s a e))) (Some e) None

-- from a to e stand characters without a comma, and as an item they have no fault
pub record FineItem (provider : Bool) (item : Item) (s : List ℕ) (a e : ℕ) : Type 0 where
  pub run : RunOf s a e
  pub fine : item_fault provider item (part s a e) ≡ 0

-- r is such an end, or says nothing
pub record EndOf (provider : Bool) (item : Item) (s : List ℕ) (a : ℕ) (r : Option ℕ) : Type 0 where
  pub holds : (e : ℕ) → r ≡ Some e → FineItem provider item s a e

-- from a to r stand bytes that a code may have: characters, none of them a comma
pub record CodeRun (s : List ℕ) (a r : ℕ) : Type 0 where
  pub run : RunOf s a r
  pub codes : all is_code (part s a r) ≡ true

-- a digit of value d stands at a
pub record DigitIs (s : List ℕ) (a d : ℕ) : Type 0 where
  pub inside : a < length s
  pub is : get_or s a 0 ≡ 48 + d
  pub small : d ≤ 9

-- r is the value of a digit at a, or says nothing
pub record DigitAt (s : List ℕ) (a : ℕ) (r : Option ℕ) : Type 0 where
  pub holds : (d : ℕ) → r ≡ Some d → DigitIs s a d

-- where r is true, one digit of value d is an item without a fault
pub record DigitFits (k : Kind) (d : ℕ) (r : Bool) : Type 0 where
  pub holds : r ≡ true → d ≤ 9 → fault k ((48 + d) ∷ []) ≡ 0

-- one to three digits from a on, and their value
pub record SpelledIs (s : List ℕ) (a : ℕ) (n : Spelled) : Type 0 where
  pub run : RunOf s a n.end
  pub some : a < n.end
  pub is : number (part s a n.end) ≡ Some n.value

-- r is such digits, or says nothing
pub record SpelledAt (s : List ℕ) (a : ℕ) (r : Option Spelled) : Type 0 where
  pub holds : (n : Spelled) → r ≡ Some n → SpelledIs s a n
