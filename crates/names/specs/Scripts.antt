-- Definitions, to be believed.
-- A kana name in one script, by its bytes (characters, specs/Scripts.antt) and without the reading of characters. Document 02 (viii).
-- proofs/Scripts.antt shows that it is what `one_script` asks (records, specs/Items.antt).
use Rattle.std.specs.Prelude.{ℕ, ◌≡◌, Bool, true, ◌||◌, List, [], ◌∷◌}
use Rattle.lists.specs.Lists.{All}
use Rattle.characters.specs.Cells.{is_one}
use Rattle.characters.specs.Scripts.{hiragana_bytes, katakana_bytes, shared_bytes}

-- two bytes and two bytes, each of which pass the test
pub data Pairs (t : ℕ → ℕ → Bool) : List ℕ → Type 0 where
  none : Pairs t []
  more : {a b : ℕ} {l : List ℕ} → t a b ≡ true → Pairs t l → Pairs t (a ∷ b ∷ l)

-- "all one-byte, or all hiragana (row 4), or all katakana (row 5). The characters 8140h and 815Bh are allowed with either two-byte script, or by
-- themselves."
pub data OneScript (s : List ℕ) : Type 0 where
  one_byte : All (λ b. is_one b ≡ true) s → OneScript s
  hiragana : Pairs (λ a b. hiragana_bytes a b || shared_bytes a b) s → OneScript s
  katakana : Pairs (λ a b. katakana_bytes a b || shared_bytes a b) s → OneScript s
