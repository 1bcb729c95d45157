-- Promises, to be believed.
-- DOCUMENT 02 (viii), one script in kana names, as statements about what the calls reply and leave in their outputs: `RefusedByAll`,
-- `AcceptedInOneScript`, `MixedRefused`, `ScriptAlone`. proofs/Promises.antt proves each.
use Rattle.std.specs.Prelude.{ℕ, ◌≤◌, ◌≡◌, Bool, true, false, not, ◌||◌, ◌⊎◌, List, [], ◌∷◌, ◌++◌, map, eqb, length}
use Rattle.lists.specs.Lists.{All, Res, ok, all}
use Rattle.characters.specs.Text.{all_chars, is_stop}
use Rattle.characters.specs.Rows.{flat}
use Rattle.records.specs.Split.{joined}
use Rattle.records.specs.Items.{edge}
use Rattle.replies.specs.Replies.{refusal}
use Rattle.notebook.specs.Canonical.{ended, head_row}
use Rattle.division.specs.Join.{joined_file}
use Rattle.refusals.specs.Refusals.{Call, check, index, canonical, cut, join, about, replied, left_in}
use Rattle.names.specs.Scripts.{OneScript}

-- ---- one refusal from all calls

-- the file that a call is asked of: of join, the joined file
abbrev pub asked : Call → Res (List ℕ)
asked (check f) = ok f
asked (index f out) = ok f
asked (canonical f out) = ok f
asked (cut f c id used out) = ok f
asked (join s out) = joined_file s

-- the call refuses with this number and line, and its output is as lent
pub record Refuses (x : Call) (n line : ℕ) : Type 0 where
  pub replies : replied x ≡ refusal n line
  pub keeps : left_in x ≡ (about x).lent

-- "Files refused for this have no canonical file and no cutting": what check refuses in a file all calls refuse in it
abbrev pub RefusedByAll : Type 0
RefusedByAll = (x : Call) (f : List ℕ) (n line : ℕ) → asked x ≡ ok f → replied (check f) ≡ refusal n line → (n ≡ 0 → ⊥) → Refuses x n line

-- ---- files with a record 1

-- the items of a record 1 before the kana name. 15-106 3.2.9, record 1: name, sex, birth day, postal code, address, telephone, emergency contact,
-- blood type, weight
pub record Person : Type 0 where
  pub name : List ℕ
  pub sex : List ℕ
  pub birth : List ℕ
  pub postal : List ℕ
  pub address : List ℕ
  pub telephone : List ℕ
  pub emergency : List ℕ
  pub blood : List ℕ
  pub weight : List ℕ

abbrev pub items_with : Person → List ℕ → List (List ℕ)
items_with p kana =
    p.name ∷ p.sex ∷ p.birth ∷ p.postal ∷ p.address ∷ p.telephone ∷ p.emergency ∷ p.blood ∷ p.weight ∷ kana ∷ []

-- a file with these lines between line 1 and this record 1; rest: all that follows
unfoldable pub file_after : Bool → List (List ℕ) → Person → List ℕ → List ℕ → List ℕ
file_after provider before p kana rest = head_row provider ++ (flat (map ended before) ++ (ended (joined (49 ∷ []) (items_with p kana)) ++ rest))

-- a file whose second line it is: "At most one 1", before all other records
abbrev pub file_with : Bool → Person → List ℕ → List ℕ → List ℕ
file_with provider p kana rest = file_after provider [] p kana rest

-- they are items: no comma, no 0Dh, 0Ah and 1Ah in them
abbrev pub IsItem : List ℕ → Type 0
IsItem s = all (λ b. not (eqb b 0x2c || is_stop b)) s ≡ true

abbrev pub AreItems : Person → List ℕ → Type 0
AreItems p kana = All IsItem (items_with p kana)

-- none of 4, 9 and 10: characters, at most 40 bytes, no edge
pub record Proper (kana : List ℕ) : Type 0 where
  pub chars : all_chars kana ≡ true
  pub short : length kana ≤ 40
  pub inner : edge kana ≡ false

-- ---- "The last item of record 1 must be all one-byte, or all hiragana (row 4), or all katakana (row 5)."

-- what a call accepts has its kana name in one script, in whichever line a record 1 stands
abbrev pub AcceptedInOneScript : Type 0
AcceptedInOneScript =
    (x : Call) (provider : Bool) (before : List (List ℕ)) (p : Person) (kana rest : List ℕ) → AreItems p kana
    → asked x ≡ ok (file_after provider before p kana rest) → (replied x).refusal ≡ 0 → OneScript kana

-- "Anything else is refused as 11.": a file that is accepted with another kana name, or refused after its second line only, is refused with this one by
-- every call, with its line
abbrev pub MixedRefused : Type 0
MixedRefused =
    (x : Call) (provider : Bool) (p : Person) (kana other rest : List ℕ) → AreItems p kana → AreItems p other
    → asked x ≡ ok (file_with provider p kana rest) → length (file_with provider p kana rest) ≤ 65536
    → ((replied (check (file_with provider p other rest))).refusal ≡ 0) ⊎ (3 ≤ (replied (check (file_with provider p other rest))).line)
    → Proper kana → (OneScript kana → ⊥) → Refuses x 11 2

-- and nothing more is asked: of two names in one script, check says the same
abbrev pub ScriptAlone : Type 0
ScriptAlone =
    (provider : Bool) (p : Person) (kana other rest : List ℕ) → AreItems p kana → AreItems p other
    → length (file_with provider p kana rest) ≤ 65536 → length (file_with provider p other rest) ≤ 65536
    → Proper kana → Proper other → OneScript kana → OneScript other
    → replied (check (file_with provider p kana rest)) ≡ replied (check (file_with provider p other rest))
