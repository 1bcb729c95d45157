-- A second statement, proved equal.
-- The lines before a refused one: something can follow them so that the file is accepted, exactly unless a record that direction 1 asks for can
-- no longer come. Document 01 gives such a fault at the line that closes the part ("a record required in the part that this line or the end
-- closes"), which may stand lines after the place where it became too late. Names of proofs/PrefixLaws.antt have the types: `goes_on` over
-- records, `lines_go_on` over bytes.
use Rattle.std.specs.Prelude.{ℕ, ◌+◌, ◌≤◌, ◌<◌, ◌≡◌, ◌↔◌, Bool, false, not, ◌&&◌, ◌||◌, List, [], ◌∷◌, ◌++◌, map, eqb, length}
use Rattle.lists.specs.Lists.{member, ok, refused}
use Rattle.records.specs.Records.{Record, header}
use Rattle.order.specs.declared.Facts.{Facts}
use Rattle.rules.specs.Places.{in_group}
use Rattle.rules.specs.Questions.{Before}
use Rattle.order.specs.Questions.{before_of}
use Rattle.order.specs.State.{start}
use Rattle.order.specs.Run.{refused_at, run_of, after}
use Rattle.notebook.specs.Facts.{facts_of}
use Rattle.notebook.specs.Notebook.{Notebook, read_file}
use Rattle.grammar.specs.Grammar.{Grammatical}
use Rattle.verdict.specs.Acceptance.{lines_then, Reads}

-- ---- what can no longer come in the open group

-- "each has 11", and an 11 follows the 5
abbrev pub late11 : Before → Bool
late11 b = not b.had11 && not (eqb b.place 5)

-- "a group with an RP and an 11 with 4 has 51", and a 51 stands before the prescriptions; a 55 is followed by one
abbrev pub late51 : Before → Bool
late51 b = b.dispensing && not b.had51 && (not b.no_rp || eqb b.place 55)

-- "a group without RP has a 411", and a 411 stands before the 501s and 601s
abbrev pub late411 : Before → Bool
late411 b = member (501 ∷ 601 ∷ []) b.place && b.no_rp && not b.had411

-- "each RP has 301", and a 301 stands before the 391s
abbrev pub late301 : Before → Bool
late301 b = eqb b.place 391 && not b.had301

abbrev pub late : Before → Bool
late b = late11 b || late51 b || late411 b || late301 b

abbrev pub too_late : Before → Bool
too_late b = b.provider && in_group b.place && late b

-- ---- the claim

-- records that can follow
pub record GoesOn (provider : Bool) (rs : List Facts) : Type 0 where
  pub more : List Facts
  pub has : Grammatical provider (rs ++ more)

-- line 1 is read, so the record after rs stands at the line of their count and 2
abbrev pub PrefixGoesOn : Type 0
PrefixGoesOn =
    (provider : Bool) (rs : List Facts) (r : Facts) (rest : List Facts) (n : ℕ)
    → run_of (start provider) (rs ++ r ∷ rest) ≡ refused_at n (length rs + 2)
    → GoesOn provider rs ↔ (too_late (before_of (after (start provider) rs)) ≡ false)

-- bytes that follow the lines, so that the file is accepted
pub record Followed (provider : Bool) (lines : List (List ℕ)) : Type 0 where
  pub more : List ℕ
  pub short : length more ≤ 128
  pub notebook : Notebook
  pub read : read_file (lines_then (header provider ∷ lines) more) ≡ ok notebook

-- The lines of a file before a refused one, or before the end where that is refused: each is a record. Their records go on exactly unless it is
-- too late. Then bytes can follow them, but for two reasons more: 128 bytes may not fit, and RP values end at 999.
pub record LinesBefore (s : List ℕ) (line : ℕ) : Type 0 where
  pub provider : Bool
  pub lines : List (List ℕ)
  pub rest : List ℕ
  pub cut : s ≡ lines_then (header provider ∷ lines) rest
  pub count : line ≡ length lines + 2
  pub records : List Record
  pub read : Reads provider lines records
  pub goes : GoesOn provider (map facts_of records) ↔ (too_late (before_of (after (start provider) (map facts_of records))) ≡ false)
  pub spelled : too_late (before_of (after (start provider) (map facts_of records))) ≡ false → (after (start provider) (map facts_of records)).had.rp < 999
      → length (lines_then (header provider ∷ lines) []) ≤ 65408 → Followed provider lines

abbrev pub LinesGoOn : Type 0
LinesGoOn = (s : List ℕ) (n line : ℕ) → read_file s ≡ refused n line → 2 ≤ line → LinesBefore s line
