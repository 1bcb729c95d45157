-- Promises, to be believed.
-- DOCUMENT 02 (v), the prescribing clinic in the index, as statements about what the call index replies and leaves in its output.
-- proofs/ClinicLaws.antt proves each.
use Rattle.std.specs.Prelude.{ℕ, ◌+◌, ◌*◌, ◌≤◌, ◌<◌, ◌≡◌, true, false, ◌⊎◌, List, [], ◌∷◌, ◌++◌, length, get_or}
use Rattle.lists.specs.Lists.{ok}
use Rattle.replies.specs.Replies.{result, refusal}
use Rattle.replies.specs.Results.{reply_to, output_of}
use Rattle.rules.specs.Places.{in_group}
use Rattle.notebook.specs.Notebook.{Notebook, read_file}
use Rattle.notebook.specs.Index.{Entry, entries_of, index_result}

-- "The index buffer needs seven numbers a record."
abbrev pub SevenARecord : Type 0
SevenARecord =
    (s : List ℕ) (b : Notebook) → read_file s ≡ ok b → (d : List ℕ)
    → (7 * length b.records ≤ length d → reply_to (index_result s) d ≡ result (length b.records) 0 0)
    × (length d < 7 * length b.records → reply_to (index_result s) d ≡ refusal 20 0)

-- ---- the index of n records in an output d', which was d

pub record IndexIn (s d d' : List ℕ) (n : ℕ) : Type 0 where
  pub file : Notebook
  pub accepted : read_file s ≡ ok file
  pub records : length file.records ≡ n
  pub room : 7 * n ≤ length d
  pub left : d' ≡ output_of (index_result s) d

-- number j of the record i, both from 0
abbrev pub number_at : List ℕ → ℕ → ℕ → ℕ
number_at out i j = get_or out (7 * i + j) 0

-- document 01, "Six u32 per record": the index as it was before
unfoldable pub sixes : List Entry → List ℕ
sixes [] = []
sixes (e ∷ es) = (e.number ∷ e.offset ∷ e.bytes ∷ e.group ∷ e.doctor ∷ e.drug ∷ []) ++ sixes es

-- "Drugs keep the doctor that they had.": the first six numbers are those of before
abbrev pub SixAsBefore : Type 0
SixAsBefore =
    (s d d' : List ℕ) (n : ℕ) → IndexIn s d d' n → (i j : ℕ) → i < n → j < 6 → number_at d' i j ≡ get_or (sixes (entries_of s)) (6 * i + j) 0

-- "The record 51 itself shows its own line.": the first record stands at line 2
abbrev pub OwnLine : Type 0
OwnLine = (s d d' : List ℕ) (n : ℕ) → IndexIn s d d' n → (i : ℕ) → i < n → number_at d' i 0 ≡ 51 → number_at d' i 6 ≡ i + 2

-- outside groups there is no clinic
abbrev pub NoneOutside : Type 0
NoneOutside = (s d d' : List ℕ) (n : ℕ) → IndexIn s d d' n → (i : ℕ) → i < n → in_group (number_at d' i 0) ≡ false → number_at d' i 6 ≡ 0

-- "the line of the group's 51": of a 51 in the record's own group, up to the record itself
pub record OfGroup (out : List ℕ) (i : ℕ) : Type 0 where
  pub place : ℕ
  pub before : place ≤ i
  pub line : number_at out i 6 ≡ place + 2
  pub is51 : number_at out place 0 ≡ 51
  pub group : number_at out place 3 ≡ number_at out i 3

-- "or 0 where none has yet stood in that group"
pub record NoneYet (out : List ℕ) (i : ℕ) : Type 0 where
  pub zero : number_at out i 6 ≡ 0
  pub none : (k : ℕ) → k ≤ i → number_at out k 0 ≡ 51 → number_at out k 3 ≡ number_at out i 3 → ⊥

abbrev pub ClinicOfGroup : Type 0
ClinicOfGroup =
    (s d d' : List ℕ) (n : ℕ) → IndexIn s d d' n → (i : ℕ) → i < n → in_group (number_at d' i 0) ≡ true → NoneYet d' i ⊎ OfGroup d' i
