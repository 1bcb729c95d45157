-- Vocabulary of the proofs.
-- What the cutting and joining of files needs to know of records, and nothing more: records are read and written, and four laws.
-- proofs/TheLanguage.antt shows them of the records of this crate.
use Rattle.std.specs.Prelude.{ℕ, ◌≤◌, ◌≡◌, Bool, false, true, List, length}
use Rattle.lists.specs.Lists.{same}
use Rattle.characters.specs.Scanning.{clean}
use Rattle.records.specs.Records.{is_mark, header}
use Rattle.records.specs.Reading.{Read, ok}

pub record Language : Type 1 where
  pub Rec : Type 0
  pub read : Bool → List ℕ → Read Rec
  pub write : Rec → List ℕ
  -- what is written is read as the same
  pub round : (provider : Bool) (l : List ℕ) (r : Rec) → read provider l ≡ ok r → read provider (write r) ≡ ok r
  -- no spelling is shorter than the one that is written
  pub short : (provider : Bool) (l : List ℕ) (r : Rec) → read provider l ≡ ok r → length (write r) ≤ length l
  -- a record has none of 0Dh, 0Ah and 1Ah
  pub clear : (provider : Bool) (l : List ℕ) (r : Rec) → read provider l ≡ ok r → clean l ≡ true
  -- a record is no line 1 and no record 911
  pub plain : (provider : Bool) (l : List ℕ) (r : Rec) → read provider l ≡ ok r → ((d : Bool) → same l (header d) ≡ false) × (is_mark l ≡ false)
