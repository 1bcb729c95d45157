-- A second statement, proved equal.
-- What is claimed of the index: it is the one read off the tree of a file's records (grammar, specs/TreeRows.antt), its clinics too, and no two groups
-- share a doctor. Names of proofs/TreeIndexLaws.antt have the types: `index_is_the_trees`, `tree_shares_none`, `no_shared_doctor`.
use Rattle.std.specs.Prelude.{ℕ, ◌≡◌, List, ◌∷◌, ◌++◌, map}
use Rattle.lists.specs.Lists.{ok}
use Rattle.notebook.specs.Facts.{facts_of}
use Rattle.notebook.specs.Notebook.{Notebook, read_file}
use Rattle.notebook.specs.Index.{Entry, entries_of, Listed, list_of}
use Rattle.grammar.specs.Grammar.{Tree, records}
use Rattle.grammar.specs.TreeRows.{TreeRow, visit, tree_row, tree_rows}

abbrev pub entry_row : Listed → TreeRow
entry_row x = let e = x.entry in tree_row e.number (visit e.group x.clinic) e.doctor e.drug

-- the entries of an accepted file are those of every tree of its records
abbrev pub IndexIsTheTrees : Type 0
IndexIsTheTrees = (s : List ℕ) (b : Notebook) (t : Tree) → read_file s ≡ ok b → records t ≡ map facts_of b.records → map entry_row (list_of s) ≡ tree_rows t

-- a row of the list
pub data Among (x : TreeRow) : List TreeRow → Type 0 where
  here : {ws : List TreeRow} → Among x (x ∷ ws)
  there : {w : TreeRow} {ws : List TreeRow} → Among x ws → Among x (w ∷ ws)

-- in every tree two records under one doctor are of one group
abbrev pub TreeSharesNone : Type 0
TreeSharesNone =
    (t : Tree) (x y : TreeRow) → Among x (tree_rows t) → Among y (tree_rows t) → x.doctor ≡ y.doctor → (x.doctor ≡ 0 → ⊥) → x.group ≡ y.group

-- an entry of the file
pub record IsEntry (s : List ℕ) (e : Entry) : Type 0 where
  pub ahead : List Entry
  pub behind : List Entry
  pub is : entries_of s ≡ ahead ++ e ∷ behind

-- and so in every accepted file
abbrev pub NoSharedDoctor : Type 0
NoSharedDoctor =
    (s : List ℕ) (b : Notebook) → read_file s ≡ ok b → (x y : Entry) → IsEntry s x → IsEntry s y
    → x.doctor ≡ y.doctor → (x.doctor ≡ 0 → ⊥) → x.group ≡ y.group
