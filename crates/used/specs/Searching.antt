-- Vocabulary of the code.
-- What the search for an ID asks of its slices, and what is left of the run at a position.
use Rattle.std.specs.Prelude.{ℕ, ◌+◌, ◌-◌, ◌/◌, ◌%◌, ◌≤◌, ◌≡◌, Bool, List, length, drop}
use Rattle.lists.specs.Lists.{same}
use Rattle.lists.specs.Searching.{part}
use Rattle.ids.specs.Used.{first_ids, ids_in, one_is}

-- eight bytes follow both positions
pub record EightIn (a : List ℕ) (i : ℕ) (b : List ℕ) (j : ℕ) : Type 0 where
  pub first : i + 8 ≤ length a
  pub second : j + 8 ≤ length b

-- the first k of them are the same exactly if the test says so
pub record Compared (a : List ℕ) (i : ℕ) (b : List ℕ) (j : ℕ) (equal : Bool) (k : ℕ) : Type 0 where
  pub few : k ≤ 8
  pub is : equal ≡ same (part a i (i + k)) (part b j (j + k))

-- an ID of the run begins at a position, and the one that is looked for has as many bytes
pub record Given (u : List ℕ) (at : ℕ) (id : List ℕ) : Type 0 where
  pub inside : at + 14 ≤ length u
  pub ident : length id ≡ 14

-- the IDs from position i on decide
pub record Left (id u : List ℕ) (i : ℕ) : Type 0 where
  pub inside : i ≤ length u
  pub whole : length u % 14 ≡ 0
  pub start : i % 14 ≡ 0
  pub left : one_is id (ids_in u) ≡ one_is id (first_ids ((length u - i) / 14) (drop i u))
