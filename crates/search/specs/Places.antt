-- Definitions, to be believed.
-- The pieces of a set as they lie, each by its k: where piece k first lies, and the count that the search for it returns. Document 02 (iv): "a count
-- raised at each piece it looks at, which is exactly the place where piece k first lies, counted from 1, or the number of pieces if none is k".
use Rattle.std.specs.Prelude.{ℕ, ◌-◌, ◌≤◌, ◌≡◌, List, length, get_or}

-- piece k lies at place p, "counted from 1"; k is a value, so that 007 is 7
pub record LiesAt (k : ℕ) (ks : List ℕ) (p : ℕ) : Type 0 where
  pub low : 1 ≤ p
  pub high : p ≤ length ks
  pub is : get_or ks (p - 1) 0 ≡ k

-- "the place where piece k first lies"
pub record FirstLies (k : ℕ) (ks : List ℕ) (p : ℕ) : Type 0 where
  pub lies : LiesAt k ks p
  pub first : (q : ℕ) → LiesAt k ks q → p ≤ q

-- "exactly the place where piece k first lies, counted from 1, or the number of pieces if none is k"
pub record CountIs (k : ℕ) (ks : List ℕ) (count : ℕ) : Type 0 where
  pub found : (p : ℕ) → FirstLies k ks p → count ≡ p
  pub none : ((p : ℕ) → LiesAt k ks p → ⊥) → count ≡ length ks
