-- Definitions, to be believed.
-- The plan of a cutting: one piece where all fits, else the first width of the count that serves. Document 01, "Cutting and joining":
-- "Numbers n of one, two, three digits are tried in turn until one width serves: every record finds a piece and the count of pieces has
-- that many digits."
use Rattle.std.specs.Prelude.{ℕ, zero, suc, ◌+◌, Bool, cond, ◌&&◌, List, Option, Some, None, leb, eqb, length}
use Rattle.digits.specs.Digits.{digit_count}
use Rattle.packing.specs.Packing.{total, pack}

-- what piece k holds besides its records, where the count has w digits: line 1 with its end, `911,ID,n,k`, and a line end
unfoldable pub over : ℕ → ℕ → ℕ
over w k = 13 + (3 + 1 + 14 + 1 + w + 1 + digit_count k) + 2

pub data Plan (A : Type 0) : Type 0 where
  in_one : Plan A
  -- the runs of the pieces 1, 2, ..
  in_runs : List (List A) → Plan A
  no_plan : Plan A

-- "the count of pieces has that many digits"; "the pieces number n, 2 to 999"
unfoldable pub serves : ℕ → ℕ → Bool
serves w n = eqb (digit_count n) w && leb 2 n

-- a packing that serves is the plan; else another is sought
abbrev pub or_next : {A : Type 0} → ℕ → Plan A → Option (List (List A)) → Plan A
or_next w next None = next
or_next w next (Some xs) = cond (serves w (length xs)) (in_runs xs) next

-- f widths from w on, tried in turn
unfoldable pub tries : {A : Type 0} → (A → ℕ) → ℕ → ℕ → ℕ → List A → Plan A
tries len c zero w rs = no_plan
tries len c (suc f) w rs = or_next w (tries len c f (suc w) rs) (pack len (over w) c 1 (over w 1) rs)

-- 13: line 1 with its end
unfoldable pub plan : {A : Type 0} → (A → ℕ) → ℕ → List A → Plan A
plan len c rs = cond (leb (13 + total len rs) c) in_one (tries len c 3 1 rs)
