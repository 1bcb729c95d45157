-- Vocabulary of the code.
-- What the code of cutting follows, over the bytes s of a canonical file: 13 bytes of line 1, then rows. Each form is a function of `pack`
-- or `tries` (packing, specs/) at the loop's place: piece k begins with the row at i. Cut.antt says the same of notebooks;
-- proofs/FileLaws.antt joins the two.
use Rattle.std.specs.Prelude.{ℕ, zero, suc, ◌+◌, ◌-◌, ◌≤◌, ◌<◌, ◌≡◌, List, [], ◌∷◌, ◌++◌, Option, Some, None, length, get_or, drop}
use Rattle.lists.specs.Lists.{Res, map_res}
use Rattle.lists.specs.Searching.{part}
use Rattle.digits.specs.Digits.{spell, digit_count}
use Rattle.characters.specs.Rows.{rows, flat}
use Rattle.packing.specs.Packing.{pack}
use Rattle.packing.specs.Widths.{Plan as Runs, in_one, in_runs, no_plan, over, tries, plan}
use Rattle.division.specs.Marks.{mark_row}
use Rattle.division.specs.Cut.{listed, writes_pieces}
use Rattle.replies.specs.Results.{Result}
use Rattle.cut.specs.declared.Plan.{Plan}

-- ---- the count

-- what piece k holds besides its records; the bound keeps the sums small
pub record OverOf (w k r : ℕ) : Type 0 where
  pub is : r ≡ over w k
  pub most : r ≤ 42

-- r is where the last 0Ah stands, if there is one
abbrev pub LastMeans : List ℕ → Option ℕ → Type 0
LastMeans s None = (k : ℕ) → k < length s → get_or s k 0 ≡ 0x0a → ⊥
LastMeans s (Some i) = (i < length s) × (get_or s i 0 ≡ 0x0a) × ((k : ℕ) → i < k → k < length s → get_or s k 0 ≡ 0x0a → ⊥)

pub record LastOf (s : List ℕ) (r : Option ℕ) : Type 0 where
  pub means : LastMeans s r

-- the bytes of the first row
abbrev pub first_length : List (List ℕ) → ℕ
first_length [] = 0
first_length (r ∷ rs) = length r

-- "Records are packed as many as fit, in order": the rows from i to before e fit the capacity c beside u bytes, and the next does not
pub record RunAt (s : List ℕ) (i u c e : ℕ) : Type 0 where
  pub low : i ≤ e
  pub inside : e ≤ length s
  pub cut : rows (drop i s) ≡ rows (part s i e) ++ rows (drop e s)
  pub fits : i < e → u + (e - i) ≤ c
  pub next : e < length s → c < u + (e - i) + first_length (rows (drop e s))

-- the rows from position i on, packed from piece k on
unfoldable pub runs_at : List ℕ → ℕ → ℕ → ℕ → ℕ → Option (List (List (List ℕ)))
runs_at s c w k i = pack length (over w) c k (over w k) (rows (drop i s))

-- the number after the last piece's, where the first is k
abbrev pub past_last : ℕ → Option (List (List (List ℕ))) → Option ℕ
past_last k None = None
past_last k (Some xs) = Some (k + length xs)

unfoldable pub ends : List ℕ → ℕ → ℕ → ℕ → ℕ → Option ℕ
ends s c w k i = past_last k (runs_at s c w k i)

-- what the pieces 1 to k hold besides their records
unfoldable pub overheads : ℕ → ℕ → ℕ
overheads w zero = 0
overheads w (suc k) = overheads w k + over w (suc k)

-- the width, the count, and what the pieces hold besides their records
abbrev pub plan_of : List (List (List ℕ)) → Plan
plan_of xs = record { width = digit_count (length xs); count = length xs; bytes = overheads (digit_count (length xs)) (length xs) }

abbrev pub chosen_by : Runs (List ℕ) → Option Plan
chosen_by in_one = None
chosen_by (in_runs xs) = Some (plan_of xs)
chosen_by no_plan = None

-- the widths from w on
unfoldable pub chosen_from : List ℕ → ℕ → ℕ → Option Plan
chosen_from s c w = chosen_by (tries length c (4 - w) w (rows (drop 13 s)))

unfoldable pub chosen : List ℕ → ℕ → Option Plan
chosen s c = chosen_from s c 1

-- a file that is longer than the capacity
pub record Small (s : List ℕ) (c : ℕ) : Type 0 where
  pub bytes : length s ≤ 65536
  pub header : 13 ≤ length s
  pub more : c < length s

-- ---- the bytes of the pieces

-- the runs as pieces k, k + 1, .. of n
unfoldable pub numbered_as : List ℕ → List ℕ → ℕ → ℕ → List (List (List ℕ)) → List (List ℕ)
numbered_as head id n k [] = []
numbered_as head id n k (x ∷ xs) = (head ++ (flat x ++ mark_row id n k)) ∷ numbered_as head id n (suc k) xs

-- the same one after another
abbrev pub pieces_as : List ℕ → List ℕ → ℕ → ℕ → Option (List (List (List ℕ))) → List ℕ
pieces_as head id n k None = []
pieces_as head id n k (Some xs) = flat (numbered_as head id n k xs)

-- the pieces from piece k on, whose rows begin at i
unfoldable pub poured : List ℕ → ℕ → ℕ → List ℕ → ℕ → ℕ → ℕ → List ℕ
poured s c w id n k i = pieces_as (part s 0 13) id n k (runs_at s c w k i)

-- piece k of n, whose rows are the bytes from i to before e
unfoldable pub piece_as : List ℕ → List ℕ → ℕ → ℕ → ℕ → ℕ → List ℕ
piece_as s id n k i e = part s 0 13 ++ (part s i e ++ mark_row id n k)

-- a file that is longer than the capacity is cut by a plan of this width and count
pub record Planned (s : List ℕ) (c w n : ℕ) : Type 0 where
  pub small : Small s c
  pub wide : w ≤ 3
  pub few : n < 1000
  pub count : ends s c w 1 13 ≡ Some (n + 1)

-- a record 911 fits d from index at on
pub record MarkRoom (d : List ℕ) (at : ℕ) (id : List ℕ) (n k : ℕ) : Type 0 where
  pub few : k < 1000
  pub room : at + (8 + length id + length (spell n) + length (spell k)) ≤ length d

-- a piece does
pub record PieceRoom (d : List ℕ) (at : ℕ) (s : List ℕ) (i e : ℕ) (id : List ℕ) (n k : ℕ) : Type 0 where
  pub few : k < 1000
  pub low : i ≤ e
  pub inside : e ≤ length s
  pub room : at + length (piece_as s id n k i e) ≤ length d

-- ---- the answer for canonical bytes

abbrev pub planned_as : List ℕ → List ℕ → Runs (List ℕ) → Option (List (List ℕ))
planned_as id s in_one = Some (s ∷ [])
planned_as id s (in_runs xs) = Some (numbered_as (part s 0 13) id (length xs) 1 xs)
planned_as id s no_plan = None

unfoldable pub cutting_of : List ℕ → ℕ → List ℕ → Option (List (List ℕ))
cutting_of id c s = planned_as id s (plan length c (rows (drop 13 s)))

-- canonical bytes, and the length of an ID
pub record Given (s id : List ℕ) : Type 0 where
  pub bytes : length s ≤ 65536
  pub header : 13 ≤ length s
  pub ident : length id ≡ 14

-- what cutting them has to give
unfoldable pub cut_of_bytes : List ℕ → ℕ → List ℕ → Res Result
cut_of_bytes s c id = map_res writes_pieces (listed (cutting_of id c s))
