-- Vocabulary of the code.
-- Pieces by positions in the input, as the code of joining carries them: a body is the bytes from a position to a position, and two tables
-- have the k's of the parts and their bodies, as they lie. The laws in proofs/ show that they stand for the lists of rows of Join.antt; the call's own
-- contract names Join.antt alone.
use Rattle.std.specs.Prelude.{ℕ, ◌+◌, ◌≤◌, ◌<◌, ◌≡◌, Bool, true, false, ◌&&◌, ◌⊎◌, List, [], ◌∷◌, eqb, length, take, drop, get_or, set, Some, None, Result, Ok, Err, ⊤, Option}
use Rattle.lists.specs.Lists.{Res, ok, refused}
use Rattle.lists.specs.Searching.{part}
use Rattle.characters.specs.Text.{text}
use Rattle.characters.specs.Rows.{rows, flat, is_line}
use Rattle.buffers.specs.Buffers.{Wrote}
use Rattle.division.specs.Marks.{read_mark}
use Rattle.division.specs.Pieces.{RowKind, head, end_head, body, end, broken, kind_of, body_of, pieces_in}
use Rattle.pieces.specs.Answers.{RowAt}
use Rattle.replies.specs.declared.refusal.Refusal.{Refusal}
use Rattle.replies.specs.declared.refusal.Refusal.TheVariants.{Large, Set}
use Rattle.replies.specs.declared.refusal.Refused.{Refused}
use Rattle.replies.specs.Refusals.{number_of}
use Rattle.join.specs.declared.rows.Opening.{Opening}
use Rattle.pieces.specs.declared.Mark.{Mark}
use Rattle.join.specs.declared.body.Lines.{Lines}
use Rattle.join.specs.declared.member.Span.{Span}
use Rattle.join.specs.declared.member.Member.{Member}
use Rattle.join.specs.declared.set.Members.{Members}
use Rattle.division.specs.Join.{unmarked, Part, last_mark, part_of, part_with, all_parts, agree, find_part, gather, one_piece, or_set}
use Rattle.search.specs.Search.{ks_of, piece_after}

-- ---- rows that break no rule of line ends, so that the pieces are read before it is known where one does

abbrev pub is_whole : RowKind → Bool
is_whole (head d) = true
is_whole (end_head d) = true
is_whole body = true
is_whole end = true
is_whole broken = false

-- after a line 1, where a 1Ah is in place
unfoldable pub unbroken : List (List ℕ) → Bool
unbroken [] = true
unbroken (r ∷ rs) = is_whole (kind_of r) && unbroken rs

abbrev pub is_head : RowKind → Bool
is_head (head d) = true
is_head (end_head d) = false
is_head body = false
is_head end = false
is_head broken = false

-- of the whole input: neither 2 nor "a line stands before the first"
abbrev pub sound : List (List ℕ) → Bool
sound [] = false
sound (r ∷ rs) = is_head (kind_of r) && unbroken rs

-- whether the first row is one of a piece's
abbrev pub is_body : RowKind → Bool
is_body (head d) = false
is_body (end_head d) = false
is_body body = true
is_body end = false
is_body broken = false

abbrev pub goes_on : List (List ℕ) → Bool
goes_on [] = false
goes_on (r ∷ rs) = is_body (kind_of r)

-- ---- the next piece at a position: its line 1 ends at e

pub record Opened (s : List ℕ) (at e : ℕ) (d : Bool) : Type 0 where
  pub low : at < e
  pub high : e ≤ length s
  pub is : pieces_in (rows (drop at s)) ≡ record { provider = d; rows = body_of (rows (drop e s)) } ∷ pieces_in (rows (drop e s))
  pub whole : unbroken (rows (drop at s)) ≡ unbroken (rows (drop e s))

-- no more pieces
pub record Ended (s : List ℕ) (at : ℕ) : Type 0 where
  pub is : pieces_in (rows (drop at s)) ≡ []
  pub whole : unbroken (rows (drop at s)) ≡ true

-- a row that does not go on with a piece is broken
pub record Stray (s : List ℕ) (at : ℕ) (r : Refusal) : Type 0 where
  pub number : r ≡ Set
  pub broken : goes_on (rows (drop at s)) ≡ false → unbroken (rows (drop at s)) ≡ false

abbrev pub NextMeans : List ℕ → ℕ → Result (Option Opening) Refusal → Type 0
NextMeans s at (Ok (Some o)) = Opened s at o.end o.provider
NextMeans s at (Ok None) = Ended s at
NextMeans s at (Err r) = Stray s at r

pub record NextIs (s : List ℕ) (at : ℕ) (r : Result (Option Opening) Refusal) : Type 0 where
  pub means : NextMeans s at r

-- the first piece: no 1Ah stands before its line 1
pub record OpenedFirst (s : List ℕ) (e : ℕ) (d : Bool) : Type 0 where
  pub opened : Opened s 0 e d
  pub over : goes_on (rows s) ≡ false
  pub sound : sound (rows s) ≡ unbroken (rows (drop e s))

-- no line 1 at the front
pub record Unopened (s : List ℕ) (r : Refusal) : Type 0 where
  pub number : r ≡ Set
  pub sound : sound (rows s) ≡ false

abbrev pub FirstMeans : List ℕ → Result Opening Refusal → Type 0
FirstMeans s (Ok o) = OpenedFirst s o.end o.provider
FirstMeans s (Err r) = Unopened s r

pub record FirstIs (s : List ℕ) (r : Result Opening Refusal) : Type 0 where
  pub means : FirstMeans s r

-- ---- the line of the first broken row: the definition has 0 for none

abbrev pub LineMeans : ℕ → Option ℕ → Type 0
LineMeans n None = n ≡ 0
LineMeans n (Some line) = (line ≡ n) × (1 ≤ line)

pub record LineIs (n : ℕ) (r : Option ℕ) : Type 0 where
  pub means : LineMeans n r

-- ---- the rows of a piece, from after its line 1 on

-- a row that is a line
pub record LineAt (s : List ℕ) (at e : ℕ) : Type 0 where
  pub row : RowAt s at e
  pub line : is_line (part s at e) ≡ true

-- no record 911: the rows end at stop
pub record PlainLines (s : List ℕ) (from to stop : ℕ) : Type 0 where
  pub all : to ≡ stop
  pub low : from ≤ stop
  pub high : stop ≤ length s
  pub plain : unmarked (body_of (rows (drop from s))) ≡ true
  pub none : (d : Bool) → part_of d (body_of (rows (drop from s))) ≡ None
  pub bytes : flat (body_of (rows (drop from s))) ≡ part s from stop
  pub next : pieces_in (rows (drop from s)) ≡ pieces_in (rows (drop stop s))
  pub over : goes_on (rows (drop stop s)) ≡ false
  pub whole : unbroken (rows (drop from s)) ≡ unbroken (rows (drop stop s))

-- a part by its direction, ID, count, place and rows
abbrev pub part_by : Bool → List ℕ → ℕ → ℕ → List (List ℕ) → Part
part_by d i n k rs = record { provider = d; mark = record { ident = i; count = n; place = k }; rows = rs }

-- the ID of a record 911 that begins at last
abbrev pub ident_at : List ℕ → ℕ → List ℕ
ident_at s last = part s (last + 4) (last + 18)

-- a record 911 from last to stop, n and k read, and the rows before it
pub record MarkedLines (s : List ℕ) (from last stop n k : ℕ) : Type 0 where
  pub low : from ≤ last
  pub ident : last + 18 ≤ stop
  pub high : stop ≤ length s
  pub count : n ≤ 999
  pub place : k ≤ 999
  pub marked : unmarked (body_of (rows (drop from s))) ≡ false
  pub lines : List (List ℕ)
  pub is : (d : Bool) → part_of d (body_of (rows (drop from s))) ≡ Some (part_by d (ident_at s last) n k lines)
  pub bytes : flat lines ≡ part s from last
  pub next : pieces_in (rows (drop from s)) ≡ pieces_in (rows (drop stop s))
  pub over : goes_on (rows (drop stop s)) ≡ false
  pub whole : unbroken (rows (drop from s)) ≡ unbroken (rows (drop stop s))

-- a record 911 that is not the last row, or cannot be read
pub record WrongLines (s : List ℕ) (from : ℕ) (r : Refusal) : Type 0 where
  pub number : r ≡ Set
  pub marked : unmarked (body_of (rows (drop from s))) ≡ false
  pub none : (d : Bool) → part_of d (body_of (rows (drop from s))) ≡ None

-- the record 911 from at to e, and what is after it
pub record LastMark (s : List ℕ) (at e n k : ℕ) : Type 0 where
  pub ident : at + 18 ≤ e
  pub count : n ≤ 999
  pub place : k ≤ 999
  pub read : read_mark (text (part s at e)) ≡ Some (record { ident = ident_at s at; count = n; place = k })
  pub last : goes_on (rows (drop e s)) ≡ false

-- or it is not the last row, or cannot be read
pub record WrongMark (s : List ℕ) (at e : ℕ) (r : Refusal) : Type 0 where
  pub number : r ≡ Set
  pub none : (d : Bool) → last_mark d (body_of (rows (drop e s))) (read_mark (text (part s at e))) ≡ None

abbrev pub LastMeans : List ℕ → ℕ → ℕ → Result Mark Refusal → Type 0
LastMeans s at e (Ok m) = LastMark s at e m.count m.place
LastMeans s at e (Err r) = WrongMark s at e r

pub record LastIs (s : List ℕ) (at e : ℕ) (r : Result Mark Refusal) : Type 0 where
  pub means : LastMeans s at e r

abbrev pub MarkMeans : List ℕ → ℕ → ℕ → ℕ → Option Mark → Type 0
MarkMeans s from to stop None = PlainLines s from to stop
MarkMeans s from to stop (Some m) = MarkedLines s from to stop m.count m.place

abbrev pub LinesMean : List ℕ → ℕ → Result Lines Refusal → Type 0
LinesMean s from (Ok l) = MarkMeans s from l.end l.stop l.mark
LinesMean s from (Err r) = WrongLines s from r

pub record LinesAre (s : List ℕ) (from : ℕ) (r : Result Lines Refusal) : Type 0 where
  pub mean : LinesMean s from r

-- ---- a set: its pieces agree in direction, ID and count

abbrev pub like : Bool → List ℕ → ℕ → Part
like d i n = part_by d i n 0 []

abbrev pub agreed : Bool → List ℕ → ℕ → Option (List Part) → Bool
agreed d i n None = false
agreed d i n (Some ps) = agree (like d i n) ps

-- n parts
abbrev pub is_set : Bool → List ℕ → ℕ → Option (List Part) → Bool
is_set d i n None = false
is_set d i n (Some ps) = agree (like d i n) ps && eqb (length ps) n

-- the bytes of a span
abbrev pub bytes_of : List ℕ → Span → List ℕ
bytes_of s x = part s x.from x.to

-- a piece with a record 911, as a part of these rows
abbrev pub part_at : List ℕ → Member → List (List ℕ) → Part
part_at s x lines = part_by x.provider (ident_at s x.rows.to) x.mark.count x.mark.place lines

-- a position in an input within the limit
pub record Within (s : List ℕ) (e : ℕ) : Type 0 where
  pub high : e ≤ length s
  pub small : length s ≤ 131072

-- the piece with a line 1, as a part of a set like x
pub record MemberAt (s : List ℕ) (o : Opening) (x m : Member) : Type 0 where
  pub low : o.end ≤ m.rows.to
  pub mid : m.rows.to ≤ m.stop
  pub high : m.stop ≤ length s
  pub place : m.mark.place ≤ 999
  pub from : m.rows.from ≡ o.end
  pub lines : List (List ℕ)
  pub is : part_of o.provider (body_of (rows (drop o.end s))) ≡ Some (part_by x.provider (ident_at s x.rows.to) x.mark.count m.mark.place lines)
  pub bytes : flat lines ≡ bytes_of s m.rows
  pub next : pieces_in (rows (drop o.end s)) ≡ pieces_in (rows (drop m.stop s))
  pub over : goes_on (rows (drop m.stop s)) ≡ false
  pub whole : unbroken (rows (drop o.end s)) ≡ unbroken (rows (drop m.stop s))

-- it is none
pub record Foreign (s : List ℕ) (o : Opening) (x : Member) (r : Refusal) : Type 0 where
  pub number : r ≡ Set
  pub none : (ps : Option (List Part)) → agreed x.provider (ident_at s x.rows.to) x.mark.count (part_with (part_of o.provider (body_of (rows (drop o.end s)))) ps) ≡ false

abbrev pub MemberMeans : List ℕ → Opening → Member → Result Member Refusal → Type 0
MemberMeans s o x (Ok m) = MemberAt s o x m
MemberMeans s o x (Err r) = Foreign s o x r

pub record MemberIs (s : List ℕ) (o : Opening) (x : Member) (r : Result Member Refusal) : Type 0 where
  pub means : MemberMeans s o x r

-- ---- the tables of the pieces as they lie: the k's, and where their rows lie

-- the rows of the piece after i others
abbrev pub rows_at : {N : ℕ} → Members N → ℕ → Span
rows_at t i = get_or t.rows i (record { from = 0; to = 0 })

-- what is stored after the others
pub record Stored {N : ℕ} (t t' : Members N) (x : Member) : Type 0 where
  pub count : t'.count ≡ t.count + 1
  pub numbers : t'.ks ≡ set t.ks t.count x.mark.place
  pub rows : t'.rows ≡ set t.rows t.count x.rows

-- the rows lie in s
pub record Bounds {N : ℕ} (s : List ℕ) (t : Members N) : Type 0 where
  pub low : (i : ℕ) → i < t.count → (rows_at t i).from ≤ (rows_at t i).to
  pub high : (i : ℕ) → i < t.count → (rows_at t i).to ≤ length s

-- the pieces are these parts
pub record Listed {N : ℕ} (s : List ℕ) (t : Members N) (ps : List Part) : Type 0 where
  pub count : length ps ≡ t.count
  pub numbers : take t.count t.ks ≡ ks_of ps
  pub bytes : (i : ℕ) (p : Part) → piece_after i ps ≡ Some p → flat p.rows ≡ bytes_of s (rows_at t i)

-- the first piece of a set
pub record First (s : List ℕ) (x : Member) : Type 0 where
  pub small : length s ≤ 131072
  pub count : x.mark.count ≤ 999
  pub number : x.mark.place ≤ 999
  pub low : x.rows.from ≤ x.rows.to
  pub ident : x.rows.to + 18 ≤ x.stop
  pub high : x.stop ≤ length s
  pub lines : List (List ℕ)
  pub bytes : flat lines ≡ bytes_of s x.rows
  pub is : all_parts (pieces_in (rows s)) ≡ part_with (Some (part_at s x lines)) (all_parts (pieces_in (rows (drop x.stop s))))
  pub over : goes_on (rows (drop x.stop s)) ≡ false
  pub sound : sound (rows s) ≡ unbroken (rows s)
  pub whole : unbroken (rows s) ≡ unbroken (rows (drop x.stop s))

pub record Collected {N : ℕ} (s : List ℕ) (x : Member) (t : Members N) : Type 0 where
  pub seen : List Part
  pub parts : all_parts (pieces_in (rows s)) ≡ Some seen
  pub agrees : agree (like x.provider (ident_at s x.rows.to) x.mark.count) seen ≡ true
  pub count : t.count ≡ x.mark.count
  pub bounds : Bounds s t
  pub listed : Listed s t seen
  pub whole : unbroken (rows s) ≡ true

-- of rows that are broken, a refusal says nothing
pub record NoSet (s : List ℕ) (x : Member) (r : Refusal) : Type 0 where
  pub number : r ≡ Set
  pub none : unbroken (rows s) ≡ true → is_set x.provider (ident_at s x.rows.to) x.mark.count (all_parts (pieces_in (rows s))) ≡ false

abbrev pub CollectMeans : {N : ℕ} → List ℕ → Member → Members N → Result ⊤ Refusal → Type 0
CollectMeans s x t (Ok u) = Collected s x t
CollectMeans s x t (Err r) = NoSet s x r

pub record CollectIs {N : ℕ} (s : List ℕ) (x : Member) (t : Members N) (r : Result ⊤ Refusal) : Type 0 where
  pub means : CollectMeans s x t r

-- ---- a piece that is looked for

-- its index in the tables, of whichever parts they have
pub record SpotAt {N : ℕ} (t : Members N) (k : ℕ) (x : Span) : Type 0 where
  pub index : ℕ
  pub inside : index < t.count
  pub rows : x ≡ rows_at t index
  pub found : (ps : List Part) → length ps ≡ t.count → take t.count t.ks ≡ ks_of ps → (p : Part) × (find_part k ps ≡ Some p) × (piece_after index ps ≡ Some p)

abbrev pub SpotMeans : {N : ℕ} → Members N → ℕ → Option Span → Type 0
SpotMeans t k (Some x) = SpotAt t k x
SpotMeans t k None = (ps : List Part) → length ps ≡ t.count → take t.count t.ks ≡ ks_of ps → find_part k ps ≡ None

pub record SpotIs {N : ℕ} (t : Members N) (k : ℕ) (r : Option Span) : Type 0 where
  pub means : SpotMeans t k r

-- ---- the buffer: the gathered rows from index at on; or they do not fit; or a part is missing

-- w from index at on, if it fits
pub record PutIs (d d' : List ℕ) (at r : ℕ) (w : List ℕ) : Type 0 where
  pub next : r ≡ at + length w
  pub size : length d' ≡ length d
  pub wrote : r ≤ length d → Wrote d d' at r w

-- 19 for a part that is missing, or 1 where the buffer cannot hold these rows
abbrev pub NotFilled : List ℕ → ℕ → Option (List (List ℕ)) → Refusal → Type 0
NotFilled d at w r = ((r ≡ Set) × (w ≡ None)) ⊎ ((r ≡ Large) × ((rs : List (List ℕ)) × (w ≡ Some rs) × (length d < at + length (flat rs))))

abbrev pub FillMeans : List ℕ → List ℕ → ℕ → Option (List (List ℕ)) → Result ℕ Refusal → Type 0
FillMeans d d' at w (Ok r) = (rs : List (List ℕ)) × (w ≡ Some rs) × Wrote d d' at r (flat rs)
FillMeans d d' at w (Err r) = NotFilled d at w r

-- of whichever parts the tables have
pub record FillIs {N : ℕ} (d d' : List ℕ) (at : ℕ) (s : List ℕ) (t : Members N) (r : Result ℕ Refusal) : Type 0 where
  pub means : (ps : List Part) → Listed s t ps → FillMeans d d' at (gather ps t.count 1) r
  pub size : length d' ≡ length d

pub record FillRoom {N : ℕ} (d : List ℕ) (at : ℕ) (s : List ℕ) (t : Members N) : Type 0 where
  pub bounds : Bounds s t
  pub some : 1 ≤ t.count
  pub count : t.count ≤ 999
  pub room : at ≤ length d
  pub start : at ≤ 13
  pub small : length s ≤ 131072

-- ---- the joined file in a buffer of m bytes; or the refusal

-- the buffer cannot hold the file
abbrev pub TooLong : Res (List ℕ) → List ℕ → Type 0
TooLong x d = (w : List ℕ) × (x ≡ ok w) × (length d < length w)

-- sure: the input is sound. Of one that is not, 19 says nothing.
abbrev pub NotMade : Bool → Res (List ℕ) → List ℕ → Refusal → Type 0
NotMade sure x d r = ((r ≡ Set) × (sure ≡ true → x ≡ refused 19 0)) ⊎ ((r ≡ Large) × (sure ≡ true) × TooLong x d)

abbrev pub MadeMeans : Bool → Res (List ℕ) → List ℕ → Result ℕ Refusal → Type 0
MadeMeans sure x d (Ok t) = (sure ≡ true) × (x ≡ ok (take t d)) × (t ≤ length d)
MadeMeans sure x d (Err r) = NotMade sure x d r

pub record MadeIs (sure : Bool) (m : ℕ) (x : Res (List ℕ)) (d : List ℕ) (r : Result ℕ Refusal) : Type 0 where
  pub means : MadeMeans sure x d r
  pub size : length d ≡ m

-- the rows of a set, line 1 of a direction before them
abbrev pub with_head : Bool → Option (List (List ℕ)) → Res (List ℕ)
with_head side x = or_set (one_piece side x)

-- of whichever parts the tables have
pub record SetIs {N : ℕ} (m : ℕ) (side : Bool) (s : List ℕ) (t : Members N) (d : List ℕ) (r : Result ℕ Refusal) : Type 0 where
  pub made : (ps : List Part) → Listed s t ps → MadeIs true m (with_head side (gather ps t.count 1)) d r
  pub size : length d ≡ m

-- of any input
abbrev pub JoinedMeans : Res (List ℕ) → List ℕ → Result ℕ Refused → Type 0
JoinedMeans x d (Ok t) = (x ≡ ok (take t d)) × (t ≤ length d)
JoinedMeans x d (Err r) = (x ≡ refused (number_of r.refusal) r.line) ⊎ ((r ≡ record { refusal = Large; line = 0 }) × TooLong x d)

pub record JoinedIs (m : ℕ) (x : Res (List ℕ)) (d : List ℕ) (r : Result ℕ Refused) : Type 0 where
  pub means : JoinedMeans x d r
  pub size : length d ≡ m

-- ---- the buffer, and what it is lent for

-- a span of the input
pub record Given (d s : List ℕ) (x : Span) : Type 0 where
  pub line : 13 ≤ length d
  pub low : x.from ≤ x.to
  pub high : x.to ≤ length s

-- the tables of a set
pub record GivenSet {N : ℕ} (d s : List ℕ) (t : Members N) : Type 0 where
  pub line : 13 ≤ length d
  pub small : length s ≤ 131072
  pub bounds : Bounds s t
  pub some : 1 ≤ t.count
  pub count : t.count ≤ 999

-- the first of a set, and tables that have no piece yet
pub record FirstIn {N : ℕ} (d s : List ℕ) (x : Member) (t : Members N) : Type 0 where
  pub line : 13 ≤ length d
  pub first : First s x
  pub more : 1 < x.mark.count
  pub room : x.mark.count ≤ N
  pub none : t.count ≡ 0

-- an input within the limit
pub record Input (d s : List ℕ) : Type 0 where
  pub line : 13 ≤ length d
  pub small : length s ≤ 131072
