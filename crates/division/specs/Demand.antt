-- Promises, to be believed.
-- DEMAND 3, sentence by sentence, as statements about the definitions that the contracts of the exported calls cite: what the calls reply
-- and what they leave in their outputs. proofs/Promises.antt proves each. A file f is accepted if `read_file f ≡ ok b`; b is the notebook
-- that it carries.
use Rattle.std.specs.Prelude.{ℕ, ◌≤◌, ◌<◌, ◌≡◌, ◌↔◌, ◌⊎◌, true, List, [], ◌∷◌, ◌++◌, length, take, drop}
use Rattle.lists.specs.Lists.{All, Res, ok}
use Rattle.characters.specs.Rows.{flat}
use Rattle.notebook.specs.Notebook.{Notebook, read_file}
use Rattle.notebook.specs.Same.{SameNotebook, CarrySame}
use Rattle.notebook.specs.Canonical.{canonical_result}
use Rattle.ids.specs.Used.{unused}
use Rattle.division.specs.Marks.{valid_id}
use Rattle.division.specs.Pieces.{Piece, split}
use Rattle.division.specs.Cut.{cut_result}
use Rattle.division.specs.Join.{join_file, join_result}
use Rattle.replies.specs.declared.reply.Reply.{Reply}
use Rattle.replies.specs.Replies.{refusal, result}
use Rattle.replies.specs.Results.{Result, reply_to, output_of}
use Rattle.division.specs.Orders.{Perm}

-- ---- "Call a list of pieces sound for an accepted file and a capacity if .."

-- "The lists of demand 3 consist of whole pieces in this sense": joining's own split finds one piece and nothing else
pub record OnePiece (p : List ℕ) : Type 0 where
  pub piece : Piece
  pub is : split p ≡ ok (piece ∷ [])

-- no longer than the capacity: "A piece's length counts all its bytes"
pub record Within (c : ℕ) (p : List ℕ) : Type 0 where
  pub fits : length p ≤ c

pub record Sound (f : List ℕ) (c : ℕ) (ps : List (List ℕ)) : Type 0 where
  pub pieces : All OnePiece ps
  -- "no piece is longer than the capacity"
  pub fits : All (Within c) ps
  -- "joining accepts the list", its pieces "given to joining one after another"
  pub file : List ℕ
  pub joins : join_file (flat ps) ≡ ok file
  -- "the joined file carries the same notebook"
  pub same : CarrySame file f

-- ---- what the calls reply, in document 01's numbers, and leave in their outputs

-- A call has the bytes w to write, the same for every output. An output that can't hold them is refused with 20 and left as lent, and no other
-- is; another has them in front, and "Bytes past a written result keep their contents". x: what the call has to give; r: its reply then
pub record Delivers (x : Res Result) (r : Reply) (w : List ℕ) : Type 0 where
  pub withheld : (out : List ℕ) → (reply_to x out ≡ refusal 20 0) ↔ (length out < length w)
  pub kept : (out : List ℕ) → length out < length w → output_of x out ≡ out
  pub written : (out : List ℕ) → length w ≤ length out → (reply_to x out ≡ r) × (output_of x out ≡ w ++ drop (length w) out)

-- "canonical and join the bytes written"
abbrev pub CanonicalFile : List ℕ → List ℕ → Type 0
CanonicalFile f w = Delivers (canonical_result f) (result (length w) 0 0) w

abbrev pub JoinedFile : List ℕ → List ℕ → Type 0
JoinedFile s w = Delivers (join_result s) (result (length w) 0 0) w

-- ---- what cutting wrote

-- "The list that cutting writes is the first bytes of its output, as many as the total length in its result; the count in its result is the
-- number of pieces in them."
pub record ListIn (out : List ℕ) (n t : ℕ) (ps : List (List ℕ)) : Type 0 where
  pub bytes : take t out ≡ flat ps
  pub whole : All OnePiece ps
  pub count : length ps ≡ n

-- for an accepted file, any capacity, ID, run of used IDs and output
abbrev pub ForFile : (List ℕ → Notebook → ℕ → List ℕ → List ℕ → List ℕ → Type 0) → Type 0
ForFile P = (f : List ℕ) (b : Notebook) (c : ℕ) (id used out : List ℕ) → read_file f ≡ ok b → P f b c id used out

-- "Whenever our cutting writes a list, that list is sound for its file and capacity, and the result gives its number of pieces. Every other
-- list sound for them has at least as many." As what is written splits into whole pieces in one way only, the list is told by its bytes.
pub record Written (f : List ℕ) (c : ℕ) (out : List ℕ) (n t : ℕ) : Type 0 where
  pub list : List (List ℕ)
  pub is : ListIn out n t list
  -- the first t bytes of the output are t bytes
  pub inside : t ≤ length out
  pub sound : Sound f c list
  pub fewest : (qs : List (List ℕ)) → Sound f c qs → n ≤ length qs
  pub only : (qs : List (List ℕ)) → ListIn out (length qs) t qs → qs ≡ list

abbrev pub CuttingWrites : Type 0
CuttingWrites =
    ForFile (λ f b c id used out. (n t : ℕ) → reply_to (cut_result f c id used) out ≡ result n t 0 → Written f c (output_of (cut_result f c id used) out) n t)

-- ---- what cutting finds

-- Document 02 (vii): "For a run and an ID of 14 digits that 24 lets pass, which is now what demand 3 calls a valid ID"
pub record Valid (id used : List ℕ) : Type 0 where
  pub digits : valid_id id ≡ true
  pub passes : unused id used ≡ true

-- "For an accepted file and a valid ID, whatever the size of the output, cutting finds no list exactly when no sound one exists": "Cutting
-- finds no list when it answers 18"
abbrev pub CuttingFinds : Type 0
CuttingFinds =
    ForFile (λ f b c id used out. Valid id used → (reply_to (cut_result f c id used) out ≡ refusal 18 0) ↔ ((qs : List (List ℕ)) → Sound f c qs → ⊥))

-- "A list found is withheld exactly when the output can't hold it": it "withholds one when it answers 20"; else it is written. A list is
-- found if some output is not answered with 18, and it is one list for every output.
pub record Found (f : List ℕ) (c : ℕ) (id used : List ℕ) : Type 0 where
  pub list : List (List ℕ)
  pub sound : Sound f c list
  pub delivered : Delivers (cut_result f c id used) (result (length list) (length (flat list)) 0) (flat list)

abbrev pub CuttingWithholds : Type 0
CuttingWithholds = ForFile (λ f b c id used out. Valid id used → (reply_to (cut_result f c id used) out ≡ refusal 18 0 → ⊥) → Found f c id used)

-- So for an accepted file cutting writes a list, finds none or withholds one exactly if the ID is valid: "Cutting: 1–16, 17, 18, 20"; the others are 17 and 24
pub record Writes (r : Reply) : Type 0 where
  pub count : ℕ
  pub size : ℕ
  pub is : r ≡ result count size 0

abbrev pub OneOfThree : Reply → Type 0
OneOfThree r = Writes r ⊎ ((r ≡ refusal 18 0) ⊎ (r ≡ refusal 20 0))

abbrev pub CuttingSays : Type 0
CuttingSays = ForFile (λ f b c id used out. Valid id used ↔ OneOfThree (reply_to (cut_result f c id used) out))

-- ---- joining and canonical

-- "the output's size and 20 have no part in that": what `Sound` asks of a list is that the call join has a file to write for it. No file that
-- joining accepts is empty.
abbrev pub JoiningAccepts : Type 0
JoiningAccepts = (s : List ℕ) (x : ℕ) (w : List ℕ) → (join_file s ≡ ok (x ∷ w)) ↔ JoinedFile s (x ∷ w)

-- "Joining our pieces, in whichever order they lie, gives the canonical file of the file that was cut, when the output can hold it."
abbrev pub JoiningRestores : Type 0
JoiningRestores =
    ForFile (λ f b c id used out. (n t : ℕ) → reply_to (cut_result f c id used) out ≡ result n t 0
    → (ps qs : List (List ℕ)) → ListIn (output_of (cut_result f c id used) out) n t ps → Perm ps qs → (w : List ℕ) → CanonicalFile f w → JoinedFile (flat qs) w)

-- "Two accepted files have equal canonical files exactly when they carry the same notebook, and then neither is shorter than that canonical
-- file." The canonical file is what the call canonical has to write, and each accepted file has one.
pub record HasCanonical (f : List ℕ) : Type 0 where
  pub file : List ℕ
  pub is : CanonicalFile f file

abbrev pub CanonicalWrites : Type 0
CanonicalWrites = (f : List ℕ) (b : Notebook) → read_file f ≡ ok b → HasCanonical f

-- for two accepted files and their canonical files
abbrev pub ForTwo : (List ℕ → List ℕ → Notebook → Notebook → List ℕ → List ℕ → Type 0) → Type 0
ForTwo P =
    (f g : List ℕ) (a b : Notebook) → read_file f ≡ ok a → read_file g ≡ ok b
    → (v w : List ℕ) → CanonicalFile f v → CanonicalFile g w → P f g a b v w

abbrev pub CanonicalSame : Type 0
CanonicalSame = ForTwo (λ f g a b v w. (v ≡ w) ↔ SameNotebook a b)

abbrev pub CanonicalShortest : Type 0
CanonicalShortest = ForTwo (λ f g a b v w. SameNotebook a b → (length v ≤ length f) × (length v ≤ length g))
