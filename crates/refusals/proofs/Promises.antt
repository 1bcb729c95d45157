-- DEMAND 1 (specs/Refusals.antt): every call's reply is a result or one of its refusals with its line, and a refusal leaves the lent buffer as it was.
-- Assumes nothing.
use Prim.Native.Nat.{ℕ, ◌<◌}
use native.Mathlib.Omega.{arith}
use mathlib.Core.Path.{◌≡◌, refl, sym, ap}
use mathlib.Core.Bool.{Bool, true, false, cond}
use Rattle.std.specs.Prelude.{Option, Some, None}
use mathlib.Core.List.{List, []}
use borrow.Author.Tests.{lt-leb}
use lib.Dec.{leb}
use lib.ListN.{length}
use Rattle.lists.specs.Lists.{Res, ok, refused, map_res, and_then, member}
use Rattle.lists.proofs.Tests.{below}
use Rattle.replies.specs.declared.reply.Reply.{Reply}
use Rattle.replies.specs.Replies.{reply_of}
use Rattle.replies.specs.Results.{Result, answer_of, at_exit, fitting, answer_in, reply_to, output_of}
use Rattle.replies.proofs.Results.{gives_refusal}
use Rattle.notebook.specs.Notebook.{Notebook, read_file}
use Rattle.notebook.specs.Same.{arrange}
use Rattle.notebook.specs.Check.{counted, check_result}
use Rattle.notebook.specs.Index.{index_result}
use Rattle.notebook.specs.Canonical.{canonical_file, canonical_result}
use Rattle.ids.specs.Used.{unused}
use Rattle.division.specs.Marks.{valid_id}
use Rattle.division.specs.Cut.{cutting, listed, for_id, list_for, cut_list, cut_result}
use Rattle.division.specs.Join.{joined_file, join_file, join_result}
use Rattle.refusals.specs.Refusals.{Call, check, index, canonical, cut, join, about, check_numbers, writing_numbers, cut_numbers, join_numbers}
use Rattle.refusals.specs.Refusals.{Given, IsAnswer, gives, refuses, IsResult, AlwaysAnswered, RefusalKeeps, ZeroIsAResult, LargeFirst}
use Rattle.refusals.proofs.Reading.{Refuses, without_line, file_refuses}
use Rattle.refusals.proofs.Joining.{join_refuses}

-- ---- what a call has to give, and its reply

-- what is made of a value leaves the refusals as they are
mapped : {A B : Type 0} (P : ℕ → ℕ → Type 0) (f : A → B) (x : Res A) → Refuses P x → Refuses P (map_res f x)
mapped P f (ok a) h = tt
mapped P f (refused n line) h = h

then_refuses : {A B : Type 0} (P : ℕ → ℕ → Type 0) (f : A → Res B) (x : Res A) → Refuses P x → ((a : A) → Refuses P (f a)) → Refuses P (and_then x f)
then_refuses P f (ok a) h k = k a
then_refuses P f (refused n line) h k = h

-- then 20, and the reply
answers : {ns s : List ℕ} (x : Res Result) (d : List ℕ) → member ns 20 ≡ true → Refuses (Given ns s) x → IsAnswer ns s (reply_to x d)
unfolding answer_in
answers {ns} {s} (refused n line) d m h = refuses h
answers {ns} {s} (ok r) d m h = fits (leb (length r.written) (length d))
  where
    fits : (b : Bool) → IsAnswer ns s (reply_of (answer_of (cond b (ok r) (refused 20 0))))
    fits true = gives
    fits false = refuses (without_line 20 (omega arith) m refl)

-- ---- the calls: check writes nothing, so that it never gives 20

check_answers : (s : List ℕ) → IsAnswer check_numbers s (reply_to (check_result s) [])
unfolding answer_in check_result below
check_answers s = go (read_file s) (file_refuses check_numbers refl s)
  where
    go : (x : Res Notebook) → Refuses (Given check_numbers s) x → IsAnswer check_numbers s (reply_of (answer_of (fitting (map_res counted x) [])))
    go (ok b) h = gives
    go (refused n line) h = refuses h

cut_refuses : (s : List ℕ) (c : ℕ) (id used : List ℕ) → Refuses (Given cut_numbers s) (cut_list s c id used)
unfolding cut_list below
cut_refuses s c id used =
    then_refuses (Given cut_numbers s) (list_for id used c) (read_file s) (file_refuses cut_numbers refl s)
    (λ b. valid (valid_id id) (unused id used) (cutting id c (arrange b)))
  where
    list : (ps : Option (List (List ℕ))) → Refuses (Given cut_numbers s) (listed ps)
    list None = without_line 18 (omega arith) refl refl
    list (Some ps) = tt

    valid : (v u : Bool) (ps : Option (List (List ℕ))) → Refuses (Given cut_numbers s) (for_id v u (listed ps))
    valid true true ps = list ps
    valid true false ps = without_line 24 (omega arith) refl refl
    valid false u ps = without_line 17 (omega arith) refl refl

-- ---- EVERY CALL

pub always_answered : AlwaysAnswered
unfolding index_result canonical_file canonical_result cut_result join_result below
always_answered (check f) = check_answers f
always_answered (index f out) = answers (index_result f) out refl (mapped _ _ (read_file f) (file_refuses writing_numbers refl f))
always_answered (canonical f out) = answers (canonical_result f) out refl (mapped _ _ (canonical_file f) (mapped _ _ (read_file f) (file_refuses writing_numbers refl f)))
always_answered (cut f c id used out) = answers (cut_result f c id used) out refl (mapped _ _ (cut_list f c id used) (cut_refuses f c id used))
always_answered (join s out) = answers (join_result s) out refl (mapped _ _ (join_file s) (join_refuses join_numbers refl s refl))

pub zero_is_a_result : ZeroIsAResult
zero_is_a_result x e = go (always_answered x) e
  where
    go : {r : Reply} → IsAnswer (about x).numbers (about x).given r → r.refusal ≡ 0 → IsResult r
    go (gives {a = a} {b = b} {c = c}) e = record { a = a; b = b; c = c; is = refl }
    go (refuses h) e = absurd (omega (arith, h.positive))

-- ---- the lent buffer

keeps : (x : Res Result) (d : List ℕ) → ((reply_to x d).refusal ≡ 0 → ⊥) → output_of x d ≡ d
unfolding answer_in output_of
keeps x d h = go (fitting x d) h
  where
    go : (y : Res Result) → ((reply_of (answer_of y)).refusal ≡ 0 → ⊥) → at_exit (λ (r : Result). r.written) y d ≡ d
    go (ok r) h = absurd (h refl)
    go (refused n line) h = refl

pub refusal_keeps : RefusalKeeps
refusal_keeps x h = keeps (about x).result (about x).lent h

-- ---- number 1

large : (s : List ℕ) → 65536 < length s → read_file s ≡ refused 1 0
unfolding read_file
large s h = rw (lt-leb (length s) 65536 h)

large_pieces : (s : List ℕ) → 131072 < length s → join_file s ≡ refused 1 0
unfolding join_file joined_file
large_pieces s h = rw (lt-leb (length s) 131072 h)

large_result : (x : Call) → (about x).limit < length (about x).given → (about x).result ≡ refused 1 0
unfolding check_result index_result canonical_file canonical_result cut_result cut_list join_result
large_result (check f) h = rw (large f (omega arith))
large_result (index f out) h = rw (large f (omega arith))
large_result (canonical f out) h = rw (large f (omega arith))
large_result (cut f c id used out) h = rw (large f (omega arith))
large_result (join s out) h = rw (large_pieces s (omega arith))

pub large_first : LargeFirst
large_first x h = sym (ap reply_of (gives_refusal (about x).lent (large_result x h)).answer)
