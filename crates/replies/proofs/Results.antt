-- The answer of a call and its output at exit, by what it has to give: a refusal, a result that the output can't hold, a result that was written.
-- Assumes nothing.
use Prim.Native.Nat.{ℕ, ◌-◌, ◌≤◌, ◌<◌}
use native.Mathlib.Omega.{arith}
use mathlib.Core.Path.{◌≡◌, ◌∙◌, subst}
use mathlib.Core.List.{List, ◌++◌}
use borrow.Author.Tests.{le-leb, lt-leb}
use lib.ListN.{length, take, drop}
use lib.Seq.{length-take-le}
use Rattle.lists.specs.Lists.{Res, ok, refused}
use Rattle.buffers.specs.Buffers.{Room, Wrote}
use Rattle.buffers.proofs.Runs.{sets_all}
use Rattle.replies.specs.Replies.{Done, Refused}
use Rattle.replies.specs.Results.{Result, writes, answer_in, output_of}
use Rattle.replies.specs.CallContracts.{Gives}

module _ {x : Res Result} (d : List ℕ) where
  pub gives_refusal : {n line : ℕ} → x ≡ refused n line → Gives x d d (Refused n line)
  unfolding answer_in output_of
  gives_refusal e = record { answer = rw e; output = rw e }

  module _ {r : Result} (e : x ≡ ok r) where
    pub gives_20 : length d < length r.written → Gives x d d (Refused 20 0)
    unfolding answer_in output_of
    gives_20 h = let s = lt-leb (length r.written) (length d) h in record { answer = rw (e, s); output = rw (e, s) }

    pub gives_result : length r.written ≤ length d → Gives x d (r.written ++ drop (length r.written) d) (Done r.a r.b r.c)
    unfolding answer_in output_of
    gives_result h = let s = le-leb (length r.written) (length d) h in record { answer = rw (e, s); output = rw (e, s) }

    pub gives_written : {d' : List ℕ} {i : ℕ} → Wrote d d' 0 i r.written → Gives x d d' (Done r.a r.b r.c)
    gives_written w =
        let h : length r.written ≤ length d = omega (arith, w.next, w.high) in
        let g = gives_result h in
        record { answer = g.answer; output = w.list ∙ sets_all r.written d h ∙ g.output }

-- ---- a call that has the first t bytes of an array to write, as the code takes them

module _ {x : Res Result} (a d : List ℕ) {t : ℕ} (h : t ≤ length a) (e : x ≡ ok (writes (take (t - 0) (drop 0 a)))) where
  front_length : length (take (t - 0) (drop 0 a)) ≡ t
  front_length = length-take-le (t - 0) a (omega (arith, h)) ∙ omega arith

  pub front_20 : length d < t → Gives x d d (Refused 20 0)
  front_20 s = gives_20 d e (omega (arith, front_length))

  pub front_room : t ≤ length d → Room d 0 (take (t - 0) (drop 0 a))
  front_room s = omega (arith, front_length)

  pub front_written : {d' : List ℕ} {i : ℕ} → Wrote d d' 0 i (take (t - 0) (drop 0 a)) → Gives x d d' (Done t 0 0)
  front_written {d'} w = subst (λ (n : ℕ). Gives x d d' (Done n 0 0)) front_length (gives_written d e w)
