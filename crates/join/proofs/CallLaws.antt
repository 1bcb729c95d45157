-- The joined file, checked, and the output. Assumes nothing.
use Prim.Native.Nat.{ℕ, ◌≤◌, ◌<◌}
use mathlib.Core.Path.{◌≡◌, sym, ap, ◌∙◌, subst}
use mathlib.Core.Logic.{◌⊎◌, inl, inr}
use mathlib.Core.List.{List, []}
use native.Mathlib.Omega.{arith}
use borrow.Author.Tests.{lt-leb}
use mir.Val.{Fits}
use mir.Syntax.{w32}
use lib.ListN.{length, take}
use lib.Seq.{length-take-le}
use Rattle.std.specs.Prelude.{Ok, Err}
use Rattle.lists.specs.Lists.{Res, ok, refused, map_res}
use Rattle.buffers.specs.Buffers.{Wrote}
use Rattle.buffers.specs.Room.{Roomy}
use Rattle.replies.specs.declared.refusal.Refusal.TheVariants.{Large, Short}
use Rattle.replies.specs.declared.refusal.Refused.{Refused}
use Rattle.replies.specs.declared.reply.Values.{Values}
use Rattle.replies.specs.Refusals.{number_of}
use Rattle.replies.specs.Replies.{Done}
use Rattle.replies.specs.Refusals.{answer}
use Rattle.replies.specs.Results.{writes, answer_in}
use Rattle.replies.specs.CallContracts.{Gives}
use Rattle.replies.proofs.Results.{gives_refusal, gives_20, gives_written}
use Rattle.notebook.specs.Notebook.{Notebook, read_file}
use Rattle.notebook.specs.Check.{check_result}
use Rattle.notebook.proofs.Answered.{answer_refused, answer_accepted}
use Rattle.division.specs.Join.{joined_file, checked_file, then_checked, join_file, join_result}
use Rattle.division.proofs.Lengths.{joined_no_longer}
use Rattle.join.specs.Spans.{TooLong, JoinedIs}

too_large : (w : List ℕ) → 65536 < length w → then_checked (ok w) ≡ refused 1 0
unfolding read_file
too_large w h = rw (lt-leb (length w) 65536 h)

module _ (s : List ℕ) {B₀ B : List ℕ} (h : Roomy (length s) B₀) (d : List ℕ) where
  -- no joined file is longer than the input: the buffer is that of the longest file, and this one is longer
  pub join_no : {r : Refused} → JoinedIs (length B₀) (joined_file s) B (Err r) → Gives (join_result s) d d (answer (Err r))
  unfolding join_result join_file
  join_no {r} x = go x.means
    where
      beyond : (w : List ℕ) → length w ≤ length s → length B < length w → 65536 < length w
      beyond w l g = omega (arith, h.room (omega (arith, x.size)), x.size)

      go : (joined_file s ≡ refused (number_of r.refusal) r.line) ⊎ ((r ≡ record { refusal = Large; line = 0 }) × TooLong (joined_file s) B)
          → Gives (join_result s) d d (answer (Err r))
      go (inl e) = gives_refusal d (ap (λ (y : Res (List ℕ)). map_res writes (then_checked y)) e)
      go (inr (q, (w, e, g))) =
          let z : Gives (join_result s) d d (answer (Err (record { refusal = Large; line = 0 }))) =
          gives_refusal d (ap (map_res writes) (ap then_checked e ∙ too_large w (beyond w (joined_no_longer s w e) g))) in
          subst (λ (j : Refused). Gives (join_result s) d d (answer (Err j))) (sym q) z

  module _ {t : ℕ} (x : JoinedIs (length B₀) (joined_file s) B (Ok t)) where
    pub join_end : t ≤ length B
    join_end = x.means.1

    pub join_fits : Fits w32 t
    join_fits = omega (arith, x.means.1, x.size, h.most)

    joined_length : length (take t B) ≡ t
    joined_length = length-take-le t B x.means.1

    by_check : join_result s ≡ map_res writes (checked_file (take t B) (read_file (take t B)))
    unfolding join_result join_file
    by_check = ap (λ (r : Res (List ℕ)). map_res writes (then_checked r)) x.means.0

    pub join_refused : (r : Refused) → answer (Err r) ≡ answer_in (check_result (take t B)) [] → Gives (join_result s) d d (answer (Err r))
    join_refused r c =
        gives_refusal d (by_check ∙ ap (λ (b : Res Notebook). map_res writes (checked_file (take t B) b)) (answer_refused (take t B) (number_of r.refusal) r.line (sym c)))

    module _ {v : Values} (c : answer (Ok v) ≡ answer_in (check_result (take t B)) []) where
      accepted : join_result s ≡ ok (writes (take t B))
      accepted = by_check ∙ ap (λ (b : Res Notebook). map_res writes (checked_file (take t B) b)) (answer_accepted (take t B) v.a v.b v.c (sym c)).read

      pub join_short : {r : Refused} → length d < t → r ≡ record { refusal = Short; line = 0 } → Gives (join_result s) d d (answer (Err r))
      join_short {r} l q =
          subst (λ (j : Refused). Gives (join_result s) d d (answer (Err j))) (sym q) (gives_20 d accepted (omega (arith, joined_length, l)))

      pub join_written : {d₁ : List ℕ} {i : ℕ} → Wrote d d₁ 0 i (take t B) → Gives (join_result s) d d₁ (Done t 0 0)
      join_written {d₁} w = subst (λ (n : ℕ). Gives (join_result s) d d₁ (Done n 0 0)) joined_length (gives_written d accepted w)

pub ruleset join_laws = (join_no, join_end, join_fits, join_refused, join_short, join_written)
