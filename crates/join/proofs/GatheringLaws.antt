-- The rows of a set's pieces in a buffer, by k. Assumes nothing.
use Prim.Native.Nat.{ℕ, suc, ◌+◌, ◌-◌, ◌*◌, ◌≤◌, ◌<◌}
use mathlib.Core.Path.{◌≡◌, refl, sym, ap, ◌∙◌, subst}
use mathlib.Core.Logic.{inl, inr}
use mathlib.Core.List.{List, ◌++◌, append_assoc, append-nil}
use native.Mathlib.Omega.{arith}
use native.Mathlib.Numerals.{add-one}
use lib.ListN.{length, take, drop, length-append}
use Rattle.std.specs.Prelude.{Some, None, Ok, Err, Option}
use Rattle.lists.proofs.Parts.{part_length}
use Rattle.characters.specs.Rows.{flat}
use Rattle.buffers.specs.Buffers.{Wrote}
use Rattle.buffers.proofs.Runs.{then}
use Rattle.replies.specs.declared.refusal.Refusal.TheVariants.{Large, Set}
use Rattle.division.specs.Join.{Part, find_part, rows_of_part, gather}
use Rattle.search.specs.Search.{piece_after}
use Rattle.join.specs.declared.member.Span.{Span}
use Rattle.join.specs.declared.set.Members.{Members}
use Rattle.join.specs.Spans.{bytes_of, Listed, SpotAt, SpotMeans, SpotIs, PutIs, FillIs, FillRoom}
use Rattle.join.proofs.BodyLaws.{flat_append}

-- ---- the rows by k

abbrev rows_before : List (List ℕ) → Option (List (List ℕ)) → Option (List (List ℕ))
rows_before done None = None
rows_before done (Some rs) = Some (done ++ rs)

-- the rows found so far, and those that are left
pub record Going (d₀ d : List ℕ) (at : ℕ) (ps : List Part) (n o k : ℕ) : Type 0 where
  pub done : List (List ℕ)
  pub left : gather ps n 1 ≡ rows_before done (gather ps (n + 1 - k) k)
  pub count : o ≡ at + length (flat done)
  pub wrote : o ≤ length d → Wrote d₀ d at o (flat done)

pub record Gathering {N : ℕ} (d₀ d : List ℕ) (at : ℕ) (s : List ℕ) (t : Members N) (o k : ℕ) : Type 0 where
  pub given : FillRoom d₀ at s t
  pub low : 1 ≤ k
  pub high : k ≤ t.count + 1
  pub small : o ≤ 13 + 131072 * (k - 1)
  pub size : length d ≡ length d₀
  pub going : (ps : List Part) → Listed s t ps → Going d₀ d at ps t.count o k

rows_more : (done : List (List ℕ)) (p : Part) (o : Option (List (List ℕ))) → rows_before done (rows_of_part (Some p) o) ≡ rows_before (done ++ p.rows) o
rows_more done p None = refl
rows_more done p (Some rs) = ap Some (sym (append_assoc done p.rows rs))

module _ {N : ℕ} {d₀ d : List ℕ} {at : ℕ} {s : List ℕ} {t : Members N} {o k : ℕ} (v : Gathering d₀ d at s t o k) where
  -- at the end
  pub gathered : {d₁ : List ℕ} {o₁ : ℕ} → t.count < k → d₁ ≡ d → o₁ ≡ o → Gathering d₀ d₁ at s t o₁ (t.count + 1)
  gathered h a b =
      let z : t.count + 1 ≡ k = omega (arith, v.high) in rw (a, b, z) v

  module _ (h : k ≤ t.count) where
    step : (ps : List Part) → gather ps (t.count + 1 - k) k ≡ rows_of_part (find_part k ps) (gather ps (t.count + 1 - (k + 1)) (k + 1))
    unfolding gather
    step ps =
        let z : t.count + 1 - k ≡ suc (t.count + 1 - (k + 1)) = omega arith in
        ap (λ (f : ℕ). gather ps f k) z ∙ ap (λ (j : ℕ). rows_of_part (find_part k ps) (gather ps (t.count + 1 - (k + 1)) j)) (sym (add-one k))

    module _ {y : Option Span} (x : SpotIs t k y) where
      spotted : {r : Option Span} → y ≡ r → SpotMeans t k r
      spotted q = subst (SpotMeans t k) q x.means

      pub gathering_missing : y ≡ None → FillIs d₀ d at s t (Err Set)
      gathering_missing q = record {
        means = λ ps l. inl (
          refl,
          (v.going ps l).left ∙ ap (rows_before (v.going ps l).done)
              (step ps ∙ ap (λ (p : Option Part). rows_of_part p (gather ps (t.count + 1 - (k + 1)) (k + 1))) (spotted q ps l.count l.numbers)),
        );
        size = v.size;
      }

      module _ {w : Span} (q : y ≡ Some w) where
        spot : SpotAt t k w
        spot = spotted q

        pub gathering_low : w.from ≤ w.to
        gathering_low = rw spot.rows (v.given.bounds.low spot.index spot.inside)

        pub gathering_high : w.to ≤ length s
        gathering_high = rw spot.rows (v.given.bounds.high spot.index spot.inside)

        span_length : length (bytes_of s w) ≡ w.to - w.from
        span_length = part_length s w.from w.to gathering_low gathering_high

        pub gathering_go : {d₁ : List ℕ} {o₁ : ℕ} → PutIs d d₁ o o₁ (take (w.to - w.from) (drop w.from s)) → Gathering d₀ d₁ at s t o₁ (k + 1)
        gathering_go {d₁} {o₁} u = record {
          given = v.given;
          low = omega arith;
          high = omega arith;
          small = omega (arith, u.next, span_length, gathering_high, v.given.small, v.small, v.low);
          size = u.size ∙ v.size;
          going = λ ps l. go ps l (v.going ps l) (spot.found ps l.count l.numbers);
        }
          where
            go : (ps : List Part) → Listed s t ps → Going d₀ d at ps t.count o k → (p : Part) × (find_part k ps ≡ Some p) × (piece_after spot.index ps ≡ Some p)
                → Going d₀ d₁ at ps t.count o₁ (k + 1)
            go ps l g (p, f, i) =
                let b : flat (g.done ++ p.rows) ≡ flat g.done ++ bytes_of s w =
                flat_append g.done p.rows
                ∙ ap (λ (z : List ℕ). flat g.done ++ z) (l.bytes spot.index p i ∙ ap (bytes_of s) (sym spot.rows)) in
                record {
                  done = g.done ++ p.rows;
                  left = g.left ∙ (ap (rows_before g.done) (step ps ∙ ap (λ (z : Option Part). rows_of_part z (gather ps (t.count + 1 - (k + 1)) (k + 1))) f)
                      ∙ rows_more g.done p (gather ps (t.count + 1 - (k + 1)) (k + 1)));
                  count = omega (arith, u.next, g.count, ap length b, length-append (flat g.done) (bytes_of s w));
                  wrote = λ y. subst (λ (z : List ℕ). Wrote d₀ d₁ at o₁ z) (sym b) (then (g.wrote (omega (arith, u.next, u.size))) (u.wrote (omega (arith, u.size))));
                }

module _ {N : ℕ} {d₀ d : List ℕ} {at : ℕ} {s : List ℕ} {t : Members N} {o : ℕ} (v : Gathering d₀ d at s t o (t.count + 1)) where
  all_found : (ps : List Part) (l : Listed s t ps) → gather ps t.count 1 ≡ Some (v.going ps l).done
  unfolding gather
  all_found ps l =
      let g = v.going ps l in
      let z : t.count + 1 - (t.count + 1) ≡ 0 = omega arith in
      g.left ∙ (ap (λ (f : ℕ). rows_before g.done (gather ps f (t.count + 1))) z ∙ ap Some (append-nil g.done))

  pub gathering_full : o ≤ length d → FillIs d₀ d at s t (Ok o)
  gathering_full q = record { means = λ ps l. ((v.going ps l).done, all_found ps l, (v.going ps l).wrote q); size = v.size }

  pub gathering_short : length d < o → FillIs d₀ d at s t (Err Large)
  gathering_short q = record {
    means = λ ps l. inr (refl, ((v.going ps l).done, all_found ps l, omega (arith, (v.going ps l).count, v.size)));
    size = v.size;
  }

pub ruleset gathering_laws = (gathering_missing, gathering_go)
