-- The whole call: line 1, the records, and the copy into the output. One law for each way through the code. Assumes nothing.
use Prim.Native.Nat.{ℕ, ◌+◌, ◌-◌, ◌≤◌, ◌<◌}
use native.Mathlib.Omega.{arith}
use mathlib.Core.Path.{◌≡◌, refl, sym, ap, ◌∙◌, subst}
use mathlib.Core.Bool.{Bool}
use mathlib.Core.List.{List, ◌++◌}
use lib.ListN.{length, take, drop}
use lib.Seq.{sets, length-sets, length-take-le}
use Rattle.std.specs.Prelude.{Ok, Err}
use Rattle.lists.specs.Lists.{Res, ok, refused, map_res}
use Rattle.lists.specs.Searching.{part}
use Rattle.characters.specs.Rows.{rows, flat}
use Rattle.records.specs.Records.{Record}
use Rattle.order.specs.State.{start}
use Rattle.replies.specs.declared.refusal.Refused.{Refused as RefusedAtLine}
use Rattle.replies.specs.Refusals.{number_of}
use Rattle.replies.specs.Replies.{Answer, Done, Refused}
use Rattle.replies.specs.Results.{writes}
use Rattle.replies.specs.CallContracts.{Gives}
use Rattle.replies.proofs.Results.{gives_refusal, gives_20, gives_written}
use Rattle.buffers.specs.Buffers.{Wrote}
use Rattle.buffers.proofs.Runs.{then, front}
use Rattle.notebook.specs.Notebook.{records_from, notebook_of, read_file}
use Rattle.notebook.specs.Canonical.{head_row, record_rows, write_file, canonical_bytes, canonical_file, canonical_result}
use Rattle.notebook.proofs.Arranging.{arrange_as_is}
use Rattle.checking.specs.declared.Opening.{Opening}
use Rattle.checking.specs.Opening.{OpensAt, OpeningOf}
use Rattle.checking.proofs.OpenLaws.{opening_behind}
use Rattle.canonical.specs.Writing.{Output, poured, Poured, MadeOf, Holds}

-- ---- the array

-- line 1, and the records poured after it
made : (s d d₁ d₂ : List ℕ) (from : ℕ) (provider : Bool) (x : Res (List Record)) (c : Answer) → Wrote d d₁ 0 from (head_row provider)
    → read_file s ≡ notebook_of provider x → Poured (length d) (poured d₁ from x) d₂ c → MadeOf (length d) (canonical_file s) d₂ c
unfolding poured write_file canonical_bytes canonical_file
made s d d₁ d₂ from provider (refused n line) (Refused m l) w q v = record { means = ap (map_res canonical_bytes) q ∙ (let y : ◌≡◌ {A = Res (List ℕ)} (refused n line) (refused m l) = cc in y); size = v.size }
  where
    u : ◌≡◌ {A = Res Output} (refused n line) (refused m l)
    u = v.means
made s d d₁ d₂ from provider (refused n line) (Done t b c) w q v = absurd (no v.means.0)
  where
    no : ◌≡◌ {A = Res Output} (refused n line) (ok (record { buffer = d₂; end = t })) → ⊥
    no f = cc
made s d d₁ d₂ from provider (ok rs) (Refused m l) w q v = absurd (no v.means)
  where
    no : ◌≡◌ {A = Res Output} (ok (record { buffer = sets d₁ from (flat (record_rows rs)); end = from + length (flat (record_rows rs)) })) (refused m l) → ⊥
    no f = cc
made s d d₁ d₂ from provider (ok rs) (Done t b c) w q v = record { means = (ap (map_res canonical_bytes) q ∙ ap ok (ap write_file (arrange_as_is (record { provider = provider; records = rs })) ∙ sym all), v.means.2); size = v.size }
  where
    rest : List ℕ
    rest = flat (record_rows rs)

    is : ◌≡◌ {A = Output} (record { buffer = sets d₁ from rest; end = from + length rest }) (record { buffer = d₂; end = t })
    is = ok_is v.means.0
      where
        ok_is : {a b : Output} → ◌≡◌ {A = Res Output} (ok a) (ok b) → a ≡ b
        ok_is f = cc

    behind : Wrote d₁ d₂ from t rest
    behind = record {
      next = sym (ap (λ (o : Output). o.end) is);
      list = sym (ap (λ (o : Output). o.buffer) is);
      size = v.size ∙ sym w.size;
      high = omega (arith, v.means.2, v.size, w.size);
    }

    all : take t d₂ ≡ head_row provider ++ rest
    all = front (then w behind) (omega (arith, (then w behind).high, (then w behind).next))

pub into_refused : {s d : List ℕ} {x : RefusedAtLine} → OpeningOf s (Err x) → MadeOf (length d) (canonical_file s) d (Refused (number_of x.refusal) x.line)
unfolding canonical_file
into_refused w = record { means = ap (map_res canonical_bytes) w.means; size = refl }

module _ {s : List ℕ} {o : Opening} (w : OpeningOf s (Ok o)) {d : List ℕ} (z : Holds s d) where
  opens : OpensAt s o.provider o.from
  opens = w.means

  pub into_room : length s ≤ length d
  into_room = z.room opens.behind.small

  first_length_lem : length (part s 0 o.from) ≡ o.from
  first_length_lem = length-take-le (o.from - 0) s (omega (arith, opens.behind.high)) ∙ omega arith

  -- the array with line 1
  first_wrote : Wrote d (sets d 0 (part s 0 o.from)) 0 o.from (part s 0 o.from)
  first_wrote = record { next = omega (arith, first_length_lem); list = refl; size = length-sets d 0 (part s 0 o.from); high = omega (arith, opens.behind.high, into_room) }

  pub into_records : {d₂ : List ℕ} {c : Answer} → Poured (length d) (poured (sets d 0 (part s 0 o.from)) o.from (records_from (start o.provider) (rows (drop o.from s)))) d₂ c
      → MadeOf (length d) (canonical_file s) d₂ c
  into_records {d₂} {c} v =
      made s d (sets d 0 (part s 0 o.from)) d₂ o.from o.provider (records_from (start o.provider) (rows (drop o.from s))) c
      (subst (λ (x : List ℕ). Wrote d (sets d 0 (part s 0 o.from)) 0 o.from x) opens.first first_wrote) opens.read v

pub ruleset into_laws = (opening_behind, into_room, into_refused, into_records)

-- ---- the output

module _ (s d a : List ℕ) {l : ℕ} where
  pub canonical_refused : (x : RefusedAtLine) → MadeOf l (canonical_file s) a (Refused (number_of x.refusal) x.line) → Gives (canonical_result s) d d (Refused (number_of x.refusal) x.line)
  unfolding canonical_result
  canonical_refused x m = gives_refusal d (ap (map_res writes) m.means)

  module _ {t b c : ℕ} (m : MadeOf l (canonical_file s) a (Done t b c)) where
    pub canonical_inside : t ≤ length a
    canonical_inside = m.means.1

    given : canonical_result s ≡ ok (writes (take t a))
    unfolding canonical_result
    given = ap (map_res writes) m.means.0

    pub canonical_short : length d < length (take t a) → Gives (canonical_result s) d d (Refused 20 0)
    canonical_short h = gives_20 d given h

    pub canonical_written : {d' : List ℕ} {r : ℕ} → Wrote d d' 0 r (take t a) → Gives (canonical_result s) d d' (Done t 0 0)
    canonical_written {d'} w = subst (λ (n : ℕ). Gives (canonical_result s) d d' (Done n 0 0)) (length-take-le t a canonical_inside) (gives_written d given w)

pub ruleset canonical_laws = (canonical_inside, canonical_short, canonical_written)
