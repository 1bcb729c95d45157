-- Pairs and facts of a record by its items at positions: the ways through `record_facts` and what it calls; xs are the items of a line, the
-- first of which is the record's number. Assumes nothing.
use Prim.Native.Nat.{ℕ, suc}
use mathlib.Core.Path.{◌≡◌, refl, sym, ap₂, ◌∙◌}
use mathlib.Core.Bool.{Bool, true, false, not, ◌&&◌}
use mathlib.Core.List.{List, [], ◌∷◌}
use borrow.Author.Tests.{ne_eqb}
use lib.Dec.{eqb}
use lib.ListN.{length, get_or, drop}
use Rattle.std.specs.Prelude.{Ok, Err}
use Rattle.lists.specs.Lists.{member}
use Rattle.lists.proofs.Tests.{empty_is, not_true', not_false'}
use Rattle.replies.specs.declared.refusal.Refusal.TheVariants.{Pair}
use Rattle.order.specs.declared.Facts.{Facts}
use Rattle.lines.specs.Details.{code_raw, form_raw, pairs_raw, rp_raw, day_raw, facts_raw, no_facts, details_raw}

-- an item after the number, by its number in the line
on_1 : (xs : List (List ℕ)) (k : ℕ) → get_or (drop 1 xs) k [] ≡ get_or xs (suc k) []
on_1 [] k = refl
on_1 (x ∷ xs) k = refl

-- where the pairs hold the facts are told, else the refusal
broken : (n : ℕ) (ss : List (List ℕ)) → pairs_raw n ss ≡ false → Err Pair ≡ details_raw n ss
unfolding details_raw
broken n ss e = rw e

good : (n : ℕ) (ss : List (List ℕ)) {f : Facts} → pairs_raw n ss ≡ true → f ≡ facts_raw n ss → Ok f ≡ details_raw n ss
unfolding details_raw
good n ss e p = rw (e, p)

module _ (xs : List (List ℕ)) where
  -- ---- a 201

  module _ {i5 i6 : List ℕ} {x : Bool} (a : i5 ≡ get_or xs 5 []) (b : i6 ≡ get_or xs 6 []) (e : x ≡ code_raw i5 i6) where
    drug_pairs : pairs_raw 201 (drop 1 xs) ≡ x
    unfolding pairs_raw
    drug_pairs = sym (e ∙ ap₂ code_raw (a ∙ sym (on_1 xs 4)) (b ∙ sym (on_1 xs 5)))

    pub drug_broken : not x ≡ true → Err Pair ≡ details_raw 201 (drop 1 xs)
    drug_broken h = broken 201 (drop 1 xs) (drug_pairs ∙ not_true' x h)

    pub drug_good : not x ≡ false → {i1 : List ℕ} {rp : ℕ} {f : Facts} → i1 ≡ get_or xs 1 [] → rp ≡ rp_raw i1 → f ≡ no_facts 201
        → Ok (record { number = f.number; rp = rp; day = f.day; schedule = f.schedule; form = f.form; named = f.named }) ≡ details_raw 201 (drop 1 xs)
    unfolding facts_raw
    drug_good h p q r = good 201 (drop 1 xs) (drug_pairs ∙ not_false' x h) (rw (q, p, r, on_1 xs 0))

  -- ---- a 301

  module _ {i3 i4 i5 i6 i7 : List ℕ} {x y : Bool} (c : i3 ≡ get_or xs 3 []) (d : i4 ≡ get_or xs 4 []) (f : i5 ≡ get_or xs 5 []) (g : i6 ≡ get_or xs 6 []) (k : i7 ≡ get_or xs 7 [])
      (e : x ≡ code_raw i6 i7) (i : y ≡ form_raw i5 i3 i4) where
    usage_pairs : pairs_raw 301 (drop 1 xs) ≡ (x && y)
    unfolding pairs_raw
    usage_pairs = sym (rw (e, i, c, d, f, g, k, on_1 xs 2, on_1 xs 3, on_1 xs 4, on_1 xs 5, on_1 xs 6))

    pub usage_broken : not (x && y) ≡ true → Err Pair ≡ details_raw 301 (drop 1 xs)
    usage_broken h = broken 301 (drop 1 xs) (usage_pairs ∙ not_true' (x && y) h)

    pub usage_good : not (x && y) ≡ false → {i1 i2 : List ℕ} {rp form : ℕ} {z : Bool} {t : Facts} → i1 ≡ get_or xs 1 [] → i2 ≡ get_or xs 2 [] → rp ≡ rp_raw i1 → form ≡ rp_raw i5
        → z ≡ eqb (length i2) 0 → t ≡ no_facts 301
        → Ok (record { number = t.number; rp = rp; day = t.day; schedule = t.schedule; form = form; named = not z }) ≡ details_raw 301 (drop 1 xs)
    unfolding facts_raw
    usage_good h {i2 = i2} p m q r u t = good 301 (drop 1 xs) (usage_pairs ∙ not_false' (x && y) h) (rw (q, p, r, f, u ∙ sym (empty_is i2), m, t, on_1 xs 0, on_1 xs 1, on_1 xs 4))

  -- ---- the others, n: the record's number

  module _ (n : ℕ) where
    free : (n ≡ 201 → ⊥) → (n ≡ 301 → ⊥) → pairs_raw n (drop 1 xs) ≡ true
    unfolding pairs_raw
    free a b = simp (ne_eqb n 201 a, ne_eqb n 301 b)

    pub facts_5 : n ≡ 5 → {i1 : List ℕ} {d : ℕ} {f : Facts} → i1 ≡ get_or xs 1 [] → d ≡ day_raw i1 → f ≡ no_facts 5
        → Ok (record { number = f.number; rp = f.rp; day = d; schedule = f.schedule; form = f.form; named = f.named }) ≡ details_raw n (drop 1 xs)
    unfolding pairs_raw facts_raw
    facts_5 e p q r = rw e (good 5 (drop 1 xs) refl (rw (q, p, r, on_1 xs 0)))

    pub facts_11 : n ≡ 11 → {i3 : List ℕ} {v : ℕ} {f : Facts} → i3 ≡ get_or xs 3 [] → v ≡ rp_raw i3 → f ≡ no_facts 11
        → Ok (record { number = f.number; rp = f.rp; day = f.day; schedule = v; form = f.form; named = f.named }) ≡ details_raw n (drop 1 xs)
    unfolding pairs_raw facts_raw
    facts_11 e p q r = rw e (good 11 (drop 1 xs) refl (rw (q, p, r, on_1 xs 2)))

    pub facts_rp : (n ≡ 5 → ⊥) → (n ≡ 11 → ⊥) → (n ≡ 201 → ⊥) → (n ≡ 301 → ⊥) → member (281 ∷ 291 ∷ 311 ∷ 391 ∷ []) n ≡ true
        → {i1 : List ℕ} {v : ℕ} {f : Facts} → i1 ≡ get_or xs 1 [] → v ≡ rp_raw i1 → f ≡ no_facts n
        → Ok (record { number = f.number; rp = v; day = f.day; schedule = f.schedule; form = f.form; named = f.named }) ≡ details_raw n (drop 1 xs)
    unfolding facts_raw
    facts_rp a b c d m p q r = good n (drop 1 xs) (free c d) (rw (q, p, r, ne_eqb n 5 a, ne_eqb n 11 b, ne_eqb n 201 c, ne_eqb n 301 d, m, on_1 xs 0))

    pub facts_none : (n ≡ 5 → ⊥) → (n ≡ 11 → ⊥) → (n ≡ 201 → ⊥) → (n ≡ 301 → ⊥) → member (281 ∷ 291 ∷ 311 ∷ 391 ∷ []) n ≡ false
        → {f : Facts} → f ≡ no_facts n → Ok f ≡ details_raw n (drop 1 xs)
    unfolding facts_raw
    facts_none a b c d m r = good n (drop 1 xs) (free c d) (r ∙ sym (rw (ne_eqb n 5 a, ne_eqb n 11 b, ne_eqb n 201 c, ne_eqb n 301 d, m)))

pub ruleset drug_laws = (drug_broken, drug_good)

pub ruleset usage_laws = (usage_broken, usage_good)

pub ruleset facts_laws = (facts_5, facts_11, facts_rp, facts_none)
