-- The search: piece k lies somewhere or nowhere, there is one count, and the loop returns it. Assumes nothing.
use Prim.Native.Nat.{ℕ, zero, suc, ◌+◌, ◌-◌, ◌≤◌, ◌<◌}
use mathlib.Core.Path.{◌≡◌, refl, sym, ap, ◌∙◌, subst}
use mathlib.Core.Bool.{Bool, true, false, cond}
use mathlib.Core.Logic.{◌⊎◌, inl, inr}
use mathlib.Core.List.{List, [], ◌∷◌}
use native.Mathlib.Omega.{arith}
use borrow.Author.Count.{below_more}
use borrow.Author.Tests.{eqb-true, eqb-false, leb-true, leb-false}
use lib.Dec.{eqb, leb}
use lib.ListN.{length, get_or}
use Rattle.search.specs.Places.{LiesAt, FirstLies, CountIs}
use Rattle.search.specs.Looks.{looks}

-- ---- piece k lies first somewhere, or nowhere

abbrev pub Nowhere : ℕ → List ℕ → Type 0
Nowhere k ks = (p : ℕ) → LiesAt k ks p → ⊥

-- the place after p pieces
after : (ks : List ℕ) (p : ℕ) → get_or ks (suc p - 1) 0 ≡ get_or ks p 0
after ks p = let z : suc p - 1 ≡ p = omega arith in ap (λ (j : ℕ). get_or ks j 0) z

-- a piece in front
further : {k x : ℕ} {xs : List ℕ} (p : ℕ) → LiesAt k xs p → LiesAt k (x ∷ xs) (suc p)
further zero v = absurd (omega (arith, v.low))
further {k} {x} {xs} (suc p) v = record { low = omega arith; high = omega (arith, v.high); is = after (x ∷ xs) (suc p) ∙ (sym (after xs p) ∙ v.is) }

-- and taken away, if it is not k
nearer : {k x : ℕ} {xs : List ℕ} (q : ℕ) → (x ≡ k → ⊥) → LiesAt k (x ∷ xs) q → LiesAt k xs (q - 1) × (2 ≤ q)
nearer zero h v = absurd (omega (arith, v.low))
nearer {k} {x} {xs} (suc zero) h v = absurd (h (sym (after (x ∷ xs) 0) ∙ v.is))
nearer {k} {x} {xs} (suc (suc q)) h v =
    let z : suc (suc q) - 1 ≡ suc q = omega arith in
    (subst (LiesAt k xs) (sym z) (record { low = omega arith; high = omega (arith, v.high); is = after xs q ∙ (sym (after (x ∷ xs) (suc q)) ∙ v.is) }), omega arith)

pub first_or_none : (k : ℕ) (ks : List ℕ) → ((p : ℕ) × FirstLies k ks p × (looks k ks ≡ p)) ⊎ (Nowhere k ks × (looks k ks ≡ length ks))
unfolding looks
first_or_none k [] = inr ((λ p v. omega (arith, v.low, v.high)), refl)
first_or_none k (x ∷ xs) = go (eqb x k) refl (first_or_none k xs)
  where
    go : (b : Bool) → eqb x k ≡ b → ((p : ℕ) × FirstLies k xs p × (looks k xs ≡ p)) ⊎ (Nowhere k xs × (looks k xs ≡ length xs))
        → ((p : ℕ) × FirstLies k (x ∷ xs) p × (cond b 1 (suc (looks k xs)) ≡ p)) ⊎ (Nowhere k (x ∷ xs) × (cond b 1 (suc (looks k xs)) ≡ suc (length xs)))
    go true e w = inl (1, record { lies = record { low = omega arith; high = omega arith; is = eqb-true x k e }; first = λ q v. v.low }, refl)
    go false e (inl (p, v, q)) = inl (suc p, record { lies = further p v.lies; first = λ r y. before r y (nearer r (eqb-false x k e) y) }, ap suc q)
      where
        before : (r : ℕ) → LiesAt k (x ∷ xs) r → LiesAt k xs (r - 1) × (2 ≤ r) → suc p ≤ r
        before r y (z, l) = omega (arith, v.first (r - 1) z, l)
    go false e (inr (h, q)) = inr ((λ p v. h (p - 1) (nearer p (eqb-false x k e) v).0), ap suc q)

-- ---- there is one count

pub looks_count : (k : ℕ) (ks : List ℕ) → CountIs k ks (looks k ks)
looks_count k ks = go (first_or_none k ks)
  where
    go : ((p : ℕ) × FirstLies k ks p × (looks k ks ≡ p)) ⊎ (Nowhere k ks × (looks k ks ≡ length ks)) → CountIs k ks (looks k ks)
    go (inl (p, v, q)) = record { found = λ r w. q ∙ omega (arith, v.first r w.lies, w.first p v.lies); none = λ h. absurd (h p v.lies) }
    go (inr (h, q)) = record { found = λ r w. absurd (h r w.lies); none = λ _. omega (arith, q) }

pub count_looks : {k : ℕ} {ks : List ℕ} {c : ℕ} → CountIs k ks c → c ≡ looks k ks
count_looks {k} {ks} {c} v = go (first_or_none k ks)
  where
    go : ((p : ℕ) × FirstLies k ks p × (looks k ks ≡ p)) ⊎ (Nowhere k ks × (looks k ks ≡ length ks)) → c ≡ looks k ks
    go (inl (p, w, q)) = omega (arith, v.found p w, q)
    go (inr (h, q)) = omega (arith, v.none h, q)

-- ---- the loop: i pieces have been looked at, and none of them is k

pub record Looking (k : ℕ) (ks : List ℕ) (i : ℕ) : Type 0 where
  pub inside : i ≤ length ks
  pub none : (j : ℕ) → j < i → get_or ks j 0 ≡ k → ⊥

pub look_start : (k : ℕ) (ks : List ℕ) → Looking k ks 0
look_start k ks = record { inside = omega arith; none = λ j h. absurd (omega (arith, h)) }

module _ {k : ℕ} {ks : List ℕ} {i : ℕ} (v : Looking k ks i) where
  -- the places before
  pub none_yet : (p : ℕ) → LiesAt k ks p → i < p
  none_yet p w = go (leb i (p - 1)) refl
    where
      go : (b : Bool) → leb i (p - 1) ≡ b → i < p
      go true e = omega (arith, leb-true i (p - 1) e, w.low)
      go false e = absurd (v.none (p - 1) (leb-false i (p - 1) e) w.is)

  pub look_found : i < length ks → get_or ks i 0 ≡ k → CountIs k ks (i + 1)
  look_found h e =
      let here : LiesAt k ks (i + 1) = record { low = omega arith; high = omega arith; is = subst (λ (j : ℕ). get_or ks j 0 ≡ k) (omega arith) e } in
      record { found = λ p w. omega (arith, w.first (i + 1) here, none_yet p w.lies); none = λ n. absurd (n (i + 1) here) }

  pub look_go : i < length ks → (get_or ks i 0 ≡ k → ⊥) → Looking k ks (i + 1)
  look_go h e = record { inside = omega arith; none = below_more (λ (j : ℕ). get_or ks j 0 ≡ k → ⊥) i v.none e }

  pub look_all : length ks ≤ i → CountIs k ks i
  look_all h = record { found = λ p w. absurd (omega (arith, none_yet p w.lies, w.lies.high)); none = λ _. omega (arith, v.inside) }

pub ruleset looking_laws = (look_start, look_found, look_go, look_all)
