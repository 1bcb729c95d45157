-- The greedy packing fits and holds everything in order, and no other division into consecutive runs has fewer. `o k` is what piece k holds
-- besides its things. Assumes nothing.
use Prim.Native.Nat.{ℕ, suc, ◌+◌, ◌≤◌, ◌<◌}
use mathlib.Core.Path.{◌≡◌, refl, sym, ap, ◌∙◌, subst}
use mathlib.Core.Logic.{◌⊎◌, inl, inr}
use mathlib.Core.Bool.{Bool, true, false, cond}
use Rattle.std.specs.Prelude.{Option, Some, None}
use Rattle.std.specs.Option.{option_map}
use mathlib.Core.List.{List, [], ◌∷◌, ◌++◌}
use native.Mathlib.Omega.{arith}
use native.Mathlib.Nat.{le_refl}
use borrow.Author.Tests.{leb-true, leb-false, le-leb, lt-leb, ltb-true, ltb-false}
use lib.Dec.{leb, ltb}
use lib.ListN.{length}
use Rattle.packing.specs.Packing.{total, put, pack}
use Rattle.packing.specs.Divisions.{concat, Fits}

-- a way through the things, from piece j with v taken to piece n: the form of a division that an induction can follow
pub data Way {A : Type 0} (len : A → ℕ) (o : ℕ → ℕ) (c : ℕ) : ℕ → ℕ → List A → ℕ → Type 0 where
  done : {j v : ℕ} → Way len o c j v [] j
  stay : {j v n : ℕ} {r : A} {rs : List A} → v + len r ≤ c → Way len o c j (v + len r) rs n → Way len o c j v (r ∷ rs) n
  next : {j v n : ℕ} {rs : List A} → o (suc j) ≤ c → Way len o c (suc j) (o (suc j)) rs n → Way len o c j v rs n

-- ---- the clauses of `pack`

module _ {A : Type 0} (len : A → ℕ) (o : ℕ → ℕ) (c k u : ℕ) (r : A) (rs : List A) where
  pub pack_stay : u + len r ≤ c → pack len o c k u (r ∷ rs) ≡ option_map (put r) (pack len o c k (u + len r) rs)
  unfolding pack
  pack_stay h = rw (le-leb (u + len r) c h, pack)

  pub pack_next : c < u + len r → o (suc k) + len r ≤ c
      → pack len o c k u (r ∷ rs) ≡ option_map (λ xs. [] ∷ put r xs) (pack len o c (suc k) (o (suc k) + len r) rs)
  unfolding pack
  pack_next h g = rw (lt-leb (u + len r) c h, le-leb (o (suc k) + len r) c g, pack)

  pub pack_none : c < u + len r → c < o (suc k) + len r → pack len o c k u (r ∷ rs) ≡ None
  unfolding pack
  pack_none h g = rw (lt-leb (u + len r) c h, lt-leb (o (suc k) + len r) c g, pack)

-- ---- a piece at a time: the longest run that fits is the next piece's

module _ {A : Type 0} (len : A → ℕ) (o : ℕ → ℕ) (c : ℕ) where
  -- all that is left fits
  pub pack_last : (k u : ℕ) (rs : List A) → u + total len rs ≤ c → pack len o c k u rs ≡ Some (rs ∷ [])
  unfolding pack total put
  pack_last k u [] h = refl
  pack_last k u (r ∷ rs) h =
      pack_stay len o c k u r rs (omega arith) ∙ ap (option_map (put r)) (pack_last k (u + len r) rs (omega arith))

  module _ (up : (i j : ℕ) → i ≤ j → o i ≤ o j) where
    -- what does not fit an empty piece fits no later one
    pub pack_stuck : (k : ℕ) (r : A) (rs : List A) → c < o k + len r → pack len o c k (o k) (r ∷ rs) ≡ None
    pack_stuck k r rs h = pack_none len o c k (o k) r rs h (omega (arith, up k (suc k) (omega arith)))

    pack_open : (k u : ℕ) (r : A) (rs : List A) → c < u + len r
        → pack len o c k u (r ∷ rs) ≡ option_map (λ xs. [] ∷ xs) (pack len o c (suc k) (o (suc k)) (r ∷ rs))
    pack_open k u r rs h = go (leb (o (suc k) + len r) c) refl
      where
        twice : (m : Option (List (List A))) → option_map (λ xs. [] ∷ put r xs) m ≡ option_map (λ xs. [] ∷ xs) (option_map (put r) m)
        twice None = refl
        twice (Some xs) = refl

        go : (b : Bool) → leb (o (suc k) + len r) c ≡ b
            → pack len o c k u (r ∷ rs) ≡ option_map (λ xs. [] ∷ xs) (pack len o c (suc k) (o (suc k)) (r ∷ rs))
        go true e =
            let l : o (suc k) + len r ≤ c = leb-true _ _ e in
            pack_next len o c k u r rs h l
            ∙ twice (pack len o c (suc k) (o (suc k) + len r) rs)
            ∙ ap (option_map (λ xs. [] ∷ xs)) (sym (pack_stay len o c (suc k) (o (suc k)) r rs l))
        go false e =
            let l : c < o (suc k) + len r = leb-false _ _ e in
            pack_none len o c k u r rs h l ∙ ap (option_map (λ xs. [] ∷ xs)) (sym (pack_stuck (suc k) r rs l))

    -- a run fits and the next thing does not: the run is the piece's
    pub pack_run : (k u : ℕ) (rs : List A) (t : A) (ts : List A) → u + total len rs ≤ c → c < u + total len rs + len t
        → pack len o c k u (rs ++ t ∷ ts) ≡ option_map (λ xs. rs ∷ xs) (pack len o c (suc k) (o (suc k)) (t ∷ ts))
    unfolding total put
    pack_run k u [] t ts h g = pack_open k u t ts (omega arith)
    pack_run k u (r ∷ rs) t ts h g =
        pack_stay len o c k u r (rs ++ t ∷ ts) (omega arith)
        ∙ ap (option_map (put r)) (pack_run k (u + len r) rs t ts (omega arith) (omega arith))
        ∙ twice (pack len o c (suc k) (o (suc k)) (t ∷ ts))
      where
        twice : (m : Option (List (List A))) → option_map (put r) (option_map (λ xs. rs ∷ xs) m) ≡ option_map (λ xs. (r ∷ rs) ∷ xs) m
        twice None = refl
        twice (Some xs) = refl

-- ---- the greedy packing is ahead of every way

-- piece k with u bytes taken is no later than piece j with v bytes taken
abbrev pub Ahead : ℕ → ℕ → ℕ → ℕ → Type 0
Ahead k u j v = (k < j) ⊎ ((k ≡ j) × (u ≤ v))

-- what is found from piece k on, with no piece after n
pub record Found {A : Type 0} (len : A → ℕ) (o : ℕ → ℕ) (c k u : ℕ) (rs : List A) (n : ℕ) : Type 0 where
  pub runs : List (List A)
  pub found : pack len o c k u rs ≡ Some runs
  pub some_run : 0 < length runs
  pub few : k + length runs ≤ suc n

pub length_put : {A : Type 0} (r : A) (xs : List (List A)) → 0 < length xs → length (put r xs) ≡ length xs
unfolding put
length_put r [] h = omega arith
length_put r (x ∷ xs) h = refl

module _ {A : Type 0} (len : A → ℕ) (o : ℕ → ℕ) (c : ℕ) where
  found_stay : {k u n : ℕ} {r : A} {rs : List A} → u + len r ≤ c → Found len o c k (u + len r) rs n → Found len o c k u (r ∷ rs) n
  found_stay {k} {u} {n} {r} {rs} h f =
      let l : length (put r f.runs) ≡ length f.runs = length_put r f.runs f.some_run in
      record {
        runs = put r f.runs;
        found = pack_stay len o c k u r rs h ∙ ap (option_map (put r)) f.found;
        some_run = omega arith;
        few = omega arith;
      }

  found_next : {k u n : ℕ} {r : A} {rs : List A} → c < u + len r → o (suc k) + len r ≤ c
      → Found len o c (suc k) (o (suc k) + len r) rs n → Found len o c k u (r ∷ rs) n
  found_next {k} {u} {n} {r} {rs} h g f =
      let l : length (put r f.runs) ≡ length f.runs = length_put r f.runs f.some_run in
      record {
        runs = [] ∷ put r f.runs;
        found = pack_next len o c k u r rs h g ∙ ap (option_map (λ xs. [] ∷ put r xs)) f.found;
        some_run = omega arith;
        few = omega arith;
      }

module _ {A : Type 0} (len : A → ℕ) (o : ℕ → ℕ) (c : ℕ) (up : (i j : ℕ) → i ≤ j → o i ≤ o j) where
  -- one record: both go on, or the greedy packing opens the next piece, which the way has opened already
  ahead_stay : {j v k u n : ℕ} {r : A} {rs : List A} (b : Bool) → leb (u + len r) c ≡ b → v + len r ≤ c → o j ≤ v → Ahead k u j v
      → ((k' u' : ℕ) → Ahead k' u' j (v + len r) → Found len o c k' u' rs n) → Found len o c k u (r ∷ rs) n
  ahead_stay {j} {v} {k} {u} {n} {r} {rs} true e h i (inl l) f = found_stay len o c (leb-true _ _ e) (f k (u + len r) (inl l))
  ahead_stay {j} {v} {k} {u} {n} {r} {rs} true e h i (inr (q, l)) f = found_stay len o c (leb-true _ _ e) (f k (u + len r) (inr (q, omega arith)))
  ahead_stay {j} {v} {k} {u} {n} {r} {rs} false e h i (inl l) f =
      let m : o (suc k) ≤ o j = up (suc k) j l in
      found_next len o c (leb-false _ _ e) (omega arith) (f (suc k) (o (suc k) + len r) (opened (ltb (suc k) j) refl))
    where
      opened : (b : Bool) → ltb (suc k) j ≡ b → Ahead (suc k) (o (suc k) + len r) j (v + len r)
      opened true t = inl (ltb-true _ _ t)
      opened false t = inr (omega (arith, ltb-false), omega (arith, up (suc k) j l))
  ahead_stay {j} {v} {k} {u} {n} {r} {rs} false e h i (inr (q, l)) f = absurd (omega (arith, leb-false))

  pub ahead : {j v n : ℕ} {rs : List A} (k u : ℕ) → Way len o c j v rs n → o j ≤ v → Ahead k u j v → Found len o c k u rs n
  unfolding pack
  ahead k u (done {j = j} {v = v}) i a = record { runs = [] ∷ []; found = refl; some_run = omega arith; few = le a }
    where
      le : Ahead k u j v → k + 1 ≤ suc j
      le (inl h) = omega arith
      le (inr (e, h)) = omega arith
  ahead k u (stay {j = j} {v = v} {n = n} {r = r} {rs = rs} h w) i a =
      ahead_stay (leb (u + len r) c) refl h i a (λ k' u'. ahead k' u' w (omega arith))
  ahead k u (next {j = j} {v = v} h w) i a = ahead k u w (le_refl _) (le a)
    where
      le : Ahead k u j v → Ahead k u (suc j) (o (suc j))
      le (inl b) = inl (omega arith)
      le (inr (e, b)) = inl (omega arith)

-- ---- what is packed fits, and is all the records in order

-- P holds of what there is
abbrev pub Holds : {B : Type 0} → (B → Type 0) → Option B → Type 0
Holds P None = Unit {0}
Holds P (Some b) = P b

pub holds_map : {B : Type 0} (P Q : B → Type 0) (f : B → B) → ((b : B) → P b → Q (f b)) → (m : Option B) → Holds P m → Holds Q (option_map f m)
holds_map P Q f g None h = tt
holds_map P Q f g (Some b) h = g b h

-- there is a run, even where there is nothing to pack
pub pack_more : {A : Type 0} (len : A → ℕ) (o : ℕ → ℕ) (c k u : ℕ) (rs : List A) → Holds (λ xs. 0 < length xs) (pack len o c k u rs)
unfolding pack put
pack_more len o c k u [] = omega arith
pack_more {A} len o c k u (r ∷ rs) =
    go (leb (u + len r) c) (leb (o (suc k) + len r) c) (pack len o c k (u + len r) rs) (pack len o c (suc k) (o (suc k) + len r) rs)
  where
    more : (xs : List (List A)) → 0 < length (put r xs)
    more [] = omega arith
    more (x ∷ xs) = omega arith

    go : (a b : Bool) (m m' : Option (List (List A)))
        → Holds (λ xs. 0 < length xs) (cond a (option_map (put r) m) (cond b (option_map (λ xs. [] ∷ put r xs) m') None))
    go true b None m' = tt
    go true b (Some xs) m' = more xs
    go false true m None = tt
    go false true m (Some xs) = omega arith
    go false false m m' = tt

-- the first run fits after u bytes of piece k, and the others as pieces k + 1, ..
unfoldable pub Taken : {A : Type 0} → (A → ℕ) → (ℕ → ℕ) → ℕ → ℕ → ℕ → List (List A) → Type 0
Taken len o c k u [] = ⊥
Taken len o c k u (x ∷ xs) = (u + total len x ≤ c) × Fits len o c (suc k) xs

module _ {A : Type 0} (len : A → ℕ) (o : ℕ → ℕ) (c : ℕ) where
  abbrev pub Good : ℕ → ℕ → List A → List (List A) → Type 0
  Good k u rs xs = Taken len o c k u xs × (concat xs ≡ rs)

  good_stay : (k u : ℕ) (r : A) (rs : List A) (xs : List (List A)) → Good k (u + len r) rs xs → Good k u (r ∷ rs) (put r xs)
  unfolding Taken concat put total
  good_stay k u r rs [] (t, e) = absurd t
  good_stay k u r rs (x ∷ xs) ((a, b), e) = ((omega arith, b), ap (λ (l : List A). r ∷ l) e)

  good_next : (k u : ℕ) (r : A) (rs : List A) (xs : List (List A)) → u ≤ c → Good (suc k) (o (suc k) + len r) rs xs → Good k u (r ∷ rs) ([] ∷ put r xs)
  unfolding Taken concat put total Fits
  good_next k u r rs [] h (t, e) = absurd t
  good_next k u r rs (x ∷ xs) h ((a, b), e) = ((omega arith, (omega arith, b)), ap (λ (l : List A). r ∷ l) e)

  good_cons : (k u : ℕ) (r : A) (rs : List A) (b b' : Bool) → leb (u + len r) c ≡ b → leb (o (suc k) + len r) c ≡ b' → u ≤ c
      → (u + len r ≤ c → Holds (Good k (u + len r) rs) (pack len o c k (u + len r) rs))
      → (o (suc k) + len r ≤ c → Holds (Good (suc k) (o (suc k) + len r) rs) (pack len o c (suc k) (o (suc k) + len r) rs))
      → Holds (Good k u (r ∷ rs)) (pack len o c k u (r ∷ rs))
  good_cons k u r rs true b' e e' h f g =
      let l : u + len r ≤ c = leb-true _ _ e in
      rw (pack_stay len o c k u r rs l) (holds_map (Good k (u + len r) rs) (Good k u (r ∷ rs)) (put r) (good_stay k u r rs) (pack len o c k (u + len r) rs) (f l))
  good_cons k u r rs false true e e' h f g =
      let l : o (suc k) + len r ≤ c = leb-true _ _ e' in
      rw (pack_next len o c k u r rs (leb-false _ _ e) l)
      (holds_map (Good (suc k) (o (suc k) + len r) rs) (Good k u (r ∷ rs)) (λ xs. [] ∷ put r xs) (λ xs. good_next k u r rs xs h)
      (pack len o c (suc k) (o (suc k) + len r) rs) (g l))
  good_cons k u r rs false false e e' h f g = rw (pack_none len o c k u r rs (leb-false _ _ e) (leb-false _ _ e')) tt

  pub pack_good : (rs : List A) (k u : ℕ) → u ≤ c → Holds (Good k u rs) (pack len o c k u rs)
  unfolding pack Taken concat total Fits
  pack_good [] k u h = ((omega arith, tt), refl)
  pack_good (r ∷ rs) k u h = good_cons k u r rs _ _ refl refl h (pack_good rs k (u + len r)) (pack_good rs (suc k) (o (suc k) + len r))

-- ---- a division as a way

module _ {A : Type 0} (len : A → ℕ) (o : ℕ → ℕ) (c : ℕ) where
  way_run : {k n : ℕ} (v : ℕ) (x rs : List A) → v + total len x ≤ c → Way len o c k (v + total len x) rs n → Way len o c k v (x ++ rs) n
  unfolding total
  way_run {k} {n} v [] rs h w = subst (λ (m : ℕ). Way len o c k m rs n) (omega arith) w
  way_run {k} {n} v (r ∷ x) rs h w =
      stay {v = v} {r = r} (omega arith) (way_run (v + len r) x rs (omega arith) (subst (λ (m : ℕ). Way len o c k m rs n) (omega arith) w))

  pub way_of : (k : ℕ) (x : List A) (xs : List (List A)) → Fits len o c k (x ∷ xs) → Way len o c k (o k) (concat (x ∷ xs)) (k + length xs)
  unfolding concat Fits
  way_of k x [] (h, f) = subst (λ (m : ℕ). Way len o c k (o k) (x ++ []) m) (omega arith) (way_run (o k) x [] h done)
  way_of k x (y ∷ ys) (h, f) =
      subst (λ (m : ℕ). Way len o c k (o k) (x ++ concat (y ∷ ys)) m) (omega arith)
      (way_run (o k) x (concat (y ∷ ys)) h (next (opens f) (way_of (suc k) y ys f)))
    where
      opens : Fits len o c (suc k) (y ∷ ys) → o (suc k) ≤ c
      opens (a, b) = omega arith

-- ---- smaller records, smaller heads, a larger capacity: a way stays a way

pub data Pairs {A B : Type 0} (R : A → B → Type 0) : List A → List B → Type 0 where
  nil : Pairs R [] []
  cons : {a : A} {b : B} {xs : List A} {ys : List B} → R a b → Pairs R xs ys → Pairs R (a ∷ xs) (b ∷ ys)

module _ {A B : Type 0} (len : A → ℕ) (len' : B → ℕ) (o o' : ℕ → ℕ) (c c' : ℕ) (ho : (k : ℕ) → o k ≤ o' k) (hc : c' ≤ c) where
  pub lighter : {j v n : ℕ} {xs : List A} {ys : List B} (u : ℕ) → Pairs (λ a b. len a ≤ len' b) xs ys → u ≤ v → Way len' o' c' j v ys n → Way len o c j u xs n
  lighter u nil h done = done
  lighter u (cons {a = a} p ps) h (stay {v = v} {r = r} k w) =
      stay {v = u} {r = a} (omega arith) (lighter (u + len a) ps (omega arith) w)
  lighter u ps h (next {j = j} k w) = next {j = j} (omega (arith, ho (suc j))) (lighter (o (suc j)) ps (ho (suc j)) w)

pub pairs_same : {A : Type 0} (R : A → A → Type 0) → ((a : A) → R a a) → (xs : List A) → Pairs R xs xs
pairs_same R f [] = nil
pairs_same R f (x ∷ xs) = cons (f x) (pairs_same R f xs)
