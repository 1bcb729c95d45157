-- Rows at a position, and the longest run of rows that fits, which `run_end` looks for from the back. Assumes nothing.
use Prim.Native.Nat.{ℕ, zero, suc, ◌+◌, ◌-◌, ◌≤◌, ◌<◌}
use native.Mathlib.Omega.{arith}
use mathlib.Core.Path.{◌≡◌, refl, sym, ap, ap₂, ◌∙◌, subst}
use mathlib.Core.Bool.{Bool, true, false, cond}
use mathlib.Core.List.{List, [], ◌∷◌, ◌++◌, append-nil}
use borrow.Author.Tests.{eq-eqb, ne_eqb}
use lib.Dec.{eqb}
use lib.ListN.{length, take, drop, get_or, length-drop, length-append}
use lib.Seq.{drop-drop, get_or-drop}
use Rattle.lists.specs.Lists.{up_to, is}
use Rattle.lists.specs.Searching.{part, find_from}
use Rattle.lists.proofs.Cuts.{drop_end, rest_all, up_to_go}
use Rattle.characters.specs.Rows.{cons_row, rows, flat}
use Rattle.characters.proofs.RowLaws.{first_row, flat_rows}
use Rattle.packing.specs.Packing.{total}
use Rattle.std.specs.Prelude.{Option, Some, None}
use Rattle.lists.proofs.Parts.{part_length, part_at}
use Rattle.cut.specs.Loops.{LastMeans, LastOf, first_length, RunAt}

-- ---- lengths

pub rows_done : (s : List ℕ) (i : ℕ) → length s ≤ i → rows (drop i s) ≡ []
rows_done s i h = rw (drop_end s i h)

pub flat_total : (rs : List (List ℕ)) → length (flat rs) ≡ total length rs
unfolding total
flat_total [] = refl
flat_total (r ∷ rs) = omega (arith, length-append r (flat rs), flat_total rs)

pub rows_total : (s : List ℕ) → total length (rows s) ≡ length s
rows_total s = sym (flat_total (rows s)) ∙ ap length (flat_rows s)

-- ---- rows cut after a 0Ah

cons_append : (a b : ℕ) (t : List ℕ) (ys : List (List ℕ)) → cons_row a (rows (b ∷ t) ++ ys) ≡ cons_row a (rows (b ∷ t)) ++ ys
cons_append a b t ys = rw (first_row b t).cut

rows_cut : (n : ℕ) (l : List ℕ) → n < length l → get_or l n 0 ≡ 0x0a → rows l ≡ rows (take (suc n) l) ++ rows (drop (suc n) l)
rows_cut n [] h e = absurd (omega arith)
rows_cut zero (a ∷ t) h e = rw (eq-eqb a 0x0a e)
rows_cut (suc n) (a ∷ []) h e = absurd (omega arith)
rows_cut (suc n) (a ∷ b ∷ t) h e = go (eqb a 0x0a) (rows_cut n (b ∷ t) (omega arith) e)
  where
    go : (x : Bool) → rows (b ∷ t) ≡ rows (b ∷ take n t) ++ rows (drop n t)
        → cond x ((a ∷ []) ∷ rows (b ∷ t)) (cons_row a (rows (b ∷ t)))
        ≡ cond x ((a ∷ []) ∷ rows (b ∷ take n t)) (cons_row a (rows (b ∷ take n t))) ++ rows (drop n t)
    go true i = ap (λ (rs : List (List ℕ)). (a ∷ []) ∷ rs) i
    go false i = ap (cons_row a) i ∙ cons_append a b (take n t) (rows (drop n t))

-- bytes without a 0Ah lie within the first row, and so does a byte after them
row_long : (n : ℕ) (l : List ℕ) → n ≤ length (up_to (is 0x0a) l) → n < length l → n < first_length (rows l)
row_long n [] h g = absurd (omega arith)
row_long n (a ∷ t) h g = go n (eqb a 0x0a) h g (λ m. row_long m t)
  where
    go : (n : ℕ) (x : Bool) → n ≤ length (cond x [] (a ∷ up_to (is 0x0a) t)) → n < suc (length t)
        → ((m : ℕ) → m ≤ length (up_to (is 0x0a) t) → m < length t → m < first_length (rows t))
        → n < first_length (cond x ((a ∷ []) ∷ rows t) (cons_row a (rows t)))
    go n true h g i = omega arith
    go zero false h g i = more (rows t)
      where
        more : (rs : List (List ℕ)) → 0 < first_length (cons_row a rs)
        more [] = omega arith
        more (r ∷ rs) = omega arith
    go (suc m) false h g i = more (rows t) (i m (omega arith) (omega arith))
      where
        more : (rs : List (List ℕ)) → m < first_length rs → suc m < first_length (cons_row a rs)
        more [] k = absurd (omega arith)
        more (r ∷ rs) k = omega arith

-- ---- the ways through run_end

-- no 0Ah stands from e on before m
clear_from : (s : List ℕ) (m e : ℕ) → e ≤ m → m ≤ length s → ((k : ℕ) → e ≤ k → k < m → get_or s k 0 ≡ 0x0a → ⊥) → m ≤ find_from 0x0a s e
unfolding find_from
clear_from s m e h l n = go (m - e) e (omega arith) h n
  where
    go : (d e : ℕ) → m - e ≡ d → e ≤ m → ((k : ℕ) → e ≤ k → k < m → get_or s k 0 ≡ 0x0a → ⊥) → m ≤ e + length (up_to (is 0x0a) (drop e s))
    go zero e q h n = omega (arith, q)
    go (suc d) e q h n =
        let g : up_to (is 0x0a) (drop e s) ≡ get_or s e 0 ∷ up_to (is 0x0a) (drop (e + 1) s) = up_to_go (is 0x0a) s e (omega arith) (ne_eqb _ _ (n e (omega arith) (omega arith))) in
        omega (arith, ap length g, go d (e + 1) (omega arith) (omega arith) (λ k a b. n k (omega arith) b))

module _ (s : List ℕ) (i u c : ℕ) where
  same_cut : rows (drop i s) ≡ rows (part s i i) ++ rows (drop i s)
  same_cut = let z : i - i ≡ 0 = omega arith in rw z

  pub run_none : i ≤ length s → c < u → RunAt s i u c i
  run_none h g = record {
    low = omega arith;
    inside = h;
    cut = same_cut;
    fits = λ l. absurd (omega arith);
    next = λ l. omega arith;
  }

  pub run_all : i ≤ length s → u ≤ c → length s - i ≤ c - u → RunAt s i u c (length s)
  run_all h g l = record {
    low = h;
    inside = omega arith;
    cut = rw (rest_all i s, rows_done s (length s) (omega arith)) (sym (append-nil (rows (drop i s))));
    fits = λ _. omega arith;
    next = λ m. absurd (omega arith);
  }

  -- what fits is less than what is left, and r tells its last 0Ah
  module _ (h : i ≤ length s) (g : u ≤ c) (l : c - u < length s - i) {r : Option ℕ} (w : LastOf (part s i (i + (c - u))) r) where
    seen : length (part s i (i + (c - u))) ≡ c - u
    seen = part_length s i (i + (c - u)) (omega arith) (omega arith) ∙ omega arith

    byte : (k : ℕ) → k < c - u → get_or (part s i (i + (c - u))) k 0 ≡ get_or s (i + k) 0
    byte k m = part_at s i (i + (c - u)) k (omega arith)

    -- a row that begins where no 0Ah follows within the capacity
    long : (e : ℕ) → i ≤ e → e ≤ i + (c - u) → ((k : ℕ) → e ≤ k → k < i + (c - u) → get_or s k 0 ≡ 0x0a → ⊥) → i + (c - u) - e < first_length (rows (drop e s))
    unfolding find_from
    long e a b n =
        row_long (i + (c - u) - e) (drop e s) (omega (arith, clear_from s (i + (c - u)) e b (omega arith) n)) (omega (arith, length-drop e s))

    means : {x : Option ℕ} → r ≡ x → LastMeans (part s i (i + (c - u))) x
    means q = subst (LastMeans (part s i (i + (c - u)))) q w.means

    pub run_found : {last : ℕ} → r ≡ Some last → RunAt s i u c (i + last + 1)
    run_found {last} q =
        let m : LastMeans (part s i (i + (c - u))) (Some last) = means q in
        let a : last < c - u = omega (arith, m.0, seen) in
        let b : suc last ≡ i + last + 1 - i = omega arith in
        let d : i + suc last ≡ i + last + 1 = omega arith in
        let f : get_or (drop i s) last 0 ≡ 0x0a = get_or-drop i s last 0 ∙ sym (byte last a) ∙ m.1 in
        let o : i + (c - u) - (i + last + 1) < first_length (rows (drop (i + last + 1) s)) =
        long (i + last + 1) (omega arith) (omega arith)
        (λ k x y z. let t : i + (k - i) ≡ k = omega arith in m.2 (k - i) (omega arith) (omega (arith, seen)) (byte (k - i) (omega arith) ∙ ap (λ (j : ℕ). get_or s j 0) t ∙ z)) in
        record {
          low = omega arith;
          inside = omega arith;
          cut = rows_cut last (drop i s) (omega (arith, length-drop i s)) f
              ∙ ap₂ (λ (x y : List ℕ). rows x ++ rows y) (ap (λ (j : ℕ). take j (drop i s)) b) (drop-drop (suc last) i s ∙ ap (λ (j : ℕ). drop j s) d);
          fits = λ _. omega arith;
          next = λ _. omega (arith, o);
        }

    pub run_stuck : r ≡ None → RunAt s i u c i
    run_stuck q =
        let m : LastMeans (part s i (i + (c - u))) None = means q in
        let o : i + (c - u) - i < first_length (rows (drop i s)) =
        long i (omega arith) (omega arith)
        (λ k x y z. let t : i + (k - i) ≡ k = omega arith in m (k - i) (omega (arith, seen)) (byte (k - i) (omega arith) ∙ ap (λ (j : ℕ). get_or s j 0) t ∙ z)) in
        record {
          low = omega arith;
          inside = h;
          cut = same_cut;
          fits = λ l. absurd (omega arith);
          next = λ _. omega (arith, o);
        }

pub ruleset run_laws = (run_none, run_all, run_found, run_stuck)
