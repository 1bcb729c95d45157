-- What a file is refused with, and at which line (`file_refuses`); and what follows a line 1, which has no 3, and 6 only for a record 911
-- (`book_refuses`). Assumes nothing.
use Prim.Native.Nat.{ℕ, suc, ◌+◌, ◌≤◌, ◌<◌}
use native.Mathlib.Omega.{arith}
use mathlib.Core.Path.{◌≡◌, refl, sym, ◌∙◌, subst}
use mathlib.Core.Bool.{Bool, true, false, cond, not, ◌&&◌, ◌||◌, true≢false}
use mathlib.Core.List.{List, [], ◌∷◌, ◌++◌}
use borrow.Author.Tests.{ne_eqb, lt-leb}
use lib.Dec.{eqb, leb}
use lib.ListN.{length}
use Rattle.lists.specs.Lists.{same, member, Res, ok, refused}
use Rattle.lists.proofs.Tests.{cond_case, both, below, below_at, not_true'}
use Rattle.characters.specs.Text.{text}
use Rattle.characters.specs.Rows.{rows, flat, is_line, end_mark}
use Rattle.characters.proofs.RowLaws.{flat_rows}
use Rattle.records.specs.Records.{Record, record_of, header, is_mark}
use Rattle.order.specs.declared.State.{State}
use Rattle.order.specs.State.{Step}
use Rattle.order.specs.State.{Fault, On}
use Rattle.rules.specs.Rules.{unfinished}
use Rattle.order.specs.Questions.{before_of}
use Rattle.order.specs.State.{start, finish_of}
use Rattle.order.proofs.Laws.{line_start}
use Rattle.notebook.specs.Notebook.{Notebook, step_line, prepend, closed, onward, records_from, notebook_of, read_rows, read_file}
use Rattle.faults.proofs.FaultLaws.{stepped}
use Rattle.division.specs.Join.{unmarked}
use Rattle.refusals.specs.Refusals.{line_ends, lineless, AtLine, Given}
use Rattle.refusals.proofs.LineEnds.{line_ends_lem}
use Rattle.refusals.proofs.Numbers.{LineRefused, step_number}

-- a refusal has the property
abbrev pub Refuses : {A : Type 0} → (ℕ → ℕ → Type 0) → Res A → Type 0
Refuses P (ok a) = Unit {0}
Refuses P (refused n line) = P n line

-- ---- from bounds to the claim

-- every number to 16 is one of xs or one of ns
abbrev pub Covers : List ℕ → List ℕ → Type 0
Covers xs ns = below (λ m. member xs m || member ns m) 17 ≡ true

pub covered : (xs ns : List ℕ) (n : ℕ) → Covers xs ns → n ≤ 16 → member xs n ≡ false → member ns n ≡ true
covered xs ns n c h e = rw e at (below_at (λ m. member xs m || member ns m) 17 c n (omega arith))

-- "Number 1 comes first, with line 0"; "Numbers 17–20 have line 0"
pub without_line : {ns s : List ℕ} (n : ℕ) → 0 < n → member ns n ≡ true → member lineless n ≡ true → Given ns s n 0
without_line n h m e = record { listed = m; positive = h; without = λ _. refl; at = λ f. absurd (true≢false (sym e ∙ f)) }

-- 2 to 16 have a line
lined : (n : ℕ) → 2 ≤ n → n ≤ 16 → member lineless n ≡ false
unfolding below
lined n lo hi = not_true' (member lineless n) (rw (lt-leb n 1 (omega arith)) at (below_at (λ m. leb m 1 || not (member lineless m)) 17 refl n (omega arith)))

pub with_line : {ns s : List ℕ} (n line : ℕ) → 2 ≤ n → n ≤ 16 → member ns n ≡ true → AtLine s line → Given ns s n line
with_line n line lo hi m l = record { listed = m; positive = omega arith; without = λ e. absurd (true≢false (sym e ∙ lined n lo hi)); at = λ _. l }

-- ---- the rows after line 1

-- ends: the line ends of the rows and of what stands before them; clear: no row is a record 911
pub record RowsRefused (ends : ℕ) (clear : Bool) (n line : ℕ) : Type 0 where
  pub low : 2 ≤ n
  pub high : n ≤ 16
  pub three : n ≡ 3 → ⊥
  pub six : clear ≡ true → n ≡ 6 → ⊥
  pub from : 1 ≤ line
  pub to : line ≤ ends + 1

closed_refuses : (st : State) (ends : ℕ) (clear : Bool) → st.line ≤ ends → Refuses (RowsRefused ends clear) (closed st)
unfolding closed finish_of
closed_refuses st ends clear h = go (unfinished (before_of st))
  where
    go : (b : Bool) → Refuses {A = List Record} (RowsRefused ends clear) (cond (eqb (cond b 14 0) 0) (ok []) (refused (cond b 14 0) (st.line + 1)))
    go true = record { low = omega arith; high = omega arith; three = λ e. omega arith; six = λ _ e. omega arith; from = omega arith; to = omega arith }
    go false = tt

-- a row more at the front, which is a line
earlier : (r : Record) (res : Res (List Record)) (ends : ℕ) (c d : Bool) → (d ≡ true → c ≡ true) → Refuses (RowsRefused ends c) res
    → Refuses (RowsRefused ends d) (prepend r res)
earlier r (ok rs) ends c d f h = tt
earlier r (refused n line) ends c d f h =
    record { low = h.low; high = h.high; three = h.three; six = λ e. h.six (f e); from = h.from; to = h.to }

records_refuse : (rs : List (List ℕ)) (st : State) (ends : ℕ) → st.line + line_ends (flat rs) ≤ ends
    → Refuses (RowsRefused ends (unmarked rs)) (records_from st rs)
unfolding records_from onward unmarked
records_refuse [] st ends h = closed_refuses st ends true (omega arith)
records_refuse (r ∷ rs) st ends h =
    cond_case P (same r end_mark) _ _ (λ _. closed_refuses st ends _ (omega arith))
    (λ _. cond_case P (is_line r) _ _ (λ l. step l (step_line st (text r)) refl (λ t. records_refuse rs t ends)) (λ _. broken))
  where
    P : Res (List Record) → Type 0
    P = Refuses (RowsRefused ends (not (is_mark (text r)) && unmarked rs))

    broken : RowsRefused ends (not (is_mark (text r)) && unmarked rs) 2 (st.line + 1)
    broken = record { low = omega arith; high = omega arith; three = λ e. omega arith; six = λ _ e. omega arith; from = omega arith; to = omega arith }

    step : is_line r ≡ true → (m : Step) → step_line st (text r) ≡ m
        → ((t : State) → t.line + line_ends (flat rs) ≤ ends → Refuses (RowsRefused ends (unmarked rs)) (records_from t rs))
        → P (onward (st.line + 1) (record_of (text r)) (λ t. records_from t rs) m)
    step l (Fault n) q ih =
        let x : LineRefused (is_mark (text r)) n = step_number st (text r) n q in
        record {
          low = omega (arith, x.low);
          high = x.high;
          three = λ e. omega (arith, x.low);
          six = λ c e. true≢false (sym (x.six e) ∙ not_true' _ (both (not (is_mark (text r))) (unmarked rs) c).0);
          from = omega arith;
          to = omega arith;
        }
    step l (On t rp doctor) q ih =
        earlier (record_of (text r)) (records_from t rs) ends _ _ (λ c. (both (not (is_mark (text r))) (unmarked rs) c).1)
        (ih t (omega (arith, stepped st (text r) t rp doctor q, line_ends_lem r (flat rs) l)))

-- ---- line 1, and the file

pub weaker : {A : Type 0} (P Q : ℕ → ℕ → Type 0) → ((n line : ℕ) → P n line → Q n line) → (res : Res A) → Refuses P res → Refuses Q res
weaker P Q f (ok a) h = tt
weaker P Q f (refused n line) h = f n line h

of_book : (P : ℕ → ℕ → Type 0) (d : Bool) (res : Res (List Record)) → Refuses P res → Refuses P (notebook_of d res)
of_book P d (ok rs) h = tt
of_book P d (refused n line) h = h

-- what follows a line 1
pub book_refuses : (d : Bool) (rs : List (List ℕ)) (ends : ℕ) → suc (line_ends (flat rs)) ≤ ends
    → Refuses (RowsRefused ends (unmarked rs)) (notebook_of d (records_from (start d) rs))
book_refuses d rs ends h = of_book _ d (records_from (start d) rs) (records_refuse rs (start d) ends (omega (arith, line_start d)))

-- any rows: 2 to 16, and a line of them
record FileRefused (s : List ℕ) (n line : ℕ) : Type 0 where
  low : 2 ≤ n
  high : n ≤ 16
  at : AtLine s line

rows_refuse : (rs : List (List ℕ)) → Refuses (FileRefused (flat rs)) (read_rows rs)
unfolding read_rows
rows_refuse [] = record { low = omega arith; high = omega arith; at = record { from = omega arith; to = omega arith } }
rows_refuse (r ∷ rs) =
    cond_case P (is_line r) _ _
    (λ l. cond_case P (same (text r) (header true)) _ _ (λ _. book true l)
    (λ _. cond_case P (same (text r) (header false)) _ _ (λ _. book false l) (λ _. first 3 (omega arith) (omega arith))))
    (λ _. first 2 (omega arith) (omega arith))
  where
    P : Res Notebook → Type 0
    P = Refuses (FileRefused (r ++ flat rs))

    first : (n : ℕ) → 2 ≤ n → n ≤ 16 → FileRefused (r ++ flat rs) n 1
    first n lo hi = record { low = lo; high = hi; at = record { from = omega arith; to = omega arith } }

    book : (d : Bool) → is_line r ≡ true → P (notebook_of d (records_from (start d) rs))
    book d l =
        weaker _ (FileRefused (r ++ flat rs)) (λ n line x. record { low = x.low; high = x.high; at = record { from = x.from; to = x.to } })
        (notebook_of d (records_from (start d) rs)) (book_refuses d rs (line_ends (r ++ flat rs)) (omega (arith, line_ends_lem r (flat rs) l)))

pub file_refuses : (ns : List ℕ) → Covers (0 ∷ []) ns → (s : List ℕ) → Refuses (Given ns s) (read_file s)
unfolding read_file
file_refuses ns c s =
    cond_case (Refuses (Given ns s)) (leb (length s) 65536) _ _
    (λ _. weaker (FileRefused (flat (rows s))) (Given ns s) told (read_rows (rows s)) (rows_refuse (rows s)))
    (λ _. without_line 1 (omega arith) (covered (0 ∷ []) ns 1 c (omega arith) refl) refl)
  where
    told : (n line : ℕ) → FileRefused (flat (rows s)) n line → Given ns s n line
    told n line x =
        with_line n line x.low x.high (covered (0 ∷ []) ns n c x.high (rw (ne_eqb n 0 (λ e. omega (arith, x.low)))))
        (subst (λ (t : List ℕ). AtLine t line) (flat_rows s) x.at)
