-- The ways through `line_at`, each with what stands there, and which of two rows is left where no line is. Assumes nothing.
use Prim.Native.Nat.{ℕ, ◌+◌, ◌-◌, ◌≤◌, ◌<◌}
use mathlib.Core.Path.{◌≡◌, refl, sym, ap, ◌∙◌, subst}
use mathlib.Core.Logic.{◌⊎◌, inl, inr}
use mathlib.Core.Bool.{Bool, true, false}
use lib.Dec.{leb}
use borrow.Author.Tests.{leb-true, leb-false}
use mathlib.Core.List.{List, [], ◌∷◌}
use native.Mathlib.Omega.{arith}
use lib.ListN.{length, drop, get_or, length-drop}
use lib.Seq.{get_or-drop}
use Rattle.std.specs.Prelude.{Some, None, Ok, Err}
use Rattle.lists.specs.Searching.{part}
use Rattle.lists.proofs.Cuts.{drop_end, last_on, rest_all, up_to_le}
use Rattle.scanning.specs.declared.lines.Scan.{Scan}
use Rattle.characters.specs.Text.{is_stop, text}
use Rattle.characters.specs.Scanning.{comma_count}
use Rattle.characters.specs.Rows.{rows, end_mark}
use Rattle.scanning.specs.Scans.{Stops, Sixteen, ScanOf, Over, LineOf}
use Rattle.characters.proofs.RowLaws.{broken, text_part, whole_at}

-- where no line is left, one of two is true of the rows
pub over_rows : {s : List ℕ} {at : ℕ} → Over s at → (rows (drop at s) ≡ []) ⊎ (rows (drop at s) ≡ end_mark ∷ [])
over_rows {s} {at} o = go (leb (length s) at) refl
  where
    go : (b : Bool) → leb (length s) at ≡ b → (rows (drop at s) ≡ []) ⊎ (rows (drop at s) ≡ end_mark ∷ [])
    go true e = inl (o.nothing (leb-true (length s) at e))
    go false e = inr (o.mark (leb-false (length s) at e))

module _ (s : List ℕ) (at : ℕ) (stops : List ℕ) where
  pub line_over : Sixteen stops → length s ≤ at → LineOf s at stops (Ok None)
  line_over z h = record { means = record { nothing = λ _. ap rows (drop_end s at h); mark = λ k. absurd (omega arith) }; size = z }

  module _ {r : Scan} (k : at < length s) (v : ScanOf s at stops r) where
    pub line_range : r.end ≤ length s
    line_range = omega (arith, v.ends, up_to_le is_stop (drop at s), length-drop at s)

    byte_at : (n : ℕ) → get_or (drop at s) (length (text (drop at s)) + n) 0 ≡ get_or s (r.end + n) 0
    byte_at n =
        let m : at + (length (text (drop at s)) + n) ≡ r.end + n = omega (arith, v.ends) in
        get_or-drop at s (length (text (drop at s)) + n) 0 ∙ ap (λ (j : ℕ). get_or s j 0) m

    byte_0 : get_or (drop at s) (length (text (drop at s))) 0 ≡ get_or s r.end 0
    byte_0 =
        let m : at + length (text (drop at s)) ≡ r.end = omega (arith, v.ends) in
        get_or-drop at s (length (text (drop at s))) 0 ∙ ap (λ (j : ℕ). get_or s j 0) m

    broken_at : (r.end + 1 < length s → get_or s r.end 0 ≡ 0x0d → get_or s (r.end + 1) 0 ≡ 0x0a → ⊥) → (length s ≡ at + 1 → r.end ≡ at → get_or s r.end 0 ≡ 0x1a → ⊥)
        → LineOf s at stops (Err (record {}))
    broken_at f g = record {
      means = broken (drop at s) (omega (arith, length-drop at s))
          (λ n a b. f (omega (arith, v.ends, length-drop at s)) (sym byte_0 ∙ a) (sym (byte_at 1) ∙ b))
          (λ m. let x : r.end ≡ at = omega (arith, v.ends, ap (λ (l : List ℕ). length (text l)) m) in
          g (omega (arith, length-drop at s, ap length m)) x (sym byte_0 ∙ ap (λ (l : List ℕ). get_or l (length (text l)) 0) m));
      size = v.size;
    }

    -- what the text leaves, from its end on
    rest_length : length (part s r.end (length s)) ≡ length s - r.end
    rest_length = ap length (rest_all r.end s) ∙ length-drop r.end s

    rest_at : (n : ℕ) → get_or (part s r.end (length s)) n 0 ≡ get_or s (r.end + n) 0
    rest_at n = ap (λ (l : List ℕ). get_or l n 0) (rest_all r.end s) ∙ get_or-drop r.end s n 0

    rest_first : get_or (part s r.end (length s)) 0 0 ≡ get_or s r.end 0
    rest_first = let m : r.end + 0 ≡ r.end = omega arith in rest_at 0 ∙ ap (λ (j : ℕ). get_or s j 0) m

    pub line_cut_short : length (part s r.end (length s)) < 1 → LineOf s at stops (Err (record {}))
    line_cut_short h = broken_at (λ a _ _. absurd (omega (arith, rest_length))) (λ a b _. absurd (omega (arith, rest_length)))

    module _ (h : length (part s r.end (length s)) < 2) where
      pub line_mark : 1 ≤ length (part s r.end (length s)) → get_or (part s r.end (length s)) 0 0 ≡ 0x1a → r.end ≡ at → LineOf s at stops (Ok None)
      line_mark l b x = record {
        means = record {
          nothing = λ n. absurd (omega arith);
          mark = λ _. ap rows (last_on s at 0 k (omega (arith, rest_length)) ∙ ap (λ (j : ℕ). get_or s j 0 ∷ []) (sym x) ∙ ap (λ (j : ℕ). j ∷ []) (sym rest_first ∙ b));
        };
        size = v.size;
      }

      pub line_one_left : (r.end ≡ at → ⊥) → LineOf s at stops (Err (record {}))
      line_one_left n = broken_at (λ a _ _. absurd (omega (arith, rest_length))) (λ a b _. n b)

      pub line_no_mark : (get_or (part s r.end (length s)) 0 0 ≡ 0x1a → ⊥) → LineOf s at stops (Err (record {}))
      line_no_mark n = broken_at (λ a _ _. absurd (omega (arith, rest_length))) (λ _ _ c. n (rest_first ∙ c))

    module _ (h : 2 ≤ length (part s r.end (length s))) where
      pub line_no_return : (get_or (part s r.end (length s)) 0 0 ≡ 0x0d → ⊥) → LineOf s at stops (Err (record {}))
      line_no_return f = broken_at (λ _ a _. f (rest_first ∙ a)) (λ a b _. absurd (omega (arith, rest_length)))

      pub line_no_feed : (get_or (part s r.end (length s)) 1 0 ≡ 0x0a → ⊥) → LineOf s at stops (Err (record {}))
      line_no_feed f = broken_at (λ _ _ b. f (rest_at 1 ∙ b)) (λ a b _. absurd (omega (arith, rest_length)))

    -- 0Dh 0Ah follow
    pub line_whole : r.end + 1 < length s → get_or s r.end 0 ≡ 0x0d → get_or s (r.end + 1) 0 ≡ 0x0a → LineOf s at stops (Ok (Some r))
    line_whole n a b =
        let t : text (drop at s) ≡ part s at r.end = text_part s at v.ends v.chars in
        record {
          means = record {
            line = whole_at s at v.ends v.chars n a b;
            commas = v.commas ∙ ap comma_count t;
            places = subst (λ (l : List ℕ). Stops l stops) t v.places;
          };
          size = v.size;
        }

    pub line_ends : 2 ≤ length (part s r.end (length s)) → get_or (part s r.end (length s)) 0 0 ≡ 0x0d → get_or (part s r.end (length s)) 1 0 ≡ 0x0a → LineOf s at stops (Ok (Some r))
    line_ends h a b = line_whole (omega (arith, rest_length)) (sym rest_first ∙ a) (sym (rest_at 1) ∙ b)

pub ruleset line_laws = (line_over, line_range, line_cut_short, line_mark, line_one_left, line_no_mark, line_no_return, line_no_feed, line_ends)
