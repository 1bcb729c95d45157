-- Each entry cuts out its record's line: from the rows of a file to positions in it. Assumes nothing.
use Prim.Native.Nat.{ℕ, ◌+◌, ◌-◌, ◌≤◌}
use native.Mathlib.Omega.{arith}
use mathlib.Core.Path.{◌≡◌, refl, sym, ap, ap₂, ◌∙◌, subst}
use mathlib.Core.Bool.{Bool, true}
use mathlib.Core.List.{List, ◌∷◌, ◌++◌, append_assoc, tail-eq_of_cons-eq}
use lib.ListN.{length, get_or, take, drop, length-append, length-drop}
use lib.Seq.{get_or-drop, take-append_seam, get_or-append_seam, get_or-append-add}
use Rattle.lists.specs.Lists.{unless}
use Rattle.lists.specs.Searching.{part}
use Rattle.lists.proofs.Tests.{same_true, or_zero_lem, unless_zero}
use Rattle.characters.specs.Text.{all_chars, text}
use Rattle.characters.specs.Rows.{rows, flat, is_line, line_end}
use Rattle.characters.specs.Scanning.{WholeLine}
use Rattle.characters.proofs.RowLaws.{flat_rows, text_clean, text_of, whole_at}
use Rattle.records.specs.Records.{Record, record_of, fault_from, line_fault}
use Rattle.records.specs.Split.{items_of}
use Rattle.records.proofs.LineLaws.{reads}
use Rattle.order.specs.declared.State.{State}
use Rattle.order.proofs.Laws.{provider_kept}
use Rattle.notebook.specs.Facts.{facts_of}
use Rattle.notebook.specs.Index.{Entry, entry_of}
use Rattle.notebook.specs.Meaning.{Cuts, Each}
use Rattle.notebook.proofs.Walk.{Walk, over, more}

-- a row that is a line, at its position
pub record AtRow (s : List ℕ) (at : ℕ) (r : List ℕ) (rs : List (List ℕ)) : Type 0 where
  pub line : WholeLine s at (at + length (text r)) (all_chars (text r))
  pub cut : part s at (at + length (text r)) ≡ text r
  pub behind : rows (drop (at + length r) s) ≡ rs

pub at_row : (s : List ℕ) (at : ℕ) (r : List ℕ) (rs : List (List ℕ)) → rows (drop at s) ≡ r ∷ rs → is_line r ≡ true → AtRow s at r rs
unfolding is_line
at_row s at r rs e h =
    let t : List ℕ = text r in
    let u : List ℕ = 0x0d ∷ 0x0a ∷ flat rs in
    let f : r ≡ t ++ line_end = same_true r (t ++ line_end) h in
    let d : drop at s ≡ t ++ u = sym (flat_rows (drop at s)) ∙ ap flat e ∙ ap (λ (x : List ℕ). x ++ flat rs) f ∙ append_assoc t line_end (flat rs) in
    let x : text (drop at s) ≡ t = ap text d ∙ text_of t (0x0a ∷ flat rs) (text_clean r) in
    let n : at + length t + 2 ≤ length s = omega (arith, ap length d, length-append t u, length-drop at s) in
    let m : at + length t + 1 ≡ at + (length t + 1) = omega arith in
    let a : get_or s (at + length t) 0 ≡ 0x0d =
    sym (get_or-drop at s (length t) 0) ∙ ap (λ (l : List ℕ). get_or l (length t) 0) d ∙ get_or-append_seam t 0x0d (0x0a ∷ flat rs) 0 in
    let b : get_or s (at + length t + 1) 0 ≡ 0x0a =
    ap (λ (k : ℕ). get_or s k 0) m ∙ sym (get_or-drop at s (length t + 1) 0) ∙ ap (λ (l : List ℕ). get_or l (length t + 1) 0) d ∙ get_or-append-add t u 1 0 in
    let w : WholeLine s at (at + length t) (all_chars t) = whole_at s at (ap (λ (l : List ℕ). at + length l) (sym x)) (ap all_chars (sym x)) (omega (arith, n)) a b in
    let k : at + length t - at ≡ length t = omega arith in
    let j : at + length r ≡ at + length t + 2 = omega (arith, ap length f, length-append t line_end) in
    record {
      line = w;
      cut = ap₂ take k d ∙ take-append_seam t u;
      behind = ap (λ (i : ℕ). rows (drop i s)) j ∙ tail-eq_of_cons-eq (sym w.cut ∙ e);
    }

sound_chars : (provider : Bool) (l : List ℕ) → line_fault provider l ≡ 0 → all_chars l ≡ true
unfolding line_fault
sound_chars provider l e = unless_zero (all_chars l) 3 (or_zero_lem (unless (all_chars l) 4) (fault_from provider (items_of l)) e).0

pub walk_cuts : (provider : Bool) (s : List ℕ) {st : State} {at : ℕ} {rs : List (List ℕ)} {recs : List Record} {es : List Entry}
    → rows (drop at s) ≡ rs → st.provider ≡ provider → Walk st at rs recs es → Each (Cuts provider s) es recs
unfolding entry_of
walk_cuts provider s e side over = tt
walk_cuts provider s e side (more {st = st} {at = at} {r = r} {rs = rs} {after = after} {rp = rp} {doctor = doctor} l p w) =
    let x : AtRow s at r rs = at_row s at r rs e l in
    let f : line_fault provider (text r) ≡ 0 = rw side at p.sound in (
      record {
        line = subst (WholeLine s at (at + length (text r))) (sound_chars provider (text r) f) x.line;
        read = rw x.cut (reads provider (text r) f);
        number = refl;
      },
      walk_cuts provider s x.behind (provider_kept st (facts_of (record_of (text r))) after rp doctor p.step ∙ side) w,
    )
