-- Lines at a position: the ways through `slow_line`, `find_line` and `read_line`. Assumes nothing.
use Prim.Native.Nat.{ℕ}
use native.Mathlib.Omega.{arith}
use mathlib.Core.Path.{◌≡◌, refl, sym, ap, ◌∙◌, subst}
use mathlib.Core.Bool.{Bool, true, false, not}
use mathlib.Core.List.{List}
use lib.ListN.{drop}
use borrow.Author.Tests.{eqb-false}
use Rattle.std.specs.Prelude.{Option, Some, None, Result, Ok, Err}
use Rattle.lists.specs.Searching.{part}
use Rattle.lists.proofs.Tests.{not_true', not_false'}
use Rattle.characters.specs.Text.{all_chars}
use Rattle.scanning.specs.declared.lines.Scan.{Scan}
use Rattle.scanning.specs.declared.lines.Broken.{Broken}
use Rattle.scanning.specs.Scans.{ScannedLine, LineOf}
use Rattle.replies.specs.declared.refusal.Refusal.{Refusal}
use Rattle.replies.specs.declared.refusal.Refusal.TheVariants.{LineEnd, Character}
use Rattle.replies.specs.Refusals.{number_of}
use Rattle.replies.proofs.Numbers.{never_0}
use Rattle.order.specs.declared.Facts.{Facts}
use Rattle.records.specs.Split.{items_of}
use Rattle.records.specs.Records.{fault_from, line_fault}
use Rattle.lines.specs.declared.Numbered.{Numbered}
use Rattle.lines.specs.Line.{LineIn}
use Rattle.lines.specs.Details.{details_raw}
use Rattle.lines.specs.Found.{NumberOf, WholeAt, SoundAt, broken, faulty, FoundMeans, FoundOf, ReadOf}
use Rattle.lines.proofs.SplitLaws.{scanned_in}
use Rattle.lines.proofs.LineLaws.{sound_good, sound_broken}

-- "4": characters come before all else
chars_fault : (b : Bool) (l : List ℕ) → all_chars l ≡ false → line_fault b l ≡ 4
unfolding line_fault
chars_fault b l e = rw e

past_chars : (b : Bool) (l : List ℕ) → all_chars l ≡ true → line_fault b l ≡ fault_from b (items_of l)
unfolding line_fault
past_chars b l e = rw e

-- a refusal has a number
some_number : (r : Refusal) → number_of r ≡ 0 → ⊥
some_number r = eqb-false (number_of r) 0 (never_0 r)

-- ---- the ways through slow_line

module _ (b : Bool) (s : List ℕ) (at : ℕ) {stops : List ℕ} {k : Result (Option Scan) Broken} (v : LineOf s at stops k) where
  line_as : {j : Result (Option Scan) Broken} → k ≡ j → LineOf s at stops j
  line_as q = subst (LineOf s at stops) q v

  pub slow_over : k ≡ Ok None → FoundOf b s at stops (Ok None)
  slow_over q = record { means = line_as q }

  pub slow_broken : k ≡ Err (record {}) → FoundOf b s at stops (Err LineEnd)
  slow_broken q = record { means = broken (line_as q) refl }

  module _ {t : Option Scan} {x : Scan} (q : k ≡ Ok t) (p : t ≡ Some x) where
    line : WholeAt s at stops x.end x.good x.commas
    line = line_as (q ∙ ap Ok p)

    whole : ScannedLine s at stops x.end x.good x.commas
    whole = line.means

    pub slow_in : LineIn s at x.end stops x.commas
    slow_in = scanned_in whole

    pub slow_chars : not x.good ≡ true → FoundOf b s at stops (Err Character)
    slow_chars h = record {
      means = faulty x.end x.good x.commas line (sym (chars_fault b (part s at x.end) (sym whole.line.chars ∙ not_true' x.good h))) (λ z. omega arith);
    }

    module _ (h : not x.good ≡ false) where
      pub slow_fault : {r : Refusal} → NumberOf b (part s at x.end) (Err r) → FoundOf b s at stops (Err r)
      slow_fault {r} v = record {
        means = faulty x.end x.good x.commas line (v.means ∙ sym (past_chars b (part s at x.end) (sym whole.line.chars ∙ not_false' x.good h))) (some_number r);
      }

      pub slow_fine : {n : ℕ} → NumberOf b (part s at x.end) (Ok n) → FoundOf b s at stops (Ok (Some (record { number = n; end = x.end; commas = x.commas })))
      slow_fine v = record {
        means = record { line = subst (λ (g : Bool). WholeAt s at stops x.end g x.commas) (not_false' x.good h) line; sound = v.means };
      }

pub ruleset slow_laws = (slow_over, slow_broken, slow_in, slow_chars, slow_fault, slow_fine)

-- ---- the ways through read_line

module _ {b : Bool} {s : List ℕ} {at : ℕ} {stops : List ℕ} {t : Option Numbered} {x : Numbered} (v : FoundOf b s at stops (Ok t)) (p : t ≡ Some x) where
  found : SoundAt b s at stops x
  found = subst (λ (o : Option Numbered). FoundMeans b s at stops (Ok o)) p v.means

  characters : line_fault b (part s at x.end) ≡ fault_from b (items_of (part s at x.end))
  characters = past_chars b (part s at x.end) (sym found.line.means.line.chars)

  module _ {r : Result Facts Refusal} (h : r ≡ details_raw x.number (drop 1 (items_of (part s at x.end)))) where
    pub read_record : {f : Facts} → r ≡ Ok f → ReadOf b s at stops (Ok (Some (record { facts = f; end = x.end; commas = x.commas })))
    read_record q = let g = sound_good found.sound h q in record { means = record { line = found.line; fine = characters ∙ g.0; facts = g.1 } }

    pub read_pairs : {y : Refusal} → r ≡ Err y → ReadOf b s at stops (Err y)
    read_pairs {y} q = record { means = faulty x.end true x.commas found.line (sound_broken found.sound h q ∙ sym characters) (some_number y) }
