-- What a line found at a position says to a loop over lines, whatever the loop keeps: its bounds, its commas, and the step that it is.
-- Assumes nothing.
use Prim.Native.Nat.{ℕ, ◌+◌, ◌-◌, ◌≤◌, ◌<◌}
use native.Mathlib.Omega.{arith}
use mathlib.Core.Path.{◌≡◌, ap, subst}
use mathlib.Core.Logic.{⊎_elim}
use mathlib.Core.List.{List, [], ◌∷◌}
use mir.Val.{Fits}
use mir.Syntax.{w64}
use lib.ListN.{length, drop, length-drop}
use lib.Seq.{length-take-le}
use Rattle.lists.specs.Lists.{refused}
use Rattle.lists.specs.Searching.{part}
use Rattle.std.specs.Prelude.{Option, Some, None, Ok, Err}
use Rattle.scanning.specs.declared.lines.Scan.{Scan}
use Rattle.scanning.specs.Scans.{Stops, ScannedLine, LineOf}
use Rattle.scanning.proofs.LineLaws.{over_rows}
use Rattle.characters.specs.Rows.{rows}
use Rattle.characters.specs.Scanning.{comma_count, WholeLine, BrokenRow}
use Rattle.characters.proofs.RowLaws.{line_is, line_text, line_no_mark}
use Rattle.records.specs.Records.{record_of}
use Rattle.order.specs.declared.State.{State}
use Rattle.notebook.specs.Notebook.{step_line, closed, onward, records_from}

module _ {s : List ℕ} {at : ℕ} {stops : List ℕ} where
  pub line_some : {o : Option Scan} {r : Scan} → LineOf s at stops (Ok o) → o ≡ Some r → LineOf s at stops (Ok (Some r))
  line_some w q = subst (λ (x : Option Scan). LineOf s at stops (Ok x)) q w

  -- ---- where no record is left

  pub records_over : (st : State) → LineOf s at stops (Ok None) → records_from st (rows (drop at s)) ≡ closed st
  unfolding records_from
  records_over st w = ⊎_elim (ap (records_from st)) (ap (records_from st)) (over_rows w.means)

  pub records_broken : (st : State) → LineOf s at stops (Err (record {})) → records_from st (rows (drop at s)) ≡ refused 2 (st.line + 1)
  unfolding records_from
  records_broken st w = go (rows (drop at s)) w.means
    where
      go : (rs : List (List ℕ)) → BrokenRow rs → records_from st rs ≡ refused 2 (st.line + 1)
      go [] b = absurd b
      go (r ∷ rs) b = rw (b.1, b.0)

  -- ---- a whole line

  module _ {r : Scan} (w : LineOf s at stops (Ok (Some r))) where
    scanned : ScannedLine s at stops r.end r.good r.commas
    scanned = w.means

    pub whole_line : WholeLine s at r.end r.good
    whole_line = scanned.line

    pub whole_low : at ≤ r.end
    whole_low = whole_line.low

    pub whole_high : r.end ≤ length s
    whole_high = omega (arith, whole_line.high)

    pub whole_fits : length s ≤ 65536 → Fits w64 (r.end + 2)
    whole_fits h = omega (arith, whole_line.high)

    pub whole_less : length s - (r.end + 2) < length s - at
    whole_less = omega (arith, whole_line.high, whole_line.low)

    pub whole_commas : r.commas ≡ comma_count (part s at r.end)
    whole_commas = scanned.commas

    pub whole_places : Stops (part s at r.end) stops
    whole_places = scanned.places

    pub whole_length : length (part s at r.end) ≡ r.end - at
    whole_length = length-take-le (r.end - at) (drop at s) (omega (arith, whole_line.low, whole_line.high, length-drop at s))

    pub records_on : (st : State)
        → records_from st (rows (drop at s))
        ≡ onward (st.line + 1) (record_of (part s at r.end)) (λ t. records_from t (rows (drop (r.end + 2) s))) (step_line st (part s at r.end))
    unfolding records_from
    records_on st =
        rw (whole_line.cut, line_no_mark (part s at r.end), line_is (part s at r.end) whole_line.clear, line_text (part s at r.end) whole_line.clear)
