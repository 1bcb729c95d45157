-- How a file begins: the ways through `open_file`, and what an opening says to its caller. Assumes nothing.
use Prim.Native.Nat.{ℕ, ◌+◌, ◌-◌, ◌≤◌, ◌<◌}
use native.Mathlib.Omega.{arith}
use mathlib.Core.Path.{◌≡◌, refl, sym, ap, ◌∙◌}
use mathlib.Core.Logic.{⊎_elim}
use mathlib.Core.Bool.{Bool, true, false, true≢false}
use mathlib.Core.List.{List, [], ◌∷◌, ◌++◌}
use borrow.Author.Tests.{le-leb, lt-leb}
use mir.Val.{Fits}
use mir.Syntax.{w64}
use lib.ListN.{length, take, drop, length-append}
use lib.Seq.{length-take-le, take_at}
use Rattle.lists.specs.Lists.{same, refused}
use Rattle.lists.specs.Searching.{part}
use Rattle.lists.proofs.Tests.{same_true, same_refl}
use Rattle.std.specs.Prelude.{Option, Some, None, Ok, Err}
use Rattle.scanning.specs.declared.lines.Scan.{Scan}
use Rattle.characters.specs.Rows.{rows, flat, is_line, line_end}
use Rattle.characters.specs.Scanning.{WholeLine, BrokenRow}
use Rattle.scanning.specs.Scans.{LineOf}
use Rattle.scanning.proofs.LineLaws.{over_rows}
use Rattle.characters.proofs.RowLaws.{line_is, line_text, flat_rows}
use Rattle.records.specs.Records.{header}
use Rattle.notebook.specs.Notebook.{read_rows, read_file}
use Rattle.notebook.specs.Canonical.{head_row}
use Rattle.notebook.proofs.Accepted.{rows_read}
use Rattle.replies.specs.declared.refusal.Refusal.TheVariants.{Large, LineEnd, Version}
use Rattle.heading.specs.Reading.{heading_of}
use Rattle.heading.proofs.Laws.{heading_is, heading_not}
use Rattle.checking.specs.declared.Opening.{Opening}
use Rattle.checking.specs.Opening.{Behind, OpeningOf}

module _ (s : List ℕ) where
  pub open_large : 65536 < length s → OpeningOf s (Err (record { refusal = Large; line = 0 }))
  unfolding read_file
  open_large h = record { means = rw (lt-leb (length s) 65536 h) }

  module _ (h : length s ≤ 65536) where
    by_rows : read_file s ≡ read_rows (rows s)
    unfolding read_file
    by_rows = rw (le-leb (length s) 65536 h)

    pub open_over : {stops : List ℕ} → LineOf s 0 stops (Ok None) → OpeningOf s (Err (record { refusal = LineEnd; line = 1 }))
    unfolding read_rows is_line
    open_over w = record { means = by_rows ∙ ⊎_elim (ap read_rows) (ap read_rows) (over_rows w.means) }

    pub open_broken : {stops : List ℕ} → LineOf s 0 stops (Err (record {})) → OpeningOf s (Err (record { refusal = LineEnd; line = 1 }))
    unfolding read_rows
    open_broken w = record { means = by_rows ∙ go (rows s) w.means }
      where
        go : (rs : List (List ℕ)) → BrokenRow rs → read_rows rs ≡ refused 2 1
        go [] b = absurd b
        go (r ∷ rs) b = rw b.0

    module _ {stops : List ℕ} {r : Scan} (w : LineOf s 0 stops (Ok (Some r))) where
      line_1 : WholeLine s 0 r.end r.good
      line_1 = w.means.line

      pub open_fits : Fits w64 (r.end + 2)
      open_fits = omega (arith, line_1.high, h)

      pub open_high : r.end + 2 ≤ length s
      open_high = line_1.high

      -- line 1 with its end
      row_1 : part s 0 (r.end + 2) ≡ part s 0 r.end ++ line_end
      row_1 =
          let l : length (part s 0 r.end ++ line_end) ≡ r.end + 2 - 0 = length-append (part s 0 r.end) line_end ∙ omega (arith, length-take-le (r.end - 0) s (omega (arith, line_1.high))) in
          let a : s ≡ (part s 0 r.end ++ line_end) ++ flat (rows (drop (r.end + 2) s)) = sym (flat_rows s) ∙ ap flat line_1.cut in
          ap (take (r.end + 2 - 0)) a ∙ take_at (part s 0 r.end ++ line_end) (flat (rows (drop (r.end + 2) s))) (r.end + 2 - 0) l

      module _ {f : Option Bool} (p₀ : f ≡ heading_of (take (r.end + 2) s)) where
        p : f ≡ heading_of (part s 0 (r.end + 2))
        p = p₀ ∙ ap (λ (k : ℕ). heading_of (take k s)) {x = r.end + 2} {y = r.end + 2 - 0} (omega arith)

        pub open_records : {provider : Bool} → f ≡ Some provider → OpeningOf s (Ok (record { provider = provider; from = r.end + 2 }))
        open_records {provider} t =
            let a : part s 0 (r.end + 2) ≡ head_row provider = heading_is (part s 0 (r.end + 2)) p t in
            let c : rows s ≡ head_row provider ∷ rows (drop (r.end + 2) s) = line_1.cut ∙ ap (λ (r' : List ℕ). r' ∷ rows (drop (r.end + 2) s)) (sym row_1 ∙ a) in
            record {
              means = record {
                behind = record { low = omega arith; high = line_1.high; small = h };
                first = a;
                cut = c;
                read = by_rows ∙ ap read_rows c ∙ rows_read provider (rows (drop (r.end + 2) s));
              };
            }

        -- it is no line 1 without its line end either
        other : f ≡ None → (d : Bool) → same (part s 0 r.end) (header d) ≡ false
        other t d = go (same (part s 0 r.end) (header d)) refl
          where
            go : (x : Bool) → same (part s 0 r.end) (header d) ≡ x → x ≡ false
            go false a = refl
            go true a =
                let r' : part s 0 (r.end + 2) ≡ head_row d = row_1 ∙ ap (λ (l : List ℕ). l ++ line_end) (same_true (part s 0 r.end) (header d) a) in
                absurd (true≢false (sym (ap (λ (l : List ℕ). same l (head_row d)) r' ∙ same_refl (head_row d)) ∙ heading_not (part s 0 (r.end + 2)) p t d))

        pub open_version : f ≡ None → OpeningOf s (Err (record { refusal = Version; line = 1 }))
        unfolding read_rows
        open_version t = record {
          means = by_rows ∙ rw (line_1.cut, line_is (part s 0 r.end) line_1.clear, line_text (part s 0 r.end) line_1.clear, other t true, other t false);
        }

pub ruleset open_laws = (open_large, open_over, open_broken, open_fits, open_high, open_records, open_version)

-- ---- what an opening says

pub opening_behind : {s : List ℕ} {o : Opening} → OpeningOf s (Ok o) → Behind s o.from
opening_behind w = w.means.behind
