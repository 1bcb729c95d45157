-- A record 1 of a file that is read has no fault, in whichever line it stands. Assumes nothing.
use Prim.Native.Nat.{ℕ}
use mathlib.Core.Path.{◌≡◌, refl, sym, ap, subst, ◌∙◌}
use mathlib.Core.Bool.{Bool, true, false, false≢true}
use mathlib.Core.List.{List, [], ◌∷◌, ◌++◌, map, nil≢cons, head-eq_of_cons-eq, tail-eq_of_cons-eq}
use Rattle.lists.specs.Lists.{same, All, ok}
use Rattle.characters.specs.Text.{text}
use Rattle.characters.specs.Rows.{rows, flat, end_mark}
use Rattle.characters.proofs.RowLaws.{line_is, line_text}
use Rattle.records.specs.Records.{Record, line_fault}
use Rattle.notebook.specs.Notebook.{Notebook, read_file}
use Rattle.notebook.specs.Canonical.{ended, head_row}
use Rattle.notebook.proofs.Accepted.{IsLine, row_cut, line_no_end, head_line, Lines, none, more, Ended, nothing, mark, Taken, Carried, accepted}
use Rattle.faults.specs.Faults.{whole_lines}
use Rattle.faults.proofs.RowsOf.{rows_append, no_mark}
use Rattle.names.specs.Names.{Person, AreItems, file_after}
use Rattle.names.proofs.Lines.{line_with, line_clean}

-- lines one after the other are whole lines
ended_whole : (t s : List ℕ) → whole_lines s ≡ true → whole_lines (ended t ++ s) ≡ true
ended_whole [] [] h = refl
ended_whole [] (b ∷ s) h = h
ended_whole (a ∷ []) s h = ended_whole [] s h
ended_whole (a ∷ b ∷ t) s h = ended_whole (b ∷ t) s h

before_whole : (ls : List (List ℕ)) → whole_lines (flat (map ended ls)) ≡ true
before_whole [] = refl
before_whole (l ∷ ls) = ended_whole l (flat (map ended ls)) (before_whole ls)

-- a line that no 1Ah alone stands before is one of those that were read
in_front_lem : {d : Bool} {recs : List Record} (bs : List (List ℕ)) (r : List ℕ) (rs fs behind : List (List ℕ)) → All (λ b. same b end_mark ≡ false) bs → IsLine r
    → bs ++ r ∷ rs ≡ fs ++ behind → Ended behind → Lines d recs fs → line_fault d (text r) ≡ 0
in_front_lem [] r rs [] behind m l e nothing none = absurd (nil≢cons (sym e))
in_front_lem [] r rs [] behind m l e mark none =
    absurd (false≢true (sym (line_no_end r l) ∙ ap (λ (x : List ℕ). same x end_mark) (head-eq_of_cons-eq e)))
in_front_lem {d} [] r rs (f ∷ fs) behind m l e n (more x xs) = subst (λ (y : List ℕ). line_fault d (text y) ≡ 0) (sym (head-eq_of_cons-eq e)) x.good
in_front_lem (b ∷ bs) r rs [] behind m l e nothing none = absurd (nil≢cons (sym e))
in_front_lem (b ∷ bs) r rs [] behind (m, ms) l e mark none =
    absurd (false≢true (sym m ∙ ap (λ (x : List ℕ). same x end_mark) (head-eq_of_cons-eq e)))
in_front_lem (b ∷ bs) r rs (f ∷ fs) behind (m, ms) l e n (more x xs) = in_front_lem bs r rs fs behind ms l (tail-eq_of_cons-eq e) n xs

module _ (d : Bool) (before : List (List ℕ)) (p : Person) (kana rest : List ℕ) (w : AreItems p kana) where
  line_row : IsLine (ended (line_with p kana))
  line_row = line_is (line_with p kana) (line_clean p kana w)

  file_rows : rows (file_after d before p kana rest) ≡ head_row d ∷ (rows (flat (map ended before)) ++ ended (line_with p kana) ∷ rows rest)
  unfolding file_after
  file_rows =
      row_cut (head_row d) (flat (map ended before) ++ (ended (line_with p kana) ++ rest)) (head_line d)
      ∙ ap (λ (x : List (List ℕ)). head_row d ∷ x)
      (rows_append (flat (map ended before)) (ended (line_with p kana) ++ rest) (before_whole before)
      ∙ ap (λ (x : List (List ℕ)). rows (flat (map ended before)) ++ x) (row_cut (ended (line_with p kana)) rest line_row))

  pub no_line_fault : (b : Notebook) → read_file (file_after d before p kana rest) ≡ ok b → line_fault b.provider (line_with p kana) ≡ 0
  no_line_fault b e =
      let c : Carried (file_after d before p kana rest) b = accepted (file_after d before p kana rest) b e in
      let t = c.taken in
      let q : rows (flat (map ended before)) ++ ended (line_with p kana) ∷ rows rest ≡ c.rest = tail-eq_of_cons-eq (sym file_rows ∙ c.cut) in
      let g = in_front_lem (rows (flat (map ended before))) (ended (line_with p kana)) (rows rest) t.front t.behind (no_mark (flat (map ended before)) (before_whole before)) line_row (q ∙ t.cut) t.ended t.lines in
      subst (λ (x : List ℕ). line_fault b.provider x ≡ 0) (line_text (line_with p kana) (line_clean p kana w)) g
