-- The worked examples of specs/Examples.antt and specs/SoundExamples.antt come out as written there. Assumes nothing.
use Prim.Native.Nat.{ℕ}
use native.Mathlib.Omega.{arith}
use mathlib.Core.Path.{◌≡◌, refl, sym, ap, ◌∙◌}
use mathlib.Core.Bool.{true, false}
use mathlib.Core.List.{List, [], ◌∷◌, map}
use lib.ListN.{length, replicate}
use Rattle.lists.specs.Lists.{bytes, same, All, Res, ok, refused}
use Rattle.lists.proofs.Tests.{same_refl}
use Rattle.digits.specs.Digits.{value, number, spell, digit_count}
use Rattle.characters.specs.Rows.{flat, is_line}
use Rattle.eras.specs.Day.{leap, month_length, is_real, is_day}
use Rattle.eras.specs.Era.{era_of, era_on, write_day}
use Rattle.calendar.specs.Day.{gregorian}
use Rattle.calendar.specs.Era.{in_era, from_era, read_day}
use Rattle.records.specs.Split.{joined}
use Rattle.records.specs.Table.{table}
use Rattle.records.specs.Items.{edge, one_width, is_decimal, sized, fault, value_of as value_of}
use Rattle.records.specs.Records.{item_fault, item_value, items_fault, items_value, row_in, table_row, pairs, t911, is_mark, record_from, fault_from, line_fault, record_of, header, write}
use Rattle.rules.specs.Places.{in_group, may_follow}
use Rattle.rules.specs.Rules.{pair_broken, misplaced, closes_rp, lacking, missing, value_wrong, newer_group, order_refusal, unfinished}
use Rattle.order.specs.State.{nothing_yet, start, had_after, advance, refusal_of, step_of, finish_of}
use Rattle.notebook.specs.Facts.{facts_of}
use Rattle.notebook.specs.Notebook.{Notebook, step_line, closed, onward, records_from, read_rows, read_file}
use Rattle.notebook.proofs.Accepted.{no_refusal}
use Rattle.notebook.specs.Same.{arrange}
use Rattle.notebook.specs.Canonical.{record_rows, write_file, canonical_bytes}
use Rattle.notebook.proofs.CanonicalLaws.{canonical_same}
use Rattle.ids.specs.Used.{first_ids, ids_in, unused}
use Rattle.packing.specs.Packing.{total, put, pack}
use Rattle.packing.specs.Widths.{over, serves, tries, plan}
use Rattle.division.specs.Marks.{valid_id, mark_line, mark_row, read_mark}
use Rattle.division.specs.Pieces.{Piece, kind_of, broken_from, broken_line, body_of, pieces_in, split_rows, split, file_of}
use Rattle.division.specs.Join.{unmarked, part_of, all_parts, agree, find_part, gather, join_pieces, joined_file, join_file}
use Rattle.replies.specs.Results.{answer_in}
use Rattle.division.specs.Cut.{piece_bytes, numbered, cutting, cut_list, cut_result}
use Rattle.division.specs.Examples.{ident, mark_lines, their_marks, inputs, their_files, Asked, asked, their_answers}
use Rattle.division.specs.Demand.{Sound}
use Rattle.division.specs.SoundExamples.{two_dates, Claim, their_file, sound, not_sound}

pub mark_written : mark_line ident 12 3 ≡ bytes "911,20261115000001,12,3"
unfolding bytes spell joined t911 mark_line
mark_written = refl

pub marks_hold : map read_mark mark_lines ≡ their_marks
unfolding bytes value number t911 valid_id read_mark
marks_hold = refl

pub joins_hold : map join_file inputs ≡ their_files
unfolding bytes value number spell is_line leap month_length is_real is_day gregorian era_of in_era from_era read_day table edge one_width is_decimal sized fault value_of item_fault item_value items_fault items_value row_in table_row pairs t911 is_mark record_from fault_from line_fault record_of header in_group may_follow pair_broken misplaced closes_rp lacking missing value_wrong newer_group order_refusal unfinished nothing_yet start had_after advance refusal_of step_of finish_of facts_of step_line closed onward records_from read_rows read_file valid_id read_mark kind_of broken_from broken_line body_of pieces_in split_rows split file_of unmarked part_of all_parts agree find_part gather join_pieces joined_file join_file
joins_hold = refl

pub cuts_hold : map (λ (a : Asked). answer_in (cut_result a.file a.capacity a.id a.used) (replicate a.room 0)) asked ≡ their_answers
unfolding bytes spell is_line value leap month_length is_real is_day gregorian era_of era_on in_era from_era read_day write_day table edge one_width is_decimal sized fault value_of item_fault item_value items_fault items_value row_in table_row pairs t911 record_from fault_from line_fault record_of header in_group may_follow pair_broken misplaced closes_rp lacking missing value_wrong newer_group order_refusal unfinished nothing_yet start had_after advance refusal_of step_of finish_of facts_of step_line closed onward records_from read_rows read_file joined write record_rows arrange write_file canonical_bytes total put pack digit_count over serves tries plan valid_id first_ids ids_in unused mark_line mark_row piece_bytes numbered cutting cut_list cut_result answer_in
cuts_hold = refl

-- ---- sound lists

infixr 5 ◌also◌
◌also◌ : {A B : Type 0} → A → B → A × B
x also y = (x, y)

pub sound_hold : All (λ (x : Claim). Sound two_dates x.capacity x.list) sound
unfolding bytes value number spell is_line leap month_length is_real is_day gregorian era_of era_on in_era from_era read_day write_day table edge one_width is_decimal sized fault value_of item_fault item_value items_fault items_value row_in table_row pairs t911 is_mark record_from fault_from line_fault record_of header in_group may_follow pair_broken misplaced closes_rp lacking missing value_wrong newer_group order_refusal unfinished nothing_yet start had_after advance refusal_of step_of finish_of facts_of step_line closed onward records_from read_rows read_file joined write record_rows arrange write_file canonical_bytes valid_id read_mark kind_of broken_from broken_line body_of pieces_in split_rows split file_of unmarked part_of all_parts agree find_part gather join_pieces joined_file join_file
sound_hold =
    record {
      pieces = record { piece = _; is = refl } also record { piece = _; is = refl } also record { piece = _; is = refl } also tt;
      fits = record { fits = omega arith } also record { fits = omega arith } also record { fits = omega arith } also tt;
      file = their_file;
      joins = refl;
      same = record { one = _; other = _; read_one = refl; read_other = refl; same = refl };
    }
    also record {
      pieces = record { piece = _; is = refl } also tt;
      fits = record { fits = omega arith } also tt;
      file = two_dates;
      joins = refl;
      same = record { one = _; other = _; read_one = refl; read_other = refl; same = refl };
    }
    also tt

two_one : {a b c : Piece} → ◌≡◌ {A = Res (List Piece)} (ok (a ∷ b ∷ [])) (ok (c ∷ [])) → ⊥
two_one {a} {b} {c} e = let z : a ∷ b ∷ [] ≡ c ∷ [] = cc in omega (arith, ap length z)

-- nothing where the file is refused
abbrev canonical_of : Res Notebook → List ℕ
canonical_of (ok b) = canonical_bytes b
canonical_of (refused n line) = []

-- the joined file w has another canonical file, so that it carries another notebook
other : (ps : List (List ℕ)) (c : ℕ) (w : List ℕ) → join_file (flat ps) ≡ ok w → same (canonical_of (read_file w)) (canonical_of (read_file two_dates)) ≡ false
    → Sound two_dates c ps → ⊥
other ps c w j d s =
    let q : ◌≡◌ {A = Res (List ℕ)} (ok w) (ok s.file) = sym j ∙ s.joins in
    let z : w ≡ s.file = cc in
    let k = s.same in
    let t : canonical_of (read_file w) ≡ canonical_of (read_file two_dates) =
    ap canonical_of (ap read_file z ∙ k.read_one) ∙ (canonical_same s.file two_dates k.one k.other k.read_one k.read_other).1 k.same
    ∙ sym (ap canonical_of k.read_other) in
    let u : true ≡ false = sym (same_refl (canonical_of (read_file two_dates))) ∙ ap (λ (x : List ℕ). same x (canonical_of (read_file two_dates))) (sym t) ∙ d in
    let v : ◌≡◌ {A = ℕ} 0 1 = cc in
    omega arith

pub not_sound_lem : All (λ (x : Claim). Sound two_dates x.capacity x.list → ⊥) not_sound
unfolding bytes value number spell is_line leap month_length is_real is_day gregorian era_of era_on in_era from_era read_day write_day table edge one_width is_decimal sized fault value_of item_fault item_value items_fault items_value row_in table_row pairs t911 is_mark record_from fault_from line_fault record_of header in_group may_follow pair_broken misplaced closes_rp lacking missing value_wrong newer_group order_refusal unfinished nothing_yet start had_after advance refusal_of step_of finish_of facts_of step_line closed onward records_from read_rows read_file joined write record_rows arrange write_file canonical_bytes valid_id read_mark kind_of broken_from broken_line body_of pieces_in split_rows split file_of unmarked part_of all_parts agree find_part gather join_pieces joined_file join_file
not_sound_lem =
    (λ s. omega (arith, s.fits.1.1.0.fits))
    also (λ s. two_one s.pieces.0.is)
    also (λ s. no_refusal s.pieces.1.0.is)
    also (λ s. no_refusal s.joins)
    also (λ s. no_refusal s.joins)
    also (λ s. no_refusal s.joins)
    also other _ _ _ refl refl
    also other _ _ _ refl refl
    also other _ _ _ refl refl
    also tt
