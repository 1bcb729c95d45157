-- The record 911: what is written is read as the same, and no line that is read is shorter than the one that would be written. Assumes nothing.
use Prim.Native.Nat.{ℕ, ◌+◌, ◌≤◌}
use native.Mathlib.Omega.{arith}
use mathlib.Core.Path.{◌≡◌, refl, sym, ap, ◌∙◌, subst}
use mathlib.Core.Bool.{Bool, true, false, cond, not, ◌&&◌}
use Rattle.std.specs.Prelude.{Option, Some, None}
use mathlib.Core.List.{List, [], ◌∷◌, ◌++◌}
use borrow.Author.Tests.{eqb-true, ne_eqb}
use lib.Dec.{eqb}
use lib.ListN.{length, length-append}
use Rattle.lists.specs.Lists.{bytes, all, same}
use Rattle.lists.proofs.Tests.{both, same_refl, same_true, all_append}
use Rattle.digits.specs.Digits.{is_digit, number, spell, digit_count}
use Rattle.digits.proofs.Numbers.{number_spell, length_spell, digits_spell, digit_is, number_length}
use Rattle.characters.specs.Text.{is_stop, text}
use Rattle.characters.specs.Scanning.{clean}
use Rattle.characters.specs.Rows.{line_end}
use Rattle.characters.proofs.RowLaws.{line_is, line_text}
use Rattle.records.specs.Split.{items_of, joined}
use Rattle.records.specs.Records.{t911, first_of, is_mark, header}
use Rattle.records.proofs.Splits.{NoComma, Split, split, items_joined, joined_length}
use Rattle.notebook.specs.Canonical.{head_row}
use Rattle.notebook.proofs.Accepted.{IsLine}
use Rattle.division.specs.Marks.{valid_id, Mark, mark_line, mark_row, marked, mark_of, read_mark}
use Rattle.division.proofs.Chunks.{Body, body_is}

no_none : {A : Type 0} {a : A} → ◌≡◌ {A = Option A} None (Some a) → ⊥
no_none e = let z : ◌≡◌ {A = ℕ} 0 1 = cc in omega arith

-- ---- digits are no commas, and no line ends

no_comma : (s : List ℕ) → all is_digit s ≡ true → NoComma s
no_comma [] e = tt
no_comma (b ∷ s) e =
    let p = both (is_digit b) (all is_digit s) e in
    let q : (48 ≤ b) × (b ≤ 57) = digit_is b p.0 in
    (ne_eqb b 0x2c (λ z. omega arith), no_comma s p.1)

digit_clean : (s : List ℕ) → all is_digit s ≡ true → clean s ≡ true
digit_clean [] e = refl
digit_clean (b ∷ s) e =
    let p = both (is_digit b) (all is_digit s) e in
    let q : (48 ≤ b) × (b ≤ 57) = digit_is b p.0 in
    rw (ne_eqb b 0x0d (λ z. omega arith), ne_eqb b 0x0a (λ z. omega arith), ne_eqb b 0x1a (λ z. omega arith)) (digit_clean s p.1)

-- ---- written

pub id_is : (i : List ℕ) → valid_id i ≡ true → (length i ≡ 14) × (all is_digit i ≡ true)
unfolding valid_id
id_is i e = let p = both (eqb (length i) 14) (all is_digit i) e in (eqb-true _ _ p.0, p.1)

module _ (i : List ℕ) (n k : ℕ) (hi : valid_id i ≡ true) (hn : n ≤ 999) (hk : k ≤ 999) where
  items_mark : items_of (mark_line i n k) ≡ t911 ∷ i ∷ spell n ∷ spell k ∷ []
  unfolding mark_line t911
  items_mark =
      items_joined t911 (i ∷ spell n ∷ spell k ∷ []) (refl, (refl, (refl, tt)))
      (no_comma i (id_is i hi).1, (no_comma (spell n) (digits_spell n hn), (no_comma (spell k) (digits_spell k hk), tt)))

  pub read_written : read_mark (mark_line i n k) ≡ Some (record { ident = i; count = n; place = k })
  unfolding read_mark
  read_written = ap mark_of items_mark ∙ rw (same_refl t911, hi, number_spell n hn, number_spell k hk)

  pub written_is : is_mark (mark_line i n k) ≡ true
  unfolding is_mark
  written_is = ap (λ (x : List (List ℕ)). same (first_of x) t911) items_mark ∙ same_refl t911

  pub written_length : length (mark_line i n k) ≡ 3 + 1 + 14 + 1 + digit_count n + 1 + digit_count k
  unfolding mark_line t911
  written_length =
      omega (arith, joined_length t911 (i ∷ spell n ∷ spell k ∷ []), (id_is i hi).0, length_spell n hn, length_spell k hk)

  clean_tail : clean (i ++ 0x2c ∷ (spell n ++ 0x2c ∷ spell k)) ≡ true
  clean_tail =
      let t : clean (spell n ++ 0x2c ∷ spell k) ≡ true =
      all_append (λ b. not (is_stop b)) (spell n) (0x2c ∷ spell k) ∙ rw (digit_clean (spell n) (digits_spell n hn)) (digit_clean (spell k) (digits_spell k hk)) in
      all_append (λ b. not (is_stop b)) i (0x2c ∷ (spell n ++ 0x2c ∷ spell k)) ∙ rw (digit_clean i (id_is i hi).1) t

  written_clean : clean (mark_line i n k) ≡ true
  unfolding mark_line joined t911
  written_clean = clean_tail

  -- its row is a line after line 1
  pub mark_text : text (mark_row i n k) ≡ mark_line i n k
  unfolding mark_row
  mark_text = line_text (mark_line i n k) written_clean

  mark_line_lem : IsLine (mark_row i n k)
  unfolding mark_row
  mark_line_lem = line_is (mark_line i n k) written_clean

  no_head : (d : Bool) → same (mark_row i n k) (head_row d) ≡ false
  unfolding mark_row mark_line joined t911 header bytes
  no_head true = refl
  no_head false = refl

  pub mark_body : Body (mark_row i n k)
  mark_body = body_is (mark_row i n k) mark_line_lem no_head

  pub mark_length : length (mark_row i n k) ≡ 3 + 1 + 14 + 1 + digit_count n + 1 + digit_count k + 2
  unfolding mark_row
  mark_length = omega (arith, written_length, length-append (mark_line i n k) line_end)

-- ---- read

-- what was read of a line's items
pub record Items (xs : List (List ℕ)) (m : Mark) : Type 0 where
  pub n : List ℕ
  pub k : List ℕ
  pub shape : xs ≡ t911 ∷ m.ident ∷ n ∷ k ∷ []
  pub valid : valid_id m.ident ≡ true
  pub count : number n ≡ Some m.count
  pub place : number k ≡ Some m.place

items_are : (xs : List (List ℕ)) (m : Mark) → mark_of xs ≡ Some m → Items xs m
items_are [] m e = absurd (no_none e)
items_are (a ∷ []) m e = absurd (no_none e)
items_are (a ∷ i ∷ []) m e = absurd (no_none e)
items_are (a ∷ i ∷ n ∷ []) m e = absurd (no_none e)
items_are (a ∷ i ∷ n ∷ k ∷ []) m e = go (same a t911) refl (valid_id i) refl (number n) refl (number k) refl e
  where
    go : (x : Bool) → same a t911 ≡ x → (y : Bool) → valid_id i ≡ y → (u : Option ℕ) → number n ≡ u → (v : Option ℕ) → number k ≡ v
        → cond (x && y) (marked i u v) None ≡ Some m → Items (a ∷ i ∷ n ∷ k ∷ []) m
    go true p true q (Some u) r (Some v) s e =
        let w : ◌≡◌ {A = Mark} (record { ident = i; count = u; place = v }) m = cc in
        subst (Items (a ∷ i ∷ n ∷ k ∷ [])) w
        (record { n = n; k = k; shape = ap (λ (z : List ℕ). z ∷ i ∷ n ∷ k ∷ []) (same_true a t911 p); valid = q; count = r; place = s })
    go true p true q (Some u) r None s e = absurd (no_none e)
    go true p true q None r v s e = absurd (no_none e)
    go true p false q u r v s e = absurd (no_none e)
    go false p y q u r v s e = absurd (no_none e)
items_are (a ∷ i ∷ n ∷ k ∷ x ∷ xs) m e = absurd (no_none e)

module _ (l : List ℕ) (m : Mark) (e : read_mark l ≡ Some m) where
  items_read : Items (items_of l) m
  unfolding read_mark
  items_read = items_are (items_of l) m e

  pub read_is : is_mark l ≡ true
  unfolding is_mark
  read_is = ap (λ (x : List (List ℕ)). same (first_of x) t911) items_read.shape ∙ same_refl t911

  pub read_valid : valid_id m.ident ≡ true
  read_valid = items_read.valid

  pub read_count : m.count ≤ 999
  read_count = (number_length items_read.n m.count items_read.count).1

  pub read_place : m.place ≤ 999
  read_place = (number_length items_read.k m.place items_read.place).1

  -- NO SPELLING OF IT IS SHORTER than what the packing counts for it
  pub read_length : 3 + 1 + 14 + 1 + digit_count m.count + 1 + digit_count m.place ≤ length l
  unfolding t911
  read_length =
      let r : Items (items_of l) m = items_read in
      let s : Split l = split l in
      let j : l ≡ joined t911 (m.ident ∷ r.n ∷ r.k ∷ []) = sym s.joins ∙ from (sym s.cut ∙ r.shape) in
      omega (
        arith,
        ap length j,
        joined_length t911 (m.ident ∷ r.n ∷ r.k ∷ []),
        (id_is m.ident r.valid).0,
        (number_length r.n m.count r.count).0,
        (number_length r.k m.place r.place).0,
      )
    where
      join : List (List ℕ) → List ℕ
      join [] = []
      join (x ∷ xs) = joined x xs

      from : {h x : List ℕ} {ss xs : List (List ℕ)} → h ∷ ss ≡ x ∷ xs → joined h ss ≡ joined x xs
      from q = ap join q
