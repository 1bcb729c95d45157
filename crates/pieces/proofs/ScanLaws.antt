-- Where the text from a position on ends, eight bytes at a time and then byte by byte, and the row that it is. Assumes nothing.
use Prim.Native.Nat.{ℕ, zero, suc, ◌+◌, ◌-◌, ◌≤◌, ◌<◌}
use mathlib.Core.Path.{◌≡◌, refl, sym, ap, ◌∙◌, subst}
use mathlib.Core.Bool.{Bool, true, false, ◌&&◌, false≢true}
use mathlib.Core.List.{List, [], ◌∷◌, ◌++◌}
use native.Mathlib.Omega.{arith}
use borrow.Author.Tests.{ne_eqb, leb-true, leb-false, ltb-true}
use lib.Dec.{leb, ltb}
use lib.ListN.{length, take, drop, get_or, length-take, length-drop, length-append}
use lib.Seq.{take_at, get_or-take, get_or-drop}
use Rattle.lists.specs.Lists.{same, up_to, is}
use Rattle.lists.specs.Searching.{part, find_from}
use Rattle.lists.proofs.Tests.{same_true}
use Rattle.lists.proofs.Cuts.{rest_all, up_to_hit, up_to_go, up_to_out, up_to_le}
use Rattle.lists.proofs.Loops.{same_length}
use Rattle.characters.specs.Text.{is_stop, text, all_chars}
use Rattle.characters.specs.Rows.{rows, flat, line_end, is_line}
use Rattle.characters.specs.Scanning.{WholeLine}
use Rattle.characters.proofs.RowLaws.{flat_rows, line_is, whole_at}
use Rattle.notebook.specs.Canonical.{head_row}
use Rattle.notebook.proofs.Accepted.{head_length}
use Rattle.heading.proofs.Laws.{heading_bytes}
use Rattle.pieces.specs.declared.Row.{Row}
use Rattle.pieces.specs.declared.Row.TheVariants.{Body}
use Rattle.std.specs.Prelude.{Option, Some, None}
use Rattle.std.specs.Option.{MatchOption, unwrap_or}
use Rattle.std.specs.List.{fold}
use Rattle.std.specs.Array.{IsFirstChunk}
use Rattle.pieces.specs.Answers.{RowAt, KindIs, RowIs, Skipped}
use Rattle.pieces.proofs.RowLaws.{row_feed, row_rest}
use Rattle.division.proofs.Chunks.{body_is}

-- ---- eight bytes

some_low : (xs : List ℕ) → fold (λ (plain : Bool) (b : ℕ). plain && ltb 0x1a b) false xs ≡ false
some_low [] = refl
some_low (b ∷ xs) = some_low xs

none_low : (xs : List ℕ) → fold (λ (plain : Bool) (b : ℕ). plain && ltb 0x1a b) true xs ≡ true → (j : ℕ) → j < length xs → 0x1a < get_or xs j 0
none_low [] e j h = absurd (omega (arith, h))
none_low (b ∷ xs) e j h = go (ltb 0x1a b) refl e j h (none_low xs)
  where
    go : (x : Bool) → ltb 0x1a b ≡ x → fold (λ (plain : Bool) (b : ℕ). plain && ltb 0x1a b) x xs ≡ true → (j : ℕ) → j < suc (length xs)
        → (fold (λ (plain : Bool) (b : ℕ). plain && ltb 0x1a b) true xs ≡ true → (j : ℕ) → j < length xs → 0x1a < get_or xs j 0) → 0x1a < get_or (b ∷ xs) j 0
    go true q e zero h i = ltb-true 0x1a b q
    go true q e (suc j) h i = i e j (omega (arith, h))
    go false q e j h i = absurd (false≢true (sym (some_low xs) ∙ e))

-- ---- eights of bytes

module _ {s : List ℕ} {at i : ℕ} (v : Skipped s at i) where
  pub skip_go : {eight : List ℕ} {plain : Bool} → IsFirstChunk (take (length s - i) (drop i s)) eight 8
      → plain ≡ fold (λ (plain : Bool) (b : ℕ). plain && ltb 0x1a b) true eight → plain ≡ true → Skipped s at (i + 8)
  skip_go {eight} {plain} w p q =
      let is : eight ≡ take 8 (drop i s) = w.same ∙ ap (take 8) (rest_all i s) in
      let room : i + 8 ≤ length s = omega (arith, w.enough, length-take (length s - i) (drop i s), length-drop i s) in
      record { low = omega (arith, v.low); high = room; plain = λ j g l. go is room j g l (leb i j) refl }
    where
      go : eight ≡ take 8 (drop i s) → i + 8 ≤ length s → (j : ℕ) → at ≤ j → j < i + 8 → (b : Bool) → leb i j ≡ b → 0x1a < get_or s j 0
      go is room j g l true e =
          let k : i + (j - i) ≡ j = omega (arith, leb-true i j e) in
          let h : j - i < 8 = omega (arith, leb-true i j e) in
          let z : get_or eight (j - i) 0 ≡ get_or s j 0 =
          ap (λ (x : List ℕ). get_or x (j - i) 0) is ∙ get_or-take 8 (drop i s) (j - i) 0 h ∙ get_or-drop i s (j - i) 0 ∙ ap (λ (x : ℕ). get_or s x 0) k in
          subst (λ (x : ℕ). 0x1a < x) z (none_low eight (sym p ∙ q) (j - i) (omega (arith, ap length is, length-take 8 (drop i s), length-drop i s)))
      go is room j g l false e = v.plain j g (omega (arith, leb-false i j e))

-- ---- what is looked for stands after them

module _ (p : ℕ → Bool) (s : List ℕ) where
  one_on : (i : ℕ) → i < length s → p (get_or s i 0) ≡ false → length (up_to p (drop i s)) ≡ 1 + length (up_to p (drop (i + 1) s))
  one_on i h t = omega (arith, ap length (up_to_go p s i h t))

  many_on : (at n : ℕ) → at + n ≤ length s → ((j : ℕ) → at ≤ j → j < at + n → p (get_or s j 0) ≡ false)
      → length (up_to p (drop at s)) ≡ n + length (up_to p (drop (at + n) s))
  many_on at zero h f = let z : at + 0 ≡ at = omega arith in omega (arith, ap (λ (k : ℕ). length (up_to p (drop k s))) z)
  many_on at (suc n) h f =
      let i : length (up_to p (drop at s)) ≡ n + length (up_to p (drop (at + n) s)) = many_on at n (omega arith) (λ j g l. f j g (omega arith)) in
      let o : length (up_to p (drop (at + n) s)) ≡ 1 + length (up_to p (drop (at + n + 1) s)) =
      one_on (at + n) (omega arith) (f (at + n) (omega arith) (omega arith)) in
      let e : at + n + 1 ≡ at + suc n = omega arith in
      omega (arith, i, o, ap (λ (k : ℕ). length (up_to p (drop k s))) e)

  behind : {at i : ℕ} → ((b : ℕ) → 0x1a < b → p b ≡ false) → Skipped s at i → at + length (up_to p (drop at s)) ≡ i + length (up_to p (drop i s))
  behind {at} {i} f v =
      let e : at + (i - at) ≡ i = omega (arith, v.low) in
      let q : length (up_to p (drop at s)) ≡ (i - at) + length (up_to p (drop (at + (i - at)) s)) =
      many_on at (i - at) (omega (arith, v.low, v.high)) (λ j g l. f (get_or s j 0) (v.plain j g (omega (arith, v.low)))) in
      omega (arith, q, v.low, ap (λ (k : ℕ). length (up_to p (drop k s))) e)

module _ {s : List ℕ} {at i : ℕ} (v : Skipped s at i) {e : ℕ} (h : at < length s) (q : e ≡ find_from 0x0a s i) where
  feed_find : e ≡ find_from 0x0a s at
  unfolding find_from
  feed_find = q ∙ sym (behind (is 0x0a) s (λ b h. ne_eqb b 0x0a (λ e. omega arith)) v)

  pub feed_row : e < length s → RowAt s at (e + 1)
  feed_row = row_feed s h feed_find

  pub feed_rest : length s ≤ e → RowAt s at e
  feed_rest = row_rest s h feed_find

pub ruleset feed_laws = (feed_row, feed_rest)

-- ---- the text

module _ {s : List ℕ} {at i : ℕ} (v : Skipped s at i) where
  -- from the eights on
  left : at + length (text (drop at s)) ≡ i + length (text (drop i s))
  left = behind is_stop s above v
    where
      above : (b : ℕ) → 0x1a < b → is_stop b ≡ false
      above b h = rw (ne_eqb b 0x0d (λ e. omega arith), ne_eqb b 0x0a (λ e. omega arith), ne_eqb b 0x1a (λ e. omega arith))

  on : (n : ℕ) → i ≤ n → n ≤ length s → ((k : ℕ) → i ≤ k → k < n → is_stop (get_or s k 0) ≡ false) → at + length (text (drop at s)) ≡ n + length (text (drop n s))
  on n h g f =
      let e : i + (n - i) ≡ n = omega (arith, h) in
      omega (arith, left, many_on is_stop s i (n - i) (omega (arith, h, g)) (λ k a b. f k a (omega (arith, h, b))), ap (λ (k : ℕ). length (up_to is_stop (drop k s))) e)

  pub text_end_lem : (r : Option ℕ) {n : ℕ}
      → MatchOption r ((k : ℕ) → i ≤ k → k < length s → is_stop (get_or s k 0) ≡ false)
      (λ (j : ℕ). (i ≤ j) × (j < length s) × (is_stop (get_or s j 0) ≡ true) × ((k : ℕ) → i ≤ k → k < j → is_stop (get_or s k 0) ≡ false))
      → n ≡ unwrap_or r (length s) → n ≡ at + length (text (drop at s))
  text_end_lem None f q = q ∙ omega (arith, on (length s) v.high (omega arith) f, ap length (up_to_out is_stop s (length s) (omega arith)))
  text_end_lem (Some j) (a, b, t, f) q = q ∙ omega (arith, on j a (omega (arith, b)) f, ap length (up_to_hit is_stop s j b t))

-- ---- a row with its kind

pub row_any : {s : List ℕ} {at e : ℕ} {k : Row} → RowAt s at e → KindIs (take (e - at) (drop at s)) k → RowIs s at (record { end = e; kind = k })
row_any x p = record { row = x; kind = p }

-- the text ends at i, and 0Dh 0Ah follow
module _ (s : List ℕ) (at : ℕ) {i : ℕ} (p : i ≡ at + length (text (drop at s))) where
  pub text_low : at ≤ i
  text_low = omega (arith, p)

  pub text_high : at < length s → i ≤ length s
  text_high h = omega (arith, p, up_to_le is_stop (drop at s), length-drop at s)

  module _ {z : Bool} (w : z ≡ same (0x0d ∷ 0x0a ∷ []) (take 2 (take (length s - i) (drop i s)))) (v : z ≡ true) where
    ends : take 2 (drop i s) ≡ 0x0d ∷ 0x0a ∷ []
    ends = ap (take 2) (sym (rest_all i s)) ∙ sym (same_true (0x0d ∷ 0x0a ∷ []) (take 2 (take (length s - i) (drop i s))) (sym w ∙ v))

    pub text_room : i + 2 ≤ length s
    text_room = omega (arith, ap length ends, length-take 2 (drop i s), length-drop i s)

    there : (j : ℕ) → j < 2 → get_or s (i + j) 0 ≡ get_or (0x0d ∷ 0x0a ∷ []) j 0
    there j h = sym (get_or-drop i s j 0) ∙ sym (get_or-take 2 (drop i s) j 0 h) ∙ ap (λ (l : List ℕ). get_or l j 0) ends

    whole : WholeLine s at i (all_chars (text (drop at s)))
    whole =
        let e : i + 0 ≡ i = omega arith in
        whole_at s at p refl (omega (arith, text_room)) (ap (λ (k : ℕ). get_or s k 0) (sym e) ∙ there 0 (omega arith)) (there 1 (omega arith))

    bytes : drop at s ≡ (part s at i ++ line_end) ++ drop (i + 2) s
    bytes = sym (flat_rows (drop at s)) ∙ (ap flat whole.cut ∙ ap (λ (x : List ℕ). (part s at i ++ line_end) ++ x) (flat_rows (drop (i + 2) s)))

    size : length (part s at i ++ line_end) ≡ i + 2 - at
    size = simp (length-append, length-take, length-drop) (omega (arith, p, text_room))

    row_is : part s at (i + 2) ≡ part s at i ++ line_end
    row_is = ap (take (i + 2 - at)) bytes ∙ take_at (part s at i ++ line_end) (drop (i + 2) s) (i + 2 - at) size

    pub text_row : RowAt s at (i + 2)
    text_row = record {
      more = omega (arith, p);
      inside = text_room;
      cut = whole.cut ∙ ap (λ (x : List ℕ). x ∷ rows (drop (i + 2) s)) (sym row_is);
    }

    no_head : ((d : Bool) → same (part s at (i + 2)) (head_row d) ≡ false) → RowIs s at (record { end = i + 2; kind = Body })
    no_head f = record {
      row = text_row;
      kind = record { is = body_is (part s at (i + 2)) (ap is_line row_is ∙ line_is (part s at i) whole.clear) f };
    }

    pub text_long : (i + 2 - at ≡ 13 → ⊥) → RowIs s at (record { end = i + 2; kind = Body })
    text_long n =
        no_head (λ d. sym (same_length (part s at (i + 2)) (head_row d) (λ e. n (omega (arith, size, ap length row_is, e, head_length d)))))

    pub text_other : (get_or s at 0 ≡ 0x4a → ⊥) → RowIs s at (record { end = i + 2; kind = Body })
    text_other n = no_head (λ d. go d (same (part s at (i + 2)) (head_row d)) refl)
      where
        first : (d : Bool) → get_or (head_row d) 0 0 ≡ 0x4a
        first d = ap (λ (l : List ℕ). get_or l 0 0) (heading_bytes d)

        front : get_or (part s at (i + 2)) 0 0 ≡ get_or s at 0
        front =
            let z : at + 0 ≡ at = omega arith in
            get_or-take (i + 2 - at) (drop at s) 0 0 (omega (arith, p)) ∙ (get_or-drop at s 0 0 ∙ ap (λ (k : ℕ). get_or s k 0) z)

        go : (d : Bool) (b : Bool) → same (part s at (i + 2)) (head_row d) ≡ b → b ≡ false
        go d false e = refl
        go d true e = absurd (n (sym front ∙ (ap (λ (l : List ℕ). get_or l 0 0) (same_true (part s at (i + 2)) (head_row d) e) ∙ first d)))

pub ruleset text_laws = (row_any, text_low, text_high, text_room, text_row, text_long, text_other)
