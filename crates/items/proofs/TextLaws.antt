-- The kinds of text: what the scripts of their characters tell, and the first and the last character. Assumes nothing.
use Prim.Native.Nat.{ℕ, suc, ◌+◌, ◌-◌, ◌≤◌}
use mathlib.Core.Path.{◌≡◌, refl, sym, ap, ap₂, ◌∙◌, subst}
use mathlib.Core.Bool.{Bool, true, false, cond, not, ◌&&◌, true≢false, and-false}
use mathlib.Core.Logic.{◌⊎◌, ⊎_elim}
use mathlib.Core.List.{List, [], ◌∷◌, ◌++◌}
use native.Mathlib.Omega.{arith}
use Rattle.std.specs.Prelude.{Option, Some, None, is_some, IfSome}
use borrow.Author.Tests.{ne_eqb, eq-eqb, eqb-true, eqb-false, leb-true}
use lib.Dec.{leb, eqb}
use lib.ListN.{length, get_or, take, drop, take-append-drop}
use Rattle.lists.specs.Lists.{last}
use Rattle.lists.proofs.Tests.{both, not_true'}
use Rattle.lists.proofs.Cuts.{drop_end, two_on}
use Rattle.characters.specs.Cells.{full_row, part_row, allowed, cell_script, is_one, trail_script, pair_script, is_char, is_one_byte, is_two_byte, is_hiragana, is_katakana}
use Rattle.characters.specs.Text.{chars_are, all_chars}
use Rattle.characters.specs.Scanning.{is_pair, bytes_of, is_own_hiragana, is_own_katakana, is_either}
use Rattle.characters.proofs.BytesLaws.{Shared, shared_by, bytes_on, bytes_most, bytes_shared, bytes_all, are_chars}
use Rattle.characters.proofs.CharLaws.{pair_parts}
use Rattle.scanning.proofs.TextLaws.{lead_from_81, trail_from_40}
use Rattle.scanning.specs.declared.runs.Scripts.{Scripts}
use Rattle.scanning.specs.Scans.{Bytes, ToldOf}
use Rattle.records.specs.Items.{one_width, one_script, ends_wide, edge, sized, fault}
use Rattle.items.specs.declared.kinds.Kind.{Kind}
use Rattle.items.specs.declared.kinds.Kind.TheVariants.{Kana}
use Rattle.items.specs.Kinds.{kind_of}
use Rattle.items.specs.declared.Uniform.{Uniform}
use Rattle.items.specs.declared.Uniform.TheVariants.{Width, Script}
use Rattle.items.specs.Ends.{Within, uniform_scripts, uniform_text}

-- ---- scripts: what the bytes of each tell of a text

widths : Shared is_char is_one_byte is_two_byte
widths = shared_by is_char is_one_byte is_two_byte refl

hiragana_shares : Shared is_hiragana is_own_hiragana is_either
hiragana_shares = shared_by is_hiragana is_own_hiragana is_either refl

katakana_shares : Shared is_katakana is_own_katakana is_either
katakana_shares = shared_by is_katakana is_own_katakana is_either refl

module _ (l : List ℕ) (k : Scripts) (w : Bytes l k) where
  hiragana_bytes_lem : k.hiragana + k.either ≡ bytes_of is_hiragana l
  hiragana_bytes_lem = omega (arith, w.hiragana, w.either, bytes_shared hiragana_shares l)

  katakana_bytes_lem : k.katakana + k.either ≡ bytes_of is_katakana l
  katakana_bytes_lem = omega (arith, w.katakana, w.either, bytes_shared katakana_shares l)

  pub scripts_within : (n : ℕ) → n ≡ length l → Within k n
  scripts_within n e = record {
    hiragana = omega (arith, hiragana_bytes_lem, bytes_most is_hiragana l);
    katakana = omega (arith, katakana_bytes_lem, bytes_most is_katakana l);
  }

  -- of characters
  module _ (c : all_chars l ≡ true) where
    -- what is not of one byte is of two
    two_bytes : eqb (bytes_of is_two_byte l) (length l) ≡ eqb k.one 0
    two_bytes = go (eqb k.one 0) refl
      where
        whole : bytes_of is_char l ≡ length l
        whole = eqb-true (bytes_of is_char l) (length l) (sym (bytes_all is_char refl l c) ∙ c)

        both_widths : k.one + bytes_of is_two_byte l ≡ length l
        both_widths = omega (arith, whole, bytes_shared widths l, w.one)

        go : (b : Bool) → eqb k.one 0 ≡ b → eqb (bytes_of is_two_byte l) (length l) ≡ b
        go true e = eq-eqb (bytes_of is_two_byte l) (length l) (omega (arith, both_widths, eqb-true k.one 0 e))
        go false e = ne_eqb (bytes_of is_two_byte l) (length l) (λ z. eqb-false k.one 0 e (omega (arith, both_widths)))

    pub scripts_fit : (u : Uniform) (n : ℕ) → n ≡ length l → uniform_scripts u k n ≡ uniform_text u l
    unfolding one_width one_script
    scripts_fit Width n e =
        let o : chars_are is_one_byte l ≡ eqb k.one n = bytes_all is_one_byte refl l c ∙ ap₂ eqb (sym w.one) (sym e) in
        let t : chars_are is_two_byte l ≡ eqb k.one 0 = bytes_all is_two_byte refl l c ∙ two_bytes in
        rw (o, t) refl
    scripts_fit Script n e =
        let o : chars_are is_one_byte l ≡ eqb k.one n = bytes_all is_one_byte refl l c ∙ ap₂ eqb (sym w.one) (sym e) in
        let h : chars_are is_hiragana l ≡ eqb (k.hiragana + k.either) n = bytes_all is_hiragana refl l c ∙ ap₂ eqb (sym hiragana_bytes_lem) (sym e) in
        let j : chars_are is_katakana l ≡ eqb (k.katakana + k.either) n = bytes_all is_katakana refl l c ∙ ap₂ eqb (sym katakana_bytes_lem) (sym e) in
        rw (o, h, j) refl

-- what is not characters has nothing in common
pub not_uniform : (u : Uniform) (l : List ℕ) → all_chars l ≡ false → false ≡ uniform_text u l
unfolding one_width one_script
not_uniform Width l e = sym (rw (are_chars is_one_byte refl l e, are_chars is_two_byte refl l e) refl)
not_uniform Script l e = sym (rw (are_chars is_one_byte refl l e, are_chars is_hiragana refl l e, are_chars is_katakana refl l e) refl)

-- o: what the reading of its characters tells
module _ {l : List ℕ} {o : Option Scripts} (w : ToldOf l o) where
  told_bytes : {k : Scripts} → o ≡ Some k → Bytes l k
  told_bytes q = subst (λ (x : Option Scripts). IfSome x (Bytes l)) q w.bytes

  told_chars : {k : Scripts} → o ≡ Some k → all_chars l ≡ true
  told_chars q = sym w.chars ∙ ap is_some q

  pub told_within : {k : Scripts} → o ≡ Some k → Within k (length l)
  told_within {k} q = scripts_within l k (told_bytes q) (length l) refl

  pub told_uniform : (u : Uniform) {k : Scripts} {f : Bool} → o ≡ Some k → f ≡ uniform_scripts u k (length l) → f ≡ uniform_text u l
  told_uniform u {k} q e = e ∙ scripts_fit l k (told_bytes q) (told_chars q) u (length l) refl

  pub told_none : (u : Uniform) → o ≡ None → false ≡ uniform_text u l
  told_none u q = not_uniform u l (sym w.chars ∙ ap is_some q)

-- kind K
pub kana_fault : {k : Kind} (m : ℕ) (s : List ℕ) {x : Bool} {r : ℕ} → k ≡ Kana m → x ≡ uniform_text Script s → r ≡ sized m s x → r ≡ fault (kind_of k) s
unfolding fault
kana_fault m s e p q = q ∙ ap (sized m s) p ∙ ap (λ (x : Kind). fault (kind_of x) s) (sym e)

-- ---- edges: shortcuts

-- 8140h is of both kana scripts
blank_first : (r : List ℕ) → bytes_of is_either (0x81 ∷ 0x40 ∷ r) ≡ 2 + bytes_of is_either r
unfolding full_row part_row allowed cell_script trail_script pair_script
blank_first r = refl

blank_last : (l : List ℕ) → 2 ≤ length l → get_or l (length l - 2) 0 ≡ 0x81 → get_or l (length l - 1) 0 ≡ 0x40 → all_chars (take (length l - 2) l) ≡ true → bytes_of is_either l ≡ 0 → ⊥
blank_last l n y x c z =
    let i : ℕ = length l - 2 in
    let j : i + 1 ≡ length l - 1 = omega arith in
    let d : drop i l ≡ 0x81 ∷ 0x40 ∷ [] =
    two_on l i 0 (omega arith) ∙ ap₂ (λ (u v : ℕ). u ∷ v ∷ drop (i + 2) l) y (ap (λ (m : ℕ). get_or l m 0) j ∙ x) ∙ ap (λ (r : List ℕ). 0x81 ∷ 0x40 ∷ r) (drop_end l (i + 2) (omega arith)) in
    let e : l ≡ take i l ++ 0x81 ∷ 0x40 ∷ [] = sym (take-append-drop i l) ∙ ap (λ (r : List ℕ). take i l ++ r) d in
    omega (arith, z, ap (bytes_of is_either) e, bytes_on is_either (take i l) (0x81 ∷ 0x40 ∷ []) c, blank_first [])

-- no edge: the first byte is above 27h and not 81h, the last one above 27h and not 40h
pub edge_free : (s : List ℕ) {a w z : ℕ} {x y : Bool} → a ≡ get_or s 0 0 → w ≡ length s - 1 → z ≡ get_or s w 0
    → x ≡ (leb 0x28 a && not (eqb a 0x81)) → y ≡ (leb 0x28 z && not (eqb z 0x40)) → (x && y) ≡ true → false ≡ edge s
unfolding edge
edge_free s {a} {w} {z} {x} {y} p c q i j h =
    let t = both x y h in
    let f = both (leb 0x28 a) (not (eqb a 0x81)) (sym i ∙ t.0) in
    let l = both (leb 0x28 z) (not (eqb z 0x40)) (sym j ∙ t.1) in
    let lo : 0x28 ≤ a = leb-true 0x28 a f.0 in
    let hi : 0x28 ≤ z = leb-true 0x28 z l.0 in
    let e : z ≡ get_or s (length s - 1) 0 = q ∙ ap (λ (k : ℕ). get_or s k 0) c in
    let a1 : eqb (get_or s 0 0) 0x20 ≡ false = ne_eqb (get_or s 0 0) 0x20 (λ d. omega arith) in
    let a2 : eqb (get_or s 0 0) 0x81 ≡ false = ap (λ (k : ℕ). eqb k 0x81) (sym p) ∙ not_true' (eqb a 0x81) f.1 in
    let a3 : eqb (get_or s 0 0) 0x22 ≡ false = ne_eqb (get_or s 0 0) 0x22 (λ d. omega arith) in
    let a4 : eqb (get_or s 0 0) 0x27 ≡ false = ne_eqb (get_or s 0 0) 0x27 (λ d. omega arith) in
    let z1 : eqb (get_or s (length s - 1) 0) 0x20 ≡ false = ne_eqb (get_or s (length s - 1) 0) 0x20 (λ d. omega arith) in
    let z2 : eqb z 0x40 ≡ false = not_true' (eqb z 0x40) l.1 in
    let z3 : eqb (get_or s (length s - 1) 0) 0x40 ≡ false = ap (λ (k : ℕ). eqb k 0x40) (sym e) ∙ z2 in
    let n : ends_wide s ≡ false = simp (z3, and-false) in
    sym (simp (a1, a2, a3, a4, z1, n, and-false))

-- the first and the last byte are above 27h, and 8140h stands at neither end
edge_above : (l : List ℕ) → 0x28 ≤ get_or l 0 0 → 0x28 ≤ last l → (eqb (get_or l 0 0) 0x81 && eqb (get_or l 1 0) 0x40) ≡ false → ends_wide l ≡ false → edge l ≡ false
unfolding edge
edge_above l p q f w =
    let a1 : eqb (get_or l 0 0) 0x20 ≡ false = ne_eqb (get_or l 0 0) 0x20 (λ d. omega arith) in
    let a3 : eqb (get_or l 0 0) 0x22 ≡ false = ne_eqb (get_or l 0 0) 0x22 (λ d. omega arith) in
    let a4 : eqb (get_or l 0 0) 0x27 ≡ false = ne_eqb (get_or l 0 0) 0x27 (λ d. omega arith) in
    let z1 : eqb (get_or l (length l - 1) 0) 0x20 ≡ false = ne_eqb (get_or l (length l - 1) 0) 0x20 (λ d. omega arith) in
    simp (a1, a3, a4, z1, f, w, and-false)

-- it does not where no character is of both kana scripts
no_first : (l : List ℕ) → bytes_of is_either l ≡ 0 → (eqb (get_or l 0 0) 0x81 && eqb (get_or l 1 0) 0x40) ≡ false
no_first [] z = refl
no_first (a ∷ []) z = and-false (eqb a 0x81)
no_first (a ∷ b ∷ r) z = go (eqb a 0x81) refl (eqb b 0x40) refl
  where
    go : (x : Bool) → eqb a 0x81 ≡ x → (y : Bool) → eqb b 0x40 ≡ y → (x && y) ≡ false
    go true e true f =
        let m : bytes_of is_either (0x81 ∷ 0x40 ∷ r) ≡ 0 = sym (ap₂ (λ (x y : ℕ). bytes_of is_either (x ∷ y ∷ r)) (eqb-true a 0x81 e) (eqb-true b 0x40 f)) ∙ z in
        absurd (omega (arith, blank_first r, m))
    go true e false f = refl
    go false e y f = refl

no_last : (l : List ℕ) → bytes_of is_either l ≡ 0 → ends_wide l ≡ false
no_last l z = go (ends_wide l) refl
  where
    pair : (l : List ℕ) → get_or l (length l - 2) 0 ≡ 0x81 → get_or l (length l - 1) 0 ≡ 0x40 → 2 ≤ length l
    pair [] y x = absurd (omega arith)
    pair (a ∷ []) y x = absurd (omega arith)
    pair (a ∷ b ∷ r) y x = omega arith

    go : (x : Bool) → ends_wide l ≡ x → x ≡ false
    go false e = refl
    go true e =
        let u = both (eqb (get_or l (length l - 2) 0) 0x81) (eqb (last l) 0x40 && all_chars (take (length l - 2) l)) e in
        let v = both (eqb (last l) 0x40) (all_chars (take (length l - 2) l)) u.1 in
        let y : get_or l (length l - 2) 0 ≡ 0x81 = eqb-true _ _ u.0 in
        let x : get_or l (length l - 1) 0 ≡ 0x40 = eqb-true _ _ v.0 in
        absurd (blank_last l (pair l y x) y x v.1 z)

last_of : (a b : ℕ) (r : List ℕ) → 0x28 ≤ b → (1 ≤ length r → 0x28 ≤ last r) → 0x28 ≤ last (a ∷ b ∷ r)
last_of a b [] h f = h
last_of a b (x ∷ r) h f =
    let e : length (a ∷ b ∷ x ∷ r) - 1 ≡ suc (suc (length r)) = omega arith in
    let d : length (x ∷ r) - 1 ≡ length r = omega arith in
    let g : get_or (a ∷ b ∷ x ∷ r) (length (a ∷ b ∷ x ∷ r) - 1) 0 ≡ get_or (x ∷ r) (length (x ∷ r) - 1) 0 =
    ap (λ (n : ℕ). get_or (a ∷ b ∷ x ∷ r) n 0) e ∙ sym (ap (λ (n : ℕ). get_or (x ∷ r) n 0) d) in
    omega (arith, g, f (omega arith))

-- characters none of which is of one byte: the first byte is a lead, and the last a trail
two_ends : (l : List ℕ) → all_chars l ≡ true → bytes_of is_one_byte l ≡ 0 → 1 ≤ length l → (0x28 ≤ get_or l 0 0) × (0x28 ≤ last l)
two_ends [] c z n = absurd (omega arith)
two_ends (a ∷ []) c z n = absurd (omega (arith, sym (ap (λ (b : Bool). cond b 1 0) c) ∙ z))
two_ends (a ∷ b ∷ r) c z n = go (is_one a) (is_pair a b) refl (two_ends r) c z
  where
    go : (o q : Bool) → is_pair a b ≡ q → (all_chars r ≡ true → bytes_of is_one_byte r ≡ 0 → 1 ≤ length r → (0x28 ≤ get_or r 0 0) × (0x28 ≤ last r))
        → cond o (all_chars (b ∷ r)) (q && all_chars r) ≡ true
        → cond o (1 + bytes_of is_one_byte (b ∷ r)) (cond (is_one_byte (pair_script a b)) 2 0 + bytes_of is_one_byte r) ≡ 0 → (0x28 ≤ a) × (0x28 ≤ last (a ∷ b ∷ r))
    go true q t f c z = absurd (omega arith)
    go false true t f c z =
        let p = pair_parts a b t in
        (omega (arith, lead_from_81 a p.0), last_of a b r (omega (arith, trail_from_40 b p.1)) (λ n. (f c (omega arith) n).1))
    go false false t f c z = absurd (true≢false (sym c))

-- characters none of which is of one byte, or the first and the last byte above 27h: no edge, if none is of both kana scripts, or neither the second
-- nor the last byte is 40h
module _ (l : List ℕ) (c : all_chars l ≡ true) (n : 1 ≤ length l) (o : (bytes_of is_one_byte l ≡ 0) ⊎ ((0x28 ≤ get_or l 0 0) × (0x28 ≤ last l))) where
  ends_above : (0x28 ≤ get_or l 0 0) × (0x28 ≤ last l)
  ends_above = ⊎_elim (λ h. two_ends l c h n) (λ h. h) o

  pub edge_clear : bytes_of is_either l ≡ 0 → edge l ≡ false
  edge_clear z = edge_above l ends_above.0 ends_above.1 (no_first l z) (no_last l z)

  pub edge_inner : eqb (get_or l 1 0) 0x40 ≡ false → eqb (last l) 0x40 ≡ false → edge l ≡ false
  edge_inner b z = edge_above l ends_above.0 ends_above.1 (rw b (and-false (eqb (get_or l 0 0) 0x81))) (rw z (and-false (eqb (get_or l (length l - 2) 0) 0x81)))
