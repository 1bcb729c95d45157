-- The ways through the test for a record 911 and its reading, item by item. Assumes nothing.
use Prim.Native.Nat.{ℕ, ◌+◌, ◌-◌, ◌≤◌, ◌<◌}
use mathlib.Core.Path.{◌≡◌, refl, sym, ap, ap₂, ◌∙◌, subst}
use mathlib.Core.Bool.{Bool, true, false, cond, not, ◌&&◌, false≢true}
use mathlib.Core.List.{List, [], ◌∷◌, ◌++◌}
use native.Mathlib.Omega.{arith}
use denote.Ref.{Bor}
use borrow.Author.Tests.{eqb-true, ltb-true, ltb-false, not-true, not-false}
use lib.Dec.{eqb, leb, ltb}
use lib.ListN.{length, take, drop, get_or, length-append}
use lib.Seq.{take_at}
use Rattle.std.proofs.Common.{take-append-drop}
use Rattle.std.specs.Prelude.{Option, Some, None}
use Rattle.std.specs.List.{position, position_or_len, slice_split}
use Rattle.std.proofs.lemmas.List.Splits.{slice_split_none, slice_split_first}
use Rattle.std.proofs.lemmas.List.Sums.{split_at_first, fails_before_first, passes_at_first}
use Rattle.lists.specs.Lists.{all, same}
use Rattle.lists.specs.Searching.{part}
use Rattle.lists.proofs.Tests.{both, same_true, all_append}
use Rattle.lists.proofs.Cuts.{rest_all}
use Rattle.digits.specs.Digits.{is_digit, value, number}
use Rattle.digits.proofs.Numbers.{number_length}
use Rattle.records.specs.Split.{is_comma, cons_item, items_of}
use Rattle.records.specs.Records.{t911, first_of, is_mark}
use Rattle.pieces.specs.declared.Mark.{Mark as Numbers}
use Rattle.division.specs.Marks.{Mark, valid_id, marked, mark_of, read_mark}
use Rattle.pieces.specs.Answers.{ItemThen, ItemIs, MarkIs}

-- ---- an ID

id_length : (i : List ℕ) → valid_id i ≡ true → length i ≡ 14
unfolding valid_id
id_length i e = eqb-true (length i) 14 (both (eqb (length i) 14) (all is_digit i) e).0

-- ---- 911, by its first item

first_cons : (a : ℕ) (x : List (List ℕ)) → first_of (cons_item a x) ≡ a ∷ first_of x
first_cons a [] = refl
first_cons a (h ∷ t) = refl

-- a first item is the front of its line
front : (p l : List ℕ) → same (first_of (items_of l)) p ≡ true → same (take (length p) l) p ≡ true
front [] l e = refl
front (c ∷ p) [] e = absurd (false≢true e)
front (c ∷ p) (a ∷ l) e = go (is_comma a) (front p l) e
  where
    go : (b : Bool) → (same (first_of (items_of l)) p ≡ true → same (take (length p) l) p ≡ true) → same (first_of (cond b ([] ∷ items_of l) (cons_item a (items_of l)))) (c ∷ p) ≡ true → (eqb a c && same (take (length p) l) p) ≡ true
    go true i e = absurd (false≢true e)
    go false i e =
        let h : (eqb a c && same (first_of (items_of l)) p) ≡ true = ap (λ (x : List ℕ). same x (c ∷ p)) (sym (first_cons a (items_of l))) ∙ e in
        let k : (eqb a c ≡ true) × (same (first_of (items_of l)) p ≡ true) = both (eqb a c) (same (first_of (items_of l)) p) h in
        rw (k.0, i k.1)

pub mark_other : (l : List ℕ) → same (take 3 l) (57 ∷ 49 ∷ 49 ∷ []) ≡ false → false ≡ is_mark l
unfolding is_mark t911
mark_other l e = go (same (first_of (items_of l)) (57 ∷ 49 ∷ 49 ∷ [])) refl
  where
    go : (b : Bool) → same (first_of (items_of l)) (57 ∷ 49 ∷ 49 ∷ []) ≡ b → false ≡ b
    go false q = refl
    go true q = sym e ∙ front (57 ∷ 49 ∷ 49 ∷ []) l q

module _ (l : List ℕ) {r : List ℕ} (p : (same (take 3 l) (57 ∷ 49 ∷ 49 ∷ []) ≡ true) × (r ≡ drop 3 l) × (length r + 3 ≡ length l)) where
  behind : l ≡ 57 ∷ 49 ∷ 49 ∷ r
  behind = sym (take-append-drop 3 l) ∙ rw (same_true (take 3 l) (57 ∷ 49 ∷ 49 ∷ []) p.0, sym p.1)

  pub mark_alone : length r < 1 → true ≡ is_mark l
  unfolding is_mark t911
  mark_alone h = go r behind h
    where
      go : (r : List ℕ) → l ≡ 57 ∷ 49 ∷ 49 ∷ r → length r < 1 → true ≡ same (first_of (items_of l)) (57 ∷ 49 ∷ 49 ∷ [])
      go [] e h = rw e
      go (a ∷ r) e h = absurd (omega arith)

  pub mark_longer : 1 ≤ length r → eqb (get_or r 0 0) 44 ≡ is_mark l
  unfolding is_mark t911
  mark_longer h = go r behind h
    where
      go : (r : List ℕ) → l ≡ 57 ∷ 49 ∷ 49 ∷ r → 1 ≤ length r → eqb (get_or r 0 0) 44 ≡ same (first_of (items_of l)) (57 ∷ 49 ∷ 49 ∷ [])
      go [] e h = absurd (omega arith)
      go (a ∷ r) e h = by (eqb a 44) refl ∙ sym (ap (λ (x : List ℕ). same (first_of (items_of x)) (57 ∷ 49 ∷ 49 ∷ [])) e)
        where
          by : (b : Bool) → eqb a 44 ≡ b → b ≡ same (first_of (cons_item 57 (cons_item 49 (cons_item 49 (cond b ([] ∷ items_of r) (cons_item a (items_of r))))))) (57 ∷ 49 ∷ 49 ∷ [])
          by true q = refl
          by false q = more (items_of r)
            where
              more : (x : List (List ℕ)) → false ≡ same (first_of (cons_item 57 (cons_item 49 (cons_item 49 (cons_item a x))))) (57 ∷ 49 ∷ 49 ∷ [])
              more [] = refl
              more (h ∷ t) = refl

pub ruleset mark_laws = (mark_other, mark_alone, mark_longer)

-- ---- an item, and what follows its comma

-- a line is cut as the library cuts a slice
items_split : (l : List ℕ) → items_of l ≡ slice_split is_comma l
items_split l = refl

module _ (l : List ℕ) {o : Option ℕ} (p : o ≡ position is_comma l) where
  place : ℕ
  place = position_or_len is_comma l

  one_item : o ≡ None → items_of l ≡ l ∷ []
  unfolding place
  one_item q = go (ltb place (length l)) refl
    where
      go : (b : Bool) → ltb place (length l) ≡ b → items_of l ≡ l ∷ []
      go true e = let z : Some place ≡ None = sym (p ∙ rw e) ∙ q in cc
      go false e = slice_split_none is_comma l (λ k d h. fails_before_first is_comma l k d (omega (arith, ltb-false place (length l) e)))

  item_more : {n : ℕ} → o ≡ Some n → (n < length l) × ItemThen l (take n l) (drop (n + 1) l)
  unfolding place
  item_more {n} q = go (ltb place (length l)) refl
    where
      go : (b : Bool) → ltb place (length l) ≡ b → (n < length l) × ItemThen l (take n l) (drop (n + 1) l)
      go true e =
          let z : Some place ≡ Some n = sym (p ∙ rw e) ∙ q in
          let m : place ≡ n = cc in
          let h : place < length l = ltb-true place (length l) e in
          let c : get_or l place 0 ≡ 44 = eqb-true (get_or l place 0) 44 (passes_at_first is_comma l 0 h) in
          let s : l ≡ take place l ++ (44 ∷ drop (place + 1) l) = split_at_first is_comma l 0 h ∙ ap (λ (x : ℕ). take place l ++ (x ∷ drop (place + 1) l)) c in
          subst (λ (k : ℕ). (k < length l) × ItemThen l (take k l) (drop (k + 1) l)) m (h, record { is = s; items = slice_split_first is_comma l 0 h })
      go false e = let z : None ≡ Some n = sym (p ∙ rw e) ∙ q in cc

  pub item_none : {r : Option (Bor (List ℕ) × Bor (List ℕ))} → o ≡ None → r ≡ None → ItemIs l r
  item_none q e = rw e (one_item q)

  pub item_some : {n : ℕ} → o ≡ Some n → ItemThen l (take n l) (take (length l - (n + 1)) (drop (n + 1) l))
  item_some {n} q = rw rest_all (item_more q).1

  pub item_inside : {n : ℕ} → o ≡ Some n → n < length l
  item_inside q = (item_more q).0

pub ruleset item_laws = (item_none, item_some, item_inside)

-- ---- a record 911

not_mark : (a : List ℕ) (ss : List (List ℕ)) → same a t911 ≡ false → mark_of (a ∷ ss) ≡ None
not_mark a [] e = refl
not_mark a (i ∷ []) e = refl
not_mark a (i ∷ n ∷ []) e = refl
not_mark a (i ∷ n ∷ k ∷ []) e = rw e
not_mark a (i ∷ n ∷ k ∷ x ∷ xs) e = refl

no_id : (a i : List ℕ) (ss : List (List ℕ)) → same a t911 ≡ true → valid_id i ≡ false → mark_of (a ∷ i ∷ ss) ≡ None
no_id a i [] p e = refl
no_id a i (n ∷ []) p e = refl
no_id a i (n ∷ k ∷ []) p e = rw (p, e)
no_id a i (n ∷ k ∷ x ∷ xs) p e = refl

-- bytes with a comma are no number
no_number : (k h t : List ℕ) → k ≡ h ++ 44 ∷ t → number k ≡ None
unfolding number
no_number k h t e = rw (ap (all is_digit) e ∙ all_append is_digit h (44 ∷ t)) (go (leb 1 (length k)) (leb (length k) 3) (all is_digit h))
  where
    go : (x y z : Bool) → cond (x && (y && (z && false))) (Some (value 0 k)) None ≡ None
    go true true true = refl
    go true true false = refl
    go true false z = refl
    go false y z = refl

unmarked : (i : List ℕ) (n : Option ℕ) → marked i n None ≡ None
unmarked i None = refl
unmarked i (Some n) = refl

none_both : (b : Bool) → cond {A = Option Mark} b None None ≡ None
none_both true = refl
none_both false = refl

-- the last item may have a comma
four : (a i n k : List ℕ) → mark_of (a ∷ i ∷ n ∷ items_of k) ≡ cond (same a t911 && valid_id i) (marked i (number n) (number k)) None
four a i n k = go (position is_comma k) refl
  where
    go : (o : Option ℕ) → position is_comma k ≡ o → mark_of (a ∷ i ∷ n ∷ items_of k) ≡ cond (same a t911 && valid_id i) (marked i (number n) (number k)) None
    go None q = ap (λ (x : List (List ℕ)). mark_of (a ∷ i ∷ n ∷ x)) (one_item k refl q)
    go (Some m) q =
        let x : ItemThen k (take m k) (drop (m + 1) k) = (item_more k refl q).1 in
        ap (λ (x : List (List ℕ)). mark_of (a ∷ i ∷ n ∷ x)) x.items ∙ five (take m k) (drop (m + 1) k)
        ∙ sym (ap (λ (x : Option ℕ). cond (same a t911 && valid_id i) (marked i (number n) x) None) (no_number k (take m k) (drop (m + 1) k) x.is)
        ∙ ap (λ (x : Option Mark). cond (same a t911 && valid_id i) x None) (unmarked i (number n)) ∙ none_both (same a t911 && valid_id i))
      where
        five : (h t : List ℕ) → mark_of (a ∷ i ∷ n ∷ h ∷ items_of t) ≡ None
        five h [] = refl
        five h (b ∷ t) = by (is_comma b) (items_of t)
          where
            by : (x : Bool) (ss : List (List ℕ)) → mark_of (a ∷ i ∷ n ∷ h ∷ cond x ([] ∷ ss) (cons_item b ss)) ≡ None
            by true ss = refl
            by false [] = refl
            by false (s ∷ ss) = refl

module _ {l : List ℕ} where
  lost : {m : Option Numbers} → m ≡ None → mark_of (items_of l) ≡ None → MarkIs l m
  unfolding read_mark
  lost e q = rw e (record { is = q; most = tt; reaches = tt })

  pub mark_one : {m : Option Numbers} → items_of l ≡ l ∷ [] → m ≡ None → MarkIs l m
  mark_one q e = lost e (ap mark_of q)

  module _ {a r : List ℕ} (x : ItemThen l a r) where
    pub mark_two : {m : Option Numbers} → items_of r ≡ r ∷ [] → m ≡ None → MarkIs l m
    mark_two q e = lost e (ap mark_of (x.items ∙ ap (λ (y : List (List ℕ)). a ∷ y) q))

    pub mark_no_911 : {w : Bool} → w ≡ not (same a (57 ∷ 49 ∷ 49 ∷ [])) → w ≡ true → MarkIs l None
    unfolding t911
    mark_no_911 t f = lost refl (ap mark_of x.items ∙ not_mark a (items_of r) (not-true (same a (57 ∷ 49 ∷ 49 ∷ [])) (sym t ∙ f)))

    module _ {i s : List ℕ} (y : ItemThen r i s) where
      cut : items_of l ≡ a ∷ i ∷ items_of s
      cut = x.items ∙ ap (λ (z : List (List ℕ)). a ∷ z) y.items

      pub mark_three : {m : Option Numbers} → items_of s ≡ s ∷ [] → m ≡ None → MarkIs l m
      mark_three q e = lost e (ap mark_of (cut ∙ ap (λ (z : List (List ℕ)). a ∷ i ∷ z) q))

      module _ {w o : Bool} (t : w ≡ not (same a (57 ∷ 49 ∷ 49 ∷ []))) (f : w ≡ false) (v : o ≡ valid_id i) where
        is_911 : same a (57 ∷ 49 ∷ 49 ∷ []) ≡ true
        is_911 = not-false (same a (57 ∷ 49 ∷ 49 ∷ [])) (sym t ∙ f)

        pub mark_no_id : o ≡ false → MarkIs l None
        unfolding t911
        mark_no_id u = lost refl (ap mark_of cut ∙ no_id a i (items_of s) is_911 (sym v ∙ u))

        module _ (u : o ≡ true) {n k : List ℕ} (z : ItemThen s n k) where
          read : mark_of (items_of l) ≡ marked i (number n) (number k)
          unfolding t911
          read = ap mark_of (cut ∙ ap (λ (w : List (List ℕ)). a ∷ i ∷ w) z.items) ∙ four a i n k ∙ rw (is_911, sym v ∙ u)

          pub mark_no_count : {m : Option Numbers} → None ≡ number n → m ≡ None → MarkIs l m
          mark_no_count q e = lost e (read ∙ rw (sym q))

          pub mark_no_place : {m : Option Numbers} → None ≡ number k → m ≡ None → MarkIs l m
          mark_no_place q e = lost e (read ∙ ap (marked i (number n)) (sym q) ∙ unmarked i (number n))

          pub mark_read : {c p : ℕ} → Some c ≡ number n → Some p ≡ number k → MarkIs l (Some (record { count = c; place = p }))
          unfolding read_mark
          mark_read {c} {p} q h =
              let e : 14 ≡ length i = sym (id_length i (sym v ∙ u)) in
              let w : l ≡ 57 ∷ 49 ∷ 49 ∷ 44 ∷ (i ++ 44 ∷ s) =
              x.is ∙ ap₂ (λ (b c : List ℕ). b ++ 44 ∷ c) (same_true a (57 ∷ 49 ∷ 49 ∷ []) is_911) y.is in
              let d : part l 4 18 ≡ i = ap (λ (b : List ℕ). part b 4 18) w ∙ take_at i (44 ∷ s) 14 (sym e) in
              record {
                is = read ∙ rw (sym q, sym h) (ap (λ (b : List ℕ). Some (record { ident = b; count = c; place = p })) (sym d));
                most = ((number_length n c (sym q)).1, (number_length k p (sym h)).1);
                reaches = omega (arith, ap length w, length-append i (44 ∷ s));
              }
