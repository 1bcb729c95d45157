-- Lines and their items: cut at commas, joined again, and their characters. Assumes nothing.
use Prim.Native.Nat.{ℕ, suc, ◌+◌, ◌≤◌}
use mathlib.Core.Path.{◌≡◌, refl, sym, ap, ◌∙◌}
use mathlib.Core.Bool.{Bool, true, false, cond, ◌&&◌, and-false}
use mathlib.Core.List.{List, [], ◌∷◌, ◌++◌}
use native.Mathlib.Omega.{arith}
use borrow.Author.Tests.{le-leb, eqb-true, ne_eqb}
use lib.Dec.{eqb}
use lib.ListN.{length, length-append}
use Rattle.lists.specs.Lists.{All}
use Rattle.lists.proofs.Tests.{both}
use Rattle.calendar.proofs.Laws.{Plain}
use Rattle.characters.specs.declared.Char.TheVariants.{Bad}
use Rattle.characters.specs.Cells.{is_one, is_lead, trail_script, pair_script, is_char}
use Rattle.characters.specs.Scanning.{is_pair}
use Rattle.characters.specs.Text.{all_chars}
use Rattle.records.specs.Split.{items_of, joined}

abbrev pub NoComma : List ℕ → Type 0
NoComma s = All (λ b. eqb b 0x2c ≡ false) s

-- ---- a line is its items

pub record Split (l : List ℕ) : Type 0 where
  pub head : List ℕ
  pub rest : List (List ℕ)
  pub cut : items_of l ≡ head ∷ rest
  pub joins : joined head rest ≡ l
  pub first : NoComma head
  pub others : All NoComma rest

joined_cons : (a : ℕ) (h : List ℕ) (ss : List (List ℕ)) → joined (a ∷ h) ss ≡ a ∷ joined h ss
unfolding joined
joined_cons a h [] = refl
joined_cons a h (s ∷ ss) = refl

pub split : (l : List ℕ) → Split l
unfolding joined
split [] = record { head = []; rest = []; cut = refl; joins = refl; first = tt; others = tt }
split (a ∷ l) = go (eqb a 0x2c) refl (split l)
  where
    go : (t : Bool) → eqb a 0x2c ≡ t → Split l → Split (a ∷ l)
    go true e r =
        record {
          head = [];
          rest = r.head ∷ r.rest;
          cut = simp (e, r.cut);
          joins = ap (λ (t : List ℕ). 0x2c ∷ t) r.joins ∙ ap (λ (x : ℕ). x ∷ l) (sym (eqb-true a 0x2c e));
          first = tt;
          others = (r.first, r.others);
        }
    go false e r =
        record {
          head = a ∷ r.head;
          rest = r.rest;
          cut = simp (e, r.cut);
          joins = joined_cons a r.head r.rest ∙ ap (λ (t : List ℕ). a ∷ t) r.joins;
          first = (e, r.first);
          others = r.others;
        }

items_one : (h : List ℕ) → NoComma h → items_of h ≡ h ∷ []
items_one [] n = refl
items_one (b ∷ h) (n, m) = simp (n, items_one h m)

items_more : (h t : List ℕ) → NoComma h → items_of (h ++ 0x2c ∷ t) ≡ h ∷ items_of t
items_more [] t n = refl
items_more (b ∷ h) t (n, m) = simp (n, items_more h t m)

pub items_joined : (h : List ℕ) (ss : List (List ℕ)) → NoComma h → All NoComma ss → items_of (joined h ss) ≡ h ∷ ss
unfolding joined
items_joined h [] n m = items_one h n
items_joined h (s ∷ ss) n (m, ms) = items_more h (joined s ss) n ∙ ap (λ (t : List (List ℕ)). h ∷ t) (items_joined s ss m ms)

-- ---- lengths

abbrev pub weight : List (List ℕ) → ℕ
weight [] = 0
weight (s ∷ ss) = suc (length s + weight ss)

pub joined_length : (h : List ℕ) (ss : List (List ℕ)) → length (joined h ss) ≡ length h + weight ss
unfolding joined
joined_length h [] = omega arith
joined_length h (s ∷ ss) = omega (arith, length-append h (0x2c ∷ joined s ss), joined_length s ss)

-- ---- characters: a comma is a character of one byte and no trail

no_pair : (a : ℕ) → is_pair a 0x2c ≡ false
unfolding pair_script trail_script
no_pair a = go (is_lead a)
  where
    go : (x : Bool) → is_char (cond x Bad Bad) ≡ false
    go true = refl
    go false = refl

chars_comma : (t : List ℕ) → all_chars (0x2c ∷ t) ≡ all_chars t
chars_comma [] = refl
chars_comma (b ∷ t) = refl

pub chars_split : (a t : List ℕ) → all_chars (a ++ 0x2c ∷ t) ≡ all_chars a && all_chars t
chars_split [] t = chars_comma t
chars_split (a ∷ []) t = go (is_one a)
  where
    go : (x : Bool) → cond x (all_chars (0x2c ∷ t)) (is_pair a 0x2c && all_chars t) ≡ x && all_chars t
    go true = chars_comma t
    go false = simp (no_pair a)
chars_split (a ∷ b ∷ r) t = go (is_one a) (is_pair a b) (chars_split (b ∷ r) t) (chars_split r t)
  where
    go : (x y : Bool) → all_chars (b ∷ r ++ 0x2c ∷ t) ≡ all_chars (b ∷ r) && all_chars t → all_chars (r ++ 0x2c ∷ t) ≡ all_chars r && all_chars t
        → cond x (all_chars (b ∷ r ++ 0x2c ∷ t)) (y && all_chars (r ++ 0x2c ∷ t)) ≡ cond x (all_chars (b ∷ r)) (y && all_chars r) && all_chars t
    go true y p q = p
    go false true p q = q
    go false false p q = refl

abbrev pub AllChars : List ℕ → Type 0
AllChars s = all_chars s ≡ true

pub chars_parts : (h : List ℕ) (ss : List (List ℕ)) → AllChars (joined h ss) → AllChars h × All AllChars ss
unfolding joined
chars_parts h [] e = (e, tt)
chars_parts h (s ∷ ss) e =
    let p : (all_chars h ≡ true) × (all_chars (joined s ss) ≡ true) = both (all_chars h) (all_chars (joined s ss)) (sym (chars_split h (joined s ss)) ∙ e) in
    (p.0, chars_parts s ss p.1)

pub chars_joined : (h : List ℕ) (ss : List (List ℕ)) → AllChars h → All AllChars ss → AllChars (joined h ss)
unfolding joined
chars_joined h [] p q = p
chars_joined h (s ∷ ss) p (q, qs) = chars_split h (joined s ss) ∙ simp (p, chars_joined s ss q qs)

-- ---- digits and capitals are characters, and no commas

plain_one : (b : ℕ) → 48 ≤ b → b ≤ 90 → is_one b ≡ true
plain_one b p q = simp (le-leb 0x20 b (omega arith), le-leb b 0x7e (omega arith))

pub plain_chars : (s : List ℕ) → Plain s → AllChars s
plain_chars [] p = refl
plain_chars (b ∷ []) p = plain_one b p.0 p.1
plain_chars (b ∷ c ∷ s) p = rw (plain_one b p.0 p.1) (plain_chars (c ∷ s) p.2)

pub plain_no_comma : (s : List ℕ) → Plain s → NoComma s
plain_no_comma [] p = tt
plain_no_comma (b ∷ s) p = (ne_eqb b 0x2c (λ e. omega arith), plain_no_comma s p.2)
