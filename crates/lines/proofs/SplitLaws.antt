-- A line's items by positions: the item at a position and the items after it, and how many there are. Assumes nothing.
use Prim.Native.Nat.{ℕ, zero, suc, ◌+◌, ◌-◌, ◌≤◌, ◌<◌}
use native.Mathlib.Nat.{add-sub_cancel_left}
use mathlib.Core.Path.{◌≡◌, refl, sym, ap, ap₂, ◌∙◌, subst}
use mathlib.Core.Bool.{Bool, true, false, cond}
use mathlib.Core.List.{List, [], ◌∷◌, ◌++◌, map}
use native.Mathlib.Omega.{arith}
use native.Mathlib.Decide.{dec_lt}
use borrow.Author.Tests.{le-leb, lt-leb, eqb-true}
use lib.Dec.{leb-zero}
use lib.ListN.{length, take, drop, get_or}
use lib.Seq.{drop-drop}
use Rattle.lists.specs.Lists.{up_to}
use Rattle.lists.specs.Searching.{part, find_from}
use Rattle.lists.proofs.Parts.{part_length, part_none, part_at, part_part}
use Rattle.lists.proofs.Cuts.{drop_step, drop_end, take_up_to}
use Rattle.characters.specs.Scanning.{comma_count, commas_from}
use Rattle.scanning.specs.Scans.{ScannedLine}
use Rattle.scanning.proofs.TextLaws.{count_places}
use Rattle.records.specs.Split.{is_comma, cons_item, items_of}
use Rattle.records.specs.Positions.{items_from, item_end}
use Rattle.lines.specs.Line.{comma_at, LineIn, ItemAt}

-- the items after the first one, from the byte that ends it
tail_items : List ℕ → List (List ℕ)
tail_items [] = []
tail_items (c ∷ r) = items_of r

items_cut : (l : List ℕ) → items_of l ≡ up_to is_comma l ∷ tail_items (drop (length (up_to is_comma l)) l)
unfolding tail_items
items_cut [] = refl
items_cut (a ∷ l) = go (is_comma a) (items_cut l)
  where
    go : (b : Bool) → items_of l ≡ up_to is_comma l ∷ tail_items (drop (length (up_to is_comma l)) l)
        → cond b ([] ∷ items_of l) (cons_item a (items_of l)) ≡ cond b [] (a ∷ up_to is_comma l) ∷ tail_items (drop (length (cond b [] (a ∷ up_to is_comma l))) (a ∷ l))
    go true ih = refl
    go false ih = ap (cons_item a) ih

-- the items from a position on: the part up to the item's end, and the items from after the comma on
pub items_from_lem : (s : List ℕ) (at : ℕ) → at ≤ length s → items_from s at ≡ part s at (item_end s at) ∷ items_from s (item_end s at + 1)
unfolding items_from find_from tail_items
items_from_lem s at h =
    let n = length (up_to is_comma (drop at s)) in
    let first : up_to is_comma (drop at s) ≡ part s at (at + n) = rw (add-sub_cancel_left at n) (sym (take_up_to is_comma (drop at s))) in
    rw (le-leb at (length s) h) (items_cut (drop at s) ∙ ap₂ ◌∷◌ first (ap tail_items (drop-drop n at s) ∙ go (at + n) (dec_lt (at + n) (length s))))
  where
    go : (e : ℕ) → Dec (e < length s) → tail_items (drop e s) ≡ items_from s (e + 1)
    go e (yes k) = rw (drop_step s e 0 k, le-leb (e + 1) (length s) (omega arith))
    go e (no k) = rw (drop_end s e (omega arith), lt-leb (e + 1) (length s) (omega arith))

-- the items of a whole line
pub items_all : (s : List ℕ) → items_of s ≡ items_from s 0
unfolding items_from
items_all s = rw (leb-zero (length s))

-- without a comma there is one item
pub items_plain : (t : List ℕ) → comma_count t ≡ 0 → items_of t ≡ t ∷ []
items_plain [] e = refl
items_plain (a ∷ t) e = go (is_comma a) (items_plain t) e
  where
    go : (b : Bool) → (comma_count t ≡ 0 → items_of t ≡ t ∷ []) → cond b 1 0 + comma_count t ≡ 0 → cond b ([] ∷ items_of t) (cons_item a (items_of t)) ≡ (a ∷ t) ∷ []
    go true i e = absurd (omega arith)
    go false i e = ap (cons_item a) (i (omega arith))

-- an item more after a comma
pub items_snoc : (x t : List ℕ) → comma_count t ≡ 0 → items_of (x ++ 0x2c ∷ t) ≡ items_of x ++ t ∷ []
items_snoc [] t e = ap (λ (y : List (List ℕ)). [] ∷ y) (items_plain t e)
items_snoc (a ∷ x) t e = go (is_comma a) (items_snoc x t e)
  where
    cons_on : cons_item a (items_of x ++ t ∷ []) ≡ cons_item a (items_of x) ++ t ∷ []
    cons_on = rw (items_cut x)

    go : (b : Bool) → items_of (x ++ 0x2c ∷ t) ≡ items_of x ++ t ∷ [] → cond b ([] ∷ items_of (x ++ 0x2c ∷ t)) (cons_item a (items_of (x ++ 0x2c ∷ t))) ≡ cond b ([] ∷ items_of x) (cons_item a (items_of x)) ++ t ∷ []
    go true i = ap (λ (y : List (List ℕ)). [] ∷ y) i
    go false i = ap (cons_item a) i ∙ cons_on

-- a line has a first item
pub items_some : (s : List ℕ) → items_of s ≡ get_or (items_of s) 0 [] ∷ drop 1 (items_of s)
items_some s = rw (items_cut s)

-- ---- the first item, by where its comma stands

module _ (s : List ℕ) (at : ℕ) {e : ℕ} (h : at ≤ length s) (q : e ≡ find_from 0x2c s at) where
  pub item_cut : items_from s at ≡ part s at e ∷ items_from s (e + 1)
  item_cut = items_from_lem s at h ∙ ap (λ (x : ℕ). part s at x ∷ items_from s (x + 1)) (sym q)

-- ---- how many

length_cons : (a : ℕ) (l : List ℕ) → length (cons_item a (items_of l)) ≡ length (items_of l)
length_cons a l = rw (items_cut l)

-- one item more than commas
pub items_count : (l : List ℕ) → length (items_of l) ≡ suc (comma_count l)
items_count [] = refl
items_count (a ∷ l) = go (is_comma a) (items_count l)
  where
    go : (b : Bool) → length (items_of l) ≡ suc (comma_count l) → length (cond b ([] ∷ items_of l) (cons_item a (items_of l))) ≡ suc (cond b 1 0 + comma_count l)
    go true e = omega (arith, e)
    go false e = omega (arith, e, length_cons a l)

-- ---- every item, by the places of the commas

start_of : List ℕ → ℕ → ℕ
start_of ps zero = 0
start_of ps (suc j) = suc (get_or ps j 0)

comma_shift : (k : ℕ) (l : List ℕ) → commas_from (suc k) l ≡ map suc (commas_from k l)
comma_shift k [] = refl
comma_shift k (a ∷ l) = go (is_comma a) (comma_shift (suc k) l)
  where
    go : (b : Bool) → commas_from (suc (suc k)) l ≡ map suc (commas_from (suc k) l)
        → cond b (suc k ∷ commas_from (suc (suc k)) l) (commas_from (suc (suc k)) l) ≡ map suc (cond b (k ∷ commas_from (suc k) l) (commas_from (suc k) l))
    go true e = ap (λ (x : List ℕ). suc k ∷ x) e
    go false e = e

get_d_suc : (ps : List ℕ) (j : ℕ) → j < length ps → get_or (map suc ps) j 0 ≡ suc (get_or ps j 0)
get_d_suc [] j h = absurd (omega arith)
get_d_suc (p ∷ ps) zero h = refl
get_d_suc (p ∷ ps) (suc j) h = get_d_suc ps j (omega arith)

end_shift : (ps : List ℕ) (n j : ℕ) → get_or (map suc ps) j (suc n) ≡ suc (get_or ps j n)
end_shift [] n j = refl
end_shift (p ∷ ps) n zero = refl
end_shift (p ∷ ps) n (suc j) = end_shift ps n j

part_shift : (a : ℕ) (l : List ℕ) (x e : ℕ) → part (a ∷ l) (suc x) (suc e) ≡ part l x e
part_shift a l x e = let z : suc e - suc x ≡ e - x = omega arith in ap (λ (k : ℕ). take k (drop x l)) z

cons_first : (a : ℕ) (l : List ℕ) → get_or (cons_item a (items_of l)) 0 [] ≡ a ∷ get_or (items_of l) 0 []
cons_first a l = rw (items_cut l)

cons_later : (a j : ℕ) (l : List ℕ) → get_or (cons_item a (items_of l)) (suc j) [] ≡ get_or (items_of l) (suc j) []
cons_later a j l = rw (items_cut l)

item_by : (l : List ℕ) (j : ℕ) → j ≤ comma_count l → get_or (items_of l) j [] ≡ part l (start_of (commas_from 0 l) j) (get_or (commas_from 0 l) j (length l))
unfolding start_of
item_by [] zero h = refl
item_by [] (suc j) h = absurd (omega arith)
item_by (a ∷ l) j h =
    subst (λ (qs : List ℕ). get_or (cond (is_comma a) ([] ∷ items_of l) (cons_item a (items_of l))) j [] ≡ part (a ∷ l) (start_of (cond (is_comma a) (0 ∷ qs) qs) j) (get_or (cond (is_comma a) (0 ∷ qs) qs) j (suc (length l))))
    (sym (comma_shift 0 l)) (go (is_comma a) (item_by l) j h)
  where
    ps : List ℕ
    ps = commas_from 0 l

    behind : (j : ℕ) → j < length ps → get_or (map suc ps) j 0 ≡ suc (get_or ps j 0)
    behind j k = get_d_suc ps j k

    starts : (j : ℕ) → j ≤ comma_count l → get_or (0 ∷ map suc ps) j 0 ≡ start_of ps j
    starts zero k = refl
    starts (suc j) k = get_d_suc ps j (omega (arith, count_places 0 l))

    go : (b : Bool) → ((j : ℕ) → j ≤ comma_count l → get_or (items_of l) j [] ≡ part l (start_of ps j) (get_or ps j (length l)))
        → (j : ℕ) → j ≤ cond b 1 0 + comma_count l
        → get_or (cond b ([] ∷ items_of l) (cons_item a (items_of l))) j []
        ≡ part (a ∷ l) (start_of (cond b (0 ∷ map suc ps) (map suc ps)) j) (get_or (cond b (0 ∷ map suc ps) (map suc ps)) j (suc (length l)))
    go true i zero h = refl
    go true i (suc j) h =
        i j (omega arith)
        ∙ sym (part_shift a l (start_of ps j) (get_or ps j (length l)))
        ∙ ap₂ (λ (x e : ℕ). part (a ∷ l) (suc x) e) (sym (starts j (omega arith))) (sym (end_shift ps (length l) j))
    go false i zero h =
        let z : get_or ps 0 (length l) - 0 ≡ get_or ps 0 (length l) = omega arith in
        let y : suc (get_or ps 0 (length l)) - 0 ≡ suc (get_or ps 0 (length l)) = omega arith in
        cons_first a l ∙ ap (λ (x : List ℕ). a ∷ x) (i 0 (omega arith) ∙ ap (λ (k : ℕ). take k l) z)
        ∙ ap (λ (k : ℕ). take k (a ∷ l)) (sym y) ∙ ap (λ (e : ℕ). part (a ∷ l) 0 e) (sym (end_shift ps (length l) 0))
    go false i (suc j) h =
        cons_later a j l ∙ i (suc j) (omega arith)
        ∙ sym (part_shift a l (start_of ps (suc j)) (get_or ps (suc j) (length l)))
        ∙ ap₂ (λ (x e : ℕ). part (a ∷ l) (suc x) e) (sym (behind j (omega (arith, count_places 0 l)))) (sym (end_shift ps (length l) (suc j)))

-- a comma stands inside, and those before it earlier
comma_inside : (l : List ℕ) (j : ℕ) → j < comma_count l → get_or (commas_from 0 l) j 0 < length l
comma_inside [] j h = absurd (omega arith)
comma_inside (a ∷ l) j h = go (is_comma a) (comma_inside l) j h
  where
    go : (b : Bool) → ((j : ℕ) → j < comma_count l → get_or (commas_from 0 l) j 0 < length l) → (j : ℕ) → j < cond b 1 0 + comma_count l
        → get_or (cond b (0 ∷ commas_from 1 l) (commas_from 1 l)) j 0 < suc (length l)
    go true i zero h = omega arith
    go true i (suc j) h = rw (comma_shift 0 l, get_d_suc (commas_from 0 l) j (omega (arith, count_places 0 l))) (omega (arith, i j (omega arith)))
    go false i j h = rw (comma_shift 0 l, get_d_suc (commas_from 0 l) j (omega (arith, count_places 0 l))) (omega (arith, i j (omega arith)))

comma_order : (l : List ℕ) (j : ℕ) → suc j < comma_count l → get_or (commas_from 0 l) j 0 < get_or (commas_from 0 l) (suc j) 0
comma_order [] j h = absurd (omega arith)
comma_order (a ∷ l) j h = go (is_comma a) (comma_order l) j h
  where
    go : (b : Bool) → ((j : ℕ) → suc j < comma_count l → get_or (commas_from 0 l) j 0 < get_or (commas_from 0 l) (suc j) 0) → (j : ℕ) → suc j < cond b 1 0 + comma_count l
        → get_or (cond b (0 ∷ commas_from 1 l) (commas_from 1 l)) j 0 < get_or (cond b (0 ∷ commas_from 1 l) (commas_from 1 l)) (suc j) 0
    go true i zero h = rw (comma_shift 0 l, get_d_suc (commas_from 0 l) 0 (omega (arith, count_places 0 l))) (omega arith)
    go true i (suc j) h =
        rw (comma_shift 0 l, get_d_suc (commas_from 0 l) j (omega (arith, count_places 0 l)), get_d_suc (commas_from 0 l) (suc j) (omega (arith, count_places 0 l))) (omega (arith, i j (omega arith)))
    go false i j h =
        rw (comma_shift 0 l, get_d_suc (commas_from 0 l) j (omega (arith, count_places 0 l)), get_d_suc (commas_from 0 l) (suc j) (omega (arith, count_places 0 l))) (omega (arith, i j (omega arith)))

-- at its place stands a comma
comma_here : (l : List ℕ) (j : ℕ) → j < comma_count l → get_or l (get_or (commas_from 0 l) j 0) 0 ≡ 0x2c
comma_here [] j h = absurd (omega arith)
comma_here (a ∷ l) j h = go (is_comma a) refl (comma_here l) j h
  where
    go : (b : Bool) → is_comma a ≡ b → ((j : ℕ) → j < comma_count l → get_or l (get_or (commas_from 0 l) j 0) 0 ≡ 0x2c) → (j : ℕ) → j < cond b 1 0 + comma_count l
        → get_or (a ∷ l) (get_or (cond b (0 ∷ commas_from 1 l) (commas_from 1 l)) j 0) 0 ≡ 0x2c
    go true q i zero h = eqb-true a 0x2c q
    go true q i (suc j) h = rw (comma_shift 0 l, get_d_suc (commas_from 0 l) j (omega (arith, count_places 0 l))) (i j (omega arith))
    go false q i j h = rw (comma_shift 0 l, get_d_suc (commas_from 0 l) j (omega (arith, count_places 0 l))) (i j (omega arith))

-- ---- the same by `comma_at`

get_d_any : (ps : List ℕ) (j x y : ℕ) → j < length ps → get_or ps j x ≡ get_or ps j y
get_d_any [] j x y h = absurd (omega arith)
get_d_any (p ∷ ps) zero x y h = refl
get_d_any (p ∷ ps) (suc j) x y h = get_d_any ps j x y (omega arith)

get_d_past : (ps : List ℕ) (j x : ℕ) → length ps ≤ j → get_or ps j x ≡ x
get_d_past [] j x h = refl
get_d_past (p ∷ ps) zero x h = absurd (omega arith)
get_d_past (p ∷ ps) (suc j) x h = get_d_past ps j x (omega arith)

module _ (l : List ℕ) where
  pub comma_last : (j : ℕ) → comma_count l ≤ j → comma_at l j ≡ length l
  unfolding comma_at
  comma_last j h = get_d_past (commas_from 0 l) j (length l) (omega (arith, count_places 0 l))

  comma_is : (j : ℕ) → j < comma_count l → comma_at l j ≡ get_or (commas_from 0 l) j 0
  unfolding comma_at
  comma_is j h = get_d_any (commas_from 0 l) j (length l) 0 (omega (arith, count_places 0 l))

  pub comma_less : (j : ℕ) → j < comma_count l → comma_at l j < length l
  comma_less j h = omega (arith, comma_is j h, comma_inside l j h)

  pub comma_le : (j : ℕ) → comma_at l j ≤ length l
  comma_le j = go (dec_lt j (comma_count l))
    where
      go : Dec (j < comma_count l) → comma_at l j ≤ length l
      go (yes k) = omega (arith, comma_less j k)
      go (no k) = omega (arith, comma_last j (omega arith))

  pub comma_byte : (j : ℕ) → j < comma_count l → get_or l (comma_at l j) 0 ≡ 0x2c
  comma_byte j h = ap (λ (i : ℕ). get_or l i 0) (comma_is j h) ∙ comma_here l j h

  -- the record's number
  pub number_part : get_or (items_of l) 0 [] ≡ part l 0 (comma_at l 0)
  unfolding comma_at start_of
  number_part = item_by l 0 (omega arith)

  -- item number j after it
  module _ (j : ℕ) (h : 1 ≤ j) (k : j ≤ comma_count l) where
    pub comma_next : comma_at l (j - 1) < comma_at l j
    comma_next = go (dec_lt j (comma_count l))
      where
        z : suc (j - 1) ≡ j
        z = omega arith

        go : Dec (j < comma_count l) → comma_at l (j - 1) < comma_at l j
        go (yes m) =
            let o : get_or (commas_from 0 l) (j - 1) 0 < get_or (commas_from 0 l) j 0 =
            subst (λ (x : ℕ). get_or (commas_from 0 l) (j - 1) 0 < get_or (commas_from 0 l) x 0) z (comma_order l (j - 1) (omega arith)) in
            omega (arith, comma_is (j - 1) (omega arith), comma_is j m, o)
        go (no m) = omega (arith, comma_less (j - 1) (omega arith), comma_last j (omega arith))

    pub item_part : get_or (items_of l) j [] ≡ part l (comma_at l (j - 1) + 1) (comma_at l j)
    unfolding comma_at start_of
    item_part = item_by l j k ∙ ap (λ (x : ℕ). part l x (get_or (commas_from 0 l) j (length l))) (go j h k)
      where
        go : (j : ℕ) → 1 ≤ j → j ≤ comma_count l → start_of (commas_from 0 l) j ≡ get_or (commas_from 0 l) (j - 1) (length l) + 1
        go zero h k = absurd (omega arith)
        go (suc j) h k =
            let z : suc j - 1 ≡ j = omega arith in
            omega (arith, get_d_any (commas_from 0 l) j 0 (length l) (omega (arith, count_places 0 l)), ap (λ (x : ℕ). get_or (commas_from 0 l) x (length l)) z)

-- ---- the ways through `Items::end_of` and `Items::range`

no_item : (xs : List (List ℕ)) (j : ℕ) → length xs ≤ j → get_or xs j [] ≡ []
no_item [] j h = refl
no_item (x ∷ xs) zero h = absurd (omega arith)
no_item (x ∷ xs) (suc j) h = no_item xs j (omega arith)

module _ {s : List ℕ} {at e : ℕ} {stops : List ℕ} {n : ℕ} (v : LineIn s at e stops n) where
  abbrev line : List ℕ
  line = part s at e

  line_length : length (part s at e) ≡ e - at
  line_length = part_length s at e v.low v.high

  pub end_high : (j : ℕ) → at + comma_at (part s at e) j ≤ e
  end_high j = omega (arith, comma_le line j, line_length, v.low)

  pub end_stop : (j : ℕ) → j ≤ 15 → j < n → at + get_or stops j 0 ≡ at + comma_at (part s at e) j
  end_stop j m h =
      ap (λ (x : ℕ). at + x) (v.places.here j (omega (arith, count_places 0 line, v.commas)) (omega arith) ∙ sym (comma_is line j (omega (arith, v.commas))))

  pub end_last : (j : ℕ) → n ≤ j → e ≡ at + comma_at (part s at e) j
  end_last j h = omega (arith, comma_last line j (omega (arith, v.commas)), line_length, v.low)

  pub end_fits : (j : ℕ) → j ≤ 15 → j < n → at + get_or stops j 0 ≤ e
  end_fits j m h = omega (arith, end_stop j m h, end_high j)

  pub next_fits : (j : ℕ) {p : ℕ} → j ≤ n → (j ≡ 0 → ⊥) → p ≡ at + comma_at (part s at e) (j - 1) → p + 1 ≤ e
  next_fits j h z q = omega (arith, q, comma_less line (j - 1) (omega (arith, v.commas)), line_length, v.low)

  pub range_none : (j : ℕ) → n < j → ItemAt s at e n j (record { from = e; to = e })
  range_none j h = record {
    says = part_none s e ∙ sym (no_item (items_of line) j (omega (arith, items_count line, v.commas)));
    low = omega arith;
    high = omega arith;
    begins = λ k m. absurd (omega arith);
    ends = end_last j (omega arith);
  }

  module _ (j : ℕ) (h : j ≤ n) {r : ℕ} (q : r ≡ at + comma_at (part s at e) j) where
    pub range_first : j ≡ 0 → ItemAt s at e n j (record { from = at; to = r })
    range_first z = record {
      says =
          let o : at + 0 ≡ at = omega arith in
          ap (part s at) q ∙ ap (λ (x : ℕ). part s x (at + comma_at line j)) (sym o)
          ∙ sym (part_part s at e 0 (comma_at line j) (omega arith) (end_high j))
          ∙ subst (λ (x : ℕ). part line 0 (comma_at line x) ≡ get_or (items_of line) x []) (sym z) (sym (number_part line));
      low = omega (arith, q);
      high = omega (arith, q, end_high j);
      begins = λ k m. absurd (omega arith);
      ends = q;
    }

    pub range_next : (j ≡ 0 → ⊥) → {p : ℕ} → p ≡ at + comma_at (part s at e) (j - 1) → ItemAt s at e n j (record { from = p + 1; to = r })
    range_next z {p} o =
        let c : j ≤ comma_count line = omega (arith, v.commas) in
        let k : comma_at line (j - 1) < comma_at line j = comma_next line j (omega arith) c in
        let t : p + 1 ≡ at + (comma_at line (j - 1) + 1) = omega arith in
        record {
          says =
              ap₂ (part s) t q ∙ sym (part_part s at e (comma_at line (j - 1) + 1) (comma_at line j) (omega arith) (end_high j))
              ∙ sym (item_part line j (omega arith) c);
          low = omega arith;
          high = omega (arith, q, end_high j);
          begins = λ _ _. t;
          ends = q;
        }

pub ruleset range_laws = (end_stop, end_last, next_fits, range_none, range_first, range_next)

-- ---- a scanned line

pub scanned_in : {s : List ℕ} {at : ℕ} {stops : List ℕ} {e : ℕ} {good : Bool} {n : ℕ} → ScannedLine s at stops e good n → LineIn s at e stops n
scanned_in v = record { places = v.places; commas = v.commas; low = v.line.low; high = omega (arith, v.line.high) }

-- before an item after the number stands its comma
pub comma_in : {s stops : List ℕ} {at e n j : ℕ} → LineIn s at e stops n → 1 ≤ j → j ≤ n → get_or s (at + comma_at (part s at e) (j - 1)) 0 ≡ 0x2c
comma_in {s} {stops} {at} {e} {n} {j} v h k =
    let c : j - 1 < comma_count (part s at e) = omega (arith, v.commas) in
    let i : comma_at (part s at e) (j - 1) < length (part s at e) = comma_less (part s at e) (j - 1) c in
    sym (part_at s at e (comma_at (part s at e) (j - 1)) (omega (arith, i, part_length s at e v.low v.high))) ∙ comma_byte (part s at e) (j - 1) c
