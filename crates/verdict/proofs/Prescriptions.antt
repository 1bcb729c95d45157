-- What the small machine says of a prescription and of the prescriptions of a group: one equation for each part. Each has the form "if what
-- follows says W after this part, then part and rest say the part's conditions and W". RP values are given; they decide the tree. Assumes nothing.
use Prim.Native.Nat.{ℕ, ◌+◌}
use native.Mathlib.Omega.{arith}
use mathlib.Core.Path.{◌≡◌, refl, ap, ◌∙◌}
use mathlib.Core.Bool.{Bool, true, false, not, ◌&&◌, ◌||◌, false≢true}
use Rattle.std.specs.Prelude.{Option, Some, None}
use mathlib.Core.List.{List, [], ◌∷◌}
use lib.Dec.{eqb}
use borrow.Author.Tests.{ne_eqb, eqb-true}
use Rattle.lists.proofs.Tests.{both, and_same}
use Rattle.order.specs.declared.Facts.{Facts}
use Rattle.rules.specs.Places.{in_rp, in_drugs}
use Rattle.grammar.specs.Grammar.{Details, Drug, Usage, Prescription, Later, rec, any_of, opt, drugs_records, usage_records, rp_records, plain_records, later_records}
use Rattle.grammar.specs.Grammar.{all_of, stands, ◌⇒◌, later_ones, name_asked, usage_named, all_named, valued, drug_valued, usage_valued, one_value, values_from, each301}
use Rattle.verdict.proofs.Computed.{taut, In, here, there, every_at, among}
use Rattle.verdict.proofs.Machine.{runs, step}
use Rattle.verdict.proofs.Steps.{st, rp_places, drug_places, to401, treats, at_55, at_201, at_281, at_291, at_301, at_311, at_391}

-- any ns, none of which changes more than the place
pub any_on : (Q : ℕ → List Facts → Bool) (n : ℕ) (xs : List ℕ) (g : Details → Bool) (W : Bool) (rs : List Facts)
    → ((p : ℕ) → In p (n ∷ xs) → (b : Details) (l : List Facts) → g b ≡ true → Q p (rec n b ∷ l) ≡ Q n l)
    → ((p : ℕ) → In p (n ∷ xs) → Q p rs ≡ W)
    → (bs : List Details) → all_of g bs ≡ true → (p : ℕ) → In p (n ∷ xs) → Q p (any_of n bs rs) ≡ W
any_on Q n xs g W rs s h [] e p m = h p m
any_on Q n xs g W rs s h (b ∷ bs) e p m =
    let e2 = both (g b) (all_of g bs) e in
    s p m b (any_of n bs rs) e2.0 ∙ any_on Q n xs g W rs s h bs e2.1 n here

pub in_rp_lem : {p : ℕ} → In p rp_places → in_rp p ≡ true
in_rp_lem m = every_at in_rp refl m

-- a 201 of the open RP's value, and one of the next value
goes_on_lem : (a s y : Bool) → a ≡ true → s ≡ true → (a && s || y) ≡ true
goes_on_lem a s y g h = rw (g, h)

begins : (a s x y : Bool) → s ≡ false → x ≡ true → (a && s || y && x) ≡ y
begins a s x y g h = rw (g, h) (taut 2 (λ a y. a && false || y && true) (λ a y. y) refl a y)

pub above : (v : ℕ) → eqb (v + 1) 0 ≡ false
above v = ne_eqb _ _ (λ (z : v + 1 ≡ 0). omega arith)

module _ (o : Bool) (d : ℕ) (e : Bool) (k : ℕ) (f i : Bool) where
  -- after an RP of value v: direction 1 asks for its 301, and what follows says W
  abbrev pub Behind : ℕ → Bool → Bool → List Facts → Type 0
  Behind v c W rs = (p : ℕ) → In p rp_places → (u : Bool) → runs (st o p d e k f i v u c) rs ≡ ((o ⇒ u) && W)

  notes : (v : ℕ) (u c W : Bool) (rs : List Facts) → Behind v c W rs → (bs : List Details) → all_of (valued v) bs ≡ true
      → (p : ℕ) → In p rp_places → runs (st o p d e k f i v u c) (any_of 391 bs rs) ≡ ((o ⇒ u) && W)
  notes v u c W rs h bs g p m =
      any_on (λ p l. runs (st o p d e k f i v u c) l) 391 _ (valued v) ((o ⇒ u) && W) rs
      (λ p m b l x. step (st o p d e k f i v u c) (rec 391 b) l (at_391 o d e k f i v u c b m ∙ x)) (λ p m. h p m u) bs g p m

  usage_read : (v : ℕ) (c W : Bool) (rs : List Facts) → Behind v c W rs → (y : Option Usage) → usage_valued v y ≡ true
      → (bs : List Details) → all_of (valued v) bs ≡ true → (p : ℕ) → In p drug_places
      → runs (st o p d e k f i v false c) (usage_records y (any_of 391 bs rs)) ≡ (usage_named o k y && ((o ⇒ stands y) && W))
  usage_read v c W rs h None w bs g p m = notes v false c W rs h bs g p (among rp_places refl m)
  usage_read v c W rs h (Some y) w bs g p m =
      let w2 = both (valued v y.r301) (all_of (valued v) y.r311s) w in
      let named : Bool = name_asked o k y.r301.form ⇒ y.r301.named in
      step (st o p d e k f i v false c) (rec 301 y.r301) _ (at_301 o d e k f i v false c y.r301 m ∙ ap (λ x. named && x) w2.0 ∙ and_same named)
      ∙ ap (λ x. named && x)
      (any_on (λ p l. runs (st o p d e k f i v true c) l) 311 _ (valued v) ((o ⇒ true) && W) (any_of 391 bs rs)
      (λ p m b l x. step (st o p d e k f i v true c) (rec 311 b) l (at_311 o d e k f i v true c b m ∙ x))
      (λ p m. notes v true c W rs h bs g p (among rp_places refl m))
      y.r311s w2.1 301 (there here))

  -- the 281s and 291s of a drug, after its 201
  one_drug : (v : ℕ) (c W : Bool) (rs : List Facts) → ((p : ℕ) → In p drug_places → runs (st o p d e k f i v false c) rs ≡ W)
      → (xs bs : List Details) → all_of (valued v) xs ≡ true → all_of (valued v) bs ≡ true
      → runs (st o 201 d e k f i v false c) (any_of 281 xs (any_of 291 bs rs)) ≡ W
  one_drug v c W rs h xs bs g g2 =
      any_on (λ p l. runs (st o p d e k f i v false c) l) 281 _ (valued v) W (any_of 291 bs rs)
      (λ p m b l x. step (st o p d e k f i v false c) (rec 281 b) l (at_281 o d e k f i v false c b m ∙ x))
      (λ p m. any_on (λ p l. runs (st o p d e k f i v false c) l) 291 _ (valued v) W rs
      (λ p m b l x. step (st o p d e k f i v false c) (rec 291 b) l (at_291 o d e k f i v false c b m ∙ x)) h bs g2 p (there m))
      xs g 201 (there here)

  more_drugs : (v : ℕ) (c W : Bool) (rs : List Facts) → ((p : ℕ) → In p drug_places → runs (st o p d e k f i v false c) rs ≡ W)
      → (ds : List Drug) → all_of (drug_valued v) ds ≡ true → (p : ℕ) → In p drug_places → runs (st o p d e k f i v false c) (drugs_records ds rs) ≡ W
  more_drugs v c W rs h [] g p m = h p m
  more_drugs v c W rs h (x ∷ ds) g p m =
      let g2 = both (drug_valued v x) (all_of (drug_valued v) ds) g in
      let g3 = both (valued v x.r201) (all_of (valued v) x.r281s && all_of (valued v) x.r291s) g2.0 in
      let g4 = both (all_of (valued v) x.r281s) (all_of (valued v) x.r291s) g3.1 in
      step (st o p d e k f i v false c) (rec 201 x.r201) _
      (at_201 o d e k f i v false c x.r201 (among (55 ∷ to401) refl m) ∙ goes_on_lem _ _ _ (every_at in_drugs refl m) g3.0)
      ∙ ap (λ w. runs (st o 201 d e k f i w false c) (any_of 281 x.r281s (any_of 291 x.r291s (drugs_records ds rs)))) (eqb-true _ _ g3.0)
      ∙ one_drug v c W (drugs_records ds rs) (more_drugs v c W rs h ds g2.1) x.r281s x.r291s g4.0 g4.1

  -- an RP of the next value
  pub rp_read : (v : ℕ) (u c W : Bool) (rs : List Facts) (x : Prescription) → one_value (v + 1) x ≡ true → Behind (v + 1) c W rs
      → (p : ℕ) → In p (55 ∷ to401)
      → runs (st o p d e k f i v u c) (rp_records x rs) ≡ ((o ⇒ not (in_rp p && not u)) && (usage_named o k x.usage && ((o ⇒ stands x.usage) && W)))
  rp_read v u c W rs x g h p m =
      let y = x.drug in
      let q : Details → Bool = valued (v + 1) in
      let g2 = both (drug_valued (v + 1) y) (all_of (drug_valued (v + 1)) x.drugs && (usage_valued (v + 1) x.usage && all_of q x.r391s)) g in
      let g3 = both (q y.r201) (all_of q y.r281s && all_of q y.r291s) g2.0 in
      let g4 = both (all_of q y.r281s) (all_of q y.r291s) g3.1 in
      let g5 = both (all_of (drug_valued (v + 1)) x.drugs) (usage_valued (v + 1) x.usage && all_of q x.r391s) g2.1 in
      let g6 = both (usage_valued (v + 1) x.usage) (all_of q x.r391s) g5.1 in
      let w : y.r201.rp ≡ v + 1 = eqb-true _ _ g3.0 in
      let tail : List Facts = usage_records x.usage (any_of 391 x.r391s rs) in
      step (st o p d e k f i v u c) (rec 201 y.r201) _
      (at_201 o d e k f i v u c y.r201 m ∙ begins (in_drugs p) (eqb y.r201.rp v) (eqb y.r201.rp (v + 1)) (o ⇒ not (in_rp p && not u))
      (ne_eqb _ _ (λ (z : y.r201.rp ≡ v). omega arith)) g3.0)
      ∙ ap (λ y. (o ⇒ not (in_rp p && not u)) && y)
      (ap (λ w. runs (st o 201 d e k f i w false c) (any_of 281 y.r281s (any_of 291 y.r291s (drugs_records x.drugs tail)))) w
      ∙ one_drug (v + 1) c (usage_named o k x.usage && ((o ⇒ stands x.usage) && W)) _
      (more_drugs (v + 1) c _ _ (usage_read (v + 1) c W rs h x.usage g6.0 x.r391s g6.1) x.drugs g5.0)
      y.r281s y.r291s g4.0 g4.1)

  -- what the RPs after the first ask: usage names, and 301s in direction 1
  abbrev pub usages : List Prescription → Bool
  usages ps = all_named o k ps && (o ⇒ each301 ps)

  -- an RP after another, with what it asks put to what the RPs after it ask
  joined : (x : Prescription) (ps : List Prescription) (v : ℕ) (u c W : Bool) (rs : List Facts) → one_value (v + 1) x ≡ true
      → Behind (v + 1) c (usages ps && W) rs → (p : ℕ) → In p rp_places
      → runs (st o p d e k f i v u c) (rp_records x rs) ≡ ((o ⇒ u) && (usages (x ∷ ps) && W))
  joined x ps v u c W rs g h p m =
      rp_read v u c (usages ps && W) rs x g h p (among (55 ∷ to401) refl m)
      ∙ rw (in_rp_lem m)
      (taut 7 (λ o u n s m a W. (o ⇒ not (true && not u)) && (n && ((o ⇒ s) && ((m && (o ⇒ a)) && W))))
      (λ o u n s m a W. (o ⇒ u) && (((n && m) && (o ⇒ s && a)) && W)) refl
      o u (usage_named o k x.usage) (stands x.usage) (all_named o k ps) (each301 ps) W)

  nothing_more : (c W : Bool) (rs : List Facts) (v : ℕ) → Behind v c W rs → Behind v c (usages [] && W) rs
  nothing_more c W rs v h p m u = h p m u ∙ taut 3 (λ o u W. (o ⇒ u) && W) (λ o u W. (o ⇒ u) && ((true && (o ⇒ true)) && W)) refl o u W

  -- all without doctors
  pub plain_read : (c W : Bool) (rs : List Facts) → ((v : ℕ) → eqb v 0 ≡ false → Behind v c W rs)
      → (ps : List Prescription) (v : ℕ) → eqb v 0 ≡ false → values_from (v + 1) ps ≡ true → Behind v c (usages ps && W) (plain_records ps rs)
  plain_read c W rs h [] v z g p m u = nothing_more c W rs v (h v z) p m u
  plain_read c W rs h (x ∷ ps) v z g p m u =
      let g2 = both (one_value (v + 1) x) (values_from (v + 1 + 1) ps) g in
      joined x ps v u c W (plain_records ps rs) g2.0 (plain_read c W rs h ps (v + 1) (above v) g2.1) p m

  -- a 55 before an RP that follows one with a doctor; in direction 1 there is none after an 11 with 1 or 3
  under_55 : (x : Prescription) (ps : List Prescription) (v : ℕ) (u W : Bool) (rs : List Facts) → (o ⇒ not (treats k)) ≡ true → one_value (v + 1) x ≡ true
      → Behind (v + 1) true (usages ps && W) rs → (r : Option Details) (p : ℕ) → In p rp_places
      → runs (st o p d e k f i v u true) (opt 55 r (rp_records x rs)) ≡ ((o ⇒ u) && (usages (x ∷ ps) && W))
  under_55 x ps v u W rs t g h None p m = joined x ps v u true W rs g h p m
  under_55 x ps v u W rs t g h (Some b) p m =
      step (st o p d e k f i v u true) (rec 55 b) _ (at_55 o d e k f i v u true b (among to401 refl m))
      ∙ ap (λ y. ((in_rp p ⇒ true) && (o ⇒ not (treats k) && not (in_rp p && not u))) && y) (rp_read v u true (usages ps && W) rs x g h 55 here)
      ∙ rw (in_rp_lem m) (so o u (treats k) (usage_named o k x.usage) (stands x.usage) (all_named o k ps) (each301 ps) t)
    where
      so : (o u t n s m a : Bool) → (o ⇒ not t) ≡ true
          → (((true ⇒ true) && (o ⇒ not t && not (true && not u))) && ((o ⇒ not (false && not u)) && (n && ((o ⇒ s) && ((m && (o ⇒ a)) && W)))))
          ≡ ((o ⇒ u) && (((n && m) && (o ⇒ s && a)) && W))
      so true u true n s m a z = absurd (false≢true z)
      so true u false n s m a z = taut 6 (λ u n s m a W. (not (not u)) && (n && (s && ((m && a) && W))))
          (λ u n s m a W. u && (((n && m) && (s && a)) && W)) refl u n s m a W
      so false u t n s m a z = taut 3 (λ n m W. n && ((m && true) && W)) (λ n m W. ((n && m) && true) && W) refl n m W

  -- with doctors, after the first RP
  pub later_read : (W : Bool) (rs : List Facts) → (o ⇒ not (treats k)) ≡ true → ((v : ℕ) → eqb v 0 ≡ false → Behind v true W rs)
      → (ls : List Later) (v : ℕ) → eqb v 0 ≡ false → values_from (v + 1) (later_ones ls) ≡ true → Behind v true (usages (later_ones ls) && W) (later_records ls rs)
  later_read W rs t h [] v z g p m u = nothing_more true W rs v (h v z) p m u
  later_read W rs t h (l ∷ ls) v z g p m u =
      let g2 = both (one_value (v + 1) l.prescription) (values_from (v + 1 + 1) (later_ones ls)) g in
      under_55 l.prescription (later_ones ls) v u W (later_records ls rs) t g2.0 (later_read W rs t h ls (v + 1) (above v) g2.1) l.r55 p m
