-- Items at a position: which ways through the code find an end, and that the item up to it has no fault. Assumes nothing.
use Prim.Native.Nat.{ℕ, zero, suc, ◌+◌, ◌-◌, ◌≤◌, ◌<◌}
use mathlib.Core.Path.{◌≡◌, refl, sym, ap, ◌∙◌, subst}
use mathlib.Core.Bool.{Bool, true, false, cond, not, ◌&&◌, ◌||◌, or-true}
use mathlib.Core.Logic.{◌⊎◌, inl, inr, ⊎_elim}
use mathlib.Core.List.{List, [], ◌∷◌}
use native.Mathlib.Omega.{arith}
use Rattle.std.specs.Prelude.{Option, Some, None, Result, Ok}
use borrow.Author.Tests.{leb-true, leb-false, le-leb, lt-leb, eqb-true, ne_eqb}
use lib.Dec.{leb, eqb}
use lib.ListN.{length, get_or, take, drop, length-drop}
use lib.Seq.{get_or-drop}
use Rattle.lists.specs.Lists.{within, all}
use Rattle.lists.specs.Searching.{part}
use Rattle.lists.proofs.Cuts.{rest_all}
use Rattle.lists.proofs.Loops.{past_end}
use Rattle.lists.proofs.Parts.{part_length, part_none, part_more, part_at}
use Rattle.lists.proofs.Tests.{both, either, not_true', or_first, within_in, all_append, zero_unless}
use Rattle.characters.specs.Cells.{is_one, is_one_byte}
use Rattle.characters.specs.Scanning.{bytes_of}
use Rattle.scanning.specs.declared.runs.Scripts.{Scripts}
use Rattle.scanning.specs.declared.runs.Run.{Run}
use Rattle.scanning.specs.Scans.{RunOf, Counted}
use Rattle.scanning.proofs.RunLaws.{run_none, run_byte}
use Rattle.replies.specs.declared.refusal.Refusal.{Refusal}
use Rattle.replies.specs.Refusals.{fault_in}
use Rattle.records.specs.Table.{Kind, N, X, Need, Item, required}
use Rattle.records.specs.Items.{is_code, edge, sized, fault}
use Rattle.records.specs.Records.{item_fault}
use Rattle.items.specs.declared.Uniform.{Uniform}
use Rattle.items.specs.declared.Uniform.TheVariants.{Width, Script}
use Rattle.items.specs.Ends.{Within, uniform_scripts, uniform_text, uniform_kind, sized_end, FineItem, EndOf, CodeRun, DigitAt, DigitFits}
use Rattle.items.proofs.TextLaws.{edge_free, edge_clear, edge_inner, scripts_within, scripts_fit}

-- ---- ends

module _ (b : Bool) (i : Item) (s : List ℕ) (a : ℕ) where
  -- none says nothing
  pub end_none : EndOf b i s a None
  end_none = record { holds = λ e q. cc }

  pub end_some : {e : ℕ} → FineItem b i s a e → EndOf b i s a (Some e)
  end_some {e} v = record { holds = λ x q. let p : e ≡ x = cc in subst (FineItem b i s a) p v }

-- the two ways through `item_fault`
item_empty : (b : Bool) (i : Item) (s : List ℕ) → length s ≡ 0 → required b i.need ≡ false → item_fault b i s ≡ 0
unfolding item_fault
item_empty b i [] h r = simp r
item_empty b i (x ∷ s) h r = absurd (omega arith)

item_some : (b : Bool) (i : Item) (s : List ℕ) → (length s ≡ 0 → ⊥) → item_fault b i s ≡ fault i.kind s
unfolding item_fault
item_some b i [] h = absurd (h refl)
item_some b i (x ∷ s) h = refl

module _ (b : Bool) (i : Item) (s : List ℕ) (a : ℕ) {e : ℕ} (v : RunOf s a e) where
  -- an empty item, r: what `blank_end` said
  pub end_blank : {r : Option ℕ} → e ≡ a → r ≡ cond (required b i.need) None (Some a) → EndOf b i s a r
  end_blank {r} q p = go (required b i.need) refl p
    where
      go : (x : Bool) → required b i.need ≡ x → r ≡ cond x None (Some a) → EndOf b i s a r
      go true n p = subst (EndOf b i s a) (sym p) (end_none b i s a)
      go false n p =
          let l : length (part s a a) ≡ 0 = omega (arith, part_length s a a (omega arith) (omega (arith, v.high, q))) in
          subst (EndOf b i s a) (sym p) (end_some b i s a (record { run = subst (RunOf s a) q v; fine = item_empty b i (part s a a) l n }))

  -- an item without a fault, o: what `item_fault` said
  pub end_fine : {o : Result Unit Refusal} {x : Unit {0}} → fault_in o ≡ item_fault b i (part s a e) → o ≡ Ok x → EndOf b i s a (Some e)
  end_fine p q = end_some b i s a (record { run = v; fine = sym p ∙ ap fault_in q })

  module _ (n : e ≡ a → ⊥) where
    some : length (part s a e) ≡ 0 → ⊥
    some z = n (omega (arith, part_length s a e v.low v.high, v.low))

    -- by the fault of its kind
    pub end_kind : fault i.kind (part s a e) ≡ 0 → EndOf b i s a (Some e)
    end_kind p = end_some b i s a (record { run = v; fine = item_some b i (part s a e) some ∙ p })

-- no longer than m, without an edge
sized_fine : (m : ℕ) (s : List ℕ) {x : Bool} → length s ≤ m → edge s ≡ false → x ≡ true → sized m s x ≡ 0
unfolding sized
sized_fine m s {x} h e t = simp (le-leb (length s) m h, e, zero_unless x 11 t)

module _ (b : Bool) (m : ℕ) (d : Need) (s : List ℕ) (a : ℕ) {e : ℕ} (v : RunOf s a e) (n : e ≡ a → ⊥) where
  -- a kind that asks for its length, no edge and a form that the item has; f: what `sized_end` said
  end_sized : (k : Kind) {f : Option ℕ} → f ≡ sized_end m s a e → (length (part s a e) ≤ m → edge (part s a e) ≡ false → fault k (part s a e) ≡ 0)
      → EndOf b (record { kind = k; need = d }) s a f
  unfolding sized_end
  end_sized k {f} g w = go (leb (e - a) m) refl (edge (part s a e)) refl g
    where
      go : (x : Bool) → leb (e - a) m ≡ x → (y : Bool) → edge (part s a e) ≡ y → f ≡ cond (x && not y) (Some e) None → EndOf b (record { kind = k; need = d }) s a f
      go true p false q r =
          let l : length (part s a e) ≤ m = omega (arith, part_length s a e v.low v.high, leb-true (e - a) m p) in
          subst (EndOf b (record { kind = k; need = d }) s a) (sym r) (end_kind b (record { kind = k; need = d }) s a v n (w l q))
      go true p true q r = subst (EndOf b (record { kind = k; need = d }) s a) (sym r) (end_none b (record { kind = k; need = d }) s a)
      go false p y q r = subst (EndOf b (record { kind = k; need = d }) s a) (sym r) (end_none b (record { kind = k; need = d }) s a)

  -- kind N
  pub end_text : {f : Option ℕ} → f ≡ sized_end m s a e → EndOf b (record { kind = N m; need = d }) s a f
  unfolding fault
  end_text g = end_sized (N m) g (λ l q. sized_fine m (part s a e) l q refl)

  -- kinds U and K: w is what `holds` said of the scripts k
  pub end_uniform : (u : Uniform) (k : Scripts) {w : Bool} {f : Option ℕ} → Counted s a e k → w ≡ uniform_scripts u k (e - a) → w ≡ true → f ≡ sized_end m s a e
      → EndOf b (record { kind = uniform_kind u m; need = d }) s a f
  unfolding fault
  end_uniform u k {w} {f} c p t g = go u (sym (scripts_fit (part s a e) k c v.chars u (e - a) (sym (part_length s a e v.low v.high))) ∙ sym p ∙ t)
    where
      go : (u : Uniform) → uniform_text u (part s a e) ≡ true → EndOf b (record { kind = uniform_kind u m; need = d }) s a f
      go Width h = end_sized (uniform_kind Width m) g (λ l q. sized_fine m (part s a e) l q h)
      go Script h = end_sized (uniform_kind Script m) g (λ l q. sized_fine m (part s a e) l q h)

-- the scripts of a run are within it
pub run_within : {s : List ℕ} {a e : ℕ} (k : Scripts) → RunOf s a e → Counted s a e k → Within k (e - a)
run_within {s} {a} {e} k v d = scripts_within (part s a e) k d (e - a) (sym (part_length s a e v.low v.high))

-- ---- the ways through sized_end

module _ (m : ℕ) (s : List ℕ) (a : ℕ) (r : Run) where
  pub sized_no : m < r.end - a → None ≡ sized_end m s a r.end
  unfolding sized_end
  sized_no h = sym (rw (lt-leb (r.end - a) (m) h) refl)

  module _ (v : RunOf s a r.end) (d : Counted s a r.end r.scripts) (n : a < r.end) (h : r.end - a ≤ m) where
    l : length (part s a r.end) ≡ r.end - a
    l = part_length s a r.end v.low v.high

    first_byte : get_or (part s a r.end) 0 0 ≡ get_or s a 0
    first_byte = let b : a + 0 ≡ a = omega arith in part_at s a r.end 0 (omega arith) ∙ ap (λ (j : ℕ). get_or s j 0) b

    last_byte : get_or (part s a r.end) (length (part s a r.end) - 1) 0 ≡ get_or s (r.end - 1) 0
    last_byte =
        let j : a + (length (part s a r.end) - 1) ≡ r.end - 1 = omega (arith, l) in
        part_at s a r.end (length (part s a r.end) - 1) (omega (arith, l)) ∙ ap (λ (j : ℕ). get_or s j 0) j

    -- a run of one byte has no second
    second_byte : eqb (get_or s (a + 1) 0) 0x40 ≡ false → eqb (get_or (part s a r.end) 1 0) 0x40 ≡ false
    second_byte n = go (leb 2 (length (part s a r.end))) refl
      where
        go : (x : Bool) → leb 2 (length (part s a r.end)) ≡ x → eqb (get_or (part s a r.end) 1 0) 0x40 ≡ false
        go true e = ap (λ (k : ℕ). eqb k 0x40) (part_at s a r.end 1 (omega (arith, l, leb-true 2 (length (part s a r.end)) e))) ∙ n
        go false e = ap (λ (k : ℕ). eqb k 0x40) (sym (past_end (part s a r.end) 1 (omega (arith, leb-false 2 (length (part s a r.end)) e))))

    -- x: what no_wide_edge said
    module _ {x : Bool} (p : x ≡ (eqb r.scripts.either 0 || (not (eqb (get_or s (r.end - 1) 0) 0x40) && not (eqb (get_or s (a + 1) 0) 0x40)))) (t : x ≡ true) where
      stays : (bytes_of is_one_byte (part s a r.end) ≡ 0) ⊎ ((0x28 ≤ get_or (part s a r.end) 0 0) × (0x28 ≤ get_or (part s a r.end) (length (part s a r.end) - 1) 0)) → Some r.end ≡ sized_end m s a r.end
      unfolding sized_end
      stays o =
          let b : 1 ≤ length (part s a r.end) = omega (arith, l) in
          let k : edge (part s a r.end) ≡ false =
          ⊎_elim (λ z. edge_clear (part s a r.end) v.chars b o (sym d.either ∙ eqb-true _ _ z))
          (λ z. let f = both (not (eqb (get_or s (r.end - 1) 0) 0x40)) (not (eqb (get_or s (a + 1) 0) 0x40)) z in
          edge_inner (part s a r.end) v.chars b o (second_byte (not_true' (eqb (get_or s (a + 1) 0) 0x40) f.1))
          (ap (λ (k : ℕ). eqb k 0x40) last_byte ∙ not_true' (eqb (get_or s (r.end - 1) 0) 0x40) f.0))
          (either (eqb r.scripts.either 0) (not (eqb (get_or s (r.end - 1) 0) 0x40) && not (eqb (get_or s (a + 1) 0) 0x40)) (sym p ∙ t)) in
          sym (rw (le-leb (r.end - a) (m) h, k) refl)

      -- no character of one byte, or the first and the last byte above 27h
      pub sized_inner : (eqb r.scripts.one 0 || (leb 0x28 (get_or s a 0) && leb 0x28 (get_or s (r.end - 1) 0))) ≡ true → Some r.end ≡ sized_end m s a r.end
      sized_inner z =
          ⊎_elim (λ z. stays (inl (sym d.one ∙ eqb-true _ _ z)))
          (λ z. let q = both (leb 0x28 (get_or s a 0)) (leb 0x28 (get_or s (r.end - 1) 0)) z in
          stays (inr (omega (arith, first_byte, leb-true 0x28 (get_or s a 0) q.0), omega (arith, last_byte, leb-true 0x28 (get_or s (r.end - 1) 0) q.1))))
          (either (eqb r.scripts.one 0) (leb 0x28 (get_or s a 0) && leb 0x28 (get_or s (r.end - 1) 0)) z)

    pub sized_edged : {x : Bool} → x ≡ edge (part s a r.end) → x ≡ true → None ≡ sized_end m s a r.end
    unfolding sized_end
    sized_edged p t = sym (rw (le-leb (r.end - a) (m) h, sym p ∙ t) refl)

    pub sized_plain : {x : Bool} → x ≡ edge (part s a r.end) → x ≡ false → Some r.end ≡ sized_end m s a r.end
    unfolding sized_end
    sized_plain p t = sym (rw (le-leb (r.end - a) (m) h, sym p ∙ t) refl)

pub ruleset sized_laws = (sized_no, sized_inner, sized_edged, sized_plain)

-- ---- codes

-- where the bytes of a code lie: below 7Fh, above the comma, and none of them 40h
record CodeByte (b : ℕ) : Type 0 where
  low : 0x2d ≤ b
  high : b ≤ 0x7a
  other : b ≡ 0x40 → ⊥

code_byte : (b : ℕ) → is_code b ≡ true → CodeByte b
code_byte b e =
    ⊎_elim
    (λ h.
    ⊎_elim
    (λ h.
    ⊎_elim
    (λ h.
    ⊎_elim (range 0x41 0x5a (omega arith) (omega arith) (λ p q. omega arith)) (range 0x61 0x7a (omega arith) (omega arith) (λ p q. omega arith))
    (either upper lower h))
    (range 0x30 0x39 (omega arith) (omega arith) (λ p q. omega arith))
    (either (upper || lower) digit h))
    (λ h. only 0x2e (eqb-true b 0x2e h) (omega arith) (omega arith))
    (either (upper || lower || digit) (eqb b 0x2e) h))
    (λ h. only 0x2d (eqb-true b 0x2d h) (omega arith) (omega arith))
    (either (upper || lower || digit || eqb b 0x2e) (eqb b 0x2d) e)
  where
    upper : Bool
    upper = within 0x41 0x5a b

    lower : Bool
    lower = within 0x61 0x7a b

    digit : Bool
    digit = within 0x30 0x39 b

    range : (lo hi : ℕ) → 0x2d ≤ lo → hi ≤ 0x7a → (lo ≤ 0x40 → 0x40 ≤ hi → ⊥) → within lo hi b ≡ true → CodeByte b
    range lo hi p q n e =
        let w = both (leb lo b) (leb b hi) e in
        let u : lo ≤ b = leb-true lo b w.0 in
        let v : b ≤ hi = leb-true b hi w.1 in
        record { low = omega arith; high = omega arith; other = λ z. n (omega arith) (omega arith) }

    only : (x : ℕ) → b ≡ x → 0x2d ≤ x → x ≤ 0x3f → CodeByte b
    only x e p q = record { low = omega arith; high = omega arith; other = λ z. omega arith }

code_one : {b : ℕ} → CodeByte b → is_one b ≡ true
code_one {b} w = or_first (within 0x20 0x7e b) (within 0xa1 0xdf b) (within_in 0x20 0x7e b (omega (arith, w.low)) (omega (arith, w.high)))

code_plain : {b : ℕ} → CodeByte b → eqb b 0x2c ≡ false
code_plain {b} w = ne_eqb b 0x2c (λ e. omega (arith, w.low))

-- the loop of `code_end`: a run so far
pub code_start : (s : List ℕ) (a : ℕ) → a ≤ length s → CodeRun s a a
code_start s a h = record { run = run_none s a h; codes = ap (all is_code) (part_none s a) }

pub code_go : {s : List ℕ} {a i : ℕ} → CodeRun s a i → i < length s → is_code (get_or s i 0) ≡ true → CodeRun s a (i + 1)
code_go {s} {a} {i} v h t =
    let w : CodeByte (get_or s i 0) = code_byte (get_or s i 0) t in
    record {
      run = run_byte v.run h (code_one w) (code_plain w);
      codes = ap (all is_code) (part_more s a i v.run.low h) ∙ all_append is_code (part s a i) (get_or s i 0 ∷ []) ∙ simp (v.codes, t);
    }

-- the byte i of the rest from a on
pub code_next : (s : List ℕ) (a i : ℕ) → CodeRun s a (a + i) → i < length (take (length s - a) (drop a s))
    → is_code (get_or (take (length s - a) (drop a s)) i 0) ≡ true → CodeRun s a (a + (i + 1))
code_next s a i v h t =
    let e : take (length s - a) (drop a s) ≡ drop a s = rest_all a s in
    let l : a + i < length s = omega (arith, h, ap length e, length-drop a s) in
    let b : get_or (take (length s - a) (drop a s)) i 0 ≡ get_or s (a + i) 0 = ap (λ (x : List ℕ). get_or x i 0) e ∙ get_or-drop a s i 0 in
    let n : a + i + 1 ≡ a + (i + 1) = omega arith in
    subst (CodeRun s a) n (code_go v l (ap is_code (sym b) ∙ t))

-- a code has no edge
code_at : (l : List ℕ) (i : ℕ) → all is_code l ≡ true → i < length l → CodeByte (get_or l i 0)
code_at [] i e h = absurd (omega arith)
code_at (b ∷ l) zero e h = code_byte b (both (is_code b) (all is_code l) e).0
code_at (b ∷ l) (suc i) e h = code_at l i (both (is_code b) (all is_code l) e).1 (omega arith)

no_edge : (x b : ℕ) → CodeByte b → (b ≡ x → ⊥) → (leb 0x28 b && not (eqb b x)) ≡ true
no_edge x b w n = simp (le-leb 0x28 b (omega (arith, w.low)), ne_eqb b x n)

code_edge : (l : List ℕ) → all is_code l ≡ true → (length l ≡ 0 → ⊥) → false ≡ edge l
code_edge l e n =
    let f : CodeByte (get_or l 0 0) = code_at l 0 e (omega arith) in
    let z : CodeByte (get_or l (length l - 1) 0) = code_at l (length l - 1) e (omega arith) in
    edge_free l refl refl refl refl refl
    (simp (no_edge 0x81 (get_or l 0 0) f (λ q. omega (arith, f.high)), no_edge 0x40 (get_or l (length l - 1) 0) z z.other))

module _ (b : Bool) (m : ℕ) (d : Need) (s : List ℕ) (a : ℕ) {e : ℕ} (v : CodeRun s a e) where
  pub code_blank : {r : Option ℕ} → e ≡ a → r ≡ cond (required b d) None (Some a) → EndOf b (record { kind = X m; need = d }) s a r
  code_blank q p = end_blank b (record { kind = X m; need = d }) s a v.run q p

  -- kind X
  pub code_fine : (e ≡ a → ⊥) → e - a ≤ m → EndOf b (record { kind = X m; need = d }) s a (Some e)
  unfolding fault
  code_fine n h =
      let w : length (part s a e) ≡ e - a = part_length s a e v.run.low v.run.high in
      end_kind b (record { kind = X m; need = d }) s a v.run n
      (sized_fine m (part s a e) (omega (arith, w)) (sym (code_edge (part s a e) v.codes (λ z. n (omega (arith, w, v.run.low))))) v.codes)

-- ---- an item of one digit

digit_code : (d : ℕ) → d ≤ 9 → is_code (48 + d) ≡ true
digit_code d h = simp (within_in 0x30 0x39 (48 + d) (omega arith) (omega arith), or-true)

module _ (b : Bool) (i : Item) {s : List ℕ} {a d : ℕ} {o : Option ℕ} (v : DigitAt s a o) (q : o ≡ Some d) where
  alone : part s a (a + 1) ≡ (48 + d) ∷ []
  alone = part_more s a a (omega arith) (v.holds d q).inside ∙ rw (part_none s a) (ap (λ (b : ℕ). b ∷ []) (v.holds d q).is)

  digit_run : RunOf s a (a + 1)
  digit_run =
      (code_go (code_start s a (omega (arith, (v.holds d q).inside))) (v.holds d q).inside
      (ap is_code (v.holds d q).is ∙ digit_code d (v.holds d q).small)).run

  pub end_digit : {x : Bool} → DigitFits i.kind d x → x ≡ true → EndOf b i s a (Some (a + 1))
  end_digit w t = end_kind b i s a digit_run (λ e. omega arith) (ap (fault i.kind) alone ∙ w.holds t (v.holds d q).small)

pub ruleset code_item_laws = (end_none, code_blank, code_fine)

pub ruleset text_item_laws = (end_none, end_blank, end_text)

pub ruleset uniform_item_laws = (end_none, end_blank, end_uniform)

-- the bytes of a code are a run
pub code_end_fine : (b : Bool) (i : Item) (s : List ℕ) (a : ℕ) {e : ℕ} → CodeRun s a e → {o : Result Unit Refusal} {x : Unit {0}}
    → fault_in o ≡ item_fault b i (part s a e) → o ≡ Ok x → EndOf b i s a (Some e)
code_end_fine b i s a v p q = end_fine b i s a v.run p q

pub ruleset other_item_laws = (end_none, code_end_fine)
