-- One to three digits at a position, and their value: the ways through `spelled_at` and `number_item`. Assumes nothing.
use Prim.Native.Nat.{ℕ, ◌+◌, ◌-◌, ◌*◌, ◌≤◌, ◌<◌}
use mathlib.Core.Path.{◌≡◌, refl, sym, ap, ◌∙◌, subst}
use mathlib.Core.Bool.{Bool, true, false, cond, or-true}
use mathlib.Core.List.{List, [], ◌∷◌, ◌++◌}
use native.Mathlib.Omega.{arith}
use Rattle.std.specs.Prelude.{Option, Some, None}
use borrow.Author.Tests.{le-leb}
use lib.ListN.{length, get_or}
use Rattle.lists.specs.Lists.{all}
use Rattle.lists.specs.Searching.{part}
use Rattle.lists.proofs.Tests.{all_append}
use Rattle.lists.proofs.Parts.{part_length, part_none, part_more}
use Rattle.digits.specs.Digits.{is_digit, value, number}
use Rattle.digits.specs.Short.{digit}
use Rattle.records.specs.Table.{R, Need}
use Rattle.records.specs.Items.{number_fault, fault}
use Rattle.items.specs.declared.Spelled.{Spelled}
use Rattle.items.specs.Ends.{EndOf, CodeRun, SpelledIs, SpelledAt}
use Rattle.items.proofs.EndLaws.{code_start, code_go, end_kind}

-- one digit more
value_more : (n : ℕ) (x : List ℕ) (b : ℕ) → value n (x ++ b ∷ []) ≡ 10 * value n x + (b - 48)
unfolding value
value_more n [] b = refl
value_more n (a ∷ x) b = value_more (10 * n + (a - 48)) x b

-- w: what `digit` answers of a byte
digit_value : (b : ℕ) {w : ℕ} → digit b ≡ Some w → (is_digit b ≡ true) × (w ≡ b - 48)
digit_value b {w} e = go (is_digit b) refl e
  where
    go : (x : Bool) → is_digit b ≡ x → cond x (Some (b - 48)) None ≡ Some w → (is_digit b ≡ true) × (w ≡ b - 48)
    go true p q = (p, cc)
    go false p q = cc

record Spelling (s : List ℕ) (a i n : ℕ) : Type 0 where
  code : CodeRun s a i
  digits : all is_digit (part s a i) ≡ true
  is : value 0 (part s a i) ≡ n

spelling_none : (s : List ℕ) (a : ℕ) → a ≤ length s → Spelling s a a 0
unfolding value
spelling_none s a h = record { code = code_start s a h; digits = ap (all is_digit) (part_none s a); is = ap (value 0) (part_none s a) }

spelling_more : {s : List ℕ} {a i n w : ℕ} {o : Option ℕ} → Spelling s a i n → i < length s → o ≡ digit (get_or s i 0) → o ≡ Some w → Spelling s a (i + 1) (10 * n + w)
spelling_more {s} {a} {i} {n} {w} v h q e =
    let d = digit_value (get_or s i 0) (sym q ∙ e) in
    let m : part s a (i + 1) ≡ part s a i ++ (get_or s i 0 ∷ []) = part_more s a i v.code.run.low h in
    record {
      code = code_go v.code h (simp (d.0, or-true));
      digits = ap (all is_digit) m ∙ all_append is_digit (part s a i) (get_or s i 0 ∷ []) ∙ simp (v.digits, d.0);
      is = ap (value 0) m ∙ value_more 0 (part s a i) (get_or s i 0) ∙ omega (arith, v.is, d.1);
    }

-- one to three of them are read
spelled : {s : List ℕ} {a i n : ℕ} → Spelling s a i n → a < i → i ≤ a + 3 → SpelledAt s a (Some (record { end = i; value = n }))
unfolding number
spelled {s} {a} {i} {n} v low high =
    let l : length (part s a i) ≡ i - a = part_length s a i v.code.run.low v.code.run.high in
    let f : SpelledIs s a (record { end = i; value = n }) =
    record {
      run = v.code.run;
      some = low;
      is = simp (le-leb 1 (length (part s a i)) (omega (arith, l)), le-leb (length (part s a i)) 3 (omega (arith, l)), v.digits) (ap Some v.is);
    } in
    record { holds = λ x q. let p : ◌≡◌ {A = Spelled} (record { end = i; value = n }) x = cc in subst (SpelledIs s a) p f }

pub spelled_none : (s : List ℕ) (a : ℕ) → SpelledAt s a None
spelled_none s a = record { holds = λ x q. cc }

module _ (s : List ℕ) (a : ℕ) (h : a + 2 < length s) {o : Option ℕ} {p : ℕ} (q : o ≡ digit (get_or s a 0)) (e : o ≡ Some p) where
  one : Spelling s a (a + 1) p
  one = let z : 10 * 0 + p ≡ p = omega arith in subst (Spelling s a (a + 1)) z (spelling_more (spelling_none s a (omega arith)) (omega arith) q e)

  pub spelled_1 : SpelledAt s a (Some (record { end = a + 1; value = p }))
  spelled_1 = spelled one (omega arith) (omega arith)

  module _ {o' : Option ℕ} {r : ℕ} (q' : o' ≡ digit (get_or s (a + 1) 0)) (e' : o' ≡ Some r) where
    two : Spelling s a (a + 2) (10 * p + r)
    two = let z : a + 1 + 1 ≡ a + 2 = omega arith in subst (λ (k : ℕ). Spelling s a k (10 * p + r)) z (spelling_more one (omega arith) q' e')

    pub spelled_2 : SpelledAt s a (Some (record { end = a + 2; value = 10 * p + r }))
    spelled_2 = spelled two (omega arith) (omega arith)

    pub spelled_3 : {o'' : Option ℕ} {w : ℕ} → o'' ≡ digit (get_or s (a + 2) 0) → o'' ≡ Some w → SpelledAt s a (Some (record { end = a + 3; value = 10 * (10 * p + r) + w }))
    spelled_3 {w = w} q'' e'' =
        let z : a + 2 + 1 ≡ a + 3 = omega arith in
        let three : Spelling s a (a + 3) (10 * (10 * p + r) + w) = subst (λ (k : ℕ). Spelling s a k (10 * (10 * p + r) + w)) z (spelling_more two h q'' e'') in
        spelled three (omega arith) (omega arith)

pub ruleset spelled_laws = (spelled_none, spelled_1, spelled_2, spelled_3)

-- a number that is not 0 has no fault; o: what `spelled_at` says
pub number_fine : (b : Bool) (d : Need) (s : List ℕ) (a : ℕ) {o : Option Spelled} {n : Spelled} → SpelledAt s a o → o ≡ Some n → (n.value ≡ 0 → ⊥)
    → EndOf b (record { kind = R; need = d }) s a (Some n.end)
unfolding fault
number_fine b d s a {o} {n} v q z =
    let w : SpelledIs s a n = v.holds n q in
    end_kind b (record { kind = R; need = d }) s a w.run (λ e. omega (arith, w.some))
    (ap number_fault w.is ∙ simp (le-leb 1 n.value (omega arith)))
