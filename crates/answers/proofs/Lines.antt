-- The laws of printing a reply: numbers are written one after another, and a line that is written at a buffer's front is what `Prints` says. Assumes nothing.
use Rattle.std.proofs.Common.{ℕ, ◌+◌, ◌*◌, ◌%◌, ◌^◌, ◌≤◌, ◌<◌, ◌≡◌, refl, sym, ap, ◌∙◌, List, [], ◌∷◌, ◌++◌, append_assoc, append-nil, length, take, drop, get_or, take_at, add-one, arith, eq-eqb, ne_eqb}
use Rattle.std.proofs.Math.Seq.{take-suc}
use Rattle.std.proofs.lemmas.Fmt.{decimal_by_steps}
use Rattle.std.specs.Fmt as Fmt
use Rattle.inputs.specs.Counts.{IsPrefixLen}
use Rattle.lists.specs.Lists.{bytes}
use Rattle.buffers.specs.Buffers.{Wrote}
use Rattle.buffers.proofs.Runs.{sets_all, then}
use Rattle.replies.specs.declared.reply.Reply.{Reply}
use Rattle.printing.specs.Printed.{decimal, spaced, line, printed, Prints}
use Rattle.printing.proofs.Decimal.{decimal_one, decimal_more}

-- ---- a number

-- what std writes of it
std_decimal : (n : ℕ) → n < 2 ^ 64 → Fmt.decimal n ≡ decimal n
std_decimal =
    decimal_by_steps (λ n ds. ds ≡ decimal n) (λ n h. sym (decimal_one n (omega arith)))
    (λ n ds h e. ap (λ v. v ++ ((48 + n % 10) ∷ [])) e ∙ sym (decimal_more n h))

pub decimal_wrote : {d d' s : List ℕ} {at r : ℕ} (n : ℕ) → Wrote d d' at r s → s ≡ Fmt.decimal n → n < 2 ^ 64 → Wrote d d' at r (decimal n)
decimal_wrote n w e h = rw (e ∙ std_decimal n h) at w

-- ---- numbers, one after another

spaced_append : (ms ns : List ℕ) → spaced (ms ++ ns) ≡ spaced ms ++ spaced ns
unfolding spaced
spaced_append [] ns = refl
spaced_append (m ∷ ms) ns = rw (append_assoc, spaced_append ms ns)

spaced_one : (n : ℕ) → spaced (n ∷ []) ≡ 0x20 ∷ decimal n
unfolding spaced
spaced_one n = rw append-nil

-- the numbers before an index
pub record Spaced (ns d d' : List ℕ) (at i r : ℕ) : Type 0 where
  pub wrote : Wrote d d' at r (spaced (take i ns))
  pub short : r ≤ at + 21 * i

pub none_spaced : (ns d : List ℕ) (at : ℕ) → at ≤ length d → Spaced ns d d at 0 at
unfolding spaced
none_spaced ns d at h = record { wrote = record { next = omega arith; list = refl; size = refl; high = h }; short = omega arith }

pub one_more : {ns d d₁ d₂ : List ℕ} {at i r e : ℕ} → i < length ns → Spaced ns d d₁ at i r → Wrote d₁ d₂ r e (0x20 ∷ decimal (get_or ns i 0)) → e ≤ r + 21
    → Spaced ns d d₂ at (i + 1) e
one_more {ns} {d} {d₁} {d₂} {at} {i} {r} {e} h w x k =
    let text : spaced (take (i + 1) ns) ≡ spaced (take i ns) ++ (0x20 ∷ decimal (get_or ns i 0)) =
    rw (add-one i, take-suc ns i 0 h, spaced_append, spaced_one) in
    record { wrote = rw text (then w.wrote x); short = omega (arith, w.short) }

-- ---- a line

module _ {d d₁ d₂ : List ℕ} {at i j : ℕ} {word : List ℕ} (ns : List ℕ) (x : Wrote d d₁ at i word) (y : Wrote d₁ d₂ i j (spaced ns)) where
  pub line_wrote : {d₃ : List ℕ} {k : ℕ} → Wrote d₂ d₃ j k (0x0a ∷ []) → Wrote d d₃ at k (line word ns)
  unfolding line
  line_wrote z = then (then x y) z

-- a record of the index, which begins with a number
pub entry_wrote : {d d₁ d₂ d₃ text others : List ℕ} {at i j k : ℕ} (first : ℕ) → Wrote d d₁ at i (decimal first) → Wrote d₁ d₂ i j (spaced text) → text ≡ others
    → Wrote d₂ d₃ j k (0x0a ∷ []) → Wrote d d₃ at k (line (decimal first) others)
entry_wrote {others = others} first x y e z = line_wrote others x (rw e at y) z

-- the six numbers after the first of seven
pub after_first : (l : List ℕ) → length l ≡ 7 → get_or l 1 0 ∷ get_or l 2 0 ∷ get_or l 3 0 ∷ get_or l 4 0 ∷ get_or l 5 0 ∷ get_or l 6 0 ∷ [] ≡ drop 1 l
after_first (a ∷ b ∷ c ∷ d ∷ e ∷ f ∷ g ∷ []) h = refl
after_first [] h = absurd (omega (arith, h))
after_first (a ∷ []) h = absurd (omega (arith, h))
after_first (a ∷ b ∷ []) h = absurd (omega (arith, h))
after_first (a ∷ b ∷ c ∷ []) h = absurd (omega (arith, h))
after_first (a ∷ b ∷ c ∷ d ∷ []) h = absurd (omega (arith, h))
after_first (a ∷ b ∷ c ∷ d ∷ e ∷ []) h = absurd (omega (arith, h))
after_first (a ∷ b ∷ c ∷ d ∷ e ∷ f ∷ []) h = absurd (omega (arith, h))
after_first (a ∷ b ∷ c ∷ d ∷ e ∷ f ∷ g ∷ x ∷ l) h = absurd (omega (arith, h))

-- ---- at a buffer's front

module _ {d d' : List ℕ} {n : ℕ} (values : ℕ) (r : Reply) where
  -- a line at a buffer's front
  prints : Wrote d d' 0 n (printed values r) → Prints values r d d' n × IsPrefixLen n d'
  prints w =
      let h : n ≡ length (printed values r) = omega (arith, w.next) in
      let e : d' ≡ printed values r ++ drop n d = w.list ∙ sets_all (printed values r) d (omega (arith, w.high)) ∙ rw h in
      let f : take n d' ≡ printed values r = rw e (take_at (printed values r) (drop n d) n (sym h)) in
      (record { count = h; buffer = e }, (omega (arith, w.high, w.size), h ∙ sym (ap length f)))

  pub ok_prints : r.refusal ≡ 0 → Wrote d d' 0 n (line (bytes "ok") (take values (r.a ∷ r.b ∷ r.c ∷ [])))
      → Prints values r d d' n × IsPrefixLen n d'
  unfolding printed
  ok_prints e w = prints (rw (eq-eqb r.refusal 0 e) w)

  pub no_prints : (r.refusal ≡ 0 → ⊥) → Wrote d d' 0 n (line (bytes "no") (r.refusal ∷ r.line ∷ []))
      → Prints values r d d' n × IsPrefixLen n d'
  unfolding printed
  no_prints e w = prints (rw (ne_eqb r.refusal 0 e) w)
