-- An item of a line in the file that the line is a part of: its comma, then its bytes; and the ways through `Run::pass_item`. Assumes nothing.
use Prim.Native.Nat.{ℕ, zero, suc, ◌+◌, ◌-◌, ◌≤◌, ◌<◌}
use native.Mathlib.Omega.{arith}
use mathlib.Core.Path.{◌≡◌, sym, ap, ap₂, ◌∙◌, subst}
use mathlib.Core.Bool.{Bool, true}
use mathlib.Core.List.{List, [], ◌∷◌, ◌++◌}
use lib.ListN.{length, get_or, take, drop}
use lib.Seq.{get_or-take, get_or-drop}
use Rattle.lines.specs.declared.split.Span.{Span}
use Rattle.lists.specs.Searching.{part}
use Rattle.lists.proofs.Parts.{part_length, part_none, part_more, part_join, part_part}
use Rattle.characters.specs.Scanning.{comma_count}
use Rattle.records.specs.Table.{Kind}
use Rattle.lines.specs.Line.{comma_at, LineIn, item_at, ItemAt}
use Rattle.lines.proofs.SplitLaws.{comma_le, comma_next, item_part, comma_in}
use Rattle.canonical.specs.declared.Run.{Run}
use Rattle.canonical.specs.Writing.{item_bytes, Spellable, Stays, Ready, Passed, Lies, ItemOf}
use Rattle.canonical.proofs.ItemLaws.{own_plain}
use Rattle.canonical.proofs.RunLaws.{passes, waits}

-- where the comma of item number j stands, and where the item ends
abbrev pub begins_at : List ℕ → ℕ → ℕ → ℕ → ℕ
begins_at s at e j = at + comma_at (part s at e) (j - 1)

abbrev pub ends_at : List ℕ → ℕ → ℕ → ℕ → ℕ
ends_at s at e j = at + comma_at (part s at e) j

module _ {s stops : List ℕ} {at e n j : ℕ} (v : LineIn s at e stops n) (k : ItemOf j n) where
  line_length : length (part s at e) ≡ e - at
  line_length = part_length s at e v.low v.high

  inside : j ≤ comma_count (part s at e)
  inside = omega (arith, v.commas, k.high)

  item_low : begins_at s at e j < ends_at s at e j
  item_low = omega (arith, comma_next (part s at e) j k.low inside)

  item_high : ends_at s at e j ≤ e
  item_high = omega (arith, line_length, comma_le (part s at e) j, v.low)

  comma_is : part s (begins_at s at e j) (begins_at s at e j + 1) ≡ 0x2c ∷ []
  comma_is =
      part_more s (begins_at s at e j) (begins_at s at e j) (omega arith) (omega (arith, item_low, item_high, v.high))
      ∙ ap₂ (λ (x : List ℕ) (y : ℕ). x ++ (y ∷ [])) (part_none s (begins_at s at e j)) (comma_in v k.low k.high)

  item_is : part s (begins_at s at e j + 1) (ends_at s at e j) ≡ item_at s at e j
  item_is =
      let p : ℕ = comma_at (part s at e) (j - 1) in
      let z : at + (p + 1) ≡ at + p + 1 = omega arith in
      ap (λ (x : ℕ). part s x (ends_at s at e j)) (sym z)
      ∙ sym (part_part s at e (p + 1) (comma_at (part s at e) j) (omega (arith, item_low)) item_high) ∙ sym (item_part (part s at e) j k.low inside)

  item_whole : part s (begins_at s at e j) (ends_at s at e j) ≡ 0x2c ∷ item_at s at e j
  item_whole =
      sym (part_join s (begins_at s at e j) (begins_at s at e j + 1) (ends_at s at e j) (omega arith) (omega (arith, item_low))) ∙ ap₂ ◌++◌ comma_is item_is

-- a part that has no zero where it begins does not begin with one, even where it is empty
first_other : (s : List ℕ) (a e : ℕ) → (get_or s a 0 ≡ 0x30 → ⊥) → get_or (part s a e) 0 0 ≡ 0x30 → ⊥
first_other s a e h = go (e - a)
  where
    go : (n : ℕ) → get_or (take n (drop a s)) 0 0 ≡ 0x30 → ⊥
    go zero z = omega (arith, z)
    go (suc n) z =
        let i : a + 0 ≡ a = omega arith in
        h (sym (get_or-take (suc n) (drop a s) 0 0 (omega arith) ∙ get_or-drop a s 0 0 ∙ ap (λ (x : ℕ). get_or s x 0) i) ∙ z)

-- ---- the ways through pass_item

module _ (s : List ℕ) (at e j : ℕ) {stops : List ℕ} {n : ℕ} (v : LineIn s at e stops n) (k : ItemOf j n) where
  -- an item that is its own spelling waits
  pub pass_own : (d : List ℕ) (run : Run) (c : Kind) → item_bytes c (item_at s at e j) ≡ item_at s at e j
      → Ready d run (begins_at s at e j) (0x2c ∷ item_bytes c (item_at s at e j)) → Passed s d d run run (begins_at s at e j) (ends_at s at e j) (0x2c ∷ item_bytes c (item_at s at e j))
  pass_own d run c o y =
      waits s d run (begins_at s at e j) (ends_at s at e j) (0x2c ∷ item_bytes c (item_at s at e j)) (omega (arith, item_low v k)) (omega (arith, item_high v k, v.high))
      (item_whole v k ∙ ap (λ (x : List ℕ). 0x2c ∷ x) (sym o)) y

  module _ {r : Span} (i : ItemAt s at e n j r) where
    first : r.from ≡ begins_at s at e j + 1
    first = omega (arith, i.begins k.low k.high)

    -- a number that begins with no zero waits
    pub pass_stays : (c : Kind) {d : List ℕ} {run : Run} {t : Bool} → Stays t c s r.from → t ≡ true → Spellable c (item_at s at e j)
        → Ready d run (begins_at s at e j) (0x2c ∷ item_bytes c (item_at s at e j)) → Passed s d d run run (begins_at s at e j) (ends_at s at e j) (0x2c ∷ item_bytes c (item_at s at e j))
    pass_stays c {d} {run} m f g y =
        pass_own d run c (own_plain c (item_at s at e j) g (m.kind f) (λ z. first_other s r.from r.to (m.first f) (ap (λ (x : List ℕ). get_or x 0 0) i.says ∙ z))) y

    pub pass_lies : Lies s r.from r.to
    pass_lies = record { low = i.low; high = omega (arith, i.high, v.high) }

    pub pass_spellable : (c : Kind) → Spellable c (item_at s at e j) → Spellable c (take (r.to - r.from) (drop r.from s))
    pass_spellable c g = subst (Spellable c) (sym i.says) g

    module _ (c : Kind) {d : List ℕ} {run : Run} (y : Ready d run (begins_at s at e j) (0x2c ∷ item_bytes c (item_at s at e j))) where
      pub pass_ready : Ready d run r.from (item_bytes c (take (r.to - r.from) (drop r.from s)))
      pass_ready =
          subst (λ (x : List ℕ). Ready d run r.from (item_bytes c x)) (sym i.says)
          (record { low = omega (arith, y.low, first); room = omega (arith, y.low, y.room, first) })

      pub pass_done : {d' : List ℕ} {t : Run} → Passed s d d' run t r.from r.to (item_bytes c (take (r.to - r.from) (drop r.from s)))
          → Passed s d d' run t (begins_at s at e j) (ends_at s at e j) (0x2c ∷ item_bytes c (item_at s at e j))
      pass_done {d'} {t} x =
          passes
          (waits s d run (begins_at s at e j) (begins_at s at e j + 1) (0x2c ∷ []) (omega arith) (omega (arith, item_low v k, item_high v k, v.high)) (comma_is v k)
          (record { low = y.low; room = omega (arith, y.room) }))
          (subst (λ (w : List ℕ). Passed s d d' run t (begins_at s at e j + 1) (ends_at s at e j) (item_bytes c w)) i.says
          (subst (λ (p : ℕ). Passed s d d' run t p (ends_at s at e j) (item_bytes c (part s r.from r.to))) first
          (subst (λ (q : ℕ). Passed s d d' run t r.from q (item_bytes c (part s r.from r.to))) i.ends x)))

pub ruleset pass_laws = (pass_stays, pass_lies, pass_spellable, pass_ready, pass_done)
