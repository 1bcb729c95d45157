-- The scripts that rows and cells tell are those of their bytes, by one computed test over all pairs; two bytes are no character of one byte. Assumes nothing.
use Prim.Native.Nat.{ℕ, ◌+◌, ◌<◌}
use mathlib.Core.Path.{◌≡◌, refl, sym, ap, ◌∙◌}
use mathlib.Core.Bool.{Bool, true, false, cond, not, ◌&&◌, ◌||◌, beq, false≢true}
use lib.Dec.{eqb}
use borrow.Author.Tests.{eqb-true}
use Rattle.lists.proofs.Tests.{both, neither, not_true', below, below_at}
use Rattle.characters.specs.declared.Char.{Char}
use Rattle.characters.specs.declared.Char.TheVariants.{One, Hiragana, Katakana, Either, Other, Bad}
use Rattle.characters.specs.Cells.{full_row, part_row, allowed, cell_script, is_lead, lead_row, is_trail, trail_row, trail_cell, trail_script, pair_script, is_one_byte, is_hiragana, is_katakana}
use Rattle.characters.specs.Scanning.{is_pair}
use Rattle.characters.specs.Scripts.{hiragana_bytes, katakana_bytes, shared_bytes}
use Rattle.characters.specs.Count.{by_bytes}

-- ---- two answers are one if their numbers are

unfoldable pub number : Char → ℕ
number One = 1
number Hiragana = 2
number Katakana = 3
number Either = 4
number Other = 5
number Bad = 0

numbered : ℕ → Char
numbered n = cond (eqb n 1) One (cond (eqb n 2) Hiragana (cond (eqb n 3) Katakana (cond (eqb n 4) Either (cond (eqb n 5) Other Bad))))

own_number : (c : Char) → numbered (number c) ≡ c
unfolding number numbered
own_number One = refl
own_number Hiragana = refl
own_number Katakana = refl
own_number Either = refl
own_number Other = refl
own_number Bad = refl

abbrev pub alike : Char → Char → Bool
alike c d = eqb (number c) (number d)

pub alike_is : (c d : Char) → alike c d ≡ true → c ≡ d
alike_is c d e = sym (own_number c) ∙ ap numbered (eqb-true (number c) (number d) e) ∙ own_number d

-- ---- one computed test over all pairs of bytes: over all first bytes and, for each that is a lead, all second ones

by_the_bytes : ℕ → ℕ → Bool
by_the_bytes a b =
    alike (pair_script a b) (by_bytes a b (is_pair a b))
    && (beq (is_hiragana (pair_script a b)) (hiragana_bytes a b || shared_bytes a b)
    && beq (is_katakana (pair_script a b)) (katakana_bytes a b || shared_bytes a b))

-- the first bytes of the scripts
abbrev starts_script : ℕ → Bool
starts_script a = eqb a 0x81 || (eqb a 0x82 || eqb a 0x83)

-- a byte that is no lead begins no pair; what is left to compute of it is that it is none of these
by_the_lead : ℕ → Bool
by_the_lead a = cond (is_lead a) (below (λ b. by_the_bytes a b) 256) (not (starts_script a))

all_pairs : below (λ a. by_the_lead a) 256 ≡ true
unfolding by_the_lead by_the_bytes below number full_row part_row allowed cell_script trail_script pair_script
all_pairs = refl

no_lead : (a b : ℕ) → is_lead a ≡ false → starts_script a ≡ false → by_the_bytes a b ≡ true
unfolding by_the_bytes number pair_script
no_lead a b l n =
    let m = neither (eqb a 0x81) (eqb a 0x82 || eqb a 0x83) n in
    let k = neither (eqb a 0x82) (eqb a 0x83) m.1 in
    rw (l, m.0, k.0, k.1) refl

of_bytes : (a b : ℕ) → a < 256 → b < 256 → by_the_bytes a b ≡ true
unfolding by_the_lead
of_bytes a b p q = go (is_lead a) refl (below_at (λ x. by_the_lead x) 256 all_pairs a p)
  where
    go : (x : Bool) → is_lead a ≡ x → cond x (below (λ y. by_the_bytes a y) 256) (not (starts_script a)) ≡ true → by_the_bytes a b ≡ true
    go true l e = below_at (λ y. by_the_bytes a y) 256 e b q
    go false l e = no_lead a b l (not_true' (starts_script a) e)

pub beq_is : (x y : Bool) → beq x y ≡ true → x ≡ y
beq_is true true e = refl
beq_is true false e = absurd (false≢true e)
beq_is false true e = absurd (false≢true e)
beq_is false false e = refl

module _ (a b : ℕ) (p : a < 256) (q : b < 256) where
  pub by_bytes_lem : pair_script a b ≡ by_bytes a b (is_pair a b)
  unfolding by_the_bytes
  by_bytes_lem = alike_is _ _ (both (alike (pair_script a b) (by_bytes a b (is_pair a b))) _ (of_bytes a b p q)).0

  pub hiragana_bytes_lem : is_hiragana (pair_script a b) ≡ (hiragana_bytes a b || shared_bytes a b)
  unfolding by_the_bytes
  hiragana_bytes_lem = beq_is _ _ (both (beq (is_hiragana (pair_script a b)) (hiragana_bytes a b || shared_bytes a b)) _ (both (alike (pair_script a b) (by_bytes a b (is_pair a b))) _ (of_bytes a b p q)).1).0

  pub katakana_bytes_lem : is_katakana (pair_script a b) ≡ (katakana_bytes a b || shared_bytes a b)
  unfolding by_the_bytes
  katakana_bytes_lem = beq_is _ _ (both (beq (is_hiragana (pair_script a b)) (hiragana_bytes a b || shared_bytes a b)) _ (both (alike (pair_script a b) (by_bytes a b (is_pair a b))) _ (of_bytes a b p q)).1).1

-- ---- two bytes are no character of one byte

pub no_one_byte : (a b : ℕ) → is_one_byte (pair_script a b) ≡ false
unfolding cell_script trail_script pair_script
no_one_byte a b = go (is_lead a) (is_trail b) (allowed r c) (eqb r 4) (eqb r 5) (eqb r 1 && (eqb c 1 || eqb c 28))
  where
    r : ℕ
    r = lead_row a + trail_row b

    c : ℕ
    c = trail_cell b

    go : (x y z h k i : Bool) → is_one_byte (cond x (cond y (cond z (cond h Hiragana (cond k Katakana (cond i Either Other))) Bad) Bad) Bad) ≡ false
    go true true true true k i = refl
    go true true true false true i = refl
    go true true true false false true = refl
    go true true true false false false = refl
    go true true false h k i = refl
    go true false z h k i = refl
    go false y z h k i = refl

pub never_one : (a b : ℕ) → pair_script a b ≡ One → ⊥
never_one a b e = false≢true (sym (no_one_byte a b) ∙ ap is_one_byte e)
