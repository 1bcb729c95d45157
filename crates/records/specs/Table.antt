-- Definitions, to be believed.
-- Document 01, "Items", "Records": the table as data, a row a record. Paper.antt prints it and compares it with the paper's own text.
-- 15-106 3.2.9.
use Rattle.std.specs.Prelude.{ℕ, Bool, true, false, List, [], ◌∷◌}

-- the kinds, with the most bytes where refusal 9 can be given; K: the kana name of request (viii), for which document 01 has U; among: the values in
-- braces
pub data Kind : Type 0 where
  N U X K : ℕ → Kind
  A F C P R W Q D : Kind
  among : List ℕ → Kind

-- "`!` required, `+` required in direction 1, `?` optional"
pub data Need : Type 0 where
  always from_provider optional : Need

pub record Item : Type 0 where
  pub kind : Kind
  pub need : Need

abbrev pub ◌! : Kind → Item
k ! = record { kind = k; need = always }

abbrev pub ◌⁺ : Kind → Item
k ⁺ = record { kind = k; need = from_provider }

abbrev pub ◌¿ : Kind → Item
k ¿ = record { kind = k; need = optional }

infixl 90 ◌!
infixl 90 ◌⁺
infixl 90 ◌¿
pub record Row : Type 0 where
  pub number : ℕ
  pub items : List Item

abbrev pub row : ℕ → List Item → Row
row n is = record { number = n; items = is }

-- "A author: 1, 2, 8, 9": the last item of most records
abbrev pub author : Item
author = A !

-- the dosage forms of a 301, 15-106 appended table 4: 1 oral, 2 oral drops, 3 single doses, 4 injected, 5 external, 6 infusion, 7 decoction, 9 material,
-- 10 other
abbrev pub forms : List ℕ
forms = 1 ∷ 2 ∷ 3 ∷ 4 ∷ 5 ∷ 6 ∷ 7 ∷ 9 ∷ 10 ∷ []

-- The third item of an 11 and of a 51 is a code of 15-106 appended table 3 (1 medical, 3 dental, 4 dispensing); 3.2.9 lists 1 and 3 for a 51.
unfoldable pub table : List Row
table =
    row 1 (U 40 ! ∷ among (1 ∷ 2 ∷ []) ! ∷ D ! ∷ P ¿ ∷ N 800 ¿ ∷ X 13 ¿ ∷ N 800 ¿ ∷ N 20 ¿ ∷ W ¿ ∷ K 40 ¿ ∷ []) ∷
    row 2 (among (1 ∷ 2 ∷ 3 ∷ 9 ∷ []) ! ∷ N 120 ! ∷ author ∷ []) ∷
    row 3 (N 120 ! ∷ D ¿ ∷ D ¿ ∷ author ∷ []) ∷
    row 4 (N 400 ! ∷ D ¿ ∷ author ∷ []) ∷
    row 5 (D ! ∷ author ∷ []) ∷
    row 11 (N 120 ! ∷ F ⁺ ∷ among (1 ∷ 3 ∷ 4 ∷ []) ⁺ ∷ C ¿ ∷ P ¿ ∷ N 800 ¿ ∷ X 13 ¿ ∷ author ∷ []) ∷
    row 15 (N 40 ! ∷ N 800 ¿ ∷ author ∷ []) ∷
    row 51 (N 120 ! ∷ F ⁺ ∷ among (1 ∷ 3 ∷ []) ⁺ ∷ C ¿ ∷ author ∷ []) ∷
    row 55 (N 40 ! ∷ N 80 ¿ ∷ author ∷ []) ∷
    row 201 (R ! ∷ N 120 ! ∷ Q ! ∷ N 12 ! ∷ among (1 ∷ 2 ∷ 3 ∷ 4 ∷ 6 ∷ []) ⁺ ∷ X 13 ¿ ∷ author ∷ []) ∷
    row 281 (R ! ∷ N 100 ! ∷ author ∷ []) ∷
    row 311 (R ! ∷ N 100 ! ∷ author ∷ []) ∷
    row 291 (R ! ∷ N 400 ! ∷ author ∷ []) ∷
    row 391 (R ! ∷ N 400 ! ∷ author ∷ []) ∷
    row 301 (R ! ∷ N 100 ¿ ∷ R ⁺ ∷ N 100 ⁺ ∷ among forms ⁺ ∷ among (1 ∷ 2 ∷ []) ⁺ ∷ X 16 ¿ ∷ author ∷ []) ∷
    row 401 (N 400 ! ∷ author ∷ []) ∷
    row 501 (N 400 ! ∷ author ∷ []) ∷
    row 411 (N 400 ! ∷ among (30 ∷ 31 ∷ 99 ∷ []) ! ∷ author ∷ []) ∷
    row 601 (N 400 ! ∷ D ¿ ∷ []) ∷
    row 701 (N 40 ! ∷ N 120 ! ∷ N 800 ! ∷ D ¿ ∷ D ¿ ∷ author ∷ []) ∷
    []

-- whether the item may not be empty; provider: the direction is 1, provider to patient
abbrev pub required : Bool → Need → Bool
required provider always = true
required provider from_provider = provider
required provider optional = false
