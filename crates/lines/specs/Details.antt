-- Vocabulary of the code.
-- Pairs and facts by the bytes of the items after the record's number.
use Rattle.std.specs.Prelude.{ℕ, Bool, true, false, cond, not, ◌&&◌, List, [], ◌∷◌, Result, Ok, Err, unwrap_or, eqb, get_or}
use Rattle.lists.specs.Lists.{empty, member}
use Rattle.digits.specs.Digits.{number}
use Rattle.calendar.specs.Era.{read_day}
use Rattle.replies.specs.declared.refusal.Refusal.{Refusal}
use Rattle.replies.specs.declared.refusal.Refusal.TheVariants.{Pair}
use Rattle.order.specs.declared.Facts.{Facts}
use Rattle.records.specs.Table.{R, from_provider}
use Rattle.records.specs.Items.{Value, raw, day_value}
use Rattle.records.specs.Records.{item_value, code_pair, form_pair}
use Rattle.notebook.specs.Facts.{day_of}

-- ---- pairs

-- a quantity is an R
abbrev pub quantity : List ℕ → Value
quantity s = item_value (record { kind = R; need = from_provider }) s

unfoldable pub code_raw : List ℕ → List ℕ → Bool
code_raw k c = code_pair (raw k) (raw c)

unfoldable pub form_raw : List ℕ → List ℕ → List ℕ → Bool
form_raw f q u = form_pair (raw f) (quantity q) (raw u)

unfoldable pub pairs_raw : ℕ → List (List ℕ) → Bool
pairs_raw n ss =
    cond (eqb n 201) (code_raw (get_or ss 4 []) (get_or ss 5 []))
    (cond (eqb n 301) (code_raw (get_or ss 5 []) (get_or ss 6 []) && form_raw (get_or ss 4 []) (get_or ss 2 []) (get_or ss 3 [])) true)

-- ---- facts

-- the value of an RP item, a fee schedule or a form
unfoldable pub rp_raw : List ℕ → ℕ
rp_raw s = unwrap_or (number s) 0

-- the day of a date item
unfoldable pub day_raw : List ℕ → ℕ
day_raw s = day_of (day_value (read_day s))

-- the records whose first item is an RP value
abbrev pub rp_records : List ℕ
rp_records = 201 ∷ 281 ∷ 291 ∷ 301 ∷ 311 ∷ 391 ∷ []

unfoldable pub facts_raw : ℕ → List (List ℕ) → Facts
facts_raw n ss = record {
  number = n;
  rp = cond (member rp_records n) (rp_raw (get_or ss 0 [])) 0;
  day = cond (eqb n 5) (day_raw (get_or ss 0 [])) 0;
  schedule = cond (eqb n 11) (rp_raw (get_or ss 2 [])) 0;
  form = cond (eqb n 301) (rp_raw (get_or ss 4 [])) 0;
  named = eqb n 301 && not (empty (get_or ss 1 []));
}

-- those of a record of which only the number counts
abbrev pub no_facts : ℕ → Facts
no_facts n = record { number = n; rp = 0; day = 0; schedule = 0; form = 0; named = false }

-- the facts where the pairs hold, else the refusal
unfoldable pub details_raw : ℕ → List (List ℕ) → Result Facts Refusal
details_raw n ss = cond (pairs_raw n ss) (Ok (facts_raw n ss)) (Err Pair)
