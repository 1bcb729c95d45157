-- A second statement, proved equal.
-- The table printed as document 01 prints it, and compared with the papers' own text: nobody compares by eye. Request (viii) gives the last item of
-- record 1 a rule of its own, for which K stands here: with U for K the table is document 01's, and K is where document 02 has its rule.
use Rattle.std.specs.Prelude.{ℕ, Bool, true, false, ◌&&◌, List, [], ◌∷◌, ◌++◌, T, eqb, drop}
use Prim.Native.String.{String}
use Rattle.lists.specs.Lists.{bytes, same}
use Rattle.digits.specs.Digits.{spell}
use Rattle.records.specs.Table.{Kind, N, U, X, K, A, F, C, P, R, W, Q, D, among, Need, always, from_provider, optional, Item, Row, table}

-- ---- printing

-- numbers with commas between them
abbrev pub list : List ℕ → List ℕ
list [] = []
list (n ∷ []) = spell n
list (n ∷ m ∷ ns) = spell n ++ 44 ∷ list (m ∷ ns)

-- k: the letter for the kana name
abbrev pub kind_text : ℕ → Kind → List ℕ
kind_text k (N m) = 78 ∷ spell m
kind_text k (U m) = 85 ∷ spell m
kind_text k (X m) = 88 ∷ spell m
kind_text k (K m) = k ∷ spell m
kind_text k A = 65 ∷ []
kind_text k F = 70 ∷ []
kind_text k C = 67 ∷ []
kind_text k P = 80 ∷ []
kind_text k R = 82 ∷ []
kind_text k W = 87 ∷ []
kind_text k Q = 81 ∷ []
kind_text k D = 68 ∷ []
kind_text k (among ns) = 123 ∷ (list ns ++ 125 ∷ [])

abbrev pub need_text : Need → ℕ
need_text always = 33
need_text from_provider = 43
need_text optional = 63

abbrev pub items_text : ℕ → List Item → List ℕ
items_text k [] = []
items_text k (i ∷ []) = kind_text k i.kind ++ need_text i.need ∷ []
items_text k (i ∷ j ∷ is) = kind_text k i.kind ++ need_text i.need ∷ 32 ∷ items_text k (j ∷ is)

-- ---- comparing

infixl 10 ◌∶◌
-- the numbers of records, and their items' text
pub data Printed : Type 0 where
  ◌∶◌ : List ℕ → String → Printed

-- rows, one for each number in turn, that have this text
abbrev pub taken : ℕ → List ℕ → List ℕ → List Row → (List Row → Bool) → Bool
taken k [] t rs f = f rs
taken k (n ∷ ns) t [] f = false
taken k (n ∷ ns) t (r ∷ rs) f = (eqb n r.number && same (items_text k r.items) t) && taken k ns t rs f

abbrev pub is_end : List Row → Bool
is_end [] = true
is_end (r ∷ rs) = false

abbrev pub same_table : ℕ → List Printed → List Row → Bool
same_table k [] rs = is_end rs
same_table k ((ns ∶ t) ∷ ps) rs = taken k ns (bytes t) rs (same_table k ps)

-- document 01, "Records"
abbrev pub row_one : Printed
row_one = (1 ∷ []) ∶ "U40! {1,2}! D! P? N800? X13? N800? N20? W? U40?"

-- with document 02 (viii), "The last item of record 1 must be .."
abbrev pub paper : List Printed
paper =
    ((1 ∷ []) ∶ "U40! {1,2}! D! P? N800? X13? N800? N20? W? K40?") ∷
    ((2 ∷ []) ∶ "{1,2,3,9}! N120! A!") ∷
    ((3 ∷ []) ∶ "N120! D? D? A!") ∷
    ((4 ∷ []) ∶ "N400! D? A!") ∷
    ((5 ∷ []) ∶ "D! A!") ∷
    ((11 ∷ []) ∶ "N120! F+ {1,3,4}+ C? P? N800? X13? A!") ∷
    ((15 ∷ []) ∶ "N40! N800? A!") ∷
    ((51 ∷ []) ∶ "N120! F+ {1,3}+ C? A!") ∷
    ((55 ∷ []) ∶ "N40! N80? A!") ∷
    ((201 ∷ []) ∶ "R! N120! Q! N12! {1,2,3,4,6}+ X13? A!") ∷
    ((281 ∷ 311 ∷ []) ∶ "R! N100! A!") ∷
    ((291 ∷ 391 ∷ []) ∶ "R! N400! A!") ∷
    ((301 ∷ []) ∶ "R! N100? R+ N100+ {1,2,3,4,5,6,7,9,10}+ {1,2}+ X16? A!") ∷
    ((401 ∷ 501 ∷ []) ∶ "N400! A!") ∷
    ((411 ∷ []) ∶ "N400! {30,31,99}! A!") ∷
    ((601 ∷ []) ∶ "N400! D?") ∷
    ((701 ∷ []) ∶ "N40! N120! N800! D? D? A!") ∷
    []

-- THE TABLE IS THE PAPERS': document 01's with U (85) for the kana name, and document 02's with K (75)
pub table_is_document_01s : T (same_table 85 (row_one ∷ drop 1 paper) table)
unfolding table bytes spell
table_is_document_01s = tt

pub table_is_the_papers : T (same_table 75 paper table)
unfolding table bytes spell
table_is_the_papers = tt
