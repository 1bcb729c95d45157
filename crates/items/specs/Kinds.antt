-- Vocabulary of the code.
-- The kinds of items as the code names them, as the paper's.
use Rattle.std.specs.Prelude.{ℕ, List, [], ◌∷◌}
use Rattle.records.specs.Table.{Kind as PaperKind, N, U, X, K, A, F, C, P, R, W, Q, D, among, Need as PaperNeed, always, from_provider, optional, Item as PaperItem, forms}
use Rattle.items.specs.declared.kinds.Need.{Need}
use Rattle.items.specs.declared.kinds.Need.TheVariants.{Always, FromProvider, Optional}
use Rattle.items.specs.declared.kinds.Values.{Values}
use Rattle.items.specs.declared.kinds.Values.TheVariants.{Sex, NoteKind, FeeSchedule, PrescriberSchedule, DrugCodeKind, DosageForm, UsageCodeKind, InformationKind}
use Rattle.items.specs.declared.kinds.Kind.{Kind}
use Rattle.items.specs.declared.kinds.Kind.TheVariants.{Text, OneWidth, Kana, Code, Author, Prefecture, SevenDigits, PostalCode, Number, Weight, Dose, Date, Among}
use Rattle.items.specs.declared.kinds.Item.{Item}

abbrev pub need_of : Need → PaperNeed
need_of Always = always
need_of FromProvider = from_provider
need_of Optional = optional

abbrev pub values_of : Values → List ℕ
values_of Sex = 1 ∷ 2 ∷ []
values_of NoteKind = 1 ∷ 2 ∷ 3 ∷ 9 ∷ []
values_of FeeSchedule = 1 ∷ 3 ∷ 4 ∷ []
values_of PrescriberSchedule = 1 ∷ 3 ∷ []
values_of DrugCodeKind = 1 ∷ 2 ∷ 3 ∷ 4 ∷ 6 ∷ []
values_of DosageForm = forms
values_of UsageCodeKind = 1 ∷ 2 ∷ []
values_of InformationKind = 30 ∷ 31 ∷ 99 ∷ []

-- kind A
abbrev pub authors : List ℕ
authors = 1 ∷ 2 ∷ 8 ∷ 9 ∷ []

abbrev pub kind_of : Kind → PaperKind
kind_of (Text most) = N most
kind_of (OneWidth most) = U most
kind_of (Kana most) = K most
kind_of (Code most) = X most
kind_of Author = A
kind_of Prefecture = F
kind_of SevenDigits = C
kind_of PostalCode = P
kind_of Number = R
kind_of Weight = W
kind_of Dose = Q
kind_of Date = D
kind_of (Among values) = among (values_of values)

abbrev pub item_of : Item → PaperItem
item_of i = record { kind = kind_of i.kind; need = need_of i.need }
