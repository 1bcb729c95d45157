-- A second statement, proved equal.
-- Document 01, "Index", and document 02, (v), read off the tree: the group of each record, the line of the 55 under which the tree puts its RP, the line of
-- the 201 to whose drug a 281 or 291 belongs, the line of its group's 51 from that record on. No record before is looked for.
use Rattle.std.specs.Prelude.{ℕ, ◌+◌, List, [], ◌∷◌, Option, Some, None}
use Rattle.grammar.specs.Grammar.{Details, Drug, Usage, Prescription, Later, Prescriptions, without_doctors, with_doctors, Group, Tree}

-- the columns that the order of records decides
pub record TreeRow : Type 0 where
  pub number : ℕ
  pub group : ℕ
  pub doctor : ℕ
  pub drug : ℕ
  pub clinic : ℕ

-- a group, and the line of its 51; 0 before it and where there is none
pub record Visit : Type 0 where
  pub group : ℕ
  pub clinic : ℕ

abbrev pub visit : ℕ → ℕ → Visit
visit g clinic = record { group = g; clinic = clinic }

abbrev pub tree_row : ℕ → Visit → ℕ → ℕ → TreeRow
tree_row n v c d = record { number = n; group = v.group; doctor = c; drug = d; clinic = v.clinic }

-- ---- the rows of each part, in front of those after it; l is the line of the record before, and k gives the rows after by the line reached

abbrev pub opt_rows : TreeRow → ℕ → Option Details → (ℕ → List TreeRow) → List TreeRow
opt_rows w l None k = k l
opt_rows w l (Some d) k = w ∷ k (l + 1)

abbrev pub any_rows : TreeRow → ℕ → List Details → (ℕ → List TreeRow) → List TreeRow
any_rows w l [] k = k l
any_rows w l (d ∷ ds) k = w ∷ any_rows w (l + 1) ds k

-- in the group of v, under the doctor of line c: a 281 or 291 has the line of its drug's 201
abbrev pub drug_rows : Visit → ℕ → ℕ → Drug → (ℕ → List TreeRow) → List TreeRow
drug_rows v c l d k = tree_row 201 v c 0 ∷ any_rows (tree_row 281 v c (l + 1)) (l + 1) d.r281s (λ m. any_rows (tree_row 291 v c (l + 1)) m d.r291s k)

abbrev pub drugs_rows : Visit → ℕ → ℕ → List Drug → (ℕ → List TreeRow) → List TreeRow
drugs_rows v c l [] k = k l
drugs_rows v c l (d ∷ ds) k = drug_rows v c l d (λ m. drugs_rows v c m ds k)

abbrev pub usage_rows : Visit → ℕ → ℕ → Option Usage → (ℕ → List TreeRow) → List TreeRow
usage_rows v c l None k = k l
usage_rows v c l (Some u) k = tree_row 301 v c 0 ∷ any_rows (tree_row 311 v c 0) (l + 1) u.r311s k

abbrev pub rp_rows : Visit → ℕ → ℕ → Prescription → (ℕ → List TreeRow) → List TreeRow
rp_rows v c l p k = drug_rows v c l p.drug (λ l. drugs_rows v c l p.drugs (λ l. usage_rows v c l p.usage (λ l. any_rows (tree_row 391 v c 0) l p.r391s k)))

-- without doctors
abbrev pub plain_rows : Visit → ℕ → List Prescription → (ℕ → List TreeRow) → List TreeRow
plain_rows v l [] k = k l
plain_rows v l (p ∷ ps) k = rp_rows v 0 l p (λ m. plain_rows v m ps k)

-- a later RP is under its own 55, or else under the doctor before (15-106 3.2.9, record 55: the RPs up to the next 55); k also by the doctor
abbrev pub under_rows : Visit → ℕ → ℕ → Option Details → Prescription → (ℕ → ℕ → List TreeRow) → List TreeRow
under_rows v c l None p k = rp_rows v c l p (k c)
under_rows v c l (Some d) p k = tree_row 55 v 0 0 ∷ rp_rows v (l + 1) (l + 1) p (k (l + 1))

abbrev pub later_rows : Visit → ℕ → ℕ → List Later → (ℕ → List TreeRow) → List TreeRow
later_rows v c l [] k = k l
later_rows v c l (y ∷ ys) k = under_rows v c l y.r55 y.prescription (λ c' m. later_rows v c' m ys k)

abbrev pub prescriptions_rows : Visit → ℕ → Prescriptions → (ℕ → List TreeRow) → List TreeRow
prescriptions_rows v l (without_doctors ps) k = plain_rows v l ps k
prescriptions_rows v l (with_doctors d p ls) k = tree_row 55 v 0 0 ∷ rp_rows v (l + 1) (l + 1) p (λ m. later_rows v (l + 1) m ls k)

-- in the group of v, under no doctor
abbrev pub bare : Visit → ℕ → TreeRow
bare v n = tree_row n v 0 0

abbrev pub rest_rows : Visit → ℕ → Group → (ℕ → List TreeRow) → List TreeRow
rest_rows v l x k =
    any_rows (bare v 401) l x.r401s (λ l. any_rows (bare v 411) l x.r411s
    (λ l. any_rows (bare v 501) l x.r501s (λ l. any_rows (bare v 601) l x.r601s k)))

-- "The record 51 itself shows its own line", and so does all that follows in the group; k also by that line
abbrev pub clinic_rows : ℕ → ℕ → Option Details → (Visit → ℕ → List TreeRow) → List TreeRow
clinic_rows g l None k = k (visit g 0) l
clinic_rows g l (Some d) k = bare (visit g (l + 1)) 51 ∷ k (visit g (l + 1)) (l + 1)

abbrev pub group_rows : ℕ → ℕ → Group → (ℕ → List TreeRow) → List TreeRow
group_rows g l x k =
    bare (visit g 0) 5 ∷ opt_rows (bare (visit g 0) 11) (l + 1) x.r11 (λ l. opt_rows (bare (visit g 0) 15) l x.r15 (λ l. clinic_rows g l x.r51
    (λ v l. prescriptions_rows v l x.prescriptions (λ l. rest_rows v l x k))))

-- after g groups
abbrev pub groups_rows : ℕ → ℕ → List Group → (ℕ → List TreeRow) → List TreeRow
groups_rows g l [] k = k l
groups_rows g l (x ∷ xs) k = group_rows (g + 1) l x (λ m. groups_rows (g + 1) m xs k)

-- group 0 is no group
abbrev pub outside : Visit
outside = visit 0 0

-- after line 1
abbrev pub tree_rows : Tree → List TreeRow
tree_rows t =
    opt_rows (bare outside 1) 1 t.r1
    (λ l. any_rows (bare outside 2) l t.r2s (λ l. any_rows (bare outside 3) l t.r3s (λ l. any_rows (bare outside 4) l t.r4s
    (λ l. groups_rows 0 l t.groups (λ l. any_rows (bare outside 701) l t.r701s (λ l. []))))))
