-- A row that is read to a record stands after line 1, and is no record 911. Assumes nothing.
use mathlib.Core.Path.{◌≡◌, refl, sym, ap, ◌∙◌}
use mathlib.Core.Bool.{Bool, true, false}
use mathlib.Core.List.{List}
use Prim.Native.Nat.{ℕ}
use Rattle.lists.specs.Lists.{same, All}
use Rattle.lists.proofs.Tests.{same_refl, same_true}
use Rattle.characters.specs.Text.{text}
use Rattle.records.specs.Records.{Record, is_mark, header}
use Rattle.records.proofs.TheLanguage.{no_header, no_mark}
use Rattle.notebook.specs.Canonical.{head_row}
use Rattle.notebook.proofs.Accepted.{head_text, Reads, Lines, none, more}
use Rattle.notebook.proofs.WrittenLaws.{row_read}
use Rattle.division.proofs.Chunks.{Body, body_is}

pub read_unmarked : {d : Bool} {r : Record} {l : List ℕ} → Reads d r l → is_mark (text l) ≡ false
read_unmarked {d} {r} {l} x = no_mark d (text l) r (row_read x)

read_no_head : {d : Bool} {r : Record} {l : List ℕ} → Reads d r l → (e : Bool) → same l (head_row e) ≡ false
read_no_head {d} {r} {l} x e = go (same l (head_row e)) refl
  where
    go : (b : Bool) → same l (head_row e) ≡ b → b ≡ false
    go false q = refl
    go true q =
        let h : text l ≡ header e = ap text (same_true l (head_row e) q) ∙ head_text e in
        sym (same_refl (header e)) ∙ ap (λ (t : List ℕ). same t (header e)) (sym h) ∙ no_header d (text l) r (row_read x) e

pub read_body : {d : Bool} {r : Record} {l : List ℕ} → Reads d r l → Body l
read_body {d} {r} {l} x = body_is l x.line (read_no_head x)

pub lines_bodies : {d : Bool} {rs : List Record} {ls : List (List ℕ)} → Lines d rs ls → All Body ls
lines_bodies none = tt
lines_bodies (more x xs) = (read_body x, lines_bodies xs)
