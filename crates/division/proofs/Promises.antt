-- DEMAND 3: each statement of specs/Demand.antt, proved. Assumes nothing.
use native.Mathlib.Omega.{arith}
use mathlib.Core.Path.{ap, sym, ◌∙◌}
use lib.ListN.{length}
use Rattle.notebook.specs.Canonical.{canonical_bytes}
use Rattle.notebook.proofs.CanonicalLaws.{canonical_same, canonical_short}
use Rattle.replies.specs.Replies.{reply_of}
use Rattle.division.specs.Demand.{CuttingWrites, CuttingFinds, CuttingWithholds, CuttingSays, JoiningAccepts, JoiningRestores}
use Rattle.division.specs.Demand.{CanonicalWrites, CanonicalSame, CanonicalShortest}
use Rattle.division.proofs.Answers.{refused_told, done_told, numbered, writes, finds, withholds, says, says_valid, accepts, joins_back, canonical_file_lem, canonical_is}

pub cutting_writes : CuttingWrites
cutting_writes f b c id used out e n t h = writes f b c id used e out n t (done_told _ n t 0 (numbered f b c id used out e) h)

pub cutting_finds : CuttingFinds
cutting_finds f b c id used out e v =
    let w = finds f b c id used e v out in
    (λ h. w.0 (refused_told 17 _ h), λ h. ap reply_of (w.1 h))

pub cutting_withholds : CuttingWithholds
cutting_withholds f b c id used out e v = withholds f b c id used e v out

pub cutting_says : CuttingSays
cutting_says f b c id used out e = (λ v. says f b c id used e v out, says_valid f b c id used e out)

pub joining_accepts : JoiningAccepts
joining_accepts = accepts

pub joining_restores : JoiningRestores
joining_restores f b c id used out e n t h = joins_back f b c id used out e n t (done_told _ n t 0 (numbered f b c id used out e) h)

pub canonical_writes : CanonicalWrites
canonical_writes f b e = record { file = canonical_bytes b; is = canonical_file_lem f b e }

pub canonical_files_same : CanonicalSame
canonical_files_same f g a b p q v w x y =
    let i = canonical_is f a v p x in
    let j = canonical_is g b w q y in
    let k = canonical_same f g a b p q in
    (λ h. k.0 (sym i ∙ h ∙ j), λ h. i ∙ k.1 h ∙ sym j)

pub canonical_file_shortest : CanonicalShortest
canonical_file_shortest f g a b p q v w x y h =
    let i = ap length (canonical_is f a v p x) in
    (omega (arith, i, canonical_short f a p), omega (arith, i, ap length ((canonical_same f g a b p q).1 h), canonical_short g b q))
