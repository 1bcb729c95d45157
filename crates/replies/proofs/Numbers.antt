-- No refusal has the number 0, which is accepted. Assumes nothing.
use Rattle.std.proofs.Common.{◌≡◌, false, eqb, refl}
use Rattle.replies.specs.declared.refusal.Refusal.{Refusal}
use Rattle.replies.specs.declared.refusal.Refusal.TheVariants.{Large, LineEnd, Version, Character, Record, Piece, Items, Empty, Long, Edge, Form, Pair, Place, Missing, Rp, DateOrder, Id, NoCutting, Set, Short, Used}
use Rattle.replies.specs.Refusals.{number_of}

pub never_0 : (r : Refusal) → eqb (number_of r) 0 ≡ false
never_0 Large = refl
never_0 LineEnd = refl
never_0 Version = refl
never_0 Character = refl
never_0 Record = refl
never_0 Piece = refl
never_0 Items = refl
never_0 Empty = refl
never_0 Long = refl
never_0 Edge = refl
never_0 Form = refl
never_0 Pair = refl
never_0 Place = refl
never_0 Missing = refl
never_0 Rp = refl
never_0 DateOrder = refl
never_0 Id = refl
never_0 NoCutting = refl
never_0 Set = refl
never_0 Short = refl
never_0 Used = refl
