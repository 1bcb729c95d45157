-- Vocabulary of the code.
-- Document 01's number of each refusal that the code names, in the order of its table; and what the code's answers say in these numbers. A fault is
-- such a number, 0 for none (lists, specs/Lists.antt), in every definition that finds one.
use Rattle.std.specs.Prelude.{ℕ, Result, Ok, Err}
use Rattle.replies.specs.declared.reply.Values.{Values}
use Rattle.replies.specs.declared.refusal.Refused.{Refused as RefusedAt}
use Rattle.replies.specs.declared.refusal.Refusal.{Refusal}
use Rattle.replies.specs.declared.refusal.Refusal.TheVariants.{Large, LineEnd, Version, Character, Record, Piece, Items, Empty, Long, Edge, Form, Pair, Place, Missing, Rp, DateOrder, Id, NoCutting, Set, Short, Used}
use Rattle.replies.specs.Replies.{Answer, Done, Refused}

abbrev pub number_of : Refusal → ℕ
number_of Large = 1
number_of LineEnd = 2
number_of Version = 3
number_of Character = 4
number_of Record = 5
number_of Piece = 6
number_of Items = 7
number_of Empty = 8
number_of Long = 9
number_of Edge = 10
number_of Form = 11
number_of Pair = 12
number_of Place = 13
number_of Missing = 14
number_of Rp = 15
number_of DateOrder = 16
number_of Id = 17
number_of NoCutting = 18
number_of Set = 19
number_of Short = 20
number_of Used = 24

-- 0 where there is none
abbrev pub fault_in : {A : Type 0} → Result A Refusal → ℕ
fault_in (Ok x) = 0
fault_in (Err r) = number_of r

-- the values of a call's result; or its refusal's number and line
abbrev pub answer : Result Values RefusedAt → Answer
answer (Ok v) = Done v.a v.b v.c
answer (Err r) = Refused (number_of r.refusal) r.line
