-- Definitions, to be believed.
-- What the rules of order ask, as answers: the rules (Rules.antt) see a place, a number and Booleans only. `order` compares the values
-- (its specs/Questions.antt).
use Rattle.std.specs.Prelude.{ℕ, Bool}

-- Asked of the records so far. `provider`: direction 1. `dispensing`: the open group's 11 has fee schedule 4; `treating`: it has 1 or 3
-- (15-106 3.2.9, record 11, third item: 1 medical, 3 dental, 4 dispensing). `had11` to `no_doctor` speak of the open group, `had301` of its
-- open RP.
pub record Before : Type 0 where
  pub provider : Bool
  pub place : ℕ
  pub no_group : Bool
  pub had11 : Bool
  pub dispensing : Bool
  pub treating : Bool
  pub had51 : Bool
  pub had411 : Bool
  pub no_rp : Bool
  pub had301 : Bool
  pub no_doctor : Bool

-- Asked of this record. `same`: its RP value is the open RP's, `next`: it is one more; `newer`: its day is after the group's before;
-- `named`: its usage name isn't empty; `material`: its form is 9 or 10 (3.2.9, record 301: material, other).
pub record Asked : Type 0 where
  pub number : ℕ
  pub same : Bool
  pub next : Bool
  pub newer : Bool
  pub named : Bool
  pub material : Bool
