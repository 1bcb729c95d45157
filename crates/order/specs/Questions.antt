-- Definitions, to be believed.
-- The answers to what the rules of order ask (rules, specs/Questions.antt), from the state and the record. All comparing of values is here.
use Rattle.std.specs.Prelude.{◌+◌, [], ◌∷◌, eqb, ltb}
use Rattle.lists.specs.Lists.{member}
use Rattle.order.specs.declared.State.{State}
use Rattle.order.specs.declared.Facts.{Facts}
use Rattle.rules.specs.Questions.{Before, Asked}

abbrev pub before_of : State → Before
before_of s = record {
  provider = s.provider;
  place = s.place;
  no_group = eqb s.groups 0;
  had11 = s.had.had11;
  dispensing = eqb s.had.schedule 4;
  treating = member (1 ∷ 3 ∷ []) s.had.schedule;
  had51 = s.had.had51;
  had411 = s.had.had411;
  no_rp = eqb s.had.rp 0;
  had301 = s.had.had301;
  no_doctor = eqb s.had.doctor 0;
}

-- RP values are 1, 2, 3, .., so the open RP's value is the count of RPs so far, and 0 before a group's first
abbrev pub asked_of : State → Facts → Asked
asked_of s r = record {
  number = r.number;
  same = eqb r.rp s.had.rp;
  next = eqb r.rp (s.had.rp + 1);
  newer = ltb s.day r.day;
  named = r.named;
  material = member (9 ∷ 10 ∷ []) r.form;
}
