use Rattle.std.proofs.Common.{refl}
use Rattle.calendar.proofs.EraForm.{form_always, form_long, form_on, form_none}
use Rattle.calendar.proofs.Day.is_written_form.Goals as goal

pub returns-then-is_under : goal.returns-then-is_under
returns-then-is_under c = form_always _ c.requires refl c.era_by_letter.ensures c.in-Some.is c.is_under.ensures c.if-is_under.true

pub returns-then-k-le999999 : goal.returns-then-k-le999999
returns-then-k-le999999 c =
    form_on _ c.requires refl c.era_by_letter.ensures c.in-Some.is c.digits_value.ensures c.in-Some-digits_value.is c.is_under-then-k-le999999.ensures

pub returns-else-k-le999999 : goal.returns-else-k-le999999
returns-else-k-le999999 c =
    form_long _ c.requires refl c.era_by_letter.ensures c.in-Some.is c.digits_value.ensures c.in-Some-digits_value.is c.if-k-le999999.false

pub returns-in-None : goal.returns-in-None
returns-in-None c = form_none _ c.requires refl c.era_by_letter.ensures c.in-Some.is c.digits_value.ensures c.in-None.is
