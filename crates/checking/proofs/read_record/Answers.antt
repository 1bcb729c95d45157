use Rattle.checking.proofs.TurnLaws.{turn_fault, turn_faulty, turn_on}
use Rattle.checking.proofs.read_record.Goals as goal

pub returns-in-Err-step : goal.returns-in-Err-step
returns-in-Err-step c = turn_faulty c.args.st c.in-Ok-Some.ensures c.in-Ok-Some.field-0-is c.in-Err-step.ensures c.at.ensures

pub returns-in-Ok : goal.returns-in-Ok
returns-in-Ok c = turn_on c.args.st c.in-Ok-Some.ensures c.in-Ok-Some.field-0-is c.in-Ok.ensures

pub returns-in-Err : goal.returns-in-Err
returns-in-Err c = turn_fault c.args.st c.in-Err.ensures c.at-in-Err.ensures
