use Rattle.std.proofs.Common.{ap}
use Rattle.bp_scan.specs.Misspelled.{check_of, fault_place}
use Rattle.bp_scan.proofs.name_check.check_in.Goals as goal

pub returns-in-Err-Form-clause-err : goal.returns-in-Err-Form-clause-err
returns-in-Err-Form-clause-err g c = record {
  fault = c.in-Err-Form.field-0;
  wrong = c.in-Err-Form.ensures.err;
  check = ap check_of c.in-Err-Form.field-0-is;
  place = ap fault_place c.in-Err-Form.field-0-is;
}

pub returns-in-Err-Twice-clause-err : goal.returns-in-Err-Twice-clause-err
returns-in-Err-Twice-clause-err g c = record {
  fault = c.in-Err-Twice.field-0;
  wrong = c.in-Err-Twice.ensures.err;
  check = ap check_of c.in-Err-Twice.field-0-is;
  place = ap fault_place c.in-Err-Twice.field-0-is;
}
