-- `transcript::put_field` meets its contract: by its length the number is so many digits. Assumes nothing.
use native.Mathlib.Omega.{arith}
use Rattle.transcript.proofs.DecimalLaws.{one_digit, two_digits, three_digits, four_digits, five_digits, field_wrote}
use Rattle.transcript.proofs.put_field.Goals as goal

pub returns-in-0-to-9 : goal.returns-in-0-to-9
returns-in-0-to-9 c =
    field_wrote c.args.n c.args.after (one_digit 4 c.args.n (omega arith) c.digit-ones.ensures) c.put_bytes.ensures

pub returns-in-10-to-99 : goal.returns-in-10-to-99
returns-in-10-to-99 c =
    field_wrote c.args.n c.args.after
    (two_digits 3 c.args.n (omega arith) (omega arith) c.digit-tens.ensures c.digit-ones.ensures)
    c.put_bytes-in-10-to-99.ensures

pub returns-in-100-to-999 : goal.returns-in-100-to-999
returns-in-100-to-999 c =
    field_wrote c.args.n c.args.after
    (three_digits 2 c.args.n (omega arith) (omega arith) c.digit-hundreds.ensures c.digit-tens.ensures c.digit-ones.ensures)
    c.put_bytes-in-100-to-999.ensures

pub returns-in-1000-to-9999 : goal.returns-in-1000-to-9999
returns-in-1000-to-9999 c =
    field_wrote c.args.n c.args.after
    (four_digits 1 c.args.n (omega arith) (omega arith) c.digit-thousands.ensures c.digit-hundreds.ensures
    c.digit-tens.ensures c.digit-ones.ensures)
    c.put_bytes-in-1000-to-9999.ensures

pub returns-in_default : goal.returns-in_default
returns-in_default c =
    field_wrote c.args.n c.args.after
    (five_digits c.args.n (omega arith) c.requires.0 c.digit.ensures c.digit-thousands.ensures c.digit-hundreds.ensures
    c.digit-tens.ensures c.digit-ones.ensures)
    c.put_bytes-in_default.ensures
