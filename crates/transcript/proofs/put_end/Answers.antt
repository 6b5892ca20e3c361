-- `transcript::put_end` meets its contract: the fixed bytes, then the two numbers. Assumes nothing.
use native.Mathlib.Omega.{arith}
use Rattle.listed.specs.Listing.{space}
use Rattle.transcript.proofs.DecimalLaws.{length_field}
use Rattle.transcript.proofs.LineLaws.{end_wrote}
use Rattle.transcript.proofs.put_end.Goals as goal

pub put_field-requires : goal.put_field-requires
put_field-requires c =
    let short : _ = length_field c.args.samples space in
    (c.requires.1, omega arith)

pub returns : goal.returns
returns c =
    end_wrote c.args.samples c.args.ticks c.put_bytes-at.ensures
    c.put_field-at.ensures c.put_field.ensures c.requires.2
