-- `transcript::put_line` meets its contract: four fields, each right after the one before. Assumes nothing.
use native.Mathlib.Omega.{arith}
use Rattle.listed.specs.Listing.{space}
use Rattle.transcript.proofs.DecimalLaws.{length_field}
use Rattle.transcript.proofs.LineLaws.{line_wrote}
use Rattle.transcript.proofs.put_line.Goals as goal

pub put_field-at-requires-2 : goal.put_field-at-requires-2
put_field-at-requires-2 c =
    let short : _ = length_field c.args.number space in
    (omega arith, omega arith)

pub put_field-at-requires-3 : goal.put_field-at-requires-3
put_field-at-requires-3 c =
    let short : _ = length_field c.args.number space in
    let short-kind : _ = length_field c.from.result space in
    (omega arith, omega arith)

pub put_field-requires : goal.put_field-requires
put_field-requires c =
    let short : _ = length_field c.args.number space in
    let short-kind : _ = length_field c.from.result space in
    let short-first : _ = length_field c.from-2.result space in
    (omega arith, omega arith)

pub returns : goal.returns
returns c =
    rw (← c.from.ensures, ← c.from-2.ensures, ← c.from-3.ensures)
    (line_wrote c.args.number _ _ _ c.put_field-at.ensures c.put_field-at-2.ensures c.put_field-at-3.ensures c.put_field.ensures
    c.requires.1)
