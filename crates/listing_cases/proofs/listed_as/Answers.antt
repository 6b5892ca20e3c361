-- `listing_cases::listed_as` meets its contract: what was written is within the buffer. Assumes nothing.
use mathlib.Core.Path.{sym}
use native.Mathlib.Omega.{arith}
use lib.Seq.{length-take-le}
use Rattle.transcript.proofs.LineLaws.{written_within}
use Rattle.listing_cases.proofs.listed_as.Goals as goal

pub slice_bounds-out-end : goal.slice_bounds-out-end
slice_bounds-out-end c =
    let within : _ = written_within _ _ c.list.ensures c.in-Ok.is in
    omega arith

pub slice_bounds-eq-end : goal.slice_bounds-eq-end
slice_bounds-eq-end c =
    let within : _ = written_within _ _ c.list.ensures c.in-Ok.is in
    sym (length-take-le _ c.list.new.out (omega arith))
