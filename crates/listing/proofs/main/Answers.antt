-- `listing::main` meets its contract: what was written is within the buffer. Assumes nothing.
use mathlib.Core.Path.{sym}
use native.Mathlib.Omega.{arith}
use lib.Seq.{length-take-le}
use Rattle.transcript.proofs.LineLaws.{written_within}
use Rattle.listing.proofs.main.Goals as goal

pub slice_bounds-out-end : goal.slice_bounds-out-end
slice_bounds-out-end c =
    omega (arith, written_within _ _ c.list.ensures c.in-Ok-list.is)

pub slice_bounds-print-end : goal.slice_bounds-print-end
slice_bounds-print-end c =
    let fits : _ = written_within _ _ c.list.ensures c.in-Ok-list.is in
    sym (length-take-le _ c.list.new.out (omega arith))
