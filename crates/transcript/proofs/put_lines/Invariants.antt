-- `transcript::put_lines` meets its contract: at each turn the bytes so far are listed, and what is left goes after them.
-- Assumes nothing.
use Rattle.transcript.proofs.ListLaws.{Going}
use Rattle.transcript.proofs.put_lines.Given as goal

abbrev pub invariant-loop-offset : goal.invariant-loop-offset
invariant-loop-offset l = Going l.input l.fn.out l.out l.chip l.at l.samples l.ticks l.offset
