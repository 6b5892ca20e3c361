-- `streams::read` meets its contract: there is no room, or the opening, the ID, the address and the bits to read are
-- written. Assumes nothing.
use lib.ListN.{replicate}
use Rattle.streams.proofs.Sending.{Sending}
use Rattle.streams.proofs.StreamsLaws.{send_reads}
use Rattle.streams.proofs.read.Given as goal

abbrev pub invariant-loop : goal.invariant-loop
invariant-loop l = Sending send_reads (replicate l.count 0) l.initial.out l.initial.at l.out l.at l.counter
