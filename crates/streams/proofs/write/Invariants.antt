-- `streams::write` meets its contract: there is no room, or the opening, the ID, the address and the nibbles are written.
-- Assumes nothing.
use Rattle.streams.specs.Streams.{send_nibbles}
use Rattle.streams.proofs.Sending.{Sending}
use Rattle.streams.proofs.write.Given as goal

abbrev pub invariant-loop-nibble : goal.invariant-loop-nibble
invariant-loop-nibble l = Sending send_nibbles l.nibbles l.initial.out l.initial.at l.out l.at l.nibble-index
