-- `streams::samples::put_bits` meets its contract: the bits are sent one after another. Assumes nothing.
use Rattle.streams.specs.Streams.{send_bits}
use Rattle.streams.proofs.Sending.{Sending}
use Rattle.streams.proofs.samples.put_bits.Given as goal

abbrev pub invariant-loop-bit : goal.invariant-loop-bit
invariant-loop-bit g l = Sending send_bits l.bits l.initial.out l.initial.next l.out l.next l.bit-index
