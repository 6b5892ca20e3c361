-- `streams::samples::put_bits` meets its contract: the bits are sent one after another. Assumes nothing.
use mathlib.Core.Path.{◌∙◌}
use mathlib.Core.Bool.{false}
use native.Mathlib.Omega.{arith}
use Rattle.streams.specs.Streams.{send_bits}
use Rattle.streams.proofs.Sending.{sending_starts, sending_more}
use Rattle.streams.proofs.StreamsLaws.{bits_by_items, bits_length}
use Rattle.streams.proofs.BitsLaws.{bool_byte_number}
use Rattle.streams.proofs.samples.put_bits.Goals as goal

pub loop-bit-init : goal.loop-bit-init
loop-bit-init g c = sending_starts send_bits c.args.bits.now _ _ (omega (arith, bits_length c.args.bits.now))

pub loop-bit-preserved : goal.loop-bit-preserved
loop-bit-preserved g c =
    let sent = rw (c.from-level.ensures ∙ bool_byte_number _) at c.put-next.ensures in
    sending_more bits_by_items c.loop-bit.invariant false (omega arith) sent
