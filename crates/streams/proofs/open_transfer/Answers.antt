-- `streams::open_transfer` meets its contract: the opening, the ID and the address are written one after another.
-- Assumes nothing.
use native.Mathlib.Omega.{arith}
use Rattle.streams.specs.Streams.{address_bits}
use Rattle.streams.proofs.StreamsLaws.{bits_append, bits_length}
use Rattle.streams.proofs.Writing.{wrote_three}
use Rattle.streams.proofs.open_transfer.Goals as goal

pub returns : goal.returns
returns c =
    let id = c.args.id in
    let address = rw c.address_bits.ensures at c.put_bits.ensures in
    let all = wrote_three c.put-opened.ensures c.put_bits-named.ensures address (omega (arith, bits_length id)) in
    rw (bits_append id (address_bits c.args.first)) all

pub put_bits-requires : goal.put_bits-requires
put_bits-requires c = (omega arith, omega (arith, bits_length c.args.id))
