-- `streams::write` meets its contract: there is no room, or the opening, the ID, the address and the nibbles are written.
-- Assumes nothing.
use mathlib.Core.Path.{◌∙◌, sym}
use mathlib.Core.List.{◌++◌}
use native.Mathlib.Omega.{arith}
use borrow.Author.Tests.{ltb-false}
use Rattle.streams.specs.Streams.{send_nibbles, write_stream, opening, send_bits, write_id, address_bits}
use Rattle.ground.proofs.WrittenLaws.{wrote_then}
use Rattle.streams.proofs.Sending.{sending_starts, sending_more, sending_closes}
use Rattle.streams.proofs.SentLaws.{sends_none, sends_whole}
use Rattle.streams.proofs.StreamsLaws.{nibbles_by_items, nibbles_length, write_length}
use Rattle.streams.proofs.write.Goals as goal

pub returns-then-short : goal.returns-then-short
returns-then-short c = sends_none (sym (write_length _ _)) (sym c.short.ensures ∙ c.if-short.true)

pub loop-nibble-init : goal.loop-nibble-init
loop-nibble-init c =
    let nibbles = c.args.nibbles.now in
    let room = ltb-false _ _ (sym c.short.ensures ∙ c.if-short.false) in
    sending_starts send_nibbles nibbles _ _ (omega (arith, nibbles_length nibbles))

pub loop-nibble-preserved : goal.loop-nibble-preserved
loop-nibble-preserved c =
    sending_more nibbles_by_items c.loop-nibble.invariant 0 (omega arith) (rw c.nibble_bits.ensures at c.put_bits-at.ensures)

pub returns : goal.returns
unfolding write_stream
returns c =
    let nibbles = c.args.nibbles.now in
    let room = sym c.short.ensures ∙ c.if-short.false in
    let body = sending_closes nibbles_by_items c.loop-nibble.invariant (omega arith) c.put-written.ensures in
    sends_whole (sym (write_length c.args.first nibbles)) room
    (wrote_then (opening ++ send_bits (write_id ++ address_bits c.args.first)) (send_nibbles nibbles) c.open_transfer-at.ensures body
    (omega (arith, nibbles_length nibbles, ltb-false _ _ room)))
