-- `streams::read` meets its contract: there is no room, or the opening, the ID, the address and the bits to read are
-- written. Assumes nothing.
use mathlib.Core.Path.{◌∙◌, sym}
use mathlib.Core.List.{◌++◌}
use native.Mathlib.Omega.{arith}
use borrow.Author.Tests.{ltb-false}
use lib.ListN.{replicate}
use Rattle.streams.specs.Streams.{read_nibbles, read_stream, opening, send_bits, read_id, address_bits}
use Rattle.ground.proofs.WrittenLaws.{wrote_then}
use Rattle.streams.proofs.Sending.{sending_starts, sending_room, sending_more, sending_closes}
use Rattle.streams.proofs.SentLaws.{sends_none, sends_whole}
use Rattle.streams.proofs.StreamsLaws.{reads_by_items, send_reads, any_length, reads_length, read_length}
use Rattle.streams.proofs.read.Goals as goal

pub returns-then-short : goal.returns-then-short
returns-then-short c = sends_none (sym (read_length _ _)) (sym c.short.ensures ∙ c.if-short.true)

pub loop-init : goal.loop-init
loop-init c =
    let count = c.args.count in
    let room = ltb-false _ _ (sym c.short.ensures ∙ c.if-short.false) in
    sending_starts send_reads (replicate count 0) _ _ (rw any_length (omega (arith, reads_length count)))

pub loop-preserved : goal.loop-preserved
loop-preserved c = sending_more reads_by_items c.loop.invariant 0 (omega (arith, any_length c.args.count)) c.put-at.ensures

pub put-at-requires : goal.put-at-requires
put-at-requires c = (omega arith, sending_room reads_by_items c.loop.invariant 0 (omega (arith, any_length c.args.count)))

pub returns : goal.returns
unfolding read_stream
returns c =
    let count = c.args.count in
    let room = sym c.short.ensures ∙ c.if-short.false in
    let body = rw any_length at (sending_closes reads_by_items c.loop.invariant (omega (arith, any_length c.args.count)) c.put-sent.ensures) in
    sends_whole (sym (read_length c.args.first count)) room
    (wrote_then (opening ++ send_bits (read_id ++ address_bits c.args.first)) (read_nibbles count) c.open_transfer-at.ensures body
    (omega (arith, reads_length count, ltb-false _ _ room)))
