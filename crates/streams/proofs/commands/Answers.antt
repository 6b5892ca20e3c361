-- `streams::commands` meets its contract: there is no room, or the opening, the ID and the commands are written.
-- Assumes nothing.
use mathlib.Core.Path.{◌∙◌, sym}
use native.Mathlib.Omega.{arith}
use borrow.Author.Tests.{ltb-false}
use Rattle.streams.specs.Streams.{send_commands, command_stream}
use Rattle.streams.proofs.Sending.{sending_starts, sending_more, sending_closes}
use Rattle.streams.proofs.SentLaws.{sends_none, sends_whole}
use Rattle.streams.proofs.StreamsLaws.{commands_by_items, codes_length, commands_length}
use Rattle.streams.proofs.Writing.{wrote_three}
use Rattle.streams.proofs.commands.Goals as goal

pub returns-then-short : goal.returns-then-short
returns-then-short c = sends_none (sym (commands_length _)) (sym c.short.ensures ∙ c.if-short.true)

pub loop-code-init : goal.loop-code-init
loop-code-init c =
    let codes = c.args.codes.now in
    let room = ltb-false _ _ (sym c.short.ensures ∙ c.if-short.false) in
    sending_starts send_commands codes _ _ (omega (arith, codes_length codes))

pub loop-code-preserved : goal.loop-code-preserved
loop-code-preserved c =
    let sent = rw c.command_bits.ensures at c.put_bits-at-in-loop-code.ensures in
    sending_more commands_by_items c.loop-code.invariant 0 (omega arith) sent

pub returns : goal.returns
unfolding command_stream
returns c =
    let codes = c.args.codes.now in
    let room = sym c.short.ensures ∙ c.if-short.false in
    let body = sending_closes commands_by_items c.loop-code.invariant (omega arith) c.put-sent.ensures in
    sends_whole (sym (commands_length codes)) room
    (wrote_three c.put-opened.ensures c.put_bits-at.ensures body (omega (arith, codes_length codes, ltb-false _ _ room)))
