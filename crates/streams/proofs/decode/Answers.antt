-- `streams::decode` meets its contract: the nibbles so far and those of the notes from the next four on make the whole.
-- Assumes nothing.
use mathlib.Core.List.{[], ◌∷◌}
use mathlib.Core.Path.{◌≡◌, ◌∙◌, sym}
use native.Mathlib.Omega.{arith}
use borrow.Author.Tests.{lt-ltb, le-ltb}
use Rattle.streams.specs.Streams.{decoded, lowest_bits}
use Rattle.streams.proofs.SentLaws.{sends_none, sends_whole}
use Rattle.streams.proofs.StreamsLaws.{lowest_length, decoded_next, decoded_few}
use Rattle.streams.proofs.Writing.{writing_starts, writing_more, writing_ends}
use Rattle.streams.proofs.decode.Goals as goal

pub returns-then-out-count : goal.returns-then-out-count
returns-then-out-count c = sends_none (sym (lowest_length c.args.noted.now)) (lt-ltb _ _ c.if-out-count.true)

pub loop-notes-init : goal.loop-notes-init
loop-notes-init c =
    let all : c.into_iter-notes-iterator.result.rest.now ≡ c.args.noted.now = cc in
    (cc, rw all (writing_starts _ _ _ (omega (arith, lowest_length c.args.noted.now))))

pub loop-notes-preserved : goal.loop-notes-preserved
loop-notes-preserved c =
    let step = c.in-Some.ensures.steps.1 in
    let next = decoded_next _ _ _ _ step.0 (step.1 ∙ c.loop-notes.invariant.0) c.nibble_of-nibble.ensures in
    (c.in-Some.ensures.steps.0 ∙ c.loop-notes.invariant.0, writing_more (c.nibble_of-nibble.result ∷ []) (decoded (lowest_bits c.next.new.self.rest.now)) c.loop-notes.invariant.1 next c.put-at.ensures)

pub returns : goal.returns
returns c =
    let step = c.in-None.ensures.steps in
    let wrote = writing_ends c.loop-notes.invariant.1 (decoded_few c.loop-notes.notes-iterator.rest.now (omega arith)) in
    sends_whole (sym (lowest_length c.args.noted.now)) (le-ltb _ _ c.if-out-count.false) wrote
