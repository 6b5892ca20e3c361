-- `streams::decode` meets its contract: the nibbles so far and those of the notes from the next four on make the whole.
-- Assumes nothing.
use mathlib.Core.Path.{◌≡◌}
use Rattle.streams.specs.Lengths.{nibble_notes}
use Rattle.streams.specs.Streams.{decoded, lowest_bits}
use Rattle.streams.proofs.Writing.{Writing}
use Rattle.streams.proofs.decode.Given as goal

abbrev pub invariant-loop-notes : goal.invariant-loop-notes
invariant-loop-notes l =
    (l.notes-iterator.size ≡ nibble_notes)
    × Writing l.initial.out 0 (decoded (lowest_bits l.noted)) l.out l.at (decoded (lowest_bits l.notes-iterator.rest.now))
