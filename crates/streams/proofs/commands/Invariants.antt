-- `streams::commands` meets its contract: there is no room, or the opening, the ID and the commands are written.
-- Assumes nothing.
use Rattle.streams.specs.Streams.{send_commands}
use Rattle.streams.proofs.Sending.{Sending}
use Rattle.streams.proofs.commands.Given as goal

abbrev pub invariant-loop-code : goal.invariant-loop-code
invariant-loop-code l = Sending send_commands l.codes l.initial.out l.initial.at l.out l.at l.code-index
