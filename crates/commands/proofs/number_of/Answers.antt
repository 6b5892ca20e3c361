-- `commands::number_of` meets its contract: the table passes the test of the pattern rule, which antt computes
-- over its 512 entries.
-- Assumes nothing.
use mathlib.Core.Path.{refl}
use native.Mathlib.Omega.{arith}
use Rattle.commands.specs.Commands.{code_meaning, byte_meaning}
use Rattle.commands.proofs.TableLaws.{table_follows}
use Rattle.commands.proofs.number_of.Goals as goal

pub returns : goal.returns
unfolding code_meaning byte_meaning
returns c =
    rw c.entry_of-at.ensures (table_follows _ refl c.args.part c.args.code (omega arith))
