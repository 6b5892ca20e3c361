-- `rehearsal::rehearse` meets its contract: what the driver left in the room is its stream, and that is what is fed.
-- Assumes nothing.
use mathlib.Core.Path.{sym}
use lib.Seq.{length-take-le}
use Rattle.rehearsal.proofs.RehearsalLaws.{count_fits, rehearses}
use Rattle.rehearsal.proofs.rehearse.Goals as goal

pub slice_bounds-fed-end : goal.slice_bounds-fed-end
slice_bounds-fed-end c =
    count_fits c.args.first c.args.nibbles.now c.write-answer.ensures c.in-Ok.is

pub slice_bounds-fed-end-in-Ok : goal.slice_bounds-fed-end-in-Ok
slice_bounds-fed-end-in-Ok c =
    sym (length-take-le _ _ (count_fits c.args.first c.args.nibbles.now c.write-answer.ensures c.in-Ok.is))

pub returns-in-Ok : goal.returns-in-Ok
returns-in-Ok c =
    rehearses c.args.first c.args.nibbles.now c.write-answer.ensures c.in-Ok.is c.fed-chip.ensures
