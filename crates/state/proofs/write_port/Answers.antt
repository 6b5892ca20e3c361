-- `state::write_port` meets its contract: the frame, and the memory before it. Assumes nothing.
use Rattle.std.proofs.lemmas.Result.{err_from_is_err_and}
use mathlib.Core.Path.{◌∙◌, sym, refl, ap}
use lib.ListN.{length}
use native.Mathlib.Omega.{arith}
use borrow.Author.Tests.{le-ltb}
use Rattle.ground.specs.Outcomes.{written_as}
use Rattle.phases.specs.Frame.{frame_over}
use Rattle.state.specs.Answers.{port_over}
use Rattle.state.proofs.RecordLaws.{room_found, short_found, frame_length, port_put}
use Rattle.state.proofs.write_port.Goals as goal

pub returns-in_err-write_frame : goal.returns-in_err-write_frame
unfolding written_as port_over frame_over
returns-in_err-write_frame c =
    let p = err_from_is_err_and c.from_residual.result c.from_residual.ensures.1 in
    let short = short_found 8 c.args.out.now _ (sym c.in_err-write_frame.was ∙ c.write_frame.ensures.0) in
    (rw (p.1, p.2, short.0, short.1) refl, c.write_frame.ensures.1 ∙ rw short.1 refl)

pub put_memory-requires : goal.put_memory-requires
put_memory-requires c =
    let room = room_found 8 _ c.args.out.now (sym c.in_ok-write_frame.was ∙ c.write_frame.ensures.0) in
    let frame = c.frame_of.result in
    omega (arith, ap length c.write_frame.ensures.1, frame_length frame.levels frame.phase frame.line c.args.out.now room)

pub returns : goal.returns
unfolding written_as
returns c =
    let room = room_found 8 _ c.args.out.now (sym c.in_ok-write_frame.was ∙ c.write_frame.ensures.0) in
    let begun = c.write_frame.ensures.1 ∙ rw c.frame_of.ensures refl in
    (rw (le-ltb _ _ room) refl, port_put c.args.port c.args.out.now _ _ c.put_memory.ensures.0 room begun c.put_memory.ensures.1)
