-- `state::write` meets its contract: the frame, the memory before it, and the settings after it. Assumes nothing.
use Rattle.std.proofs.lemmas.Result.{err_from_is_err_and}
use mathlib.Core.Path.{◌∙◌, sym, refl, ap}
use native.Mathlib.Omega.{arith}
use borrow.Author.Tests.{le-ltb}
use Prim.Native.Nat.{◌≤◌}
use lib.ListN.{length}
use Rattle.ground.specs.Sizes.{record_length}
use Rattle.ground.specs.Outcomes.{written_as}
use Rattle.phases.specs.Frame.{frame_over}
use Rattle.settings.specs.Bytes.{settings_over}
use Rattle.state.specs.Answers.{written_over}
use Rattle.state.proofs.RecordLaws.{not_refused, room_found, short_found, frame_length, port_put, port_room, put_record}
use Rattle.state.proofs.write.Goals as goal

pub returns-in_err-write_frame : goal.returns-in_err-write_frame
unfolding written_as written_over frame_over
returns-in_err-write_frame c =
    let p = err_from_is_err_and c.from_residual.result c.from_residual.ensures.1 in
    let short = short_found 8 c.args.out.now _ (sym c.in_err-write_frame.was ∙ c.write_frame.ensures.0) in
    (rw (p.1, p.2, short.0, short.1) refl, c.write_frame.ensures.1 ∙ rw short.1 refl)

pub put_memory-requires : goal.put_memory-requires
put_memory-requires c =
    let room = room_found 8 _ c.args.out.now (sym c.in_ok-write_frame.was ∙ c.write_frame.ensures.0) in
    let frame = c.frame_of.result in
    omega (arith, ap length c.write_frame.ensures.1, frame_length frame.levels frame.phase frame.line c.args.out.now room)

pub returns-in_err-write_settings : goal.returns-in_err-write_settings
returns-in_err-write_settings c =
    let room = room_found 8 _ c.args.out.now (sym c.in_ok-write_frame.was ∙ c.write_frame.ensures.0) in
    let begun = c.write_frame.ensures.1 ∙ rw c.frame_of.ensures refl in
    let put = port_put c.args.chip.port c.args.out.now _ _ c.put_memory.ensures.0 room begun c.put_memory.ensures.1 in
    let still : record_length ≤ length c.put_memory.new.out = rw put (port_room c.args.chip.port c.args.out.now c.put_memory.ensures.0 room) in
    absurd (not_refused 24 _ _ still (sym c.in_err-write_settings.was ∙ c.write_settings.ensures.0))

pub returns : goal.returns
unfolding written_as written_over
returns c =
    let room = room_found 8 _ c.args.out.now (sym c.in_ok-write_frame.was ∙ c.write_frame.ensures.0) in
    let there = le-ltb _ _ room in
    let begun = c.write_frame.ensures.1 ∙ rw c.frame_of.ensures refl in
    let put = port_put c.args.chip.port c.args.out.now _ _ c.put_memory.ensures.0 room begun c.put_memory.ensures.1 in
    (rw there refl, c.write_settings.ensures.1 ∙ ap (settings_over c.args.chip.settings) put ∙ put_record c.args.chip c.args.out.now c.put_memory.ensures.0 room ∙ rw there refl)
