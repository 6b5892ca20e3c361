-- `phases::write_frame` meets its contract: stores one after another. Assumes nothing.
use native.Mathlib.Omega.{arith}
use lib.Seq.{sets-eq}
use borrow.Author.Tests.{le-ltb}
use Rattle.ground.specs.Outcomes.{written_as}
use Rattle.phases.specs.Frame.{frame_at, frame_bytes, frame_over}
use Rattle.phases.proofs.write_frame.Goals as goal

pub returns : goal.returns
unfolding written_as frame_over
returns c =
    let start = c.args in
    let room = le-ltb _ _ c.if-short.false in (
      simp room,
      rw room
          (simp (
            c.from-2.ensures,
            c.position.ensures,
            c.address.ensures,
            c.unfinished.ensures,
            c.number.ensures,
            c.from.ensures,
            c.value-value.ensures,
          )
          (sets-eq (frame_bytes start.frame.levels start.frame.phase start.frame.line) start.out.now frame_at (omega (arith, c.if-short.false)))),
    )
