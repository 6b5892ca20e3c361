-- `settings::write_counters` meets its contract: stores one after another. Assumes nothing.
use native.Mathlib.Omega.{arith}
use lib.Seq.{sets-eq}
use borrow.Author.Tests.{le-ltb}
use Rattle.ground.specs.Outcomes.{written_as}
use Rattle.settings.specs.Bytes.{counters_at, tick_bytes, counters_over}
use Rattle.settings.proofs.write_counters.Goals as goal

pub returns : goal.returns
unfolding written_as counters_over
returns c =
    let start = c.args in
    let room = le-ltb _ _ c.if-out-lt-RECORD_LENGTH.false in
    (simp room, rw room (simp c.from.ensures (sets-eq (tick_bytes start.settings) start.out.now counters_at (omega (arith, c.if-out-lt-RECORD_LENGTH.false)))))
