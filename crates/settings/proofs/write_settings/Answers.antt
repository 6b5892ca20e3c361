-- `settings::write_settings` meets its contract: stores one after another, and the bytes from the counters on. Assumes nothing.
use borrow.Author.Tests.{le-ltb}
use Rattle.ground.specs.Outcomes.{written_as}
use Rattle.settings.specs.Bytes.{settings_over}
use Rattle.settings.proofs.BytesLaws.{put_settings}
use Rattle.settings.proofs.write_settings.Goals as goal

pub returns : goal.returns
unfolding written_as settings_over
returns c =
    let start = c.args in
    let room = le-ltb _ _ c.if-out-lt-RECORD_LENGTH.false in
    let stored = simp (c.from-5.ensures, c.from-4.ensures, c.from-3.ensures, c.from-2.ensures, c.from.ensures) at c.write_counters.ensures.1 in
    (simp room, rw room (put_settings start.settings start.out.now _ c.if-out-lt-RECORD_LENGTH.false stored))
