-- `recall::in_range` meets its contract: length and ranges decide, and then the scan. Assumes nothing.
use borrow.Author.Tests.{eq-eqb}
use Rattle.std.proofs.lemmas.List.{take_rest}
use Rattle.settings.specs.Bytes.{settings_at}
use Rattle.recall.proofs.in_range.Goals as goal

pub returns-then-within : goal.returns-then-within
returns-then-within c =
    let ranges = rw (take_rest c.args.bytes.now settings_at) at c.within.ensures in
    rw (eq-eqb _ _ c.if-bytes-ne-RECORD_LENGTH.false, ← ranges, c.if-within.true) c.scan_fits.ensures

pub returns-else-within : goal.returns-else-within
returns-else-within c =
    let ranges = rw (take_rest c.args.bytes.now settings_at) at c.within.ensures in
    rw (eq-eqb _ _ c.if-bytes-ne-RECORD_LENGTH.false, ← ranges, c.if-within.false)
