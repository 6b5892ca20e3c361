-- Each public contract of this crate determines its result: it is an equation, and both results meet it.
-- Assumes nothing.
use mathlib.Core.Path.{◌∙◌, sym}
use Rattle.ground.specs.Determined.{Determined}
use Rattle.clock.proofs.U8FromSource.from.Kinds as source_number_kinds
use Rattle.clock.proofs.U8FromSource.from.Reads as source_number_reads
use Rattle.clock.proofs.Timer.cleared.Kinds as cleared_kinds
use Rattle.clock.proofs.Timer.cleared.Reads as cleared_reads
use Rattle.clock.proofs.Timer.watchdog_cleared.Kinds as watchdog_cleared_kinds
use Rattle.clock.proofs.Timer.watchdog_cleared.Reads as watchdog_cleared_reads
use Rattle.clock.proofs.Prescaler.base_ticks.Kinds as base_ticks_kinds
use Rattle.clock.proofs.Prescaler.base_ticks.Reads as base_ticks_reads
use Rattle.clock.proofs.Counters.ticked_by.Kinds as ticked_by_kinds
use Rattle.clock.proofs.Counters.ticked_by.Reads as ticked_by_reads
use Rattle.clock.proofs.Scan.stepped_by.Kinds as scan_stepped_by_kinds
use Rattle.clock.proofs.Scan.stepped_by.Reads as scan_stepped_by_reads

pub source_number_determined : Determined 0 source_number_kinds.ps source_number_kinds.r source_number_reads.Post
source_number_determined κs args x y end end' p q = p ∙ sym q

pub cleared_determined : Determined 0 cleared_kinds.ps cleared_kinds.r cleared_reads.Post
cleared_determined κs args x y end end' p q = p ∙ sym q

pub watchdog_cleared_determined : Determined 0 watchdog_cleared_kinds.ps watchdog_cleared_kinds.r watchdog_cleared_reads.Post
watchdog_cleared_determined κs args x y end end' p q = p ∙ sym q

pub base_ticks_determined : Determined 0 base_ticks_kinds.ps base_ticks_kinds.r base_ticks_reads.Post
base_ticks_determined κs args x y end end' p q = p ∙ sym q

pub ticked_by_determined : Determined 0 ticked_by_kinds.ps ticked_by_kinds.r ticked_by_reads.Post
ticked_by_determined κs args x y end end' p q = p ∙ sym q

pub scan_stepped_by_determined : Determined 0 scan_stepped_by_kinds.ps scan_stepped_by_kinds.r scan_stepped_by_reads.Post
scan_stepped_by_determined κs args x y end end' p q = p ∙ sym q
