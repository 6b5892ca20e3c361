-- Each public contract of this crate determines its result, and the bytes that it leaves: they are equations, and both
-- results meet them. Assumes nothing.
use mathlib.Core.Path.{◌∙◌, sym}
use Rattle.ground.specs.Determined.{Determined, DeterminedWith}
use Rattle.settings.proofs.U8FromPitch.from.Kinds as pitch_number_kinds
use Rattle.settings.proofs.U8FromPitch.from.Reads as pitch_number_reads
use Rattle.settings.proofs.U8FromIrqSource.from.Kinds as irq_source_number_kinds
use Rattle.settings.proofs.U8FromIrqSource.from.Reads as irq_source_number_reads
use Rattle.settings.proofs.write_settings.Kinds as write_settings_kinds
use Rattle.settings.proofs.write_settings.Reads as write_settings_reads
use Rattle.settings.proofs.write_counters.Kinds as write_counters_kinds
use Rattle.settings.proofs.write_counters.Reads as write_counters_reads

pub pitch_number_determined : Determined 0 pitch_number_kinds.ps pitch_number_kinds.r pitch_number_reads.Post
pitch_number_determined κs args x y end end' p q = p ∙ sym q

pub irq_source_number_determined : Determined 0 irq_source_number_kinds.ps irq_source_number_kinds.r irq_source_number_reads.Post
irq_source_number_determined κs args x y end end' p q = p ∙ sym q

pub write_settings_determined : DeterminedWith 1 write_settings_kinds.ps write_settings_kinds.r (λ κs end. end.1.0.now) write_settings_reads.Post
write_settings_determined κs args x y end end' p q = (p.0 ∙ sym q.0, p.1 ∙ sym q.1)

pub write_counters_determined : DeterminedWith 1 write_counters_kinds.ps write_counters_kinds.r (λ κs end. end.1.0.now) write_counters_reads.Post
write_counters_determined κs args x y end end' p q = (p.0 ∙ sym q.0, p.1 ∙ sym q.1)
