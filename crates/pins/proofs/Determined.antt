-- Each public contract of this crate determines its result: it is an equation, and both results meet it.
-- Assumes nothing.
use mathlib.Core.Path.{◌∙◌, sym}
use Rattle.ground.specs.Determined.{Determined}
use Rattle.pins.proofs.irq_low.Kinds as irq_low_kinds
use Rattle.pins.proofs.irq_low.Reads as irq_low_reads
use Rattle.pins.proofs.bz_high.Kinds as bz_high_kinds
use Rattle.pins.proofs.bz_high.Reads as bz_high_reads
use Rattle.pins.proofs.partner_high.Kinds as partner_high_kinds
use Rattle.pins.proofs.partner_high.Reads as partner_high_reads
use Rattle.pins.proofs.pins_of.Kinds as pins_of_kinds
use Rattle.pins.proofs.pins_of.Reads as pins_of_reads
use Rattle.pins.proofs.shown_mask.Kinds as shown_mask_kinds
use Rattle.pins.proofs.shown_mask.Reads as shown_mask_reads

pub irq_low_determined : Determined 0 irq_low_kinds.ps irq_low_kinds.r irq_low_reads.Post
irq_low_determined κs args x y end end' p q = p ∙ sym q

pub bz_high_determined : Determined 0 bz_high_kinds.ps bz_high_kinds.r bz_high_reads.Post
bz_high_determined κs args x y end end' p q = p ∙ sym q

pub partner_high_determined : Determined 0 partner_high_kinds.ps partner_high_kinds.r partner_high_reads.Post
partner_high_determined κs args x y end end' p q = p ∙ sym q

pub pins_of_determined : Determined 0 pins_of_kinds.ps pins_of_kinds.r pins_of_reads.Post
pins_of_determined κs args x y end end' p q = p ∙ sym q

pub shown_mask_determined : Determined 0 shown_mask_kinds.ps shown_mask_kinds.r shown_mask_reads.Post
shown_mask_determined κs args x y end end' p q = p ∙ sym q
