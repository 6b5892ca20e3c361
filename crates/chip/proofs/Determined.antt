-- Each public contract of this crate determines its result: it is an equation, and both results meet it.
-- Assumes nothing.
use mathlib.Core.Path.{◌∙◌, sym}
use Rattle.ground.specs.Determined.{Determined}
use Rattle.chip.proofs.Chip.step_to.Kinds as step_to_kinds
use Rattle.chip.proofs.Chip.step_to.Reads as step_to_reads
use Rattle.chip.proofs.Chip.step.Kinds as step_kinds
use Rattle.chip.proofs.Chip.step.Reads as step_reads
use Rattle.chip.proofs.Chip.tick.Kinds as tick_kinds
use Rattle.chip.proofs.Chip.tick.Reads as tick_reads
use Rattle.chip.proofs.Chip.advance.Kinds as advance_kinds
use Rattle.chip.proofs.Chip.advance.Reads as advance_reads

pub step_to_determined : Determined 0 step_to_kinds.ps step_to_kinds.r step_to_reads.Post
step_to_determined κs args x y end end' p q = p ∙ sym q

pub step_determined : Determined 0 step_kinds.ps step_kinds.r step_reads.Post
step_determined κs args x y end end' p q = p ∙ sym q

pub tick_determined : Determined 0 tick_kinds.ps tick_kinds.r tick_reads.Post
tick_determined κs args x y end end' p q = p ∙ sym q

pub advance_determined : Determined 0 advance_kinds.ps advance_kinds.r advance_reads.Post
advance_determined κs args x y end end' p q = p ∙ sym q
