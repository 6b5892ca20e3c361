-- Each public contract of this crate determines its result: it is an equation, and both results meet it.
-- Assumes nothing.
use mathlib.Core.Path.{◌∙◌, sym}
use Rattle.ground.specs.Determined.{Determined}
use Rattle.ticks.proofs.running.Kinds as running_kinds
use Rattle.ticks.proofs.running.Reads as running_reads
use Rattle.ticks.proofs.ticked.Kinds as ticked_kinds
use Rattle.ticks.proofs.ticked.Reads as ticked_reads
use Rattle.ticks.proofs.advanced.Kinds as advanced_kinds
use Rattle.ticks.proofs.advanced.Reads as advanced_reads

pub running_determined : Determined 0 running_kinds.ps running_kinds.r running_reads.Post
running_determined κs args x y end end' p q = p ∙ sym q

pub ticked_determined : Determined 0 ticked_kinds.ps ticked_kinds.r ticked_reads.Post
ticked_determined κs args x y end end' p q = p ∙ sym q

pub advanced_determined : Determined 0 advanced_kinds.ps advanced_kinds.r advanced_reads.Post
advanced_determined κs args x y end end' p q = p ∙ sym q
