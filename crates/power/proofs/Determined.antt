-- Each public contract of this crate determines its result: it is an equation, and both results meet it.
-- Assumes nothing.
use mathlib.Core.Path.{◌∙◌, sym}
use Rattle.ground.specs.Determined.{Determined}
use Rattle.power.proofs.empty.Kinds as empty_kinds
use Rattle.power.proofs.empty.Reads as empty_reads
use Rattle.power.proofs.power_on.Kinds as power_on_kinds
use Rattle.power.proofs.power_on.Reads as power_on_reads

pub empty_determined : Determined 0 empty_kinds.ps empty_kinds.r empty_reads.Post
empty_determined κs args x y end end' p q = p ∙ sym q

pub power_on_determined : Determined 1 power_on_kinds.ps power_on_kinds.r power_on_reads.Post
power_on_determined κs args x y end end' p q = p ∙ sym q
