-- Each public contract of this crate determines its result: it is an equation, and both results meet it.
-- Assumes nothing.
use mathlib.Core.Path.{◌∙◌, sym}
use Rattle.ground.specs.Determined.{Determined}
use Rattle.rules.proofs.obeyed.Kinds as obeyed_kinds
use Rattle.rules.proofs.obeyed.Reads as obeyed_reads
use Rattle.rules.proofs.at_power_on.Kinds as at_power_on_kinds
use Rattle.rules.proofs.at_power_on.Reads as at_power_on_reads

pub obeyed_determined : Determined 0 obeyed_kinds.ps obeyed_kinds.r obeyed_reads.Post
obeyed_determined κs args x y end end' p q = p ∙ sym q

pub at_power_on_determined : Determined 0 at_power_on_kinds.ps at_power_on_kinds.r at_power_on_reads.Post
at_power_on_determined κs args x y end end' p q = p ∙ sym q
