-- Each public contract of this crate determines its result: it is an equation, and both results meet it.
-- Assumes nothing.
use mathlib.Core.Path.{◌∙◌, sym}
use Rattle.ground.specs.Determined.{Determined}
use Rattle.recall.proofs.in_range.Kinds as in_range_kinds
use Rattle.recall.proofs.in_range.Reads as in_range_reads
use Rattle.recall.proofs.settings_from.Kinds as settings_from_kinds
use Rattle.recall.proofs.settings_from.Reads as settings_from_reads

pub in_range_determined : Determined 1 in_range_kinds.ps in_range_kinds.r in_range_reads.Post
in_range_determined κs args x y end end' p q = p ∙ sym q

pub settings_from_determined : Determined 1 settings_from_kinds.ps settings_from_kinds.r settings_from_reads.Post
settings_from_determined κs args x y end end' p q = p ∙ sym q
