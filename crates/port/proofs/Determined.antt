-- Each public contract of this crate determines its result: it is an equation, and both results meet it.
-- Assumes nothing.
use mathlib.Core.Path.{◌∙◌, sym}
use Rattle.ground.specs.Determined.{Determined}
use Rattle.port.proofs.Port.moved.Kinds as moved_kinds
use Rattle.port.proofs.Port.moved.Reads as moved_reads

pub moved_determined : Determined 0 moved_kinds.ps moved_kinds.r moved_reads.Post
moved_determined κs args x y end end' p q = p ∙ sym q
