-- Each public contract of this crate determines its result: it is an equation, and both results meet it.
-- Assumes nothing.
use mathlib.Core.Path.{◌∙◌, sym}
use Rattle.ground.specs.Determined.{Determined}
use Rattle.frames.proofs.frame_after.Kinds as frame_after_kinds
use Rattle.frames.proofs.frame_after.Reads as frame_after_reads

pub frame_after_determined : Determined 0 frame_after_kinds.ps frame_after_kinds.r frame_after_reads.Post
frame_after_determined κs args x y end end' p q = p ∙ sym q
