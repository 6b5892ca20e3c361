-- Each public contract of this crate determines its result: it is an equation, and both results meet it.
-- Assumes nothing.
use mathlib.Core.Path.{◌∙◌, sym}
use Rattle.ground.specs.Determined.{Determined}
use Rattle.resume.proofs.holds_frame.Kinds as holds_frame_kinds
use Rattle.resume.proofs.holds_frame.Reads as holds_frame_reads
use Rattle.resume.proofs.frame_in.Kinds as frame_in_kinds
use Rattle.resume.proofs.frame_in.Reads as frame_in_reads

pub holds_frame_determined : Determined 1 holds_frame_kinds.ps holds_frame_kinds.r holds_frame_reads.Post
holds_frame_determined κs args x y end end' p q = p ∙ sym q

pub frame_in_determined : Determined 1 frame_in_kinds.ps frame_in_kinds.r frame_in_reads.Post
frame_in_determined κs args x y end end' p q = p ∙ sym q
