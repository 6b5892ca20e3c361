-- Each public contract of this crate determines its result: it is an equation, and both results meet it.
-- Assumes nothing.
use mathlib.Core.Path.{◌∙◌, sym}
use Rattle.ground.specs.Determined.{Determined}
use Rattle.answers.proofs.NumbersFromAnswer.from.Kinds as numbers_kinds
use Rattle.answers.proofs.NumbersFromAnswer.from.Reads as numbers_reads

pub numbers_determined : Determined 0 numbers_kinds.ps numbers_kinds.r numbers_reads.Post
numbers_determined κs args x y end end' p q = p ∙ sym q
