-- Each public contract of this crate determines its result: it is an equation, and both results meet it.
-- Assumes nothing.
use mathlib.Core.Path.{◌∙◌, sym}
use Rattle.ground.specs.Determined.{Determined}
use Rattle.lines.proofs.U8FromLevels.from.Kinds as levels_number_kinds
use Rattle.lines.proofs.U8FromLevels.from.Reads as levels_number_reads
use Rattle.lines.proofs.LevelsFromU8.from.Kinds as levels_of_kinds
use Rattle.lines.proofs.LevelsFromU8.from.Reads as levels_of_reads
use Rattle.lines.proofs.edge_of.Kinds as edge_of_kinds
use Rattle.lines.proofs.edge_of.Reads as edge_of_reads

pub levels_number_determined : Determined 0 levels_number_kinds.ps levels_number_kinds.r levels_number_reads.Post
levels_number_determined κs args x y end end' p q = p ∙ sym q

pub levels_of_determined : Determined 0 levels_of_kinds.ps levels_of_kinds.r levels_of_reads.Post
levels_of_determined κs args x y end end' p q = p ∙ sym q

pub edge_of_determined : Determined 0 edge_of_kinds.ps edge_of_kinds.r edge_of_reads.Post
edge_of_determined κs args x y end end' p q = p ∙ sym q
