-- Each public contract of this crate determines its result: it is an equation, and both results meet it.
-- Assumes nothing.
use mathlib.Core.Path.{◌∙◌, sym}
use Rattle.ground.specs.Determined.{Determined}
use Rattle.ground.proofs.first_above.Kinds as first_above_kinds
use Rattle.ground.proofs.first_above.Reads as first_above_reads
use Rattle.ground.proofs.memory_from.Kinds as memory_from_kinds
use Rattle.ground.proofs.memory_from.Reads as memory_from_reads
use Rattle.ground.proofs.U8FromPart.from.Kinds as part_number_kinds
use Rattle.ground.proofs.U8FromPart.from.Reads as part_number_reads
use Rattle.ground.proofs.part_of.Kinds as part_of_kinds
use Rattle.ground.proofs.part_of.Reads as part_of_reads
use Rattle.ground.proofs.U8FromRefusal.from.Kinds as refusal_number_kinds
use Rattle.ground.proofs.U8FromRefusal.from.Reads as refusal_number_reads
use Rattle.ground.proofs.Refusal.place.Kinds as refusal_place_kinds
use Rattle.ground.proofs.Refusal.place.Reads as refusal_place_reads

pub part_number_determined : Determined 0 part_number_kinds.ps part_number_kinds.r part_number_reads.Post
part_number_determined κs args x y end end' p q = p ∙ sym q

pub part_of_determined : Determined 0 part_of_kinds.ps part_of_kinds.r part_of_reads.Post
part_of_determined κs args x y end end' p q = p ∙ sym q

pub refusal_number_determined : Determined 0 refusal_number_kinds.ps refusal_number_kinds.r refusal_number_reads.Post
refusal_number_determined κs args x y end end' p q = p ∙ sym q

pub refusal_place_determined : Determined 0 refusal_place_kinds.ps refusal_place_kinds.r refusal_place_reads.Post
refusal_place_determined κs args x y end end' p q = p ∙ sym q

pub first_above_determined : Determined 1 first_above_kinds.ps first_above_kinds.r first_above_reads.Post
first_above_determined κs args x y end end' p q = p ∙ sym q

pub memory_from_determined : Determined 1 memory_from_kinds.ps memory_from_kinds.r memory_from_reads.Post
memory_from_determined κs args x y end end' p q = p ∙ sym q
