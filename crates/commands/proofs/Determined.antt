-- Each public contract of this crate determines its result: it is an equation, and both results meet it.
-- Assumes nothing.
use mathlib.Core.Path.{◌∙◌, sym}
use Rattle.ground.specs.Determined.{Determined}
use Rattle.commands.proofs.U8FromBias.from.Kinds as bias_number_kinds
use Rattle.commands.proofs.U8FromBias.from.Reads as bias_number_reads
use Rattle.commands.proofs.U8FromCommons.from.Kinds as commons_number_kinds
use Rattle.commands.proofs.U8FromCommons.from.Reads as commons_number_reads
use Rattle.commands.proofs.meaning.Kinds as meaning_kinds
use Rattle.commands.proofs.meaning.Reads as meaning_reads
use Rattle.commands.proofs.first_undefined.Kinds as first_undefined_kinds
use Rattle.commands.proofs.first_undefined.Reads as first_undefined_reads

pub bias_number_determined : Determined 0 bias_number_kinds.ps bias_number_kinds.r bias_number_reads.Post
bias_number_determined κs args x y end end' p q = p ∙ sym q

pub commons_number_determined : Determined 0 commons_number_kinds.ps commons_number_kinds.r commons_number_reads.Post
commons_number_determined κs args x y end end' p q = p ∙ sym q

pub meaning_determined : Determined 0 meaning_kinds.ps meaning_kinds.r meaning_reads.Post
meaning_determined κs args x y end end' p q = p ∙ sym q

pub first_undefined_determined : Determined 1 first_undefined_kinds.ps first_undefined_kinds.r
    first_undefined_reads.Post
first_undefined_determined κs args x y end end' p q = p ∙ sym q
