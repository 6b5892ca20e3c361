-- Each public contract of this crate determines its result, and that of `list` the bytes of the buffer too: they are
-- equations, and both results meet them. Assumes nothing.
use mathlib.Core.Path.{◌∙◌, sym}
use Rattle.ground.specs.Determined.{Determined, DeterminedWith}
use Rattle.transcript.proofs.room.Kinds as room_kinds
use Rattle.transcript.proofs.room.Reads as room_reads
use Rattle.transcript.proofs.list.Kinds as list_kinds
use Rattle.transcript.proofs.list.Reads as list_reads

pub room_determined : Determined 0 room_kinds.ps room_kinds.r room_reads.Post
room_determined κs args x y end end' p q = p ∙ sym q

pub list_determined : DeterminedWith 2 list_kinds.ps list_kinds.r (λ κs end. end.1.0.now) list_reads.Post
list_determined κs args x y end end' p q = (p.answer ∙ sym q.answer, p.bytes ∙ sym q.bytes)
