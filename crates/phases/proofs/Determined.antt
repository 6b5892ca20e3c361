-- Each public contract of this crate determines its result, and the bytes that it leaves: they are equations, and both
-- results meet them. Assumes nothing.
use mathlib.Core.Path.{◌∙◌, sym}
use Rattle.ground.specs.Determined.{Determined, DeterminedWith}
use Rattle.phases.proofs.U8FromLine.from.Kinds as line_number_kinds
use Rattle.phases.proofs.U8FromLine.from.Reads as line_number_reads
use Rattle.phases.proofs.Phase.unfinished.Kinds as unfinished_kinds
use Rattle.phases.proofs.Phase.unfinished.Reads as unfinished_reads
use Rattle.phases.proofs.Phase.address.Kinds as address_kinds
use Rattle.phases.proofs.Phase.address.Reads as address_reads
use Rattle.phases.proofs.write_frame.Kinds as write_frame_kinds
use Rattle.phases.proofs.write_frame.Reads as write_frame_reads

pub unfinished_determined : Determined 0 unfinished_kinds.ps unfinished_kinds.r unfinished_reads.Post
unfinished_determined κs args x y end end' p q = p ∙ sym q

pub address_determined : Determined 0 address_kinds.ps address_kinds.r address_reads.Post
address_determined κs args x y end end' p q = p ∙ sym q

pub write_frame_determined : DeterminedWith 1 write_frame_kinds.ps write_frame_kinds.r (λ κs end. end.1.0.now) write_frame_reads.Post
write_frame_determined κs args x y end end' p q = (p.0 ∙ sym q.0, p.1 ∙ sym q.1)

pub line_number_determined : Determined 0 line_number_kinds.ps line_number_kinds.r line_number_reads.Post
line_number_determined κs args x y end end' p q = p ∙ sym q
