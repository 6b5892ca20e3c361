-- Each public contract of this crate determines its result, and the bytes that it leaves: they are equations, and both
-- results meet them. Assumes nothing.
use mathlib.Core.Path.{◌∙◌, sym}
use Rattle.ground.specs.Determined.{Determined, DeterminedWith}
use Rattle.state.proofs.read.Kinds as read_kinds
use Rattle.state.proofs.read.Reads as read_reads
use Rattle.state.proofs.settings_in.Kinds as settings_in_kinds
use Rattle.state.proofs.settings_in.Reads as settings_in_reads
use Rattle.state.proofs.write.Kinds as write_kinds
use Rattle.state.proofs.write.Reads as write_reads
use Rattle.state.proofs.write_port.Kinds as write_port_kinds
use Rattle.state.proofs.write_port.Reads as write_port_reads

pub read_determined : Determined 1 read_kinds.ps read_kinds.r read_reads.Post
read_determined κs args x y end end' p q = p ∙ sym q

pub settings_in_determined : Determined 1 settings_in_kinds.ps settings_in_kinds.r settings_in_reads.Post
settings_in_determined κs args x y end end' p q = p ∙ sym q

pub write_determined : DeterminedWith 1 write_kinds.ps write_kinds.r (λ κs end. end.1.0.now) write_reads.Post
write_determined κs args x y end end' p q = (p.0 ∙ sym q.0, p.1 ∙ sym q.1)

pub write_port_determined : DeterminedWith 1 write_port_kinds.ps write_port_kinds.r (λ κs end. end.1.0.now) write_port_reads.Post
write_port_determined κs args x y end end' p q = (p.0 ∙ sym q.0, p.1 ∙ sym q.1)
