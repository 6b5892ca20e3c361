-- Each public contract of this crate determines its result and the bytes that it leaves: both are equations, and both
-- results meet them. Assumes nothing.
use mathlib.Core.Path.{◌∙◌, sym}
use Rattle.ground.specs.Determined.{DeterminedWith}
use Rattle.driver.proofs.write.Kinds as write_kinds
use Rattle.driver.proofs.write.Reads as write_reads
use Rattle.driver.proofs.read.Kinds as read_kinds
use Rattle.driver.proofs.read.Reads as read_reads
use Rattle.driver.proofs.commands.Kinds as commands_kinds
use Rattle.driver.proofs.commands.Reads as commands_reads
use Rattle.driver.proofs.decode.Kinds as decode_kinds
use Rattle.driver.proofs.decode.Reads as decode_reads

pub write_determined : DeterminedWith 2 write_kinds.ps write_kinds.r (λ κs end. end.1.1.0.now) write_reads.Post
write_determined κs args x y end end' p q = (p.answer ∙ sym q.answer, p.bytes ∙ sym q.bytes)

pub read_determined : DeterminedWith 1 read_kinds.ps read_kinds.r (λ κs end. end.1.1.0.now) read_reads.Post
read_determined κs args x y end end' p q = (p.answer ∙ sym q.answer, p.bytes ∙ sym q.bytes)

pub commands_determined : DeterminedWith 2 commands_kinds.ps commands_kinds.r (λ κs end. end.1.1.0.now)
    commands_reads.Post
commands_determined κs args x y end end' p q = (p.answer ∙ sym q.answer, p.bytes ∙ sym q.bytes)

pub decode_determined : DeterminedWith 2 decode_kinds.ps decode_kinds.r (λ κs end. end.1.0.now) decode_reads.Post
decode_determined κs args x y end end' p q = (p.answer ∙ sym q.answer, p.bytes ∙ sym q.bytes)
