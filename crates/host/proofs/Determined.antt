-- Each exported contract determines what is returned and the bytes that are left: they are equations, and both results meet
-- them. Assumes nothing.
use mathlib.Core.Path.{◌∙◌, sym}
use Rattle.ground.specs.Determined.{DeterminedWith}
use Rattle.host.proofs.ht1621_power_on.Kinds as power_on_kinds
use Rattle.host.proofs.ht1621_power_on.Reads as power_on_reads
use Rattle.host.proofs.ht1621_write.Kinds as write_kinds
use Rattle.host.proofs.ht1621_write.Reads as write_reads
use Rattle.host.proofs.ht1621_read.Kinds as read_kinds
use Rattle.host.proofs.ht1621_read.Reads as read_reads
use Rattle.host.proofs.ht1621_commands.Kinds as commands_kinds
use Rattle.host.proofs.ht1621_commands.Reads as commands_reads
use Rattle.host.proofs.ht1621_decode.Kinds as decode_kinds
use Rattle.host.proofs.ht1621_decode.Reads as decode_reads

pub power_on_determined : DeterminedWith 2 power_on_kinds.ps power_on_kinds.r (λ κs end. end.1.1.0.now) power_on_reads.Post
power_on_determined κs args x y end end' p q = (p.0 ∙ sym q.0, p.1 ∙ sym q.1)

pub write_determined : DeterminedWith 2 write_kinds.ps write_kinds.r (λ κs end. end.1.1.0.now) write_reads.Post
write_determined κs args x y end end' p q = (p.0 ∙ sym q.0, p.1 ∙ sym q.1)

pub read_determined : DeterminedWith 1 read_kinds.ps read_kinds.r (λ κs end. end.1.1.0.now) read_reads.Post
read_determined κs args x y end end' p q = (p.0 ∙ sym q.0, p.1 ∙ sym q.1)

pub commands_determined : DeterminedWith 2 commands_kinds.ps commands_kinds.r (λ κs end. end.1.1.0.now) commands_reads.Post
commands_determined κs args x y end end' p q = (p.0 ∙ sym q.0, p.1 ∙ sym q.1)

pub decode_determined : DeterminedWith 2 decode_kinds.ps decode_kinds.r (λ κs end. end.1.0.now) decode_reads.Post
decode_determined κs args x y end end' p q = (p.0 ∙ sym q.0, p.1 ∙ sym q.1)
