-- Each exported contract determines what is returned and the bytes that are left: they are equations, and both results meet
-- them. Assumes nothing.
use mathlib.Core.Path.{◌∙◌, sym}
use Rattle.ground.specs.Determined.{DeterminedWith}
use Rattle.simulator.proofs.step.Kinds as step_kinds
use Rattle.simulator.proofs.step.Reads as step_reads
use Rattle.simulator.proofs.advance.Kinds as advance_kinds
use Rattle.simulator.proofs.advance.Reads as advance_reads
use Rattle.simulator.proofs.pins.Kinds as pins_kinds
use Rattle.simulator.proofs.pins.Reads as pins_reads

pub step_determined : DeterminedWith 1 step_kinds.ps step_kinds.r (λ κs end. end.0.now) step_reads.Post
step_determined κs args x y end end' p q = (p.0 ∙ sym q.0, p.1 ∙ sym q.1)

pub advance_determined : DeterminedWith 1 advance_kinds.ps advance_kinds.r (λ κs end. end.0.now) advance_reads.Post
advance_determined κs args x y end end' p q = (p.0 ∙ sym q.0, p.1 ∙ sym q.1)

pub pins_determined : DeterminedWith 2 pins_kinds.ps pins_kinds.r (λ κs end. end.1.0.now) pins_reads.Post
pins_determined κs args x y end end' p q = (p.0 ∙ sym q.0, p.1 ∙ sym q.1)
