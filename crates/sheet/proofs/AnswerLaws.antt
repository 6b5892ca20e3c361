-- No answer to a sample has the number of a refusal. Assumes nothing.
use Rattle.std.specs.Prelude.{Option, Some, None}
use Rattle.commands.specs.declared.Command.{Command}
use mathlib.Core.Path.{◌≡◌}
use mathlib.Core.Bool.{false}
use Prim.Native.Nat.{ℕ, ◌*◌, ◌≤◌}
use native.Mathlib.Omega.{arith}
use lib.Dec.{ltb}
use lib.ListN.{get_or}
use Rattle.ground.specs.declared.Part.{Part}
use Rattle.commands.specs.Commands.{code_meaning}
use Rattle.lines.specs.Samples.{levels, edge}
use Rattle.phases.specs.Phases.{address}
use Rattle.answers.specs.Answers.{answer_number}
use Rattle.frames.specs.declared.Upshot.{Upshot}
use Rattle.frames.specs.declared.Upshot.TheVariants.{Answered, Nibble, Code}
use Rattle.frames.proofs.AnswersLaws.{Own, frame_own}
use Rattle.port.specs.Port.{framed_by, moved}
use Rattle.chip.specs.declared.Chip.{Chip}
use Rattle.chip.specs.Chip.{decoded_answer, told, stepped_to, stepped}
use Rattle.simulator.specs.Simulator.{answer_code}

decoded_low : (decoded : Option Command) (code : ℕ) → answer_number (decoded_answer decoded code) ≤ 11
decoded_low None code = omega arith
decoded_low (Some command) code = omega arith

told_low : (part : Part) (upshot : Upshot) → Own upshot → answer_number (told part upshot) ≤ 11
told_low part (Answered answer) own = own.1
told_low part (Nibble at nibble) own = omega arith
told_low part (Code code) own = decoded_low (code_meaning part (2 * code)) code

stepped_told : (c : Chip) (sample : ℕ) → ltb 15 sample ≡ false → answer_number (stepped c sample).answer ≤ 11
unfolding stepped stepped_to moved framed_by
stepped_told c sample low =
    rw low (told_low c.settings.part (framed_by c.port (levels sample)).upshot
    (frame_own (edge c.port.levels (levels sample)) (get_or c.port.memory (address c.port.phase) 0) c.port.phase c.port.line))

-- so what a step returns tells a sample that is taken from one that is refused
pub answer_low : (c : Chip) (sample : ℕ) → ltb 15 sample ≡ false → (number : ℕ) → 12 ≤ number → number ≤ 255
    → answer_code (stepped c sample).answer ≡ number → ⊥
unfolding answer_code
answer_low c sample low number above below e = omega (arith, stepped_told c sample low, e)
