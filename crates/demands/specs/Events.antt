-- What happens to a chip (RULES "Samples" and "Ticks"): samples, with ticks of its clock between them; and what a host notes of it.
-- Assumes nothing.
use Rattle.std.specs.Prelude.{◌≡◌, ℕ, suc, ◌≤◌, cond, not, ◌&&◌, List, [], ◌∷◌, eqb, length, Ok}
use Rattle.ground.specs.Bits.{bit_number}
use Rattle.answers.specs.declared.Answer.{Answer}
use Rattle.phases.specs.declared.Line.{Line}
use Rattle.phases.specs.declared.Line.TheVariants.{Released, Driven}
use Rattle.chip.specs.declared.Chip.{Chip}
use Rattle.chip.specs.Chip as chip
use Rattle.driver.specs.Refusals.{decode_answer}
use Rattle.streams.specs.Streams.{decoded}

pub data Event : Type 0 where
  sample : ℕ → Event
  tick : Event

-- The chip after an event, and after some.
abbrev pub happened : Chip → Event → Chip
happened c (sample s) = (chip.stepped c s).chip
happened c tick = chip.ticked c

abbrev pub after : Chip → List Event → Chip
after c [] = c
after c (e ∷ es) = after (happened c e) es

-- The samples among them, and how many ticks.
abbrev pub samples : List Event → List ℕ
samples [] = []
samples (sample s ∷ es) = s ∷ samples es
samples (tick ∷ es) = samples es

abbrev pub ticks : List Event → ℕ
ticks [] = 0
ticks (sample s ∷ es) = ticks es
ticks (tick ∷ es) = suc (ticks es)

-- What the samples are answered.
abbrev pub answers : Chip → List Event → List Answer
answers c [] = []
answers c (sample s ∷ es) = (chip.stepped c s).answer ∷ answers (happened c (sample s)) es
answers c (tick ∷ es) = answers (happened c tick) es

-- RULES "Driver streams": what the host notes of DATA where a 14 raises RD. Where the chip does not drive it that is 2, which no
-- bit is, so that the decoder refuses it.
abbrev pub data_number : Line → ℕ
data_number Released = 2
data_number (Driven bit) = bit_number bit

abbrev pub notes : Chip → List Event → List ℕ
notes c [] = []
notes c (sample s ∷ es) =
    let next = happened c (sample s) in
    cond (not c.port.levels.rd && eqb s 14) (data_number next.port.line ∷ notes next es) (notes next es)
notes c (tick ∷ es) = notes (happened c tick) es

-- What was noted reads back as these values: the driver's decoder accepts it in any room of at least a byte a value, and the
-- bytes that it writes are the values.
pub record ReadsAs (noted values : List ℕ) : Type 0 where
  pub accepted : (room : ℕ) → length values ≤ room → decode_answer noted room ≡ Ok (length values)
  pub bytes : decoded noted ≡ values
