-- A write that is stopped, all that is to be known of it: how the port stands after the first k samples of the stream, and what
-- these samples were answered. RULES "Driver streams" says which bits are sent when, "Inside a frame" what they make of the frame.
-- Assumes nothing.
use Rattle.std.specs.Prelude.{◌≡◌, Bool, cond, List, [], ◌∷◌, ◌++◌, ℕ, zero, suc, ◌+◌, ◌-◌, ◌/◌, ◌%◌, eqb, ltb, length, take, get_or}
use Rattle.std.proofs.Math.Seq.{paste}
use Rattle.phases.specs.declared.Phase.{Phase}
use Rattle.phases.specs.declared.Phase.TheVariants.{Idle, Ident, WriteTo, Writing}
use Rattle.phases.specs.declared.Line.TheVariants.{Released}
use Rattle.answers.specs.declared.Answer.{Answer}
use Rattle.answers.specs.declared.Answer.TheVariants.{Nothing, Opened, Closed, Dropped, Taken, Stored}
use Rattle.phases.specs.Phases.{unfinished}
use Rattle.frames.specs.Frames.{more, next}
use Rattle.lines.specs.Samples.{levels}
use Rattle.chip.specs.declared.Chip.{Chip}
use Rattle.port.specs.declared.Port.{Port}
use Rattle.chip.specs.Valid.{Valid}
use Rattle.streams.specs.Streams.{write_id, address_bits, nibble_bits, write_stream}
use Rattle.demands.specs.Accepted.{AcceptsWrite}
use Rattle.demands.specs.Demand3.{completed}
use Rattle.demands.specs.Events.{Event, after, samples, answers}

-- ---- the frame

-- The value of bits that a phase has collected, after those that make `value`.
abbrev pub with_bits : ℕ → List Bool → ℕ
with_bits value [] = value
with_bits value (bit ∷ bits) = with_bits (more value bit) bits

-- The address so many steps on.
abbrev pub onward : ℕ → ℕ → ℕ
onward address zero = address
onward address (suc count) = onward (next address) count

-- Writing from `first` on, with `whole` nibbles stored and so many bits of the next one taken: each store has stepped the
-- address, and nothing was offered.
abbrev pub nibble_phase : ℕ → List ℕ → ℕ → ℕ → Phase
nibble_phase first nibbles whole bits =
    Writing bits (with_bits 0 (take bits (nibble_bits (get_or nibbles whole 0)))) (onward first whole) 0

-- The phase once so many bits of a write are taken: three are the ID, six the address, and then four make a nibble.
abbrev pub write_phase : ℕ → List ℕ → ℕ → Phase
write_phase first nibbles bits =
    cond (ltb bits 3) (Ident bits (with_bits 0 (take bits write_id)))
    (cond (ltb bits 9) (WriteTo (bits - 3) (with_bits 0 (take (bits - 3) (address_bits first))))
    (nibble_phase first nibbles ((bits - 9) / 4) ((bits - 9) % 4)))

-- ---- the port

-- The bits taken by k samples: two samples open the frame, and the second of each further two takes a bit.
abbrev pub bits_taken : ℕ → ℕ
bits_taken k = (k - 2) / 2

-- Before its first sample a write has changed nothing. From then on the levels are those of the last sample; there is no frame
-- while CS is high, at the first sample and from the closing one on; DATA is never driven; and the memory has the nibbles
-- completed by then.
abbrev pub stopped_port : Port → ℕ → List ℕ → ℕ → Port
stopped_port port first nibbles zero = port
stopped_port port first nibbles (suc k) =
    let now = levels (get_or (write_stream first nibbles) k 15) in
    record {
      memory = paste port.memory first nibbles (completed (length nibbles) (suc k));
      levels = now;
      phase = cond now.cs Idle (write_phase first nibbles (bits_taken (suc k)));
      line = Released;
    }

-- ---- the answers

-- The first sample of a stream ends the frame that stood open, if one did.
abbrev pub first_answer : Port → Answer
first_answer port = cond port.levels.cs Nothing (cond (eqb (unfinished port.phase) 0) Closed Dropped)

-- Some sent bits that complete nothing: each is taken at the second of its samples.
abbrev pub bit_answers : ℕ → List Answer
bit_answers zero = []
bit_answers (suc count) = Nothing ∷ Taken ∷ bit_answers count

-- The fourth bit of a nibble stores it. The last sample closes the frame.
abbrev pub nibble_answers : ℕ → List ℕ → List Answer
nibble_answers at [] = Closed ∷ []
nibble_answers at (nibble ∷ nibbles) = bit_answers 3 ++ Nothing ∷ Stored at nibble ∷ nibble_answers (at + 1) nibbles

-- What all samples of a write are answered.
abbrev pub write_answers : Port → ℕ → List ℕ → List Answer
write_answers port first nibbles = first_answer port ∷ Opened ∷ bit_answers 9 ++ nibble_answers first nibbles

-- ---- the law

-- Any valid chip, any write that the driver accepts, any number k (past the end it is as at the end), ticks anywhere.
abbrev pub StoppedWrites : Type 0
StoppedWrites =
    (chip : Chip) (first : ℕ) (nibbles : List ℕ) (k : ℕ) (events : List Event)
    → Valid chip → AcceptsWrite first nibbles → samples events ≡ take k (write_stream first nibbles)
    → ((after chip events).port ≡ stopped_port chip.port first nibbles k)
    × (answers chip events ≡ take k (write_answers chip.port first nibbles))
