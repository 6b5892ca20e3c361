-- RULES "Inside a frame": a frame goes on past the memory, and round through its 64 addresses. On any valid chip a read or a write is
-- opened at any of them, and then come any samples with CS low, with ticks anywhere. 32 and 64 stand here as numbers, apart from the model's
-- own; what a sample is to a frame, `edge`, is the model's, and the sheet has that once more. Assumes nothing.
use Rattle.std.specs.Prelude.{◌≡◌, Bool, cond, List, [], ◌∷◌, ◌++◌, map, ℕ, zero, suc, ◌+◌, ◌/◌, ◌%◌, ◌≤◌, ◌<◌, eqb, ltb, length, get_or, take}
use Rattle.ground.specs.Bits.{bit_at, bit_number}
use Rattle.ground.specs.Values.{values}
use Rattle.lines.specs.declared.Levels.{Levels}
use Rattle.lines.specs.declared.Edge.{Edge}
use Rattle.lines.specs.declared.Edge.TheVariants.{Rests, Closes, Opens, Clashes, Takes, Offers, Quiet}
use Rattle.lines.specs.Samples.{levels, edge}
use Rattle.phases.specs.declared.Line.{Line}
use Rattle.phases.specs.declared.Line.TheVariants.{Released, Driven}
use Rattle.answers.specs.declared.Answer.{Answer}
use Rattle.answers.specs.declared.Answer.TheVariants.{Stored, Offered}
use Rattle.answers.specs.Answers.{answer_number}
use Rattle.ticks.specs.Ticks.{advanced}
use Rattle.chip.specs.declared.Chip.{Chip}
use Rattle.chip.specs.Chip.{stepped}
use Rattle.chip.specs.Valid.{Valid}
use Rattle.streams.specs.Streams.{opening, send_bits, write_id, read_id, address_bits, decoded}
use Rattle.demands.specs.Events.{Event, after, samples, ticks, answers}

-- ---- the samples of a frame

-- What begins a frame: the opening, an ID and an address. It ends with CS low, and WR and RD high.
abbrev pub head_of : List Bool → ℕ → List ℕ
head_of id first = opening ++ send_bits (id ++ address_bits first)

-- What each sample after it is to the frame, by the levels before it. What DATA was before makes no difference.
abbrev pub edges : Levels → List ℕ → List Edge
edges before [] = []
edges before (s ∷ ss) = edge before (levels s) ∷ edges (levels s) ss

abbrev pub edges_after_head : List ℕ → List Edge
edges_after_head rest = edges (levels 14) rest

-- CS is low in all of these, so the frame stays open, and none is refused.
abbrev pub CsLow : List ℕ → Type 0
CsLow [] = Unit {0}
CsLow (s ∷ ss) = (s ≤ 15) × (s % 2 ≡ 0) × CsLow ss

-- The bits that WR rises bring, and how many bits RD falls ask for.
abbrev pub bits_in : List Edge → List Bool
bits_in [] = []
bits_in (Rests ∷ rest) = bits_in rest
bits_in (Closes ∷ rest) = bits_in rest
bits_in (Opens ∷ rest) = bits_in rest
bits_in (Clashes ∷ rest) = bits_in rest
bits_in (Takes bit ∷ rest) = bit ∷ bits_in rest
bits_in (Offers ∷ rest) = bits_in rest
bits_in (Quiet ∷ rest) = bits_in rest

abbrev pub falls_in : List Edge → ℕ
falls_in [] = 0
falls_in (Rests ∷ rest) = falls_in rest
falls_in (Closes ∷ rest) = falls_in rest
falls_in (Opens ∷ rest) = falls_in rest
falls_in (Clashes ∷ rest) = falls_in rest
falls_in (Takes bit ∷ rest) = falls_in rest
falls_in (Offers ∷ rest) = suc (falls_in rest)
falls_in (Quiet ∷ rest) = falls_in rest

-- Of some answers those with one of the numbers of RULES "What a sample is answered".
abbrev pub answers_numbered : ℕ → List Answer → List Answer
answers_numbered number [] = []
answers_numbered number (answer ∷ rest) = cond (eqb (answer_number answer) number) (answer ∷ answers_numbered number rest) (answers_numbered number rest)

-- The address so many nibbles on from the first: 63 is followed by 0.
abbrev pub on_from : ℕ → ℕ → ℕ
on_from first count = (first + count) % 64

-- ---- a read

-- What stands at an address: the memory's nibble up to 31, and 0 from 32 on.
abbrev pub standing_at : List ℕ → ℕ → ℕ
standing_at memory at = cond (ltb at 32) (get_or memory at 0) 0

-- The bit that fall n asks for, from 0: four of each address, D0 first; and what it is answered.
abbrev pub bit_due : List ℕ → ℕ → ℕ → Bool
bit_due memory first n = bit_at (n % 4) (standing_at memory (on_from first (n / 4)))

abbrev pub offer_due : List ℕ → ℕ → ℕ → Answer
offer_due memory first n = Offered (on_from first (n / 4)) (bit_due memory first n)

-- DATA after so many falls: released before the first, and then the bit offered last.
abbrev pub line_due : List ℕ → ℕ → ℕ → Line
line_due memory first zero = Released
line_due memory first (suc n) = Driven (bit_due memory first n)

-- A read from `first` on that was asked for so many bits: it has offered the memory up to 31, zeros at 32 to 63, and then the memory
-- from address 0 on. The memory is as it was, and the settings are what the ticks alone make of them.
pub record ReadsRound (chip : Chip) (first falls : ℕ) (events : List Event) : Type 0 where
  pub offered : answers_numbered 8 (answers chip events) ≡ values (offer_due chip.port.memory first) 0 falls
  pub line : (after chip events).port.line ≡ line_due chip.port.memory first falls
  pub memory : (after chip events).port.memory ≡ chip.port.memory
  pub settings : (after chip events).settings ≡ advanced (ticks events) chip.settings

abbrev pub ReadFrames : Type 0
ReadFrames =
    (chip : Chip) (first : ℕ) (rest : List ℕ) (events : List Event)
    → Valid chip → first < 64 → CsLow rest → samples events ≡ head_of read_id first ++ rest
    → ReadsRound chip first (falls_in (edges_after_head rest)) events

-- ---- a write

-- What nibbles sent from an address on are answered, also where there is no memory.
abbrev pub answers_due : ℕ → List ℕ → List Answer
answers_due at [] = []
answers_due at (nibble ∷ nibbles) = Stored (at % 64) nibble ∷ answers_due (at + 1) nibbles

-- The reading position goes round from D0 while nibbles are not complete: how many falls there were since the last one was, or since the
-- head, where so many bits of the next one and so many falls came before these edges.
abbrev pub falls_since : ℕ → ℕ → List Edge → ℕ
falls_since bits falls [] = falls
falls_since bits falls (Rests ∷ rest) = falls_since bits falls rest
falls_since bits falls (Closes ∷ rest) = falls_since bits falls rest
falls_since bits falls (Opens ∷ rest) = falls_since bits falls rest
falls_since bits falls (Clashes ∷ rest) = falls_since bits falls rest
falls_since bits falls (Takes bit ∷ rest) = cond (eqb bits 3) (falls_since 0 0 rest) (falls_since (bits + 1) falls rest)
falls_since bits falls (Offers ∷ rest) = falls_since bits (falls + 1) rest
falls_since bits falls (Quiet ∷ rest) = falls_since bits falls rest

-- A sample that is answered with a bit of an address, and after which DATA is driven with it.
abbrev pub IsOffered : Chip → ℕ → ℕ → Bool → Type 0
IsOffered chip s at bit = ((stepped chip s).answer ≡ Offered at bit) × ((stepped chip s).chip.port.line ≡ Driven bit)

-- A write from `first` on that was sent these nibbles, and was asked for so many bits since the last of them. An address of the memory has
-- the last nibble that came to it, which is one with fewer than 64 after it, and where none came it is as it was. So until the frame comes
-- round at 64 the addresses below the first stay as they were. The next fall is offered a bit of the address reached, as it stands then.
pub record WritesRound (chip : Chip) (first : ℕ) (nibbles : List ℕ) (falls : ℕ) (events : List Event) : Type 0 where
  pub stored : answers_numbered 5 (answers chip events) ≡ answers_due first nibbles
  pub size : length (after chip events).port.memory ≡ 32
  pub last : (i : ℕ) → i < length nibbles → length nibbles ≤ i + 64 → on_from first i < 32
      → get_or (after chip events).port.memory (on_from first i) 0 ≡ get_or nibbles i 0
  pub kept : (at : ℕ) → ((i : ℕ) → i < length nibbles → on_from first i ≡ at → ⊥)
      → get_or (after chip events).port.memory at 0 ≡ get_or chip.port.memory at 0
  pub below : first + length nibbles ≤ 64 → take first (after chip events).port.memory ≡ take first chip.port.memory
  pub offers : (s : ℕ) → s ≤ 15 → edge (after chip events).port.levels (levels s) ≡ Offers
      → (let at = on_from first (length nibbles) in
      IsOffered (after chip events) s at (bit_at (falls % 4) (standing_at (after chip events).port.memory at)))
  pub settings : (after chip events).settings ≡ advanced (ticks events) chip.settings

-- The nibbles sent are those of the bits that WR rises bring, four by four.
abbrev pub WriteFrames : Type 0
WriteFrames =
    (chip : Chip) (first : ℕ) (rest : List ℕ) (events : List Event)
    → Valid chip → first < 64 → CsLow rest → samples events ≡ head_of write_id first ++ rest
    → WritesRound chip first (decoded (map bit_number (bits_in (edges_after_head rest)))) (falls_since 0 0 (edges_after_head rest)) events
