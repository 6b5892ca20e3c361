-- Demand 2, its first half: which requests are accepted. RULES "Driver streams" has a table of refusals; here it stands call by call,
-- in its bare numbers, and each call succeeds exactly where no row holds. For every request, and every room. Assumes nothing.
use Rattle.std.specs.Prelude.{◌≡◌, cond, not, ◌||◌, List, [], ◌∷◌, ℕ, ◌+◌, ◌*◌, ◌/◌, ◌%◌, ◌≤◌, ◌<◌, eqb, ltb, length, Ok}
use Rattle.ground.specs.Outcomes.{Row, row, number_by, RefusedWith, AsTabled}
use Rattle.ground.specs.Parts.{part_of}
use Rattle.ground.specs.Places.{lowest, somewhere}
use Rattle.commands.specs.Commands.{command_fault}
use Rattle.chip.specs.Chip.{stepped}
use Rattle.pins.specs.Pins.{pins_shown}
use Rattle.state.specs.Record.{record_valid, chip_of}
use Rattle.simulator.specs.Simulator.{answer_code, pins_code, step_returns, advance_returns, pins_returns}
use Rattle.streams.specs.Streams.{write_stream, read_stream, command_stream}
use Rattle.driver.specs.Refusals.{write_answer, read_answer, command_answer, decode_answer}
use Rattle.host.specs.Host.{power_on_answer, power_on_returns, write_returns, read_returns, commands_returns, decode_returns}

-- A row is a test, a number and a place. Writing nibbles from `first` on into a buffer of `room` bytes:
abbrev pub write_table : ℕ → List ℕ → ℕ → List Row
write_table first nibbles room =
    row (eqb (length nibbles) 0) 21 0
    ∷ row (ltb 31 first) 22 0
    ∷ row (ltb 32 (first + length nibbles)) 30 0
    ∷ row (somewhere (ltb 15) nibbles) 23 (lowest (ltb 15) nibbles)
    ∷ row (ltb room (21 + 8 * length nibbles)) 25 0 ∷ []

-- Reading `count` nibbles.
abbrev pub read_table : ℕ → ℕ → ℕ → List Row
read_table first count room =
    row (eqb count 0) 21 0
    ∷ row (ltb 31 first) 22 0
    ∷ row (ltb 32 (first + count)) 30 0
    ∷ row (ltb room (21 + 8 * count)) 25 0 ∷ []

-- Giving commands to a chip of this part, of which there are 0 and 1: a command is at fault by the part's own table.
abbrev pub command_table : ℕ → List ℕ → ℕ → List Row
command_table part codes room =
    row (ltb 1 part) 43 0
    ∷ row (eqb (length codes) 0) 21 0
    ∷ row (ltb 32 (length codes)) 31 0
    ∷ row (somewhere (command_fault (part_of part)) codes) 24 (lowest (command_fault (part_of part)) codes)
    ∷ row (ltb room (9 + 18 * length codes)) 25 0 ∷ []

-- Decoding noted bytes.
abbrev pub decode_table : List ℕ → ℕ → List Row
decode_table noted room =
    row (eqb (length noted) 0 || ltb 128 (length noted) || not (eqb (length noted % 4) 0)) 26 0
    ∷ row (somewhere (ltb 1) noted) 27 (lowest (ltb 1) noted)
    ∷ row (ltb room (length noted / 4)) 25 0 ∷ []

-- Power-on of a part with a memory, into a buffer for its record.
abbrev pub power_on_table : ℕ → List ℕ → ℕ → List Row
power_on_table part memory room =
    row (ltb 1 part) 43 0
    ∷ row (not (eqb (length memory) 32)) 29 0
    ∷ row (somewhere (ltb 15) memory) 23 (lowest (ltb 15) memory)
    ∷ row (ltb room 64) 25 0 ∷ []

-- RULES "State record and simulator": a sample, ticks and the pins of a record.
abbrev pub step_table : List ℕ → ℕ → List Row
step_table bytes sample = row (not (record_valid bytes)) 28 0 ∷ row (ltb 15 sample) 20 0 ∷ []

abbrev pub advance_table : List ℕ → List Row
advance_table bytes = row (not (record_valid bytes)) 28 0 ∷ []

abbrev pub pins_table : List ℕ → List ℕ → List Row
pins_table bytes cells = row (not (record_valid bytes)) 28 0 ∷ row (ltb (length cells) 32) 25 0 ∷ []

-- What a call of the maker's library returns by its table: the size where no test holds, and else 2^31 + 256 x place + number of
-- the first row whose test does.
abbrev pub code_by : List Row → ℕ → ℕ
code_by [] size = size
code_by (first ∷ rows) size = cond first.holds (2147483648 + 256 * first.place + first.number) (code_by rows size)

pub record Accepted : Type 0 where
  pub write : (first : ℕ) (nibbles : List ℕ) (room : ℕ)
      → AsTabled (write_table first nibbles room) (21 + 8 * length nibbles) (write_answer first nibbles room)
  pub read : (first count room : ℕ) → AsTabled (read_table first count room) (21 + 8 * count) (read_answer first count room)
  pub commands : (part : ℕ) (codes : List ℕ) (room : ℕ)
      → AsTabled (command_table part codes room) (9 + 18 * length codes) (command_answer part codes room)
  pub decode : (noted : List ℕ) (room : ℕ) → AsTabled (decode_table noted room) (length noted / 4) (decode_answer noted room)
  pub power_on : (part : ℕ) (memory : List ℕ) (room : ℕ) → AsTabled (power_on_table part memory room) 64 (power_on_answer part memory room)
  -- the same through the calls for C
  pub write_call : (first : ℕ) (nibbles out : List ℕ)
      → write_returns first nibbles out ≡ code_by (write_table first nibbles (length out)) (21 + 8 * length nibbles)
  pub read_call : (first count : ℕ) (out : List ℕ)
      → read_returns first count out ≡ code_by (read_table first count (length out)) (21 + 8 * count)
  pub commands_call : (part : ℕ) (codes out : List ℕ)
      → commands_returns part codes out ≡ code_by (command_table part codes (length out)) (9 + 18 * length codes)
  pub decode_call : (noted out : List ℕ) → decode_returns noted out ≡ code_by (decode_table noted (length out)) (length noted / 4)
  pub power_on_call : (part : ℕ) (memory bytes : List ℕ)
      → power_on_returns part memory bytes ≡ code_by (power_on_table part memory (length bytes)) 64
  -- and the numbers of the calls on a record
  pub step : (bytes : List ℕ) (sample : ℕ)
      → step_returns bytes sample ≡ number_by (step_table bytes sample) (answer_code (stepped (chip_of bytes) sample).answer)
  pub advance : (bytes : List ℕ) → advance_returns bytes ≡ number_by (advance_table bytes) 0
  pub pins : (bytes cells : List ℕ) → pins_returns bytes cells ≡ number_by (pins_table bytes cells) (pins_code (pins_shown (chip_of bytes)))

-- Which range was wrong, whatever else is at fault, but for the part, of which commands are asked first, and in any room. It is said of
-- every first address and every count, so of 2^64 - 1 for both, whose sum 64 bits do not hold.
pub record WhichRange : Type 0 where
  -- a first address above 31, whatever the count from 1 up
  pub write_address : (first : ℕ) (nibbles : List ℕ) (room : ℕ) → 31 < first → 0 < length nibbles
      → RefusedWith 22 0 (write_answer first nibbles room)
  pub read_address : (first count room : ℕ) → 31 < first → 0 < count → RefusedWith 22 0 (read_answer first count room)
  -- one that is not, and first + count above 32
  pub write_end : (first : ℕ) (nibbles : List ℕ) (room : ℕ) → first ≤ 31 → 32 < first + length nibbles
      → RefusedWith 30 0 (write_answer first nibbles room)
  pub read_end : (first count room : ℕ) → first ≤ 31 → 32 < first + count → RefusedWith 30 0 (read_answer first count room)
  -- more than 32 commands, for either part
  pub commands_many : (part : ℕ) (codes : List ℕ) (room : ℕ) → part ≤ 1 → 32 < length codes
      → RefusedWith 31 0 (command_answer part codes room)

-- A write, a read, and commands for a part, that the driver accepts: given just room enough, it writes the stream.
abbrev pub AcceptsWrite : ℕ → List ℕ → Type 0
AcceptsWrite first nibbles =
    write_answer first nibbles (length (write_stream first nibbles)) ≡ Ok (length (write_stream first nibbles))

abbrev pub AcceptsRead : ℕ → ℕ → Type 0
AcceptsRead first count = read_answer first count (length (read_stream first count)) ≡ Ok (length (read_stream first count))

abbrev pub AcceptsCommands : ℕ → List ℕ → Type 0
AcceptsCommands part codes = command_answer part codes (length (command_stream codes)) ≡ Ok (length (command_stream codes))
