-- RULES "Driver streams" and the power-on of RULES "Commands", as calls for C: what each exported call returns, and the bytes that
-- it leaves, for every list of bytes. Assumes nothing.
use Rattle.std.specs.Prelude.{ℕ, ◌+◌, ◌*◌, cond, List, [], ◌∷◌, ◌++◌, ltb, length, Ok, Err}
use Rattle.ground.specs.Sizes.{record_length}
use Rattle.ground.specs.declared.Refusal.{Refusal}
use Rattle.ground.specs.declared.Refusal.TheVariants.{OutputShort}
use Rattle.ground.specs.Outcomes.{Outcome, outcome_number, outcome_place, succeeded, left, Rung, refused_if, ladder}
use Rattle.power.specs.PowerOn.{power_on_refusals, chip_on, powered_on}
use Rattle.streams.specs.Streams.{write_stream, read_stream, command_stream, decoded}
use Rattle.driver.specs.Refusals.{write_answer, read_answer, command_answer, decode_answer}
use Rattle.state.specs.Record.{record_of}

-- An outcome as one number: a success by its own; a refusal as 2^31, which no count of bytes reaches, with the place above the
-- lowest byte, and there the number.
unfoldable pub host_code : Outcome → ℕ
host_code outcome =
    cond (succeeded outcome) (outcome_number outcome) (2147483648 + 256 * outcome_place outcome + outcome_number outcome)

abbrev pub refused_code : Refusal → ℕ
refused_code why = host_code (Err why)

-- Power-on: the record of the chip that is on; where it was refused, that of an HT with an empty memory stands there, and is not written.
-- A call is refused as the chip is, 43, 29 and then 23 with its place; and by 25 last of all, where the 64 bytes of a record do not fit.
unfoldable pub power_on_record : ℕ → List ℕ → List ℕ
power_on_record part memory = record_of (chip_on (powered_on part memory))

abbrev pub record_refusals : ℕ → List ℕ → ℕ → List Rung
record_refusals part memory room = power_on_refusals part memory ++ refused_if (ltb room record_length) OutputShort ∷ []

unfoldable pub power_on_answer : ℕ → List ℕ → ℕ → Outcome
power_on_answer part memory room = ladder Err (record_refusals part memory room) (Ok record_length)

unfoldable pub power_on_returns : ℕ → List ℕ → List ℕ → ℕ
power_on_returns part memory bytes = host_code (power_on_answer part memory (length bytes))

unfoldable pub power_on_bytes : ℕ → List ℕ → List ℕ → List ℕ
power_on_bytes part memory bytes = left (power_on_answer part memory (length bytes)) (power_on_record part memory) bytes

-- Writing nibbles, as the driver answers it.
unfoldable pub write_returns : ℕ → List ℕ → List ℕ → ℕ
write_returns first nibbles out = host_code (write_answer first nibbles (length out))

unfoldable pub write_bytes : ℕ → List ℕ → List ℕ → List ℕ
write_bytes first nibbles out = left (write_answer first nibbles (length out)) (write_stream first nibbles) out

-- Reading nibbles.
unfoldable pub read_returns : ℕ → ℕ → List ℕ → ℕ
read_returns first count out = host_code (read_answer first count (length out))

unfoldable pub read_bytes : ℕ → ℕ → List ℕ → List ℕ
read_bytes first count out = left (read_answer first count (length out)) (read_stream first count) out

-- Giving commands to a part.
unfoldable pub commands_returns : ℕ → List ℕ → List ℕ → ℕ
commands_returns part codes out = host_code (command_answer part codes (length out))

unfoldable pub commands_bytes : ℕ → List ℕ → List ℕ → List ℕ
commands_bytes part codes out = left (command_answer part codes (length out)) (command_stream codes) out

-- Decoding what a read noted.
unfoldable pub decode_returns : List ℕ → List ℕ → ℕ
decode_returns noted out = host_code (decode_answer noted (length out))

unfoldable pub decode_bytes : List ℕ → List ℕ → List ℕ
decode_bytes noted out = left (decode_answer noted (length out)) (decoded noted) out
