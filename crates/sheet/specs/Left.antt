-- What a call leaves of the bytes that it is lent: a refusal all of them, and a success all but those that it reports as written. By
-- RULES "Driver streams" for the calls that write into a buffer, and by "State record and simulator" for those on a record.
-- Assumes nothing.
use Rattle.std.specs.Prelude.{◌≡◌, List, ◌⊎◌, ℕ, ◌≤◌, ◌<◌, length, take, drop}
use Rattle.simulator.specs.Simulator.{step_returns, step_bytes, advance_returns, advance_bytes, pins_returns, pins_bytes}
use Rattle.streams.specs.Streams.{write_stream, read_stream, command_stream, decoded}
use Rattle.host.specs.Host.{power_on_returns, power_on_bytes, write_returns, write_bytes, read_returns, read_bytes}
use Rattle.host.specs.Host.{commands_returns, commands_bytes, decode_returns, decode_bytes}
use Rattle.sheet.specs.PowerOn.{fresh_record}

-- A call that is refused leaves every byte, and no call changes how many there are.
pub record Keeps (refused : Type 0) (before after : List ℕ) : Type 0 where
  pub size : length after ≡ length before
  pub kept : refused → after ≡ before

-- A success of so many bytes has them at the start, and leaves every byte after them.
pub record StreamLeft (stream before : List ℕ) (count : ℕ) (after : List ℕ) : Type 0 where
  pub room : count ≤ length before
  pub start : take count after ≡ stream
  pub rest : drop count after ≡ drop count before

-- A call for a buffer returns the count, or a number from 2^31 on where it is refused.
pub record BufferLeft (stream before : List ℕ) (returned : ℕ) (after : List ℕ) : Type 0 where
  pub refusal : Keeps (2147483648 ≤ returned) before after
  pub success : returned < 2147483648 → StreamLeft stream before returned after

-- A call on a record is refused with 28, and besides `step` with 20 and `pins` with 25.
abbrev pub StepRefused : List ℕ → ℕ → Type 0
StepRefused b sample = (step_returns b sample ≡ 28) ⊎ (step_returns b sample ≡ 20)

abbrev pub PinsRefused : List ℕ → List ℕ → Type 0
PinsRefused b out = (pins_returns b out ≡ 28) ⊎ (pins_returns b out ≡ 25)

-- Each call, whatever it is asked and lent.
pub record LeftSheet : Type 0 where
  pub write : (first : ℕ) (nibbles out : List ℕ)
      → BufferLeft (write_stream first nibbles) out (write_returns first nibbles out) (write_bytes first nibbles out)
  pub read : (first count : ℕ) (out : List ℕ) → BufferLeft (read_stream first count) out (read_returns first count out) (read_bytes first count out)
  pub commands : (part : ℕ) (codes out : List ℕ)
      → BufferLeft (command_stream codes) out (commands_returns part codes out) (commands_bytes part codes out)
  pub decode : (noted out : List ℕ) → BufferLeft (decoded noted) out (decode_returns noted out) (decode_bytes noted out)
  pub power_on : (part : ℕ) (memory bytes : List ℕ)
      → BufferLeft (fresh_record part memory) bytes (power_on_returns part memory bytes) (power_on_bytes part memory bytes)
  pub step : (b : List ℕ) (sample : ℕ) → Keeps (StepRefused b sample) b (step_bytes b sample)
  pub advance : (b : List ℕ) (n : ℕ) → Keeps (advance_returns b ≡ 28) b (advance_bytes b n)
  pub pins : (b out : List ℕ) → Keeps (PinsRefused b out) out (pins_bytes b out)
