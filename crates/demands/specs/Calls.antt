-- RULES "State record and simulator": what a host in C does, which has no chip but the 64 bytes of a record and calls `step` and
-- `advance` on them. Assumes nothing.
use Rattle.std.specs.Prelude.{◌≡◌, true, cond, not, ◌&&◌, List, [], ◌∷◌, ◌++◌, ℕ, zero, suc, eqb, replicate}
use Rattle.ground.specs.Bits.{bit_at}
use Rattle.ground.specs.Written.{byte}
use Rattle.phases.specs.Frame.{frame_at, data_at}
use Rattle.state.specs.Record.{record_valid}
use Rattle.simulator.specs.Simulator.{step_returns, step_bytes, advance_bytes}
use Rattle.demands.specs.Events.{Event, sample, tick, samples, ticks}

-- A call with the number that it is given: a sample, or how many ticks.
pub data Call : Type 0 where
  step : ℕ → Call
  advance : ℕ → Call

-- The bytes after a call, and after some.
abbrev pub called : List ℕ → Call → List ℕ
called bytes (step s) = step_bytes bytes s
called bytes (advance n) = advance_bytes bytes n

abbrev pub after_calls : List ℕ → List Call → List ℕ
after_calls bytes [] = bytes
after_calls bytes (call ∷ calls) = after_calls (called bytes call) calls

-- The events that they are, an `advance` so many ticks; the samples sent by them, and how many ticks passed.
abbrev pub events_of : List Call → List Event
events_of [] = []
events_of (step s ∷ calls) = sample s ∷ events_of calls
events_of (advance n ∷ calls) = replicate n tick ++ events_of calls

abbrev pub sent : List Call → List ℕ
sent calls = samples (events_of calls)

abbrev pub passed : List Call → ℕ
passed calls = ticks (events_of calls)

-- What the calls of `step` return.
abbrev pub returns : List ℕ → List Call → List ℕ
returns bytes [] = []
returns bytes (step s ∷ calls) = step_returns bytes s ∷ returns (called bytes (step s)) calls
returns bytes (advance n ∷ calls) = returns (called bytes (advance n)) calls

-- RULES "Driver streams": what the host notes where a 14 raises RD, by byte 32 before it and byte 39 after it. DATA that is not
-- driven is noted as 2, which no bit is.
abbrev pub data_noted : ℕ → ℕ
data_noted zero = 2
data_noted (suc zero) = 0
data_noted (suc (suc code)) = 1

abbrev pub noted : List ℕ → List Call → List ℕ
noted bytes [] = []
noted bytes (step s ∷ calls) =
    let next = called bytes (step s) in
    cond (not (bit_at 2 (byte bytes frame_at)) && eqb s 14) (data_noted (byte next data_at) ∷ noted next calls) (noted next calls)
noted bytes (advance n ∷ calls) = noted (called bytes (advance n)) calls

-- A valid record stays valid, whatever is called.
abbrev pub CallsKeepValid : Type 0
CallsKeepValid = (bytes : List ℕ) (calls : List Call) → record_valid bytes ≡ true → record_valid (after_calls bytes calls) ≡ true
