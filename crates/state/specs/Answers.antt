-- RULES "State record and simulator" and its refusals in "Driver streams": what reading and writing a record answer.
-- Assumes nothing.
use Rattle.std.specs.Prelude.{ℕ, cond, List, Option, Some, None, Result, Ok, Err}
use Rattle.ground.specs.Sizes.{record_length}
use Rattle.ground.specs.declared.Refusal.{Refusal}
use Rattle.ground.specs.declared.Refusal.TheVariants.{Malformed}
use Rattle.ground.specs.Refusals.{refusal_number}
use Rattle.ground.specs.Outcomes.{left, written_as}
use Rattle.settings.specs.declared.Settings.{Settings}
use Rattle.settings.specs.Bytes.{settings_at, settings_of}
use Rattle.port.specs.declared.Port.{Port}
use Rattle.chip.specs.declared.Chip.{Chip}
use Rattle.state.specs.Record.{port_bytes, record_valid, record_of, chip_of}

-- The number of an answer: 0 for a valid record, else the refusal's.
abbrev pub verdict_number : Result Chip Refusal → ℕ
verdict_number (Ok chip) = 0
verdict_number (Err why) = refusal_number why

-- 28: a record that is not valid has no settings.
unfoldable pub settings_in : List ℕ → Option Settings
settings_in b = cond (record_valid b) (Some (settings_of b)) None

-- 28: nor does it say a chip.
unfoldable pub recalled_from : List ℕ → Result Chip Refusal
recalled_from b = cond (record_valid b) (Ok (chip_of b)) (Err Malformed)

-- A chip's bytes over the start of a buffer; one that is too short stays as it was.
unfoldable pub written_over : Chip → List ℕ → List ℕ
written_over chip buffer = left (written_as record_length buffer) (record_of chip) buffer

-- The port's bytes alone, those before the settings', over a buffer that holds a record, alike.
unfoldable pub port_over : Port → List ℕ → List ℕ
port_over port buffer = left (written_as settings_at buffer) (port_bytes port) buffer
