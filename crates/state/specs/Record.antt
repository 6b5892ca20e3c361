-- RULES "State record and simulator": the 64 bytes of a chip, which lists of bytes are valid, and the chip that they say.
-- Assumes nothing.
use Rattle.std.specs.Prelude.{ℕ, Bool, ◌&&◌, List, ◌++◌, eqb, length, take, replicate}
use Rattle.ground.specs.Sizes.{addresses, record_length}
use Rattle.ground.specs.Ranges.{up_to}
use Rattle.phases.specs.Frame.{frame_bytes, frame_fits, levels_at, phase_at, phase_in, line_at, line_in}
use Rattle.settings.specs.Bytes.{settings_bytes, settings_right, settings_of}
use Rattle.port.specs.declared.Port.{Port}
use Rattle.chip.specs.declared.Chip.{Chip}

-- ---- a chip as bytes

-- Bytes 32 to 39, of a port.
abbrev pub port_frame : Port → List ℕ
port_frame port = frame_bytes port.levels port.phase port.line

-- Bytes 0 to 39.
abbrev pub port_bytes : Port → List ℕ
port_bytes port = port.memory ++ port_frame port

-- All after the memory.
unfoldable pub tail_of : Chip → List ℕ
tail_of chip = port_frame chip.port ++ settings_bytes chip.settings

unfoldable pub record_of : Chip → List ℕ
record_of chip = chip.port.memory ++ tail_of chip

-- ---- which bytes are valid

-- The memory's are nibbles.
abbrev pub memory_fits : List ℕ → Bool
memory_fits b = up_to b (replicate addresses 15)

-- The length of a record, nibbles, a frame and settings.
unfoldable pub record_valid : List ℕ → Bool
record_valid b = eqb (length b) record_length && memory_fits b && frame_fits b && settings_right b

-- ---- the chip that valid bytes say

unfoldable pub chip_of : List ℕ → Chip
chip_of b =
    record {
      port =
          record {
            memory = take addresses b;
            levels = levels_at b;
            phase = phase_in (phase_at b);
            line = line_in (line_at b);
          };
      settings = settings_of b;
    }
