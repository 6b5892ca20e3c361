-- RULES "State record and simulator", bytes 32 to 39: the lines, a phase and DATA as bytes, which bytes are right, and what right
-- bytes say. Assumes nothing.
use Rattle.std.specs.Prelude.{ℕ, ◌+◌, ◌*◌, ◌/◌, ◌%◌, ◌^◌, Bool, true, false, cond, not, ◌&&◌, ◌||◌, List, [], ◌∷◌, ltb, leb, eqb, length, get_or, Option, Some, None}
use Rattle.ground.specs.Sizes.{addresses, record_length}
use Rattle.ground.specs.Codes.{read_by}
use Rattle.ground.specs.Outcomes.{left_from, written_as}
use Rattle.ground.specs.Written.{byte}
use Rattle.lines.specs.declared.Levels.{Levels}
use Rattle.lines.specs.Samples.{levels, levels_number}
use Rattle.phases.specs.declared.Frame.{Frame}
use Rattle.phases.specs.declared.Phase.{Phase}
use Rattle.phases.specs.declared.Phase.TheVariants.{Idle, Ident, ReadTo, WriteTo, Reading, Writing, Command, Dead}
use Rattle.phases.specs.declared.Line.{Line}
use Rattle.phases.specs.declared.Line.TheVariants.{Released, Driven}
use Rattle.phases.specs.Phases.{round, unfinished, address, phase_number, value_of, position_of, line_number}

-- Where a record has the frame's bytes: the lines first, then the phase, its unfinished bits with their value, its address and
-- its reading position, and DATA last.
abbrev pub frame_at : ℕ
frame_at = addresses

abbrev pub code_at : ℕ
code_at = frame_at + 1

abbrev pub count_at : ℕ
count_at = frame_at + 2

abbrev pub low_at : ℕ
low_at = frame_at + 3

abbrev pub high_at : ℕ
high_at = frame_at + 4

abbrev pub address_at : ℕ
address_at = frame_at + 5

abbrev pub position_at : ℕ
position_at = frame_at + 6

abbrev pub data_at : ℕ
data_at = frame_at + 7

-- The three as one value.
abbrev pub framed : Levels → Phase → Line → Frame
framed levels phase line = record { levels = levels; phase = phase; line = line }

-- ---- as bytes

-- The lines, the phase with what it carries, and DATA. The value of the unfinished bits has its low byte first.
abbrev pub frame_bytes : Levels → Phase → Line → List ℕ
frame_bytes levels phase line =
    levels_number levels ∷ phase_number phase ∷ unfinished phase ∷ value_of phase % 256 ∷ value_of phase / 256
    ∷ address phase ∷ position_of phase ∷ line_number line ∷ []

-- The frame's bytes over a buffer that holds a record; one that is too short stays as it was.
unfoldable pub frame_over : Levels → Phase → Line → List ℕ → List ℕ
frame_over levels phase line buffer = left_from frame_at (written_as 8 buffer) (frame_bytes levels phase line) buffer

-- ---- which bytes are right

-- Lines, address, position and DATA are in range, whatever the phase.
unfoldable pub in_range : ℕ → ℕ → ℕ → ℕ → Bool
in_range lines at position line = leb lines 15 && ltb at round && leb position 3 && leb line 2

-- Phase 0 exactly when CS is high.
unfoldable pub goes_with_cs : ℕ → ℕ → Bool
goes_with_cs lines code = cond (eqb (lines % 2) 1) (eqb code 0) (not (eqb code 0))

-- At most 2, 5, 5, 3, 8 unfinished bits in phases 1, 2, 3, 5, 6 and none in the others up to 7, of a value below 2^count.
abbrev pub most_bits : List ℕ
most_bits = 0 ∷ 2 ∷ 5 ∷ 5 ∷ 0 ∷ 3 ∷ 8 ∷ 0 ∷ []

unfoldable pub bits_right : ℕ → ℕ → ℕ → Bool
bits_right code count value = leb code 7 && leb count (get_or most_bits code 0) && ltb value (2 ^ count)

-- Address, position and DATA are zero outside phases 4 and 5.
unfoldable pub rest_right : ℕ → ℕ → ℕ → ℕ → Bool
rest_right code at position line = (eqb code 4 || eqb code 5) || (eqb at 0 && eqb position 0 && eqb line 0)

-- All in range, and they go together.
unfoldable pub frame_right : ℕ → ℕ → ℕ → ℕ → ℕ → ℕ → ℕ → Bool
frame_right lines code count value at position line =
    in_range lines at position line && goes_with_cs lines code && bits_right code count value && rest_right code at position line

-- ---- what right bytes say

-- The phase, byte 33, with the unfinished bits, the address and the reading position that it carries.
unfoldable pub phase_read : ℕ → ℕ → ℕ → ℕ → ℕ → Option Phase
phase_read code count value at position =
    read_by Some None phase_number
    (Idle ∷ Ident count value ∷ ReadTo count value ∷ WriteTo count value ∷ Reading at position ∷ Writing count value at position
    ∷ Command count value ∷ Dead ∷ [])
    code

-- The phase that was read; where there is none, that of no frame stands for it.
abbrev pub phase_in : Option Phase → Phase
phase_in (Some phase) = phase
phase_in None = Idle

-- DATA, byte 39.
unfoldable pub line_read : ℕ → Option Line
line_read code = read_by Some None line_number (Released ∷ Driven false ∷ Driven true ∷ []) code

-- What was read of DATA; released stands for none.
abbrev pub line_in : Option Line → Line
line_in (Some line) = line
line_in None = Released

-- ---- in a record

module _ (b : List ℕ) where
  abbrev pub value_in : ℕ
  value_in = byte b low_at + 256 * byte b high_at

  abbrev pub frame_fits : Bool
  frame_fits = frame_right (byte b frame_at) (byte b code_at) (byte b count_at) value_in (byte b address_at) (byte b position_at) (byte b data_at)

  abbrev pub phase_at : Option Phase
  phase_at = phase_read (byte b code_at) (byte b count_at) value_in (byte b address_at) (byte b position_at)

  abbrev pub levels_at : Levels
  levels_at = levels (byte b frame_at)

  abbrev pub line_at : Option Line
  line_at = line_read (byte b data_at)

  -- A list that is as long as a record and has right bytes there; and the frame in it.
  abbrev pub holds_frame : Bool
  holds_frame = eqb (length b) record_length && frame_fits

  unfoldable pub frame_read : Option Frame
  frame_read = cond holds_frame (Some (framed levels_at (phase_in phase_at) (line_in line_at))) None
