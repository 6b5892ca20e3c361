-- A valid record says a valid chip; a valid chip is written as a valid record, and read again it is the same chip.
-- Assumes nothing.
use mathlib.Core.Path.{◌≡◌, ◌∙◌, ap}
use mathlib.Core.Bool.{true}
use mathlib.Core.List.{List}
use Prim.Native.Nat.{ℕ}
use native.Mathlib.Omega.{arith}
use lib.ListN.{length}
use lib.Seq.{length-take-le}
use borrow.Author.Tests.{eq-eqb}
use Rattle.ground.specs.Sizes.{addresses, record_length}
use Rattle.ground.specs.Written.{byte}
use Rattle.ground.proofs.ChoiceLaws.{and_both}
use Rattle.phases.specs.Frame.{frame_at, data_at, value_in}
use Rattle.phases.proofs.FrameLaws.{fits_has, frame_valid, levels_read, phase_read_lem, line_read_lem, frame_fits_lem}
use Rattle.settings.specs.Bytes.{settings_right, settings_of}
use Rattle.settings.proofs.BytesLaws.{settings_has, settings_valid, settings_read_lem, settings_right_lem}
use Rattle.chip.specs.declared.Chip.{Chip}
use Rattle.chip.specs.Valid.{Valid}
use Rattle.state.specs.Record.{port_bytes, memory_fits, record_valid, record_of, tail_of, chip_of}
use Rattle.state.proofs.BytesLaws.{memory_bytes, frame_bytes_lem, port_length, record_length_lem, record_parts}
use Rattle.state.proofs.MemoryLaws.{up_to_nibbles, up_to_memory}
use Rattle.state.proofs.TripLaws.{valid_has}

pub valid_chip : (b : List ℕ) → record_valid b ≡ true → Valid (chip_of b)
unfolding chip_of
valid_chip b e =
    let has = valid_has b e in
    record {
      port =
          record {
            size = length-take-le addresses b (omega (arith, has.long));
            nibbles = up_to_nibbles addresses b (omega (arith, has.long)) has.memory;
            frame =
                frame_valid (byte b frame_at) (byte b 34) (value_in b) (byte b 37) (byte b 38) (byte b data_at) (byte b 33) (fits_has b has.frame);
          };
      settings = settings_valid b (settings_has b has.long has.settings);
    }

module _ (c : Chip) (size : length c.port.memory ≡ addresses) where
  same_settings : settings_of (record_of c) ≡ c.settings
  same_settings =
      ap (λ (l : List ℕ). settings_of l) (record_parts c) ∙ settings_read_lem c.settings (port_bytes c.port) (port_length c.port size)

  -- A chip with a memory of the right length, written and read, is the same chip.
  pub chip_again : chip_of (record_of c) ≡ c
  unfolding chip_of
  chip_again =
      λ i.
      record {
        port =
            record {
              memory = memory_bytes c size i;
              levels = levels_read (record_of c) c.port.levels c.port.phase c.port.line (frame_bytes_lem c size) i;
              phase = phase_read_lem (record_of c) c.port.levels c.port.phase c.port.line (frame_bytes_lem c size) i;
              line = line_read_lem (record_of c) c.port.levels c.port.phase c.port.line (frame_bytes_lem c size) i;
            };
        settings = same_settings i;
      }

memory_fits_lem : (c : Chip) → Valid c → memory_fits (record_of c) ≡ true
unfolding record_of
memory_fits_lem c v = up_to_memory addresses c.port.memory (tail_of c) v.port.size v.port.nibbles

-- A valid chip is written as a valid record.
pub chip_valid : (c : Chip) → Valid c → record_valid (record_of c) ≡ true
unfolding record_valid
chip_valid c v =
    let size = v.port.size in
    and_both (and_both (and_both (eq-eqb (length (record_of c)) record_length (record_length_lem c size)) (memory_fits_lem c v))
    (frame_fits_lem (record_of c) c.port.levels c.port.phase c.port.line (frame_bytes_lem c size) v.port.frame))
    (ap settings_right (record_parts c) ∙ settings_right_lem c.settings (port_bytes c.port) (port_length c.port size) v.settings)
