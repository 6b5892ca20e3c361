-- RULES "Ticks", its pins, and what the call `pins` returns and writes by RULES "State record and simulator". Assumes nothing.
use Rattle.std.specs.Prelude.{◌≡◌, Bool, true, not, ◌&&◌, ◌||◌, List, ℕ, ◌+◌, ◌*◌, ◌%◌, ◌≤◌, eqb, ltb, leb, length, drop}
use Rattle.ground.specs.Bits.{bit_at, bit_number}
use Rattle.pins.specs.Pins.{pins_shown}
use Rattle.state.specs.Record.{record_valid, chip_of}
use Rattle.simulator.specs.Simulator.{pins_returns, pins_bytes}
use Rattle.sheet.specs.Bytes.{byte, runs}

-- IRQ is low with its output on, byte 47, while the flag is the source, byte 50, and set, byte 51; or the time base is the source
-- and b, byte 55, is in its upper half.
abbrev pub irq_is_low : List ℕ → Bool
irq_is_low b = eqb (byte b 47) 1 && ((eqb (byte b 50) 2 && eqb (byte b 51) 1) || (eqb (byte b 50) 1 && leb 128 (byte b 55)))

-- A tone sounds while running with the tone on, byte 45. By q, byte 53, it is high half of each eight at 4k, of sixteen at 2k: byte 46.
abbrev pub sounds : List ℕ → Bool
sounds b = runs b && eqb (byte b 45) 1

abbrev pub tone_is_high : List ℕ → Bool
tone_is_high b = (eqb (byte b 46) 4 && leb 4 (byte b 53 % 8)) || (eqb (byte b 46) 2 && leb 8 (byte b 53))

-- The cell of SEG s and COM c shows while running with the LCD on, byte 42, if that common is in use, byte 44, and the memory has its
-- bit: byte s.
abbrev pub cell_shows : List ℕ → ℕ → ℕ → Bool
cell_shows b s c = runs b && eqb (byte b 42) 1 && ltb c (byte b 44) && bit_at c (byte b s)

-- IRQ low, BZ high, its partner the opposite, and DATA as byte 39 has it.
abbrev pub pins_number : List ℕ → ℕ
pins_number b =
    bit_number (irq_is_low b) + 2 * bit_number (sounds b && tone_is_high b) + 4 * bit_number (sounds b && not (tone_is_high b)) + 8 * byte b 39

-- What is returned; and what is left in the buffer: 32 nibbles, bit c of nibble s for the cell of SEG s and COM c, and the rest as
-- it was.
pub record PinsTold (b out : List ℕ) : Type 0 where
  pub returned : pins_returns b out ≡ pins_number b
  pub size : length (pins_bytes b out) ≡ length out
  pub nibbles : (s : ℕ) → s ≤ 31 → byte (pins_bytes b out) s ≤ 15
  pub cells : (s c : ℕ) → s ≤ 31 → c ≤ 3 → bit_at c (byte (pins_bytes b out) s) ≡ cell_shows b s c
  pub rest : drop 32 (pins_bytes b out) ≡ drop 32 out

-- The model's own pins, of the chip that the bytes say.
pub record PinsShown (b : List ℕ) : Type 0 where
  pub irq : (pins_shown (chip_of b)).irq ≡ irq_is_low b
  pub bz : (pins_shown (chip_of b)).bz ≡ (sounds b && tone_is_high b)
  pub partner : (pins_shown (chip_of b)).partner ≡ (sounds b && not (tone_is_high b))

-- So of every valid record and every buffer that has room.
pub record PinsSheet : Type 0 where
  pub calls : (b out : List ℕ) → record_valid b ≡ true → 32 ≤ length out → PinsTold b out
  pub model : (b : List ℕ) → record_valid b ≡ true → PinsShown b
