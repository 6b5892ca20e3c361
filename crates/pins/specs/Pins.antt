-- RULES "Ticks", its pins: IRQ, BZ and its partner, whether a cell shows, and all that a chip shows. Assumes nothing.
use Rattle.std.specs.Prelude.{ℕ, ◌+◌, ◌*◌, ◌%◌, Bool, false, not, ◌&&◌, map, leb, ltb}
use Rattle.clock.specs.declared.Timer.{Timer}
use Rattle.settings.specs.declared.IrqSource.{IrqSource}
use Rattle.settings.specs.declared.IrqSource.TheVariants.{Neither, TimeBase, Flag}
use Rattle.settings.specs.declared.Pitch.{Pitch}
use Rattle.settings.specs.declared.Pitch.TheVariants.{FourK, TwoK}
use Rattle.settings.specs.declared.Settings.{Settings}
use Rattle.ground.specs.Bits.{bit_number, bit_at}
use Rattle.commands.specs.Numbers.{commons_number}
use Rattle.ticks.specs.Ticks.{running}
use Rattle.chip.specs.declared.Chip.{Chip}
use Rattle.pins.specs.declared.Pins.{Pins}

-- A source asks for IRQ: the time base while b is 128 or more, the flag while it is set.
abbrev pub asserted : IrqSource → Timer → Bool
asserted Neither t = false
asserted TimeBase t = leb 128 t.base.count
asserted Flag t = t.watchdog.flag

-- IRQ is low while its output is switched on and its source asks for it; otherwise it floats.
unfoldable pub irq_low : Settings → Bool
irq_low s = s.irq.on && asserted s.irq.source s.counters.timer

-- The tone's level by q: at 4 kHz the upper half of each eight, at 2 kHz of sixteen.
abbrev pub wave : Pitch → ℕ → Bool
wave FourK q = leb 4 (q % 8)
wave TwoK q = leb 8 q

-- There is a tone while the chip is running with the tone on.
unfoldable pub sounding : Settings → Bool
sounding s = running s && s.tone.on

-- BZ follows the tone and its partner is its opposite; with no tone both are low.
unfoldable pub bz_high : Settings → Bool
bz_high s = sounding s && wave s.tone.pitch s.counters.toner.count

unfoldable pub partner_high : Settings → Bool
partner_high s = sounding s && not (wave s.tone.pitch s.counters.toner.count)

-- A cell of common c whose bit in the memory is `bit` shows if the chip is running, the LCD is on, c is in use and the
-- bit is 1.
unfoldable pub shows : Settings → ℕ → Bool → Bool
shows s c bit = running s && s.lcd.on && ltb c (commons_number s.lcd.commons) && bit

-- The cells of one address that show, as a nibble: bit c is common c's.
abbrev pub shown_bit : Settings → ℕ → ℕ → ℕ
shown_bit s nibble c = bit_number (shows s c (bit_at c nibble))

unfoldable pub shown_nibble : Settings → ℕ → ℕ
shown_nibble s nibble = shown_bit s nibble 0 + 2 * shown_bit s nibble 1 + 4 * shown_bit s nibble 2 + 8 * shown_bit s nibble 3

-- The pins of a chip. By the Chinese sheet's map nibble s has the cells of SEG s, bit c that of COM c.
unfoldable pub pins_shown : Chip → Pins
pins_shown chip =
    record {
      irq = irq_low chip.settings;
      bz = bz_high chip.settings;
      partner = partner_high chip.settings;
      line = chip.port.line;
      cells = map (shown_nibble chip.settings) chip.port.memory;
    }
