-- RULES "Ticks": how many values each counter goes through. Assumes nothing.
use Rattle.std.specs.Prelude.{ℕ}
use Rattle.ground.specs.declared.Part.{Part}
use Rattle.ground.specs.declared.Part.TheVariants.{Ht, Gn}

-- p, the prescaler.
abbrev pub prescaler_size : ℕ
prescaler_size = 8

-- q, the toner.
abbrev pub toner_size : ℕ
toner_size = 16

-- d, the divider.
abbrev pub divider_size : ℕ
divider_size = 128

-- b, the time base.
abbrev pub base_size : ℕ
base_size = 256

-- w, the watchdog.
abbrev pub watchdog_size : ℕ
watchdog_size = 4

-- The scan's counter, by the part. The LCD clock is the system clock of 256 kHz divided by 1,024 in the HT and by 768 in the GN, of which
-- eight periods are a base tick: 1,024 / 8 and 768 / 8.
abbrev pub scan_size : Part → ℕ
scan_size Ht = 128
scan_size Gn = 96
