-- RULES "Commands", its power-on; and the settings with one of them changed and all others kept. Assumes nothing.
use Rattle.std.specs.Prelude.{ℕ, Bool, false}
use Rattle.ground.specs.declared.Part.{Part}
use Rattle.clock.specs.declared.Source.{Source}
use Rattle.clock.specs.declared.Source.TheVariants.{Rc}
use Rattle.clock.specs.declared.Watchdog.{Watchdog}
use Rattle.clock.specs.declared.Timer.{Timer}
use Rattle.clock.specs.declared.Scan.{Scan}
use Rattle.clock.specs.declared.Counters.{Counters}
use Rattle.clock.specs.Ticks.{scan_start}
use Rattle.commands.specs.declared.Bias.{Bias}
use Rattle.commands.specs.declared.Bias.TheVariants.{Half}
use Rattle.commands.specs.declared.Commons.{Commons}
use Rattle.commands.specs.declared.Commons.TheVariants.{Two}
use Rattle.settings.specs.declared.System.{System}
use Rattle.settings.specs.declared.Lcd.{Lcd}
use Rattle.settings.specs.declared.Pitch.{Pitch}
use Rattle.settings.specs.declared.Pitch.TheVariants.{FourK}
use Rattle.settings.specs.declared.Tone.{Tone}
use Rattle.settings.specs.declared.IrqSource.{IrqSource}
use Rattle.settings.specs.declared.IrqSource.TheVariants.{Neither}
use Rattle.settings.specs.declared.Irq.{Irq}
use Rattle.settings.specs.declared.Base.{Base}
use Rattle.settings.specs.declared.Settings.{Settings}

abbrev with_system : System → Settings → Settings
with_system x s = record { system = x; lcd = s.lcd; tone = s.tone; irq = s.irq; base = s.base; counters = s.counters; test = s.test; scan = s.scan; part = s.part }

abbrev with_lcd : Lcd → Settings → Settings
with_lcd x s = record { system = s.system; lcd = x; tone = s.tone; irq = s.irq; base = s.base; counters = s.counters; test = s.test; scan = s.scan; part = s.part }

abbrev with_tone : Tone → Settings → Settings
with_tone x s = record { system = s.system; lcd = s.lcd; tone = x; irq = s.irq; base = s.base; counters = s.counters; test = s.test; scan = s.scan; part = s.part }

abbrev with_irq : Irq → Settings → Settings
with_irq x s = record { system = s.system; lcd = s.lcd; tone = s.tone; irq = x; base = s.base; counters = s.counters; test = s.test; scan = s.scan; part = s.part }

abbrev with_base : Base → Settings → Settings
with_base x s = record { system = s.system; lcd = s.lcd; tone = s.tone; irq = s.irq; base = x; counters = s.counters; test = s.test; scan = s.scan; part = s.part }

-- The system switch, and the clock's source.
abbrev pub system_to : Bool → Settings → Settings
system_to on s = with_system (record { on = on; source = s.system.source }) s

abbrev pub source_to : Source → Settings → Settings
source_to source s = with_system (record { on = s.system.on; source = source }) s

-- The LCD switch; its bias and its commons.
abbrev pub lcd_to : Bool → Settings → Settings
lcd_to on s = with_lcd (record { on = on; bias = s.lcd.bias; commons = s.lcd.commons }) s

abbrev pub display_to : Bias → Commons → Settings → Settings
display_to bias commons s = with_lcd (record { on = s.lcd.on; bias = bias; commons = commons }) s

-- The tone switch, and its frequency.
abbrev pub tone_to : Bool → Settings → Settings
tone_to on s = with_tone (record { on = on; pitch = s.tone.pitch }) s

abbrev pub pitch_to : Pitch → Settings → Settings
pitch_to pitch s = with_tone (record { on = s.tone.on; pitch = pitch }) s

-- The IRQ output's switch, and its source.
abbrev pub irq_to : Bool → Settings → Settings
irq_to on s = with_irq (record { on = on; source = s.irq.source }) s

abbrev pub irq_source_to : IrqSource → Settings → Settings
irq_source_to source s = with_irq (record { on = s.irq.on; source = source }) s

-- The time base's switch, and its rate.
abbrev pub time_base_to : Bool → Settings → Settings
time_base_to on s = with_base (record { on = on; rate = s.base.rate }) s

abbrev pub rate_to : ℕ → Settings → Settings
rate_to rate s = with_base (record { on = s.base.on; rate = rate }) s

-- The counters, all of them or only those that run while the time base is on.
abbrev pub counters_to : Counters → Settings → Settings
counters_to x s = record { system = s.system; lcd = s.lcd; tone = s.tone; irq = s.irq; base = s.base; counters = x; test = s.test; scan = s.scan; part = s.part }

abbrev pub timer_to : Timer → Settings → Settings
timer_to timer s = counters_to (record { prescaler = s.counters.prescaler; toner = s.counters.toner; timer = timer }) s

-- The counters, one at a time.
abbrev pub prescaler_to : ℕ → Counters → Counters
prescaler_to n c = record { prescaler = record { count = n }; toner = c.toner; timer = c.timer }

abbrev pub toner_to : ℕ → Counters → Counters
toner_to n c = record { prescaler = c.prescaler; toner = record { count = n }; timer = c.timer }

abbrev with_timer : Timer → Counters → Counters
with_timer x c = record { prescaler = c.prescaler; toner = c.toner; timer = x }

abbrev pub divider_to : ℕ → Counters → Counters
divider_to n c = with_timer (record { divider = record { count = n }; base = c.timer.base; watchdog = c.timer.watchdog }) c

abbrev pub base_to : ℕ → Counters → Counters
base_to n c = with_timer (record { divider = c.timer.divider; base = record { count = n }; watchdog = c.timer.watchdog }) c

abbrev with_watchdog : Watchdog → Counters → Counters
with_watchdog x c = with_timer (record { divider = c.timer.divider; base = c.timer.base; watchdog = x }) c

abbrev pub watchdog_to : ℕ → Counters → Counters
watchdog_to n c = with_watchdog (record { count = n; flag = c.timer.watchdog.flag }) c

abbrev pub flag_to : Bool → Counters → Counters
flag_to flag c = with_watchdog (record { count = c.timer.watchdog.count; flag = flag }) c

-- The test mark.
abbrev pub test_to : Bool → Settings → Settings
test_to x s = record { system = s.system; lcd = s.lcd; tone = s.tone; irq = s.irq; base = s.base; counters = s.counters; test = x; scan = s.scan; part = s.part }

-- The scan, and either of its two.
abbrev pub scan_to : Scan → Settings → Settings
scan_to x s =
    record { system = s.system; lcd = s.lcd; tone = s.tone; irq = s.irq; base = s.base; counters = s.counters; test = s.test; scan = x; part = s.part }

abbrev pub scan_count_to : ℕ → Settings → Settings
scan_count_to n s = scan_to (record { count = n; common = s.scan.common }) s

abbrev pub common_to : ℕ → Settings → Settings
common_to n s = scan_to (record { count = s.scan.count; common = n }) s

-- The part, which is set at power-on and where a record is read.
abbrev pub part_to : Part → Settings → Settings
part_to x s = record { system = s.system; lcd = s.lcd; tone = s.tone; irq = s.irq; base = s.base; counters = s.counters; test = s.test; scan = s.scan; part = x }

-- RULES "Commands", power-on of a part: all switches off, RC, F128, no IRQ source, all counters 0; the house adds bias 1/2, 2 commons and
-- 4 kHz.
abbrev pub power_on : Part → Settings
power_on part =
    record {
      system = record { on = false; source = Rc };
      lcd = record { on = false; bias = Half; commons = Two };
      tone = record { on = false; pitch = FourK };
      irq = record { on = false; source = Neither };
      base = record { on = false; rate = 7 };
      counters =
          record {
            prescaler = record { count = 0 };
            toner = record { count = 0 };
            timer = record { divider = record { count = 0 }; base = record { count = 0 }; watchdog = record { count = 0; flag = false } };
          };
      test = false;
      scan = scan_start;
      part = part;
    }
