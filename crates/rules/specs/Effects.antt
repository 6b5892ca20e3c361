-- RULES "Commands", its effects. Assumes nothing.
use Rattle.std.specs.Prelude.{true, false}
use Rattle.clock.specs.declared.Source.{Source}
use Rattle.clock.specs.declared.Source.TheVariants.{Xtal, Rc, Ext}
use Rattle.commands.specs.declared.Bias.{Bias}
use Rattle.commands.specs.declared.Commons.{Commons}
use Rattle.commands.specs.declared.Command.{Command}
use Rattle.commands.specs.declared.Command.TheVariants.{SysDis, SysEn, LcdOff, LcdOn, TimerDis, WdtDis, TimerEn, WdtEn, ToneOff, ToneOn, ClrTimer, ClrWdt, Xtal32k, Rc256k, Ext256k, BiasCom, Tone4k, Tone2k, IrqDis, IrqEn, Rate, Test, Normal}
use Rattle.settings.specs.declared.Pitch.TheVariants.{FourK, TwoK}
use Rattle.settings.specs.declared.IrqSource.{IrqSource}
use Rattle.settings.specs.declared.IrqSource.TheVariants.{Neither, TimeBase, Flag}
use Rattle.settings.specs.declared.Settings.{Settings}
use Rattle.clock.specs.Ticks.{scan_start, timer_cleared, watchdog_cleared}
use Rattle.settings.specs.Settings.{system_to, source_to, lcd_to, display_to, tone_to, pitch_to, irq_to, irq_source_to, time_base_to, rate_to, counters_to, timer_to, scan_to, flag_to, test_to}

-- SYS DIS does nothing at EXT; otherwise the system and the LCD go off.
abbrev pub system_off : Source → Settings → Settings
system_off Xtal s = system_to false (lcd_to false s)
system_off Rc s = system_to false (lcd_to false s)
system_off Ext s = s

-- TIMER DIS and WDT DIS: an IRQ source that was the time base, or the flag, becomes none.
abbrev pub without_time_base : IrqSource → IrqSource
without_time_base Neither = Neither
without_time_base TimeBase = Neither
without_time_base Flag = Flag

abbrev pub without_flag : IrqSource → IrqSource
without_flag Neither = Neither
without_flag TimeBase = TimeBase
without_flag Flag = Neither

abbrev pub timer_off : Settings → Settings
timer_off s = irq_source_to (without_time_base s.irq.source) s

-- WDT DIS turns the time base off besides.
abbrev pub watchdog_off : Settings → Settings
watchdog_off s = time_base_to false (irq_source_to (without_flag s.irq.source) s)

-- IRQ DIS turns the output off and clears the time-out flag. w stands, and sets the flag again when it next returns to 0.
abbrev pub irq_off : Settings → Settings
irq_off s = irq_to false (counters_to (flag_to false s.counters) s)

-- A command that sets bias and commons has the scan begin anew with the first common, also where the commons stay as they were.
abbrev pub glass_to : Bias → Commons → Settings → Settings
glass_to bias commons s = display_to bias commons (scan_to scan_start s)

-- What each command does to the settings.
unfoldable pub effect : Command → Settings → Settings
effect SysDis s = system_off s.system.source s
effect SysEn s = system_to true s
effect LcdOff s = lcd_to false s
effect LcdOn s = lcd_to true s
effect TimerDis s = timer_off s
effect WdtDis s = watchdog_off s
effect TimerEn s = time_base_to true (irq_source_to TimeBase s)
effect WdtEn s = time_base_to true (irq_source_to Flag s)
effect ToneOff s = tone_to false s
effect ToneOn s = tone_to true s
effect ClrTimer s = timer_to (timer_cleared s.counters.timer) s
effect ClrWdt s = timer_to (watchdog_cleared s.counters.timer) s
effect Xtal32k s = source_to Xtal s
effect Rc256k s = source_to Rc s
effect Ext256k s = source_to Ext s
effect (BiasCom bias commons) s = glass_to bias commons s
effect Tone4k s = pitch_to FourK s
effect Tone2k s = pitch_to TwoK s
effect IrqDis s = irq_off s
effect IrqEn s = irq_to true s
effect (Rate r) s = rate_to r s
effect Test s = test_to true s
effect Normal s = test_to false s
