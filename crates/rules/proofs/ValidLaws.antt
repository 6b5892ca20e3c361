-- Power-on gives valid settings, and commands keep them so. Assumes nothing.
use native.Mathlib.Omega.{arith}
use Rattle.clock.specs.declared.Source.{Source}
use Rattle.clock.specs.declared.Source.TheVariants.{Xtal, Rc, Ext}
use Rattle.clock.specs.declared.Timer.{Timer}
use Rattle.clock.specs.Valid.{TimerValid, CountersValid}
use Rattle.ground.specs.declared.Part.{Part}
use Rattle.clock.proofs.ValidLaws.{scan_start_valid, timer_cleared_valid, watchdog_cleared_valid}
use Rattle.commands.specs.declared.Commons.TheVariants.{Two}
use Rattle.commands.specs.declared.Command.{Command}
use Rattle.commands.specs.declared.Command.TheVariants.{SysDis, SysEn, LcdOff, LcdOn, TimerDis, WdtDis, TimerEn, WdtEn, ToneOff, ToneOn, ClrTimer, ClrWdt, Xtal32k, Rc256k, Ext256k, BiasCom, Tone4k, Tone2k, IrqDis, IrqEn, Rate, Test, Normal}
use Rattle.commands.specs.Commands.{Proper}
use Rattle.settings.specs.declared.Settings.{Settings}
use Rattle.rules.specs.Effects.{system_off, effect}
use Rattle.settings.specs.Settings.{power_on}
use Rattle.settings.specs.Valid.{SettingsValid}

pub power_on_valid : (part : Part) → SettingsValid (power_on part)
power_on_valid part = (
  omega arith,
  record {
    prescaler = omega arith;
    toner = omega arith;
    timer = record { divider = omega arith; base = omega arith; watchdog = omega arith };
  },
  scan_start_valid part Two,
)

system_off_valid : (source : Source) (s : Settings) → SettingsValid s → SettingsValid (system_off source s)
system_off_valid Xtal s v = v
system_off_valid Rc s v = v
system_off_valid Ext s v = v

-- the counters with another timer
with_timer_lem : (s : Settings) → SettingsValid s → {t : Timer} → TimerValid t
    → CountersValid (record { prescaler = s.counters.prescaler; toner = s.counters.toner; timer = t })
with_timer_lem s v w = record { prescaler = v.1.prescaler; toner = v.1.toner; timer = w }

pub effect_valid : (command : Command) → Proper command → (s : Settings) → SettingsValid s → SettingsValid (effect command s)
unfolding effect
effect_valid SysDis p s v = system_off_valid s.system.source s v
effect_valid SysEn p s v = v
effect_valid LcdOff p s v = v
effect_valid LcdOn p s v = v
effect_valid TimerDis p s v = v
effect_valid WdtDis p s v = v
effect_valid TimerEn p s v = v
effect_valid WdtEn p s v = v
effect_valid ToneOff p s v = v
effect_valid ToneOn p s v = v
effect_valid ClrTimer p s v = (v.0, with_timer_lem s v (timer_cleared_valid s.counters.timer v.1.timer), v.2)
effect_valid ClrWdt p s v = (v.0, with_timer_lem s v (watchdog_cleared_valid s.counters.timer), v.2)
effect_valid Xtal32k p s v = v
effect_valid Rc256k p s v = v
effect_valid Ext256k p s v = v
effect_valid (BiasCom bias commons) p s v = (v.0, v.1, scan_start_valid s.part commons)
effect_valid Tone4k p s v = v
effect_valid Tone2k p s v = v
effect_valid IrqDis p s v =
    let timer = v.1.timer in
    (v.0, with_timer_lem s v (record { divider = timer.divider; base = timer.base; watchdog = timer.watchdog }), v.2)
effect_valid IrqEn p s v = v
effect_valid (Rate r) p s v = (omega arith, v.1, v.2)
effect_valid Test p s v = v
effect_valid Normal p s v = v
