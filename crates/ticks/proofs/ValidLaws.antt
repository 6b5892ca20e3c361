-- Ticks keep valid settings valid. Assumes nothing.
use Prim.Native.Nat.{ℕ, zero, suc}
use Rattle.ground.proofs.ChoiceLaws.{either}
use Rattle.clock.specs.Ticks.{prescaled}
use Rattle.clock.proofs.ValidLaws.{counters_ticked_valid, scan_ticked_valid}
use Rattle.settings.specs.declared.Settings.{Settings}
use Rattle.settings.specs.Valid.{SettingsValid}
use Rattle.ticks.specs.Ticks.{running, ticked, advanced}

pub ticked_valid : (s : Settings) → SettingsValid s → SettingsValid (ticked s)
unfolding ticked
ticked_valid s v =
    either SettingsValid (running s) (
      v.0,
      counters_ticked_valid s.system.source s.base.on s.base.rate s.counters v.1,
      scan_ticked_valid s.part s.lcd.commons s.system.source (prescaled s.system.source s.counters.prescaler) s.scan v.2,
    )
    v

pub advanced_valid : (n : ℕ) (s : Settings) → SettingsValid s → SettingsValid (advanced n s)
unfolding advanced
advanced_valid zero s v = v
advanced_valid (suc n) s v = advanced_valid n (ticked s) (ticked_valid s v)
