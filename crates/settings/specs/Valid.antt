-- RULES "State record and simulator", what is valid: the ranges of the settings. Assumes nothing.
use Rattle.std.specs.Prelude.{◌≤◌}
use Rattle.clock.specs.Valid.{CountersValid, ScanValid}
use Rattle.settings.specs.declared.Settings.{Settings}

-- The rate is one of the eight, the counters are below their sizes, and the scan is one of the part with these commons; every switch and
-- selection is one by its type.
abbrev pub SettingsValid : Settings → Type 0
SettingsValid s = (s.base.rate ≤ 7) × CountersValid s.counters × ScanValid s.part s.lcd.commons s.scan
