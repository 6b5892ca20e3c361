-- RULES "State record and simulator": which chips are valid. Assumes nothing.
use Rattle.settings.specs.Valid.{SettingsValid}
use Rattle.port.specs.Valid.{PortValid}
use Rattle.chip.specs.declared.Chip.{Chip}

-- A chip: a valid port, and settings within their ranges.
pub record Valid (chip : Chip) : Type 0 where
  pub port : PortValid chip.port
  pub settings : SettingsValid chip.settings
