-- RULES "State record and simulator", what is valid: the ranges of the counters. Assumes nothing.
use Rattle.std.specs.Prelude.{◌<◌}
use Rattle.ground.specs.declared.Part.{Part}
use Rattle.commands.specs.declared.Commons.{Commons}
use Rattle.commands.specs.Numbers.{commons_number}
use Rattle.clock.specs.Sizes.{prescaler_size, toner_size, divider_size, base_size, watchdog_size, scan_size}
use Rattle.clock.specs.declared.Scan.{Scan}
use Rattle.clock.specs.declared.Timer.{Timer}
use Rattle.clock.specs.declared.Counters.{Counters}

-- d, b and w stay below their sizes.
pub record TimerValid (t : Timer) : Type 0 where
  pub divider : t.divider.count < divider_size
  pub base : t.base.count < base_size
  pub watchdog : t.watchdog.count < watchdog_size

-- p and q stay below their sizes too.
pub record CountersValid (c : Counters) : Type 0 where
  pub prescaler : c.prescaler.count < prescaler_size
  pub toner : c.toner.count < toner_size
  pub timer : TimerValid c.timer

-- The scan's counter stays below its size in the part, and the common scanned is one of those in use.
pub record ScanValid (part : Part) (commons : Commons) (s : Scan) : Type 0 where
  pub count : s.count < scan_size part
  pub common : s.common < commons_number commons
