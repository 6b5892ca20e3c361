-- RULES "Ticks": what one tick of the system clock, and n of them, do to the settings. Assumes nothing.
use Rattle.std.specs.Prelude.{ℕ, zero, suc, Bool, true, false, cond, ◌||◌}
use Rattle.clock.specs.declared.Source.{Source}
use Rattle.clock.specs.declared.Source.TheVariants.{Xtal, Rc, Ext}
use Rattle.clock.specs.Ticks.{prescaled, counters_ticked, scan_ticked}
use Rattle.settings.specs.declared.Settings.{Settings}
use Rattle.settings.specs.Settings.{counters_to, scan_to}

-- Running: the system is on, or the clock comes from EXT.
abbrev pub is_ext : Source → Bool
is_ext Xtal = false
is_ext Rc = false
is_ext Ext = true

unfoldable pub running : Settings → Bool
running s = s.system.on || is_ext s.system.source

-- A tick: while running it moves the counters and the scan, and nothing else; otherwise nothing.
unfoldable pub ticked : Settings → Settings
ticked s =
    let source = s.system.source in
    cond (running s)
    (scan_to (scan_ticked source (prescaled source s.counters.prescaler) s.part s.lcd.commons s.scan)
    (counters_to (counters_ticked source s.base.on s.base.rate s.counters) s))
    s

-- Advancing by n ticks is n single ticks, one after the other.
unfoldable pub advanced : ℕ → Settings → Settings
advanced zero s = s
advanced (suc n) s = advanced n (ticked s)
