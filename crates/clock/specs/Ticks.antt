-- RULES "Ticks", its counters: what a tick of a running clock does to them; and what the clearing commands do.
-- Assumes nothing.
use Rattle.std.specs.Prelude.{ℕ, ◌+◌, ◌-◌, ◌%◌, ◌^◌, Bool, true, false, cond, ◌||◌, eqb}
use Rattle.ground.specs.declared.Part.{Part}
use Rattle.commands.specs.declared.Commons.{Commons}
use Rattle.commands.specs.Numbers.{commons_number}
use Rattle.clock.specs.Sizes.{prescaler_size, toner_size, divider_size, base_size, watchdog_size, scan_size}
use Rattle.clock.specs.declared.Source.{Source}
use Rattle.clock.specs.declared.Source.TheVariants.{Xtal, Rc, Ext}
use Rattle.clock.specs.Counters.{Prescaler, Toner, Divider, BaseCounter}
use Rattle.clock.specs.declared.Watchdog.{Watchdog}
use Rattle.clock.specs.declared.Timer.{Timer}
use Rattle.clock.specs.declared.Scan.{Scan}
use Rattle.clock.specs.declared.Counters.{Counters}

-- Each counter steps modulo its own size.
abbrev pub prescaler_stepped : Prescaler → Prescaler
prescaler_stepped p = record { count = (p.count + 1) % prescaler_size }

abbrev pub toner_stepped : Toner → Toner
toner_stepped q = record { count = (q.count + 1) % toner_size }

abbrev pub divider_stepped : Divider → Divider
divider_stepped d = record { count = (d.count + 1) % divider_size }

abbrev pub base_stepped : BaseCounter → BaseCounter
base_stepped b = record { count = (b.count + 1) % base_size }

-- A full round of w sets the flag, which then stays.
abbrev pub watchdog_stepped : Watchdog → Watchdog
watchdog_stepped w = record { count = (w.count + 1) % watchdog_size; flag = eqb ((w.count + 1) % watchdog_size) 0 || w.flag }

-- The rate's turn: 2^(7-r) divides d.
unfoldable pub due : ℕ → ℕ → Bool
due rate d = eqb (d % 2 ^ (7 - rate)) 0

-- With the time base on a base tick steps d; where the rate's turn has come b steps, and where b returns to 0, w.
unfoldable pub timer_stepped : ℕ → Timer → Timer
timer_stepped rate t =
    let d = divider_stepped t.divider in
    let b = base_stepped t.base in
    cond (due rate d.count)
    (record { divider = d; base = b; watchdog = cond (eqb b.count 0) (watchdog_stepped t.watchdog) t.watchdog })
    (record { divider = d; base = t.base; watchdog = t.watchdog })

-- A base tick steps q, and the timer if the time base is on; the scan, which goes by the part, is below.
unfoldable pub base_ticked : Bool → ℕ → Counters → Counters
base_ticked on rate c =
    record { prescaler = c.prescaler; toner = toner_stepped c.toner; timer = cond on (timer_stepped rate c.timer) c.timer }

-- At RC and EXT a tick steps p, and is a base tick where p returns to 0; at XTAL p stands, and each tick is one.
abbrev pub prescaled : Source → Prescaler → Prescaler
prescaled Xtal p = p
prescaled Rc p = prescaler_stepped p
prescaled Ext p = prescaler_stepped p

abbrev pub is_base_tick : Source → Prescaler → Bool
is_base_tick Xtal p = true
is_base_tick Rc p = eqb p.count 0
is_base_tick Ext p = eqb p.count 0

-- A tick of a running clock, of the counters.
unfoldable pub counters_ticked : Source → Bool → ℕ → Counters → Counters
counters_ticked source on rate c =
    let p = prescaled source c.prescaler in
    let next : Counters = record { prescaler = p; toner = c.toner; timer = c.timer } in
    cond (is_base_tick source p) (base_ticked on rate next) next

-- The scan's counter steps modulo its size in the part; where it returns to 0 the next common is scanned, and after the last of them
-- the first.
unfoldable pub scan_stepped : Part → Commons → Scan → Scan
scan_stepped part commons s =
    let count = (s.count + 1) % scan_size part in
    record { count = count; common = cond (eqb count 0) ((s.common + 1) % commons_number commons) s.common }

-- A tick of the scan, p as the tick leaves it: it steps where the tick is a base tick.
unfoldable pub scan_ticked : Source → Prescaler → Part → Commons → Scan → Scan
scan_ticked source p part commons s = cond (is_base_tick source p) (scan_stepped part commons s) s

-- A command that sets the commons has the scan begin anew.
abbrev pub scan_start : Scan
scan_start = record { count = 0; common = 0 }

-- CLR TIMER clears d and b, and leaves w and the flag.
abbrev pub timer_cleared : Timer → Timer
timer_cleared t = record { divider = record { count = 0 }; base = record { count = 0 }; watchdog = t.watchdog }

-- CLR WDT clears w and the flag too.
abbrev pub watchdog_cleared : Timer → Timer
watchdog_cleared t =
    record { divider = record { count = 0 }; base = record { count = 0 }; watchdog = record { count = 0; flag = false } }
