-- A tick and the clearing commands keep the counters within their ranges: a counter that steps does so modulo its size.
-- Assumes nothing.
use mathlib.Core.Bool.{Bool}
use Prim.Native.Nat.{ℕ, ◌+◌, ◌%◌, ◌<◌}
use native.Mathlib.Omega.{arith}
use lib.Dec.{eqb}
use Rattle.ground.proofs.ChoiceLaws.{either}
use Rattle.ground.specs.declared.Part.{Part}
use Rattle.ground.specs.declared.Part.TheVariants.{Ht, Gn}
use Rattle.commands.specs.declared.Commons.{Commons}
use Rattle.commands.specs.declared.Commons.TheVariants.{Two, Three, Four}
use Rattle.commands.specs.Numbers.{commons_number}
use Rattle.clock.specs.declared.Watchdog.{Watchdog}
use Rattle.clock.specs.declared.Source.{Source}
use Rattle.clock.specs.declared.Source.TheVariants.{Xtal, Rc, Ext}
use Rattle.clock.specs.Counters.{Prescaler}
use Rattle.clock.specs.declared.Timer.{Timer}
use Rattle.clock.specs.declared.Scan.{Scan}
use Rattle.clock.specs.declared.Counters.{Counters}
use Rattle.clock.specs.Sizes.{prescaler_size, divider_size, base_size, watchdog_size, scan_size}
use Rattle.clock.specs.Ticks.{due, timer_stepped, scan_stepped, base_ticked, prescaled, is_base_tick, counters_ticked, scan_ticked, scan_start, timer_cleared, watchdog_cleared}
use Rattle.clock.specs.Valid.{TimerValid, ScanValid, CountersValid}

pub timer_stepped_valid : (rate : ℕ) (t : Timer) → TimerValid t → TimerValid (timer_stepped rate t)
unfolding timer_stepped
timer_stepped_valid rate t v =
    either TimerValid (due rate ((t.divider.count + 1) % divider_size))
    (record {
      divider = omega arith;
      base = omega arith;
      watchdog = either (λ (w : Watchdog). w.count < watchdog_size) (eqb ((t.base.count + 1) % base_size) 0) (omega arith) v.watchdog;
    })
    (record { divider = omega arith; base = v.base; watchdog = v.watchdog })

prescaled_below : (source : Source) (p : Prescaler) → p.count < prescaler_size → (prescaled source p).count < prescaler_size
prescaled_below Xtal p h = h
prescaled_below Rc p h = omega arith
prescaled_below Ext p h = omega arith

-- ---- the scan, of a part with these commons

-- a remainder is below the size
count_below : (n : ℕ) (part : Part) → n % scan_size part < scan_size part
count_below n Ht = omega arith
count_below n Gn = omega arith

common_below : (n : ℕ) (commons : Commons) → n % commons_number commons < commons_number commons
common_below n Two = omega arith
common_below n Three = omega arith
common_below n Four = omega arith

pub scan_start_valid : (part : Part) (commons : Commons) → ScanValid part commons scan_start
scan_start_valid part commons = record { count = omega (arith, count_below 0 part); common = omega (arith, common_below 0 commons) }

module _ (part : Part) (commons : Commons) where
  pub scan_stepped_valid : (s : Scan) → ScanValid part commons s → ScanValid part commons (scan_stepped part commons s)
  unfolding scan_stepped
  scan_stepped_valid s v =
      record {
        count = count_below (s.count + 1) part;
        common =
            either (λ (n : ℕ). n < commons_number commons) (eqb ((s.count + 1) % scan_size part) 0)
            (common_below (s.common + 1) commons) v.common;
      }

  pub scan_ticked_valid : (source : Source) (p : Prescaler) (s : Scan) → ScanValid part commons s
      → ScanValid part commons (scan_ticked source p part commons s)
  unfolding scan_ticked
  scan_ticked_valid source p s v =
      either (ScanValid part commons) (is_base_tick source p) (scan_stepped_valid s v) v

-- ---- a tick of the counters

pub base_ticked_valid : (on : Bool) (rate : ℕ) (c : Counters) → CountersValid c → CountersValid (base_ticked on rate c)
unfolding base_ticked
base_ticked_valid on rate c v =
    record {
      prescaler = v.prescaler;
      toner = omega arith;
      timer = either TimerValid on (timer_stepped_valid rate c.timer v.timer) v.timer;
    }

pub counters_ticked_valid : (source : Source) (on : Bool) (rate : ℕ) (c : Counters) → CountersValid c
    → CountersValid (counters_ticked source on rate c)
unfolding counters_ticked
counters_ticked_valid source on rate c v =
    let p = prescaled source c.prescaler in
    let next : Counters = record { prescaler = p; toner = c.toner; timer = c.timer } in
    let kept : CountersValid next =
    record { prescaler = prescaled_below source c.prescaler v.prescaler; toner = v.toner; timer = v.timer } in
    either CountersValid (is_base_tick source p) (base_ticked_valid on rate next kept) kept

-- ---- the clearing commands

pub timer_cleared_valid : (t : Timer) → TimerValid t → TimerValid (timer_cleared t)
timer_cleared_valid t v = record { divider = omega arith; base = omega arith; watchdog = v.watchdog }

pub watchdog_cleared_valid : (t : Timer) → TimerValid (watchdog_cleared t)
watchdog_cleared_valid t = record { divider = omega arith; base = omega arith; watchdog = omega arith }
