-- A tick of the bytes is a tick of the settings that they say, counter by counter. Assumes nothing.
use mathlib.Core.Path.{◌≡◌, ◌∙◌, refl, ap}
use mathlib.Core.Bool.{Bool, true, false, cond, ◌||◌}
use mathlib.Core.List.{List}
use Prim.Native.Nat.{ℕ, ◌+◌, ◌%◌}
use lib.Dec.{eqb}
use lib.ListN.{set}
use Rattle.ground.specs.Written.{byte}
use Rattle.ground.specs.declared.Part.{Part}
use Rattle.ground.specs.declared.Part.TheVariants.{Ht, Gn}
use Rattle.ground.specs.Parts.{part_number}
use Rattle.ground.proofs.BitsLaws.{bit_number_back}
use Rattle.commands.specs.Numbers.{commons_number}
use Rattle.clock.specs.declared.Source.{Source}
use Rattle.clock.specs.declared.Source.TheVariants.{Xtal, Rc, Ext}
use Rattle.clock.specs.declared.Watchdog.{Watchdog}
use Rattle.clock.specs.declared.Timer.{Timer}
use Rattle.clock.specs.Sizes.{scan_size}
use Rattle.clock.specs.Ticks.{prescaler_stepped, toner_stepped, divider_stepped, base_stepped, watchdog_stepped, due, timer_stepped, scan_stepped, base_ticked, prescaled, counters_ticked, scan_ticked}
use Rattle.settings.specs.declared.Settings.{Settings}
use Rattle.clock.specs.Numbers.{source_number}
use Rattle.settings.specs.Settings.{timer_to, scan_to, counters_to}
use Rattle.ticks.specs.Ticks.{running, ticked}
use Rattle.sheet.specs.Ticks.{counted, returned, w_steps, b_steps, d_steps, scan_steps, base_tick, clock_tick, tick}
use Rattle.sheet.proofs.BytesLaws.{spelt, runs_running}

-- settings in which d, b and w are these
abbrev timed : Settings → ℕ → ℕ → Watchdog → Settings
timed s d b w = timer_to (record { divider = record { count = d }; base = record { count = b }; watchdog = w }) s

module _ (bytes : List ℕ) where
  w_steps_lem : (s : Settings) (d b : ℕ) (w : Watchdog) → w_steps (spelt bytes (timed s d b w)) ≡ spelt bytes (timed s d b (watchdog_stepped w))
  w_steps_lem s d b w = by (eqb ((w.count + 1) % 4) 0)
    where
      by : (t : Bool)
          → cond t (set (spelt bytes (timed s d b (record { count = (w.count + 1) % 4; flag = w.flag }))) 51 1)
          (spelt bytes (timed s d b (record { count = (w.count + 1) % 4; flag = w.flag })))
          ≡ spelt bytes (timed s d b (record { count = (w.count + 1) % 4; flag = t || w.flag }))
      by true = refl
      by false = refl

  b_steps_lem : (s : Settings) (d b : ℕ) (w : Watchdog)
      → b_steps (spelt bytes (timed s d b w))
      ≡ spelt bytes (timed s d ((b + 1) % 256) (cond (eqb ((b + 1) % 256) 0) (watchdog_stepped w) w))
  b_steps_lem s d b w = by (eqb ((b + 1) % 256) 0)
    where
      by : (t : Bool)
          → cond t (w_steps (spelt bytes (timed s d ((b + 1) % 256) w))) (spelt bytes (timed s d ((b + 1) % 256) w))
          ≡ spelt bytes (timed s d ((b + 1) % 256) (cond t (watchdog_stepped w) w))
      by true = w_steps_lem s d ((b + 1) % 256) w
      by false = refl

  d_steps_lem : (s : Settings) → d_steps (spelt bytes s) ≡ spelt bytes (timer_to (timer_stepped s.base.rate s.counters.timer) s)
  unfolding timer_stepped due
  d_steps_lem s = by s.counters.timer (due s.base.rate ((s.counters.timer.divider.count + 1) % 128))
    where
      by : (x : Timer) (t : Bool)
          → cond t (b_steps (spelt bytes (timed s ((x.divider.count + 1) % 128) x.base.count x.watchdog)))
          (spelt bytes (timed s ((x.divider.count + 1) % 128) x.base.count x.watchdog))
          ≡ spelt bytes (timer_to (cond t
          (record { divider = divider_stepped x.divider; base = base_stepped x.base; watchdog = cond (eqb ((x.base.count + 1) % 256) 0) (watchdog_stepped x.watchdog) x.watchdog })
          (record { divider = divider_stepped x.divider; base = x.base; watchdog = x.watchdog })) s)
      by x true = b_steps_lem s ((x.divider.count + 1) % 128) x.base.count x.watchdog
      by x false = refl

  -- how far the scan counts, by byte 58 and by the part
  sized : (part : Part) → cond (eqb (part_number part) 0) 128 96 ≡ scan_size part
  sized Ht = refl
  sized Gn = refl

  scan_steps_lem : (s : Settings) → scan_steps (spelt bytes s) ≡ spelt bytes (scan_to (scan_stepped s.part s.lcd.commons s.scan) s)
  unfolding scan_stepped
  scan_steps_lem s =
      ap (λ (size : ℕ). returned 59 (λ (after : List ℕ). counted 60 (byte after 44) after) (counted 59 size (spelt bytes s))) (sized s.part)
      ∙ by (eqb n 0)
    where
      n : ℕ
      n = (s.scan.count + 1) % scan_size s.part

      common : ℕ
      common = (s.scan.common + 1) % commons_number s.lcd.commons

      by : (t : Bool)
          → cond t (spelt bytes (scan_to (record { count = n; common = common }) s))
          (spelt bytes (scan_to (record { count = n; common = s.scan.common }) s))
          ≡ spelt bytes (scan_to (record { count = n; common = cond t common s.scan.common }) s)
      by true = refl
      by false = refl

  -- the settings that a base tick leaves
  abbrev based : Settings → Settings
  based s =
      scan_to (scan_stepped s.part s.lcd.commons s.scan) (counters_to (base_ticked s.base.on s.base.rate s.counters) s)

  base_tick_lem : (s : Settings) → base_tick (spelt bytes s) ≡ spelt bytes (based s)
  unfolding base_ticked
  base_tick_lem s =
      ap (λ (after : List ℕ). cond (eqb (byte after 49) 1) (d_steps after) after) (scan_steps_lem toned)
      ∙ ap (λ (t : Bool). cond t (d_steps (spelt bytes q)) (spelt bytes q)) (bit_number_back s.base.on) ∙ by s.base.on
    where
      toned : Settings
      toned = counters_to (record { prescaler = s.counters.prescaler; toner = toner_stepped s.counters.toner; timer = s.counters.timer }) s

      q : Settings
      q = scan_to (scan_stepped s.part s.lcd.commons s.scan) toned

      by : (t : Bool) → cond t (d_steps (spelt bytes q)) (spelt bytes q)
          ≡ spelt bytes (timer_to (cond t (timer_stepped s.base.rate s.counters.timer) s.counters.timer) q)
      by true = d_steps_lem q
      by false = refl

  -- the settings that a tick of a running clock leaves, by its source
  abbrev clocked : Source → Settings → Settings
  clocked source s =
      scan_to (scan_ticked source (prescaled source s.counters.prescaler) s.part s.lcd.commons s.scan)
      (counters_to (counters_ticked source s.base.on s.base.rate s.counters) s)

  clock_tick_lem : (s : Settings) → clock_tick (spelt bytes s) ≡ spelt bytes (clocked s.system.source s)
  unfolding counters_ticked scan_ticked
  clock_tick_lem s = by s.system.source
    where
      p : Settings
      p = counters_to (record { prescaler = prescaler_stepped s.counters.prescaler; toner = s.counters.toner; timer = s.counters.timer }) s

      turn : Bool
      turn = eqb p.counters.prescaler.count 0

      both : (t : Bool) → cond t (base_tick (spelt bytes p)) (spelt bytes p)
          ≡ spelt bytes (scan_to (cond t (scan_stepped s.part s.lcd.commons s.scan) s.scan)
          (counters_to (cond t (base_ticked s.base.on s.base.rate p.counters) p.counters) s))
      both true = base_tick_lem p
      both false = refl

      by : (source : Source)
          → cond (eqb (source_number source) 0) (base_tick (spelt bytes s)) (cond turn (base_tick (spelt bytes p)) (spelt bytes p))
          ≡ spelt bytes (clocked source s)
      by Xtal = base_tick_lem s
      by Rc = both turn
      by Ext = both turn

  pub tick_ticks : (s : Settings) → tick (spelt bytes s) ≡ spelt bytes (ticked s)
  unfolding ticked
  tick_ticks s = ap (λ (t : Bool). cond t (clock_tick (spelt bytes s)) (spelt bytes s)) (runs_running bytes s) ∙ by (running s)
    where
      by : (t : Bool) → cond t (clock_tick (spelt bytes s)) (spelt bytes s)
          ≡ spelt bytes (cond t (clocked s.system.source s) s)
      by true = clock_tick_lem s
      by false = refl
