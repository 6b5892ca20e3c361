-- A time-out that IRQ DIS has let go of: a tick sets the flag exactly where w comes back to 0, whatever flag and output were, and
-- moves w alike. So the flag is set again when w of the settings left alone comes round. Assumes nothing.
use mathlib.Core.Path.{◌≡◌, ◌∙◌, refl, sym, ap}
use mathlib.Core.Bool.{Bool, true, false, cond, not, ◌&&◌, ◌||◌, or-false, or_assoc, or_comm, and-false, not-and_self}
use Prim.Native.Nat.{ℕ, zero, suc, ◌+◌, ◌%◌}
use native.Mathlib.Omega.{arith}
use lib.Dec.{eqb}
use borrow.Author.Tests.{eqb-true, ne_eqb}
use Rattle.clock.specs.declared.Source.{Source}
use Rattle.clock.specs.Counters.{Prescaler}
use Rattle.clock.specs.declared.Scan.{Scan}
use Rattle.clock.specs.declared.Counters.{Counters}
use Rattle.clock.specs.Sizes.{watchdog_size}
use Rattle.clock.specs.Ticks.{toner_stepped, divider_stepped, base_stepped, watchdog_stepped, due, timer_stepped, base_ticked, prescaled, is_base_tick, counters_ticked, scan_ticked}
use Rattle.commands.specs.declared.Command.TheVariants.{IrqDis, IrqEn}
use Rattle.settings.specs.declared.IrqSource.{IrqSource}
use Rattle.settings.specs.declared.IrqSource.TheVariants.{Flag}
use Rattle.settings.specs.declared.Settings.{Settings}
use Rattle.settings.specs.Settings.{irq_to, irq_source_to, counters_to, scan_to, flag_to}
use Rattle.rules.specs.Effects.{effect}
use Rattle.ticks.specs.Ticks.{running, ticked, advanced}
use Rattle.ticks.proofs.TicksLaws.{advanced_add}
use Rattle.pins.specs.Pins.{irq_low}
use Rattle.demands.specs.TimeOut.{w, came_back, comes_round, IrqDisLetsGo}

-- ---- w

-- a step to 0 comes back
step_back : (n : ℕ) → came_back n ((n + 1) % watchdog_size) ≡ eqb ((n + 1) % watchdog_size) 0
step_back n = by (eqb ((n + 1) % watchdog_size) 0) refl
  where
    by : (there : Bool) → eqb ((n + 1) % watchdog_size) 0 ≡ there → (not (eqb n 0) && there) ≡ there
    by true e =
        let z = eqb-true ((n + 1) % watchdog_size) 0 e in
        ap (λ (here : Bool). not here && true) (ne_eqb n 0 (omega (arith, z)))
    by false e = and-false (not (eqb n 0))

-- where w stands it does not, so the flag stands too
stands : (flag : Bool) (n : ℕ) → flag ≡ (flag || came_back n n)
stands flag n = sym (ap (λ (b : Bool). flag || b) (not-and_self (eqb n 0)) ∙ or-false flag)

-- ---- a tick of the counters

abbrev w_count : Counters → ℕ
w_count c = c.timer.watchdog.count

-- after a tick the flag is set if it was, or if w has come back to 0; nothing else goes by the flag
abbrev Flags : (Counters → Counters) → Type 0
Flags tick = (flag : Bool) (c : Counters) → tick (flag_to flag c) ≡ flag_to (flag || came_back (w_count c) (w_count (tick c))) (tick c)

-- a base tick with its tests for parameters: the time base is on, the rate's turn has come, b comes back to 0
abbrev base_tick_lem : Bool → Bool → Bool → Counters → Counters
base_tick_lem on turn full c =
    record {
      prescaler = c.prescaler;
      toner = toner_stepped c.toner;
      timer =
          cond on
          (cond turn
          (record {
            divider = divider_stepped c.timer.divider;
            base = base_stepped c.timer.base;
            watchdog = cond full (watchdog_stepped c.timer.watchdog) c.timer.watchdog;
          })
          (record { divider = divider_stepped c.timer.divider; base = c.timer.base; watchdog = c.timer.watchdog }))
          c.timer;
    }

base_flags : (on turn full : Bool) → Flags (base_tick_lem on turn full)
base_flags true true true flag c =
    ap (λ (f : Bool). flag_to f (base_tick_lem true true true c))
    (or_comm (eqb ((w_count c + 1) % watchdog_size) 0) flag ∙ ap (λ (b : Bool). flag || b) (sym (step_back (w_count c))))
base_flags true true false flag c = ap (λ (f : Bool). flag_to f (base_tick_lem true true false c)) (stands flag (w_count c))
base_flags true false full flag c = ap (λ (f : Bool). flag_to f (base_tick_lem true false full c)) (stands flag (w_count c))
base_flags false turn full flag c = ap (λ (f : Bool). flag_to f (base_tick_lem false turn full c)) (stands flag (w_count c))

base_ticked_flags : (on : Bool) (rate : ℕ) → Flags (base_ticked on rate)
unfolding base_ticked timer_stepped
base_ticked_flags on rate flag c =
    base_flags on (due rate (divider_stepped c.timer.divider).count) (eqb (base_stepped c.timer.base).count 0) flag c

counters_ticked_flags : (source : Source) (on : Bool) (rate : ℕ) → Flags (counters_ticked source on rate)
unfolding counters_ticked
counters_ticked_flags source on rate flag c = by (is_base_tick source p)
  where
    p : Prescaler
    p = prescaled source c.prescaler

    next : Counters
    next = record { prescaler = p; toner = c.toner; timer = c.timer }

    by : (base : Bool) → cond base (base_ticked on rate (flag_to flag next)) (flag_to flag next)
        ≡ flag_to (flag || came_back (w_count c) (w_count (cond base (base_ticked on rate next) next))) (cond base (base_ticked on rate next) next)
    by true = base_ticked_flags on rate flag next
    by false = ap (λ (f : Bool). flag_to f next) (stands flag (w_count c))

-- ---- ticks of the settings, with this flag, this output and the flag for the IRQ source

abbrev showing : Bool → Bool → Settings → Settings
showing flag on s = irq_to on (irq_source_to Flag (counters_to (flag_to flag s.counters) s))

ticked_showing : (flag on : Bool) (s : Settings) → ticked (showing flag on s) ≡ showing (flag || came_back (w s) (w (ticked s))) on (ticked s)
unfolding ticked running
ticked_showing flag on s = by (running s)
  where
    next : Counters → Counters
    next = counters_ticked s.system.source s.base.on s.base.rate

    scan : Scan
    scan = scan_ticked s.system.source (prescaled s.system.source s.counters.prescaler) s.part s.lcd.commons s.scan

    after : Settings
    after = scan_to scan (counters_to (next s.counters) s)

    by : (runs : Bool)
        → cond runs (scan_to scan (counters_to (next (flag_to flag s.counters)) (showing flag on s))) (showing flag on s)
        ≡ showing (flag || came_back (w s) (w (cond runs after s))) on (cond runs after s)
    by true =
        ap (λ (c : Counters). scan_to scan (counters_to c (showing flag on s)))
        (counters_ticked_flags s.system.source s.base.on s.base.rate flag s.counters)
    by false = ap (λ (f : Bool). showing f on s) (stands flag (w s))

advanced_showing : (n : ℕ) (flag on : Bool) (s : Settings) → advanced n (showing flag on s) ≡ showing (flag || comes_round n s) on (advanced n s)
unfolding advanced
advanced_showing zero flag on s = ap (λ (f : Bool). showing f on s) (sym (or-false flag))
advanced_showing (suc n) flag on s =
    let now = came_back (w s) (w (ticked s)) in
    ap (advanced n) (ticked_showing flag on s)
    ∙ advanced_showing n (flag || now) on (ticked s)
    ∙ ap (λ (f : Bool). showing f on (advanced n (ticked s))) (or_assoc flag now (comes_round n (ticked s)))

-- ---- the law

module _ (s : Settings) (source : s.irq.source ≡ Flag) where
  let_go : effect IrqDis s ≡ showing false false s
  unfolding effect
  let_go = ap (λ (from : IrqSource). irq_to false (irq_source_to from (counters_to (flag_to false s.counters) s))) source

  after_let_go : (m : ℕ) → advanced m (effect IrqDis s) ≡ showing (comes_round m s) false (advanced m s)
  after_let_go m = ap (advanced m) let_go ∙ advanced_showing m false false s

  again : (m n : ℕ) → irq_low (advanced n (effect IrqEn (advanced m (effect IrqDis s)))) ≡ comes_round (m + n) s
  unfolding effect irq_low
  again m n =
      ap (λ (t : Settings). irq_low (advanced n (effect IrqEn t))) (after_let_go m)
      ∙ ap (λ (t : Settings). irq_low (advanced n t)) (sym (advanced_showing m false true s))
      ∙ ap irq_low (sym (advanced_add m n (showing false true s)) ∙ advanced_showing (m + n) false true s)

pub irq_dis_lets_go : IrqDisLetsGo
unfolding irq_low advanced
irq_dis_lets_go s source =
    record {
      low = λ flag on. simp (on, source, flag);
      off = λ m. ap irq_low (after_let_go s source m);
      floats = again s source 0 0;
      again = again s source;
    }
