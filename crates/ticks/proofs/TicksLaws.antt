-- Laws of RULES "Ticks". Assumes nothing.
use mathlib.Core.Path.{◌≡◌, ◌∙◌, refl, sym, ap}
use mathlib.Core.Bool.{Bool, true, false, cond}
use Prim.Native.Nat.{ℕ, zero, suc, ◌+◌}
use native.Mathlib.Nat.{zero-add, suc-add}
use Rattle.ground.proofs.ChoiceLaws.{either, of_choice}
use Rattle.clock.specs.declared.Source.{Source}
use Rattle.clock.specs.Counters.{Prescaler}
use Rattle.clock.specs.declared.Counters.{Counters}
use Rattle.clock.specs.declared.Scan.{Scan}
use Rattle.clock.specs.Ticks.{prescaled, is_base_tick, base_ticked, counters_ticked, scan_stepped, scan_ticked}
use Rattle.clock.specs.Walks.{walked, base_ticks}
use Rattle.clock.proofs.WalkLaws.{walked_still, met_of, driven}
use Rattle.settings.specs.declared.Settings.{Settings}
use Rattle.settings.specs.Settings.{counters_to, scan_to}
use Rattle.ticks.specs.Ticks.{running, ticked, advanced}

-- m ticks and then n are m + n
pub advanced_add : (m n : ℕ) (s : Settings) → advanced (m + n) s ≡ advanced n (advanced m s)
unfolding advanced
advanced_add zero n s = rw zero-add
advanced_add (suc m) n s = rw suc-add (advanced_add m n (ticked s))

-- ---- n ticks at once

advanced_walked : (n : ℕ) (s : Settings) → advanced n s ≡ walked ticked n s
unfolding advanced walked
advanced_walked zero s = refl
advanced_walked (suc n) s = advanced_walked n (ticked s)

-- while the chip does not run, nothing moves
pub advanced_still : (n : ℕ) (s : Settings) → running s ≡ false → advanced n s ≡ s
unfolding ticked
advanced_still n s e = advanced_walked n s ∙ walked_still ticked s (rw e) n

-- a base tick or not, the counters' tick leaves p as the source's tick does
prescaler_left : (source : Source) (on : Bool) (rate : ℕ) (c : Counters) → prescaled source c.prescaler ≡ (counters_ticked source on rate c).prescaler
unfolding counters_ticked base_ticked
prescaler_left source on rate c =
    let p = prescaled source c.prescaler in
    either (λ (next : Counters). p ≡ next.prescaler) (is_base_tick source p) refl refl

-- while it runs, the counters walk as if alone, and the scan as many steps as there are base ticks
pub advanced_at_once : (n : ℕ) (s : Settings) → running s ≡ true
    → advanced n s
    ≡ scan_to (walked (scan_stepped s.part s.lcd.commons) (base_ticks s.system.source n s.counters.prescaler) s.scan)
    (counters_to (walked (counters_ticked s.system.source s.base.on s.base.rate) n s.counters) s)
unfolding ticked running scan_ticked
advanced_at_once n s e =
    advanced_walked n s
    ∙ driven at base_tick_lem ticks steps ticked one n s.counters s.scan
    ∙ ap (λ (k : ℕ). at (walked ticks n s.counters) (walked steps k s.scan))
    (sym (met_of (λ (c : Counters). c.prescaler) ticks (prescaled source) left (is_base_tick source) n s.counters))
  where
    source : Source
    source = s.system.source

    at : Counters → Scan → Settings
    at c scan = scan_to scan (counters_to c s)

    base_tick_lem : Counters → Bool
    base_tick_lem c = is_base_tick source c.prescaler

    ticks : Counters → Counters
    ticks = counters_ticked source s.base.on s.base.rate

    steps : Scan → Scan
    steps = scan_stepped s.part s.lcd.commons

    left : (c : Counters) → prescaled source c.prescaler ≡ (ticks c).prescaler
    left = prescaler_left source s.base.on s.base.rate

    one : (c : Counters) (scan : Scan) → ticked (at c scan) ≡ cond (base_tick_lem (ticks c)) (at (ticks c) (steps scan)) (at (ticks c) scan)
    one c scan =
        let p = prescaled source c.prescaler in
        let moves : ticked (at c scan) ≡ at (ticks c) (cond (is_base_tick source p) (steps scan) scan) = rw e in
        moves
        ∙ of_choice (at (ticks c)) (is_base_tick source p) (steps scan) scan
        ∙ ap (λ (q : Prescaler). cond (is_base_tick source q) (at (ticks c) (steps scan)) (at (ticks c) scan)) (left c)
