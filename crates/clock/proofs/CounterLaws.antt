-- The clock's counters after n steps, each by itself: one that drives another walks as if alone, and the other as many steps as that one
-- comes round. Assumes nothing.
use mathlib.Core.Path.{◌≡◌, ◌∙◌, refl, sym, ap, ap₂}
use mathlib.Core.Logic.{◌⊎◌, inl, inr}
use mathlib.Core.Bool.{Bool, true, false, cond, ◌||◌}
use Prim.Native.Nat.{ℕ, zero, suc, ◌+◌, ◌-◌, ◌*◌, ◌^◌, ◌∣◌}
use native.Mathlib.Nat.{dvd-mul_right}
use native.Mathlib.Omega.{arith}
use borrow.Author.Tests.{lt-ltb}
use lib.Dec.{eqb, ltb}
use lib.Pow.{pow_pos, pow-add}
use Rattle.ground.proofs.ChoiceLaws.{of_choice}
use Rattle.ground.specs.declared.Part.{Part}
use Rattle.commands.specs.declared.Commons.{Commons}
use Rattle.commands.specs.Numbers.{commons_number}
use Rattle.clock.specs.declared.Source.{Source}
use Rattle.clock.specs.declared.Source.TheVariants.{Xtal, Rc, Ext}
use Rattle.clock.specs.declared.Counter.{Counter}
use Rattle.clock.specs.Counters.{Prescaler, Divider, BaseCounter}
use Rattle.clock.specs.declared.Watchdog.{Watchdog}
use Rattle.clock.specs.declared.Timer.{Timer}
use Rattle.clock.specs.declared.Scan.{Scan}
use Rattle.clock.specs.declared.Counters.{Counters}
use Rattle.clock.specs.Sizes.{prescaler_size, divider_size, base_size, toner_size, watchdog_size, scan_size}
use Rattle.clock.specs.Ticks.{divider_stepped, base_stepped, watchdog_stepped, due, timer_stepped, scan_stepped, base_ticked, prescaled, is_base_tick, counters_ticked}
use Rattle.clock.specs.Walks.{walked, met, next, rounds, turns, base_ticks}
use Rattle.clock.proofs.WalkLaws.{walked_still, walked_of, met_all, met_of, driven}
use Rattle.clock.proofs.QuotientLaws.{quotients, multiples_quotients}

-- ---- a counter that is a count and nothing else

abbrev pub counted : (size : ℕ) → ℕ → Counter size
counted size x = record { count = x }

-- it steps as its count does, and meets a test as often
module _ (size k : ℕ) (c : Counter size) where
  pub counter_walked : walked (λ (d : Counter size). counted size (next size d.count)) k c ≡ counted size (walked (next size) k c.count)
  counter_walked = walked_of (counted size) (next size) (λ (d : Counter size). counted size (next size d.count)) (λ x. refl) k c.count

  pub counter_met : (test : ℕ → Bool)
      → met (λ (d : Counter size). test d.count) (λ (d : Counter size). counted size (next size d.count)) k c
      ≡ met test (next size) k c.count
  counter_met test =
      met_of (counted size) (next size) (λ (d : Counter size). counted size (next size d.count)) (λ x. refl)
      (λ (d : Counter size). test d.count) k c.count

-- ---- w and the flag

-- a flag that each step sets: set by the first, or before
set_by : (n : ℕ) (flag : Bool) → walked (λ (b : Bool). true) n flag ≡ (ltb 0 n || flag)
unfolding walked
set_by zero flag = refl
set_by (suc n) flag =
    walked_still (λ (b : Bool). true) true refl n ∙ sym (ap (λ (b : Bool). b || flag) (lt-ltb 0 (suc n) (omega arith)))

pub watchdog_walked : (k : ℕ) (w : Watchdog)
    → walked watchdog_stepped k w
    ≡ record { count = walked (next watchdog_size) k w.count; flag = ltb 0 (rounds watchdog_size k w.count) || w.flag }
watchdog_walked k w =
    let at : ℕ → Bool → Watchdog = λ x flag. record { count = x; flag = flag } in
    driven at (λ (y : ℕ). eqb y 0) (next watchdog_size) (λ (b : Bool). true) watchdog_stepped
    (λ y flag. set (next watchdog_size y) (eqb (next watchdog_size y) 0) flag)
    k w.count w.flag
    ∙ ap (at (walked (next watchdog_size) k w.count)) (set_by (rounds watchdog_size k w.count) w.flag)
  where
    set : (x : ℕ) (z flag : Bool) → ◌≡◌ {A = Watchdog} (record { count = x; flag = z || flag })
        (cond z (record { count = x; flag = true }) (record { count = x; flag = flag }))
    set x true flag = refl
    set x false flag = refl

-- ---- d, b and w

-- the period of a rate divides the size of d
period_divides : (rate : ℕ) → 2 ^ (7 - rate) ∣ divider_size
period_divides rate =
    let sum : 7 - rate + (7 - (7 - rate)) ≡ 7 = omega arith in
    let whole : divider_size ≡ 2 ^ (7 - rate) * 2 ^ (7 - (7 - rate)) = ap (λ (n : ℕ). 2 ^ n) (sym sum) ∙ pow-add 2 (7 - rate) (7 - (7 - rate)) in
    rw whole (dvd-mul_right (2 ^ (7 - rate)) (2 ^ (7 - (7 - rate))))

pub turns_quotients : (rate k : ℕ) (d : Divider) → turns rate k d ≡ quotients (2 ^ (7 - rate)) k d.count
unfolding due
turns_quotients rate k d =
    counter_met divider_size k d (due rate)
    ∙ multiples_quotients (2 ^ (7 - rate)) (pow_pos (7 - rate)) divider_size (period_divides rate) k d.count

pub timer_walked : (rate k : ℕ) (t : Timer)
    → walked (timer_stepped rate) k t
    ≡ record {
      divider = counted divider_size (walked (next divider_size) k t.divider.count);
      base = counted base_size (walked (next base_size) (turns rate k t.divider) t.base.count);
      watchdog = walked watchdog_stepped (rounds base_size (turns rate k t.divider) t.base.count) t.watchdog;
    }
unfolding timer_stepped
timer_walked rate k t = by_d ∙ ap₂ at (counter_walked divider_size k t.divider) (by_b (turns rate k t.divider))
  where
    at : Divider → BaseCounter × Watchdog → Timer
    at d r = record { divider = d; base = r.0; watchdog = r.1 }

    -- b steps, and where it comes back to 0, w
    turned : BaseCounter × Watchdog → BaseCounter × Watchdog
    turned r = (base_stepped r.0, cond (eqb (base_stepped r.0).count 0) (watchdog_stepped r.1) r.1)

    by_d : walked (timer_stepped rate) k t ≡ at (walked divider_stepped k t.divider) (walked turned (turns rate k t.divider) (t.base, t.watchdog))
    by_d =
        driven at (λ (d : Divider). due rate d.count) divider_stepped turned (timer_stepped rate) (λ d r. refl) k t.divider (t.base, t.watchdog)

    by_b : (n : ℕ) → walked turned n (t.base, t.watchdog)
        ≡ (counted base_size (walked (next base_size) n t.base.count), walked watchdog_stepped (rounds base_size n t.base.count) t.watchdog)
    by_b n =
        driven (λ (b : BaseCounter) (w : Watchdog). (b, w)) (λ (b : BaseCounter). eqb b.count 0) base_stepped watchdog_stepped turned
        (λ b w. of_choice (λ (x : Watchdog). (base_stepped b, x)) (eqb (base_stepped b).count 0) (watchdog_stepped w) w)
        n t.base t.watchdog
        ∙ ap₂ (λ (b : BaseCounter) (m : ℕ). (b, walked watchdog_stepped m t.watchdog))
        (counter_walked base_size n t.base)
        (counter_met base_size n t.base (λ (x : ℕ). eqb x 0))

-- ---- p

-- at XTAL p stands, and each tick is a base tick
pub prescaled_still : (source : Source) → source ≡ Xtal → (k : ℕ) (p : Prescaler) → walked (prescaled source) k p ≡ p
prescaled_still source e k p = rw e (walked_still (prescaled Xtal) p refl k)

pub base_ticks_all : (source : Source) → source ≡ Xtal → (k : ℕ) (p : Prescaler) → base_ticks source k p ≡ k
base_ticks_all source e k p = rw e (met_all (is_base_tick Xtal) (prescaled Xtal) (λ p. refl) k p)

-- at RC and EXT p steps with each tick, and there are as many base ticks as it comes round
pub prescaled_walked : (source : Source) → source ≡ Rc ⊎ source ≡ Ext → (k : ℕ) (p : Prescaler)
    → walked (prescaled source) k p ≡ counted prescaler_size (walked (next prescaler_size) k p.count)
prescaled_walked source (inl e) k p = rw e (counter_walked prescaler_size k p)
prescaled_walked source (inr e) k p = rw e (counter_walked prescaler_size k p)

pub base_ticks_rounds : (source : Source) → source ≡ Rc ⊎ source ≡ Ext → (k : ℕ) (p : Prescaler)
    → base_ticks source k p ≡ rounds prescaler_size k p.count
base_ticks_rounds source (inl e) k p = rw e (counter_met prescaler_size k p (λ (x : ℕ). eqb x 0))
base_ticks_rounds source (inr e) k p = rw e (counter_met prescaler_size k p (λ (x : ℕ). eqb x 0))

-- ---- the scan

pub scan_walked : (part : Part) (commons : Commons) (k : ℕ) (s : Scan)
    → walked (scan_stepped part commons) k s
    ≡ record {
      count = walked (next (scan_size part)) k s.count;
      common = walked (next (commons_number commons)) (rounds (scan_size part) k s.count) s.common;
    }
unfolding scan_stepped
scan_walked part commons k s =
    driven (λ (x y : ℕ). record { count = x; common = y }) (λ (x : ℕ). eqb x 0) (next (scan_size part)) (next (commons_number commons))
    (scan_stepped part commons)
    (λ x y.
    of_choice (λ (c : ℕ). record { count = next (scan_size part) x; common = c }) (eqb (next (scan_size part) x) 0)
    (next (commons_number commons) y) y)
    k s.count s.common

-- ---- all counters

pub base_walked : (on : Bool) (rate k : ℕ) (c : Counters)
    → walked (base_ticked on rate) k c
    ≡ record {
      prescaler = c.prescaler;
      toner = counted toner_size (walked (next toner_size) k c.toner.count);
      timer = cond on (walked (timer_stepped rate) k c.timer) c.timer;
    }
unfolding walked base_ticked
base_walked true rate zero c = refl
base_walked true rate (suc k) c = base_walked true rate k (base_ticked true rate c)
base_walked false rate zero c = refl
base_walked false rate (suc k) c = base_walked false rate k (base_ticked false rate c)

pub counters_walked : (source : Source) (on : Bool) (rate k : ℕ) (c : Counters)
    → walked (counters_ticked source on rate) k c
    ≡ (let rest = walked (base_ticked on rate) (base_ticks source k c.prescaler) c in
    record { prescaler = walked (prescaled source) k c.prescaler; toner = rest.toner; timer = rest.timer })
unfolding counters_ticked base_ticked
counters_walked source on rate k c =
    driven (λ (p : Prescaler) (r : Counters). record { prescaler = p; toner = r.toner; timer = r.timer })
    (is_base_tick source) (prescaled source) (base_ticked on rate) (counters_ticked source on rate) (λ p r. refl)
    k c.prescaler c
