-- What the bytes that say some settings tell of the pins is what these settings show; and a nibble by its bits. Assumes nothing.
use mathlib.Core.Path.{◌≡◌, ◌∙◌, refl, ap, ap₂}
use mathlib.Core.Bool.{Bool, true, false, ◌&&◌, ◌||◌}
use mathlib.Core.List.{List, [], ◌∷◌, map}
use Prim.Native.Nat.{ℕ, zero, suc, ◌+◌, ◌*◌, ◌/◌, ◌%◌, ◌^◌, ◌≤◌, ◌<◌}
use native.Mathlib.Omega.{arith}
use lib.Dec.{eqb, leb}
use lib.ListN.{length, get_or}
use Rattle.ground.specs.Bits.{bit_number, bit_at}
use Rattle.ground.proofs.BitsLaws.{bit_number_small, bit_number_back}
use Rattle.settings.specs.Numbers.{pitch_number, irq_source_number}
use Rattle.settings.specs.declared.Pitch.{Pitch}
use Rattle.settings.specs.declared.Pitch.TheVariants.{FourK, TwoK}
use Rattle.settings.specs.declared.IrqSource.{IrqSource}
use Rattle.settings.specs.declared.IrqSource.TheVariants.{Neither, TimeBase, Flag}
use Rattle.settings.specs.declared.Settings.{Settings}
use Rattle.pins.specs.Pins.{asserted, irq_low, wave, sounding}
use Rattle.sheet.specs.Pins.{irq_is_low, sounds, tone_is_high}
use Rattle.sheet.proofs.BytesLaws.{spelt, runs_running}

-- ---- settings as bytes, and what they show

or_false : (t : Bool) → (t || false) ≡ t
or_false true = refl
or_false false = refl

module _ (b : List ℕ) (s : Settings) where
  pub irq_shown : irq_is_low (spelt b s) ≡ irq_low s
  unfolding irq_low
  irq_shown =
      ap₂ (λ (on : Bool) (flag : Bool). on && ((eqb (irq_source_number s.irq.source) 2 && flag) || (eqb (irq_source_number s.irq.source) 1 && high)))
      (bit_number_back s.irq.on) (bit_number_back s.counters.timer.watchdog.flag)
      ∙ ap (λ (t : Bool). s.irq.on && t) (by s.irq.source)
    where
      high : Bool
      high = leb 128 s.counters.timer.base.count

      by : (source : IrqSource)
          → ((eqb (irq_source_number source) 2 && s.counters.timer.watchdog.flag) || (eqb (irq_source_number source) 1 && high))
          ≡ asserted source s.counters.timer
      by Neither = refl
      by TimeBase = refl
      by Flag = or_false s.counters.timer.watchdog.flag

  pub sounds_sounding : sounds (spelt b s) ≡ sounding s
  unfolding sounding
  sounds_sounding = ap₂ ◌&&◌ (runs_running b s) (bit_number_back s.tone.on)

  pub tone_waves : tone_is_high (spelt b s) ≡ wave s.tone.pitch s.counters.toner.count
  tone_waves = by s.tone.pitch s.counters.toner.count
    where
      by : (pitch : Pitch) (q : ℕ) → ((eqb (pitch_number pitch) 4 && leb 4 (q % 8)) || (eqb (pitch_number pitch) 2 && leb 8 q)) ≡ wave pitch q
      by FourK q = or_false (leb 4 (q % 8))
      by TwoK q = refl

-- ---- a nibble by its bits

module _ (d : ℕ → Bool) where
  abbrev pub nibble : ℕ
  nibble = bit_number (d 0) + 2 * bit_number (d 1) + 4 * bit_number (d 2) + 8 * bit_number (d 3)

  pub nibble_small : nibble ≤ 15
  nibble_small = omega (arith, bit_number_small (d 0), bit_number_small (d 1), bit_number_small (d 2), bit_number_small (d 3))

  is_bit : (c : ℕ) → nibble / 2 ^ c % 2 ≡ bit_number (d c) → bit_at c nibble ≡ d c
  is_bit c e = ap (λ (k : ℕ). eqb k 1) e ∙ bit_number_back (d c)

  pub nibble_bit : (c : ℕ) → c ≤ 3 → bit_at c nibble ≡ d c
  nibble_bit zero h = is_bit 0 (omega (arith, bit_number_small (d 0)))
  nibble_bit (suc zero) h = is_bit 1 (omega (arith, bit_number_small (d 0), bit_number_small (d 1)))
  nibble_bit (suc (suc zero)) h = is_bit 2 (omega (arith, bit_number_small (d 0), bit_number_small (d 1), bit_number_small (d 2)))
  nibble_bit (suc (suc (suc zero))) h = is_bit 3 (omega (arith, bit_number_small (d 0), bit_number_small (d 1), bit_number_small (d 2), bit_number_small (d 3)))
  nibble_bit (suc (suc (suc (suc c)))) h = let no : ⊥ = omega arith in absurd no

-- ---- a list by its elements

pub map_at : (f : ℕ → ℕ) (l : List ℕ) (i : ℕ) → i < length l → get_or (map f l) i 0 ≡ f (get_or l i 0)
map_at f [] i h = let no : ⊥ = omega arith in absurd no
map_at f (n ∷ l) zero h = refl
map_at f (n ∷ l) (suc i) h = map_at f l i (omega arith)
