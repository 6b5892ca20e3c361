-- The cells that show are the memory's bits under one mask: with the chip dark none, otherwise the lowest, as many as there
-- are commons. Assumes nothing.
use mathlib.Core.Path.{◌≡◌, ◌∙◌}
use mathlib.Core.Bool.{Bool, true, false, ◌&&◌}
use Prim.Native.Nat.{ℕ, ◌+◌, ◌*◌, ◌%◌}
use native.Mathlib.Omega.{arith}
use lib.Bits.{bit_and, and_mask, and_zero_r}
use lib.Dec.{ltb}
use Rattle.ground.specs.Bits.{bit_number, bit_at}
use Rattle.ground.proofs.BitsLaws.{bit_number_bit_at}
use Rattle.commands.specs.declared.Commons.{Commons}
use Rattle.commands.specs.declared.Commons.TheVariants.{Two, Three, Four}
use Rattle.commands.specs.Numbers.{commons_number}
use Rattle.settings.specs.declared.Settings.{Settings}
use Rattle.ticks.specs.Ticks.{running}
use Rattle.pins.specs.Pins.{shows, shown_nibble}

-- the cells shown by whether the chip runs, whether the LCD is on, and the commons
abbrev shown_as : Bool → Bool → Commons → ℕ → ℕ
shown_as runs on commons n =
    let bit : ℕ → ℕ = (λ c. bit_number (runs && on && ltb c (commons_number commons) && bit_at c n)) in
    bit 0 + 2 * bit 1 + 4 * bit 2 + 8 * bit 3

-- the lowest bits of a number, one more at a time
low_two : (n : ℕ) → n % 4 ≡ bit_number (bit_at 0 n) + 2 * bit_number (bit_at 1 n)
low_two n = omega (arith, bit_number_bit_at 0 n, bit_number_bit_at 1 n)

low_three : (n : ℕ) → n % 8 ≡ n % 4 + 4 * bit_number (bit_at 2 n)
low_three n = omega (arith, bit_number_bit_at 2 n)

low_four : (n : ℕ) → n % 16 ≡ n % 8 + 8 * bit_number (bit_at 3 n)
low_four n = omega (arith, bit_number_bit_at 3 n)

under : (runs on : Bool) (commons : Commons) (n : ℕ) → bit_and n (shown_as runs on commons 15) ≡ shown_as runs on commons n
under false on commons n = and_zero_r n
under true false commons n = and_zero_r n
under true true Two n = and_mask n 2 ∙ omega (arith, low_two n)
under true true Three n = and_mask n 3 ∙ omega (arith, low_two n, low_three n)
under true true Four n = and_mask n 4 ∙ omega (arith, low_two n, low_three n, low_four n)

pub shown_under_mask : (s : Settings) (n : ℕ) → bit_and n (shown_nibble s 15) ≡ shown_nibble s n
unfolding shown_nibble shows
shown_under_mask s n = under (running s) s.lcd.on s.lcd.commons n
