-- Levels and the sample that has them: there and back, both ways. Assumes nothing.
use mathlib.Core.Path.{◌≡◌, refl}
use mathlib.Core.Bool.{Bool, true, false}
use Prim.Native.Nat.{ℕ, ◌+◌, ◌*◌, ◌≤◌}
use native.Mathlib.Omega.{arith}
use Rattle.ground.specs.Bits.{bit_number}
use Rattle.ground.specs.Values.{agree}
use Rattle.ground.proofs.BitsLaws.{bit_number_small}
use Rattle.lines.specs.declared.Levels.{Levels}
use Rattle.lines.specs.Samples.{levels, levels_number}

pub levels_small : (l : Levels) → levels_number l ≤ 15
levels_small l = omega (arith, bit_number_small l.cs, bit_number_small l.wr, bit_number_small l.rd, bit_number_small l.bit)

pub levels_back : (l : Levels) → levels (levels_number l) ≡ l
levels_back l = by l.cs l.wr l.rd l.bit
  where
    by : (cs wr rd bit : Bool) → levels (bit_number cs + 2 * bit_number wr + 4 * bit_number rd + 8 * bit_number bit)
        ≡ record { cs = cs; wr = wr; rd = rd; bit = bit }
    by false false false false = refl
    by false false false true = refl
    by false false true false = refl
    by false false true true = refl
    by false true false false = refl
    by false true false true = refl
    by false true true false = refl
    by false true true true = refl
    by true false false false = refl
    by true false false true = refl
    by true false true false = refl
    by true false true true = refl
    by true true false false = refl
    by true true false true = refl
    by true true true false = refl
    by true true true true = refl

pub levels_again : (n : ℕ) → n ≤ 15 → levels_number (levels n) ≡ n
levels_again n h = agree (λ (k : ℕ). levels_number (levels k)) (λ (k : ℕ). k) 16 refl n (omega arith)
