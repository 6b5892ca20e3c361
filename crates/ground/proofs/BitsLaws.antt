-- Laws of bits. Assumes nothing.
use mathlib.Core.Path.{◌≡◌, ◌∙◌, refl, sym, ap}
use mathlib.Core.Bool.{Bool, true, false}
use mathlib.Core.List.{List, map}
use Prim.Native.Nat.{ℕ, zero, suc, ◌/◌, ◌%◌, ◌^◌, ◌≤◌, ◌<◌}
use native.Mathlib.Nat.{div-eq_of_lt, lt_of_lt_of_le, mod-lt}
use native.Mathlib.Omega.{arith}
use lib.Bits.{bit_and, and_zero_l}
use lib.Dec.{eqb}
use lib.ListN.{get_or, get_or-map}
use lib.Pow.{pow_mono}
use mir.Val.{bool_byte}
use Rattle.ground.specs.Bits.{bit_number, bit_at}

-- a bit as a number, and read again
pub bit_number_small : (bit : Bool) → bit_number bit ≤ 1
bit_number_small true = omega arith
bit_number_small false = omega arith

pub bit_number_back : (bit : Bool) → eqb (bit_number bit) 1 ≡ bit
bit_number_back true = refl
bit_number_back false = refl

pub bit_number_again : (n : ℕ) → n ≤ 1 → bit_number (eqb n 1) ≡ n
bit_number_again zero h = refl
bit_number_again (suc zero) h = refl
bit_number_again (suc (suc n)) h = let no : ⊥ = omega arith in absurd no

-- a bit as a byte
pub bool_byte_small : (bit : Bool) → bool_byte bit ≤ 1
bool_byte_small true = omega arith
bool_byte_small false = omega arith

-- each number under a mask
pub masked_at : (mask : ℕ) (l : List ℕ) (i : ℕ) → get_or (map (λ n. bit_and n mask) l) i 0 ≡ bit_and (get_or l i 0) mask
masked_at mask l i =
    ap (get_or (map (λ n. bit_and n mask) l) i) (sym (and_zero_l mask)) ∙ get_or-map (λ n. bit_and n mask) l i 0

-- a byte has no bit above the seventh
pub bit_at_past : (i n : ℕ) → n < 256 → 8 ≤ i → bit_at i n ≡ false
bit_at_past i n small past =
    let none : n / 2 ^ i ≡ 0 = div-eq_of_lt (lt_of_lt_of_le small (pow_mono past)) in
    simp none

-- a bit as a number is what its place leaves
pub bit_number_bit_at : (i n : ℕ) → bit_number (bit_at i n) ≡ n / 2 ^ i % 2
bit_number_bit_at i n = bit_number_again (n / 2 ^ i % 2) (omega (arith, mod-lt (n / 2 ^ i) {m = 2} (omega arith)))
