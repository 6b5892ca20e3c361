-- Bits and numbers: the one place where one becomes the other. Assumes nothing.
use Rattle.std.specs.Prelude.{ℕ, ◌/◌, ◌%◌, ◌^◌, Bool, true, false, eqb}

-- A bit as a number.
abbrev pub bit_number : Bool → ℕ
bit_number true = 1
bit_number false = 0

-- Bit i of a number, 0 the lowest.
abbrev pub bit_at : ℕ → ℕ → Bool
bit_at i n = eqb (n / 2 ^ i % 2) 1
