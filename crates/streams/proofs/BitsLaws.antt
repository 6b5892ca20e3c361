-- A bit as a byte is the bit as a number. Assumes nothing.
use mathlib.Core.Path.{◌≡◌, refl}
use mathlib.Core.Bool.{Bool, true, false}
use mir.Val.{bool_byte}
use Rattle.ground.specs.Bits.{bit_number}

pub bool_byte_number : (bit : Bool) → bool_byte bit ≡ bit_number bit
bool_byte_number true = refl
bool_byte_number false = refl
