-- Bits that are sent make the number again that they were taken from, by tests that antt computes; and addresses step and wrap
-- as counting does. Assumes nothing.
use mathlib.Core.Path.{◌≡◌, refl}
use Prim.Native.Nat.{ℕ, suc, ◌*◌, ◌<◌}
use native.Mathlib.Omega.{arith}
use Rattle.ground.specs.Values.{values, agree}
use Rattle.phases.specs.Phases.{round}
use Rattle.frames.specs.Frames.{turned, reached, next}
use Rattle.streams.specs.Streams.{address_bits, nibble_bits, command_bits}
use Rattle.demands.specs.Stopped.{with_bits}

abbrev pub address_sent : ℕ → ℕ
address_sent a = reached (with_bits 0 (address_bits a))

abbrev pub nibble_sent : ℕ → ℕ
nibble_sent n = turned (with_bits 0 (nibble_bits n))

abbrev pub code_sent : ℕ → ℕ
code_sent code = with_bits 0 (command_bits code)

all_addresses : values address_sent 0 round ≡ values reached 0 round
all_addresses = refl

all_nibbles : values nibble_sent 0 16 ≡ values (λ n. n) 0 16
all_nibbles = refl

all_codes : values code_sent 0 256 ≡ values (λ code. 2 * code) 0 256
all_codes = refl

pub address_sent_lem : (a : ℕ) → a < round → address_sent a ≡ reached a
address_sent_lem a h = agree address_sent reached round all_addresses a h

pub nibble_sent_lem : (n : ℕ) → n < 16 → nibble_sent n ≡ n
nibble_sent_lem n h = agree nibble_sent (λ k. k) 16 all_nibbles n h

pub code_sent_lem : (code : ℕ) → code < 256 → code_sent code ≡ 2 * code
code_sent_lem code h = agree code_sent (λ k. 2 * k) 256 all_codes code h

-- ---- addresses

pub reached_small : (a : ℕ) → a < round → reached a ≡ a
reached_small a h = omega arith

pub reached_next : (a : ℕ) → next (reached a) ≡ reached (suc a)
reached_next a = omega arith
