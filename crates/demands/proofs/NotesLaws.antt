-- Notes that are the bits of some nibbles, D0 first, read back as these nibbles: there are four a nibble, none above 1, and
-- four and four they make the nibble again. Assumes nothing.
use mathlib.Core.Path.{◌≡◌, refl, ap₂}
use mathlib.Core.Bool.{Bool, true, false}
use mathlib.Core.List.{List, [], ◌∷◌}
use Prim.Native.Nat.{ℕ, ◌*◌, ◌%◌, ◌≤◌, ◌<◌}
use native.Mathlib.Omega.{arith}
use lib.ListN.{length}
use borrow.Author.Tests.{le-ltb, eq-eqb, ne_eqb}
use Rattle.ground.specs.Bits.{bit_at, bit_number}
use Rattle.ground.specs.Places.{lowest, somewhere}
use Rattle.ground.specs.Sizes.{addresses}
use Rattle.ground.specs.Values.{values, agree}
use Rattle.port.specs.Valid.{Nibbles}
use Rattle.driver.specs.Refusals.{noted_fault, miscounted, decode_answer}
use Rattle.streams.specs.Streams.{nibble_of, decoded}
use Rattle.demands.specs.Events.{ReadsAs}
use Rattle.demands.proofs.AcceptedLaws.{Fit}

abbrev pub bits_of : List ℕ → List ℕ
bits_of [] = []
bits_of (n ∷ ns) = bit_number (bit_at 0 n) ∷ bit_number (bit_at 1 n) ∷ bit_number (bit_at 2 n) ∷ bit_number (bit_at 3 n) ∷ bits_of ns

-- ---- a nibble of its bits

abbrev from_bits : ℕ → ℕ
from_bits n = nibble_of (bit_number (bit_at 0 n)) (bit_number (bit_at 1 n)) (bit_number (bit_at 2 n)) (bit_number (bit_at 3 n))

nibbles : values from_bits 0 16 ≡ values (λ n. n) 0 16
nibbles = refl

from_bits_lem : (n : ℕ) → n < 16 → from_bits n ≡ n
from_bits_lem n h = agree from_bits (λ k. k) 16 nibbles n h

bits_decode : (ns : List ℕ) → Nibbles ns → decoded (bits_of ns) ≡ ns
bits_decode [] v = refl
bits_decode (n ∷ ns) v = ap₂ ◌∷◌ (from_bits_lem n v.0) (bits_decode ns v.1)

-- ---- the decoder's tests

bits_count : (ns : List ℕ) → length (bits_of ns) ≡ 4 * length ns
bits_count [] = refl
bits_count (n ∷ ns) = let h = bits_count ns in omega arith

bit_faultless : (bit : Bool) → noted_fault (bit_number bit) ≡ false
bit_faultless true = refl
bit_faultless false = refl

bits_faultless : (ns : List ℕ) → lowest noted_fault (bits_of ns) ≡ length (bits_of ns)
bits_faultless [] = refl
bits_faultless (n ∷ ns) = simp (bit_faultless, bits_faultless ns)

pub bits_read : {first : ℕ} (ns : List ℕ) → Fit first ns → ReadsAs (bits_of ns) ns
unfolding decode_answer miscounted
bits_read ns fit =
    let v = fit.nibbles in
    let some = fit.some in
    let most : length ns ≤ addresses = omega (arith, fit.inside) in
    let size = bits_count ns in
    let nowhere : somewhere noted_fault (bits_of ns) ≡ false =
    le-ltb (lowest noted_fault (bits_of ns)) (length (bits_of ns)) (omega (arith, bits_faultless ns)) in
    record {
      accepted = λ room h.
          simp (ne_eqb (length (bits_of ns)) 0 (omega arith), le-ltb 128 (length (bits_of ns)) (omega arith), eq-eqb (length (bits_of ns) % 4) 0 (omega arith), nowhere, bits_decode ns v, le-ltb room (length ns) h);
      bytes = bits_decode ns v;
    }
