-- Laws of decimal numbers: which digits one of each length has, and how long one is. Assumes nothing.
use mathlib.Core.Path.{◌≡◌, refl, ap}
use mathlib.Core.Bool.{Bool, true, false}
use mathlib.Core.List.{List, [], ◌∷◌, ◌++◌}
use Prim.Native.Nat.{ℕ, zero, suc, ◌+◌, ◌/◌, ◌%◌, ◌≤◌, ◌<◌}
use native.Mathlib.Omega.{arith}
use borrow.Author.Tests.{lt-ltb, le-ltb}
use lib.Dec.{ltb}
use lib.ListN.{length, length-append}
use Rattle.ground.specs.Written.{Wrote}
use Rattle.listed.specs.Listing.{digits, decimal, field}

-- the digits of the tenth, and then the last
next_digit : (most n : ℕ) {more : List ℕ} {last : ℕ} → 10 ≤ n → digits most (n / 10) ≡ more → last ≡ 48 + n % 10
    → digits (suc most) n ≡ more ++ last ∷ []
unfolding digits
next_digit most n h e d = rw (le-ltb n 10 h, e, d)

-- a number of each length is its digits, where there is room for them
pub one_digit : (most n : ℕ) {ones : ℕ} → n < 10 → ones ≡ 48 + n % 10 → digits (suc most) n ≡ ones ∷ []
unfolding digits
one_digit most n {ones} h d = rw (lt-ltb n 10 h) (ap (λ (byte : ℕ). byte ∷ []) (omega arith))

pub two_digits : (most n : ℕ) {tens ones : ℕ} → 10 ≤ n → n < 100 → tens ≡ 48 + n / 10 % 10 → ones ≡ 48 + n % 10
    → digits (suc (suc most)) n ≡ tens ∷ ones ∷ []
two_digits most n h k t d = next_digit (suc most) n h (one_digit most (n / 10) (omega arith) t) d

pub three_digits : (most n : ℕ) {hundreds tens ones : ℕ} → 100 ≤ n → n < 1000
    → hundreds ≡ 48 + n / 100 % 10 → tens ≡ 48 + n / 10 % 10 → ones ≡ 48 + n % 10
    → digits (suc (suc (suc most))) n ≡ hundreds ∷ tens ∷ ones ∷ []
three_digits most n h k c t d =
    next_digit (suc (suc most)) n (omega arith)
    (two_digits most (n / 10) (omega arith) (omega arith) (omega arith) t) d

pub four_digits : (most n : ℕ) {thousands hundreds tens ones : ℕ} → 1000 ≤ n → n < 10000
    → thousands ≡ 48 + n / 1000 % 10 → hundreds ≡ 48 + n / 100 % 10 → tens ≡ 48 + n / 10 % 10 → ones ≡ 48 + n % 10
    → digits (suc (suc (suc (suc most)))) n ≡ thousands ∷ hundreds ∷ tens ∷ ones ∷ []
four_digits most n h k m c t d =
    next_digit (suc (suc (suc most))) n (omega arith)
    (three_digits most (n / 10) (omega arith) (omega arith) (omega arith) (omega arith) t) d

pub five_digits : (n : ℕ) {myriads thousands hundreds tens ones : ℕ} → 10000 ≤ n → n < 100000
    → myriads ≡ 48 + n / 10000 % 10 → thousands ≡ 48 + n / 1000 % 10 → hundreds ≡ 48 + n / 100 % 10
    → tens ≡ 48 + n / 10 % 10 → ones ≡ 48 + n % 10 → digits 5 n ≡ myriads ∷ thousands ∷ hundreds ∷ tens ∷ ones ∷ []
five_digits n h k x m c t d =
    next_digit 4 n (omega arith)
    (four_digits 0 (n / 10) (omega arith) (omega arith) (omega arith) (omega arith) (omega arith) t) d

length_digits : (most n : ℕ) (b : Bool) → ltb n 10 ≡ b → length (digits most n) ≤ most
unfolding digits
length_digits zero n b e = omega arith
length_digits (suc most) n true e = rw e (omega arith)
length_digits (suc most) n false e =
    rw e (simp length-append (omega (arith, length_digits most (n / 10) (ltb (n / 10) 10) refl)))

pub length_decimal : (n : ℕ) → length (decimal n) ≤ 5
unfolding decimal
length_decimal n = length_digits 5 n (ltb n 10) refl

pub length_field : (n after : ℕ) → length (field n after) ≤ 6
unfolding field
length_field n after = simp length-append (omega (arith, length_decimal n))

-- the digits and then the byte that ends them
pub field_wrote : {a b : List ℕ} {at k : ℕ} (n after : ℕ) {bytes : List ℕ} → digits 5 n ≡ bytes
    → Wrote a at (bytes ++ after ∷ []) b k → Wrote a at (field n after) b k
unfolding decimal field
field_wrote n after e w = rw e w
