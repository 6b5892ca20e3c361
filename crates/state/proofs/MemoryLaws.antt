-- Laws of the memory's bytes: that they are nibbles, found out one by one. Assumes nothing.
use Rattle.std.specs.Prelude.{fold}
use mathlib.Core.Path.{◌≡◌, ◌∙◌, refl, sym, ap}
use mathlib.Core.Bool.{Bool, true, false, ◌&&◌}
use mathlib.Core.List.{List, [], ◌∷◌, ◌++◌}
use Prim.Native.Nat.{ℕ, zero, suc, ◌≤◌}
use native.Mathlib.Omega.{arith}
use native.Mathlib.Nat.{le_of_suc-le-suc, not-suc-le-zero}
use lib.Dec.{leb}
use lib.ListN.{length-take, length, take, replicate}
use borrow.Author.Tests.{leb-true, le-leb}
use Rattle.ground.specs.Sizes.{addresses, record_length}
use Rattle.ground.specs.Ranges.{up_to}
use Rattle.ground.proofs.ChoiceLaws.{and_left, and_right}
use Rattle.port.specs.Valid.{Nibbles}
use Rattle.state.specs.Record.{memory_fits}

-- ---- nibbles are bytes up to 15

pub up_to_nibbles : (n : ℕ) (bytes : List ℕ) → n ≤ length bytes → up_to bytes (replicate n 15) ≡ true → Nibbles (take n bytes)
unfolding up_to
up_to_nibbles zero bytes h e = tt
up_to_nibbles (suc n) [] h e = absurd (not-suc-le-zero h)
up_to_nibbles (suc n) (byte ∷ bytes) h e = (
  omega (arith, leb-true byte 15 (and_left (leb byte 15) (up_to bytes (replicate n 15)) e)),
  up_to_nibbles n bytes (le_of_suc-le-suc h) (and_right (leb byte 15) (up_to bytes (replicate n 15)) e),
)

none_over : (bytes : List ℕ) → up_to bytes [] ≡ true
unfolding up_to
none_over [] = refl
none_over (byte ∷ bytes) = refl

pub up_to_memory : (n : ℕ) (memory bytes : List ℕ) → length memory ≡ n → Nibbles memory
    → up_to (memory ++ bytes) (replicate n 15) ≡ true
unfolding up_to
up_to_memory zero [] bytes h v = none_over bytes
up_to_memory zero (nibble ∷ memory) bytes h v = let no : ⊥ = omega arith in absurd no
up_to_memory (suc n) [] bytes h v = let no : ⊥ = omega arith in absurd no
up_to_memory (suc n) (nibble ∷ memory) bytes h v =
    let small : nibble ≤ 15 = omega (arith, v.0) in
    rw (le-leb nibble 15 small) (up_to_memory n memory bytes (omega arith) v.1)

-- ---- a test of each value in turn, and of the memory's bytes alone

pub tested_all : (values : List ℕ) (right : Bool) → fold (λ right n. right && leb n 15) right values ≡ (right && up_to values (replicate (length values) 15))
unfolding up_to
tested_all [] true = refl
tested_all [] false = refl
tested_all (value ∷ values) right = tested_all values (right && leb value 15) ∙ by right (leb value 15) (up_to values (replicate (length values) 15))
  where
    by : (a b c : Bool) → ((a && b) && c) ≡ (a && (b && c))
    by true b c = refl
    by false b c = refl

pub up_to_first : (n : ℕ) (bytes : List ℕ) → up_to (take n bytes) (replicate n 15) ≡ up_to bytes (replicate n 15)
unfolding up_to
up_to_first zero bytes = sym (none_over bytes)
up_to_first (suc n) [] = refl
up_to_first (suc n) (byte ∷ bytes) = ap (λ (t : Bool). leb byte 15 && t) (up_to_first n bytes)

pub memory_tested : (b : List ℕ) → length b ≡ record_length → fold (λ right n. right && leb n 15) true (take addresses b) ≡ memory_fits b
memory_tested b h =
    let long : length (take addresses b) ≡ addresses = omega (arith, length-take addresses b) in
    tested_all (take addresses b) true
    ∙ ap (λ (n : ℕ). up_to (take addresses b) (replicate n 15)) long
    ∙ up_to_first addresses b
