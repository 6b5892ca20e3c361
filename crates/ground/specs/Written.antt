-- Bytes of a list, and bytes written over a buffer, the rest of it as it was. Assumes nothing.
use Rattle.std.specs.Prelude.{◌≡◌, List, ◌++◌, ℕ, ◌+◌, min, length, take, drop, get_or, replicate}
use Rattle.std.proofs.Math.Seq.{paste}
use Rattle.ground.specs.Sizes.{addresses}

-- Byte i, 0 where the list is shorter.
abbrev pub byte : List ℕ → ℕ → ℕ
byte bytes i = get_or bytes i 0

-- The buffer with `bytes` over it from `at` on.
abbrev pub over : List ℕ → ℕ → List ℕ → List ℕ
over buffer at bytes = take at buffer ++ bytes ++ drop (at + length bytes) buffer

-- A write at a cursor: the bytes stand there, and the cursor after them is `next`.
pub record Wrote (before : List ℕ) (at : ℕ) (bytes after : List ℕ) (next : ℕ) : Type 0 where
  pub cursor : next ≡ at + length bytes
  pub buffer : after ≡ over before at bytes

-- A value for each address: the first of some values, with zeros where there are fewer.
abbrev pub memory_from : List ℕ → List ℕ
memory_from values = paste (replicate addresses 0) 0 values (min addresses (length values))
