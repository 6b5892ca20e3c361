-- `pins::under_mask` meets its contract: the cells before `i` are under the mask. Assumes nothing.
use mathlib.Core.Path.{◌≡◌}
use mathlib.Core.List.{List, map}
use Prim.Native.Nat.{ℕ, ◌≤◌}
use lib.Bits.{bit_and}
use lib.Seq.{paste}
use Rattle.ground.specs.Sizes.{addresses}
use Rattle.pins.proofs.under_mask.Given as goal

-- the cells under the mask
abbrev pub masked : ℕ → List ℕ → List ℕ
masked mask memory = map (λ n. bit_and n mask) memory

abbrev pub invariant-loop-i : goal.invariant-loop-i
invariant-loop-i l = (l.i ≤ addresses) × (l.cells ≡ paste l.memory 0 (masked l.mask l.memory) l.i)
