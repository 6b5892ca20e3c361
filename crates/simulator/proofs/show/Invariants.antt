-- `simulator::show` meets its contract: the cells before `i` stand in the buffer, and the rest is as it was. Assumes nothing.
use mathlib.Core.Path.{◌≡◌}
use mathlib.Core.List.{List, map}
use Prim.Native.Nat.{ℕ, ◌≤◌}
use lib.Bits.{bit_and}
use lib.ListN.{take}
use lib.Seq.{paste}
use Rattle.ground.specs.Sizes.{addresses}
use Rattle.simulator.proofs.show.Given as goal

-- the cells that show
abbrev pub cells : ℕ → List ℕ → List ℕ
cells mask bytes = map (λ n. bit_and n mask) (take addresses bytes)

abbrev pub invariant-loop-i : goal.invariant-loop-i
invariant-loop-i l = (l.i ≤ addresses) × (l.out ≡ paste l.initial.out 0 (cells l.mask l.bytes) l.i)
