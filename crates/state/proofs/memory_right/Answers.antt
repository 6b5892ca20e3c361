-- `state::memory_right` meets its contract: the length decides, and then the test of each nibble. Assumes nothing.
use mathlib.Core.Path.{◌∙◌}
use Prim.Native.Nat.{ℕ}
use lib.ListN.{length-take}
use native.Mathlib.Omega.{arith}
use borrow.Author.Tests.{eq-eqb}
use Rattle.state.proofs.MemoryLaws.{memory_tested}
use Rattle.state.proofs.memory_right.Goals as goal

pub slice_bounds-are_nibbles-end : goal.slice_bounds-are_nibbles-end
slice_bounds-are_nibbles-end c = omega (arith, length-take {A = ℕ} 32 c.args.bytes.now)

pub returns-then-counted : goal.returns-then-counted
returns-then-counted c =
    rw (eq-eqb _ _ c.if-counted.true)
    (c.are_nibbles.ensures ∙ memory_tested c.args.bytes.now c.if-counted.true)
