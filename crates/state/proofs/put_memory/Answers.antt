-- `state::put_memory` meets its contract. Assumes nothing.
use mathlib.Core.Path.{◌≡◌}
use Prim.Native.Nat.{ℕ}
use native.Mathlib.Omega.{arith}
use borrow.Author.Rules.{rules}
use lib.ListN.{length, length-take}
use Rattle.ground.specs.Sizes.{addresses}
use Rattle.state.proofs.put_memory.Goals as goal

pub copy_from_slice-requires : goal.copy_from_slice-requires
copy_from_slice-requires c =
    let size : length c.args.memory ≡ addresses = search rules in
    omega (arith, size, length-take {A = ℕ} 32 c.args.out.now)
