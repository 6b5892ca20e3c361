-- `simulator::show` meets its contract: the cells before `i` stand in the buffer, and the rest is as it was. Assumes nothing.
use mathlib.Core.Path.{◌≡◌, ◌∙◌, sym, ap}
use mathlib.Core.List.{List, map}
use Prim.Native.Nat.{ℕ, ◌+◌, ◌≤◌, ◌<◌}
use native.Mathlib.Omega.{arith}
use lib.Bits.{bit_and}
use lib.ListN.{length, get_or, set, take, length-map}
use lib.Seq.{paste, get_or-take, length-take-le}
use Rattle.ground.specs.Sizes.{addresses}
use Rattle.ground.proofs.BitsLaws.{masked_at}
use Rattle.ground.proofs.WrittenLaws.{over_paste, paste_next}
use Rattle.simulator.proofs.show.Invariants.{cells}
use Rattle.simulator.proofs.show.Goals as goal

cells_long : (mask : ℕ) (bytes : List ℕ) → addresses ≤ length bytes → length (cells mask bytes) ≡ addresses
cells_long mask bytes h = length-map (take addresses bytes) (λ n. bit_and n mask) ∙ length-take-le addresses bytes h

-- one cell more
next : (bytes buffer out : List ℕ) (mask i : ℕ) → out ≡ paste buffer 0 (cells mask bytes) i → addresses ≤ length bytes
    → addresses ≤ length buffer → i < addresses → set out i (bit_and (get_or bytes i 0) mask) ≡ paste buffer 0 (cells mask bytes) (i + 1)
next bytes buffer out mask i e long room more =
    ap (λ (n : ℕ). set out i (bit_and n mask)) (sym (get_or-take addresses bytes i 0 more))
    ∙ ap (set out i) (sym (masked_at mask (take addresses bytes) i))
    ∙ paste_next buffer (cells mask bytes) out i e (omega arith) (omega (arith, cells_long mask bytes long))

pub loop-i-preserved : goal.loop-i-preserved
loop-i-preserved c =
    let start = c.args in
    let loop = c.loop-i in
    (omega arith, next start.bytes.now start.out.now loop.out start.mask loop.i loop.invariant.1 (omega arith) (omega arith) (omega arith))

pub returns : goal.returns
returns c =
    let start = c.args in
    let loop = c.loop-i in
    let all : loop.i ≡ length (cells start.mask start.bytes.now) = omega (arith, cells_long start.mask start.bytes.now (omega arith)) in
    loop.invariant.1 ∙ ap (paste start.out.now 0 (cells start.mask start.bytes.now)) all ∙ over_paste start.out.now (cells start.mask start.bytes.now) 0
