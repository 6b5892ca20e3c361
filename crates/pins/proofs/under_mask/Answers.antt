-- `pins::under_mask` meets its contract: the cells before `i` are under the mask. Assumes nothing.
use mathlib.Core.Path.{◌≡◌, ◌∙◌, sym, ap}
use mathlib.Core.List.{List}
use Prim.Native.Nat.{ℕ, ◌+◌, ◌≤◌, ◌<◌}
use native.Mathlib.Omega.{arith}
use lib.Bits.{bit_and}
use lib.ListN.{length, get_or, set, length-map}
use lib.Seq.{paste}
use Rattle.ground.proofs.BitsLaws.{masked_at}
use Rattle.ground.proofs.WrittenLaws.{paste_next, paste_whole}
use Rattle.pins.proofs.under_mask.Invariants.{masked}
use Rattle.pins.proofs.under_mask.Goals as goal

-- one cell more under the mask
next : (mask : ℕ) (memory cells : List ℕ) (i : ℕ) → cells ≡ paste memory 0 (masked mask memory) i → i < length memory
    → set cells i (bit_and (get_or memory i 0) mask) ≡ paste memory 0 (masked mask memory) (i + 1)
next mask memory cells i e h =
    ap (set cells i) (sym (masked_at mask memory i))
    ∙ paste_next memory (masked mask memory) cells i e h (omega (arith, length-map memory (λ n. bit_and n mask)))

whole : (mask : ℕ) (memory cells : List ℕ) (i : ℕ) → cells ≡ paste memory 0 (masked mask memory) i → length memory ≤ i
    → cells ≡ masked mask memory
whole mask memory cells i e h =
    e ∙ paste_whole memory (masked mask memory) i h (omega (arith, length-map memory (λ n. bit_and n mask)))

pub loop-i-preserved : goal.loop-i-preserved
loop-i-preserved c = (omega arith, next c.args.mask c.args.memory c.loop-i.cells c.loop-i.i c.loop-i.invariant.1 (omega arith))

pub returns : goal.returns
returns c = whole c.args.mask c.args.memory c.loop-i.cells c.loop-i.i c.loop-i.invariant.1 (omega arith)
