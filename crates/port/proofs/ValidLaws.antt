-- Every sample keeps a valid port valid. Assumes nothing.
use mathlib.Core.Path.{◌≡◌, ◌∙◌, refl}
use mathlib.Core.List.{List, [], ◌∷◌}
use Prim.Native.Nat.{ℕ, zero, suc, ◌≤◌, ◌<◌, suc-le-suc, zero-le}
use lib.ListN.{length, get_or, set, length-set}
use Rattle.lines.specs.declared.Levels.{Levels}
use Rattle.lines.specs.Samples.{rose}
use Rattle.phases.specs.Phases.{address}
use Rattle.frames.specs.declared.Upshot.{Upshot}
use Rattle.frames.specs.declared.Upshot.TheVariants.{Answered, Nibble, Code}
use Rattle.frames.specs.Valid.{UpshotValid}
use Rattle.frames.proofs.ValidLaws.{frame_valid}
use Rattle.port.specs.declared.Port.{Port}
use Rattle.port.specs.Port.{memory_after, framed_by, moved}
use Rattle.port.specs.Valid.{Nibbles, PortValid}

-- ---- the memory

pub nibbles_from : (memory : List ℕ) → ((k : ℕ) → k < length memory → get_or memory k 0 ≤ 15) → Nibbles memory
nibbles_from [] low = tt
nibbles_from (nibble ∷ memory) low = (suc-le-suc (low 0 (suc-le-suc zero-le)), nibbles_from memory (λ k h. low (suc k) (suc-le-suc h)))

set_nibbles : (memory : List ℕ) (at nibble : ℕ) → Nibbles memory → nibble < 16 → Nibbles (set memory at nibble)
set_nibbles [] at nibble v h = tt
set_nibbles (n ∷ memory) zero nibble v h = (h, v.1)
set_nibbles (n ∷ memory) (suc at) nibble v h = (v.0, set_nibbles memory at nibble v.1 h)

memory_after_size : (upshot : Upshot) (memory : List ℕ) → length (memory_after upshot memory) ≡ length memory
unfolding memory_after
memory_after_size (Answered answer) memory = refl
memory_after_size (Nibble at nibble) memory = simp length-set
memory_after_size (Code code) memory = refl

memory_after_nibbles : (upshot : Upshot) (memory : List ℕ) → UpshotValid upshot → Nibbles memory → Nibbles (memory_after upshot memory)
unfolding memory_after
memory_after_nibbles (Answered answer) memory a v = v
memory_after_nibbles (Nibble at nibble) memory a v = set_nibbles memory at nibble v a
memory_after_nibbles (Code code) memory a v = v

-- ---- a sample

pub moved_valid : (port : Port) (new : Levels) → PortValid port → PortValid (moved port new).port
unfolding moved framed_by
moved_valid port new v =
    let kept =
    frame_valid port.levels.cs new.cs (rose port.levels.wr new.wr) (rose new.rd port.levels.rd) new.bit
    (get_or port.memory (address port.phase) 0) port.phase port.line v.frame in
    let done = (framed_by port new).upshot in
    record {
      size = memory_after_size done port.memory ∙ v.size;
      nibbles = memory_after_nibbles done port.memory kept.1 v.nibbles;
      frame = kept.0;
    }
