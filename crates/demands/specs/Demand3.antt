-- Demand 3, a write that stops. Any valid chip, any write that the driver accepts, stopped after any number of its samples,
-- with ticks anywhere: the memory holds the new values on an unbroken run from the first address, as long as the nibbles
-- completed by then, and the old ones elsewhere; the settings and counters are what the ticks alone make of them; resending
-- mends it, and reading back returns the new values. Assumes nothing.
use Rattle.std.specs.Prelude.{◌≡◌, cond, List, ℕ, zero, suc, ◌+◌, ◌*◌, leb, length, take}
use Rattle.std.proofs.Math.Seq.{paste}
use Rattle.ticks.specs.Ticks.{advanced}
use Rattle.chip.specs.declared.Chip.{Chip}
use Rattle.chip.specs.Valid.{Valid}
use Rattle.streams.specs.Streams.{write_stream, read_stream}
use Rattle.demands.specs.Accepted.{AcceptsWrite}
use Rattle.demands.specs.Events.{Event, after, samples, ticks, notes, ReadsAs}

-- The sample that completes nibble i, from 1; and how many of n nibbles are complete after k samples.
abbrev pub completing : ℕ → ℕ
completing i = 20 + 8 * i

unfoldable pub completed : ℕ → ℕ → ℕ
completed zero k = 0
completed (suc n) k = cond (leb (completing (suc n)) k) 1 0 + completed n k

-- What stands after k samples and some ticks, the chip having been left as `stopped`. `paste m first nibbles n` is m with the
-- first n of the nibbles over it from first on.
pub record Survives (chip : Chip) (first : ℕ) (nibbles : List ℕ) (k passed : ℕ) (stopped : Chip) : Type 0 where
  pub memory : stopped.port.memory ≡ paste chip.port.memory first nibbles (completed (length nibbles) k)
  pub settings : stopped.settings ≡ advanced passed chip.settings
  pub resent : (again : List Event) → samples again ≡ write_stream first nibbles
      → (after stopped again).port.memory ≡ paste chip.port.memory first nibbles (length nibbles)
  pub read_back : (again back : List Event) → samples again ≡ write_stream first nibbles
      → samples back ≡ read_stream first (length nibbles) → ReadsAs (notes (after stopped again) back) nibbles

abbrev pub Demand3 : Type 0
Demand3 =
    (chip : Chip) (first : ℕ) (nibbles : List ℕ) (k : ℕ) (events : List Event)
    → Valid chip → AcceptsWrite first nibbles → samples events ≡ take k (write_stream first nibbles)
    → Survives chip first nibbles k (ticks events) (after chip events)
