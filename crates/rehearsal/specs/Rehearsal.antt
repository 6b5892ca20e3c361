-- A rehearsal of demand 3 in code: the driver's stream, stopped, with a pause of ticks after each sample. Assumes nothing.
use Rattle.std.specs.Prelude.{◌≡◌, List, [], ◌∷◌, ◌++◌, ℕ, ◌*◌, length, take, replicate, Ok, Err}
use Rattle.chip.specs.declared.Chip.{Chip}
use Rattle.chip.specs.Valid.{Valid}
use Rattle.ground.specs.Outcomes.{Outcome, left}
use Rattle.driver.specs.Refusals.{write_answer}
use Rattle.streams.specs.Streams.{write_stream}
use Rattle.rehearsal.specs.declared.Rehearsed.{Rehearsed}
use Rattle.demands.specs.Events.{Event, sample, tick, after}
use Rattle.demands.specs.Demand3.{Survives}

-- Samples with the same number of ticks after each.
abbrev pub paced : ℕ → List ℕ → List Event
paced pause [] = []
paced pause (s ∷ ss) = sample s ∷ replicate pause tick ++ paced pause ss

-- Where the write was stopped: after its first samples; a refused one never began.
abbrev pub stopped : Outcome → Chip → ℕ → ℕ → List ℕ → Chip
stopped (Ok count) chip stop pause stream = after chip (paced pause (take stop stream))
stopped (Err why) chip stop pause stream = chip

-- The driver's answer and its bytes, and the chip at the stop.
pub record Rehearses (chip : Chip) (first : ℕ) (nibbles : List ℕ) (stop pause : ℕ) (before : List ℕ)
    (r : Rehearsed) (after' : List ℕ) : Type 0 where
  pub answer : r.answer ≡ write_answer first nibbles (length before)
  pub bytes : after' ≡ left (write_answer first nibbles (length before)) (write_stream first nibbles) before
  pub end : r.chip ≡ stopped (write_answer first nibbles (length before)) chip stop pause (write_stream first nibbles)

-- Demand 3 of what a rehearsal returns: from a valid chip, where the driver has written its stream, the chip returned is one
-- that survived the stop, with a pause for each sample fed.
abbrev pub Demand3OfRehearsals : Type 0
Demand3OfRehearsals =
    (chip : Chip) (first : ℕ) (nibbles : List ℕ) (stop pause : ℕ) (before : List ℕ) (r : Rehearsed) (after' : List ℕ) (count : ℕ)
    → Valid chip → Rehearses chip first nibbles stop pause before r after' → r.answer ≡ Ok count
    → Survives chip first nibbles stop (length (take stop (write_stream first nibbles)) * pause) r.chip
