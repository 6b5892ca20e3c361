-- RULES "Commands", its power-on, of the whole chip; and its refusals in "Driver streams". Assumes nothing.
use Rattle.std.specs.Prelude.{ℕ, not, List, [], ◌∷◌, eqb, ltb, length, replicate, Result, Ok, Err}
use Rattle.ground.specs.Sizes.{addresses}
use Rattle.ground.specs.declared.Refusal.{Refusal}
use Rattle.ground.specs.declared.Refusal.TheVariants.{NibbleAbove, MemoryCount, UnknownPart}
use Rattle.ground.specs.declared.Part.{Part}
use Rattle.ground.specs.declared.Part.TheVariants.{Ht}
use Rattle.ground.specs.Parts.{is_part, part_of}
use Rattle.ground.specs.Outcomes.{Rung, refused_if, ladder}
use Rattle.ground.specs.Places.{lowest, somewhere}
use Rattle.ground.specs.Refusals.{refusal_number, refusal_place}
use Rattle.settings.specs.Settings.{power_on}
use Rattle.phases.specs.declared.Phase.TheVariants.{Idle}
use Rattle.phases.specs.declared.Line.TheVariants.{Released}
use Rattle.lines.specs.Samples.{levels}
use Rattle.chip.specs.declared.Chip.{Chip}

-- The number and the place of an answer: 0 where the chip is on, else the refusal's.
abbrev pub start_number : Result Chip Refusal → ℕ
start_number (Ok chip) = 0
start_number (Err refusal) = refusal_number refusal

abbrev pub start_place : Result Chip Refusal → ℕ
start_place (Ok chip) = 0
start_place (Err refusal) = refusal_place refusal

-- The caller's memory, the part's settings of power-on, all lines high, no frame, and DATA released.
abbrev pub fresh_chip : Part → List ℕ → Chip
fresh_chip part memory =
    record {
      port = record { memory = memory; levels = levels 15; phase = Idle; line = Released };
      settings = power_on part;
    }

-- An HT with an empty memory: RULES "The listing" begins so.
unfoldable pub empty_chip : Chip
empty_chip = fresh_chip Ht (replicate addresses 0)

-- The chip that is on; where power-on was refused, that of an empty memory stands for it.
abbrev pub chip_on : Result Chip Refusal → Chip
chip_on (Ok chip) = chip
chip_on (Err refusal) = empty_chip

-- Its refusals, in order: 43 where there is no such part, 29 where the memory has not a value for each address, and 23 at the lowest
-- value above 15.
abbrev pub power_on_refusals : ℕ → List ℕ → List Rung
power_on_refusals part memory =
    refused_if (not (is_part part)) UnknownPart
    ∷ refused_if (not (eqb (length memory) addresses)) MemoryCount
    ∷ refused_if (somewhere (ltb 15) memory) (NibbleAbove (lowest (ltb 15) memory)) ∷ []

unfoldable pub powered_on : ℕ → List ℕ → Result Chip Refusal
powered_on part memory = ladder Err (power_on_refusals part memory) (Ok (fresh_chip (part_of part) memory))
