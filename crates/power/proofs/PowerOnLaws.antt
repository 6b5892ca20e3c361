-- What power-on answers, by the numbers of RULES: 43 unless there is such a part, 29 unless the memory has 32 values, then 23 where one
-- is above 15.
-- Assumes nothing.
use Rattle.std.specs.Prelude.{Result, Ok, Err}
use mathlib.Core.Path.{◌≡◌, refl}
use mathlib.Core.Bool.{Bool, true, false, cond, not}
use mathlib.Core.List.{List}
use Prim.Native.Nat.{ℕ}
use lib.Dec.{eqb, ltb}
use Rattle.ground.specs.Sizes.{addresses}
use lib.ListN.{length}
use Rattle.ground.specs.declared.Refusal.{Refusal}
use Rattle.ground.specs.declared.Refusal.TheVariants.{NibbleAbove, MemoryCount, UnknownPart}
use Rattle.ground.specs.declared.Part.{Part}
use Rattle.ground.specs.Parts.{is_part, part_of}
use Rattle.ground.specs.Places.{lowest, somewhere}
use Rattle.port.specs.Valid.{Nibbles}
use Rattle.rules.proofs.ValidLaws.{power_on_valid}
use Rattle.chip.specs.declared.Chip.{Chip}
use Rattle.chip.specs.Valid.{Valid}
use Rattle.power.specs.PowerOn.{start_number, start_place, fresh_chip, powered_on}

pub start_told : (part : ℕ) (memory : List ℕ)
    → (start_number (powered_on part memory)
    ≡ cond (is_part part) (cond (eqb (length memory) addresses) (cond (somewhere (ltb 15) memory) 23 0) 29) 43)
    × (start_place (powered_on part memory)
    ≡ cond (is_part part) (cond (eqb (length memory) addresses) (cond (somewhere (ltb 15) memory) (lowest (ltb 15) memory) 0) 0) 0)
unfolding powered_on
start_told part memory = by (is_part part) (eqb (length memory) addresses) (somewhere (ltb 15) memory)
  where
    started : Bool → Bool → Bool → Result Chip Refusal
    started known long above =
        cond (not known) (Err UnknownPart)
        (cond (not long) (Err MemoryCount) (cond above (Err (NibbleAbove (lowest (ltb 15) memory))) (Ok (fresh_chip (part_of part) memory))))

    by : (known long above : Bool)
        → (start_number (started known long above) ≡ cond known (cond long (cond above 23 0) 29) 43)
        × (start_place (started known long above) ≡ cond known (cond long (cond above (lowest (ltb 15) memory) 0) 0) 0)
    by true true true = (refl, refl)
    by true true false = (refl, refl)
    by true false above = (refl, refl)
    by false long above = (refl, refl)

-- power-on gives a valid chip
pub fresh_chip_valid : (part : Part) (memory : List ℕ) → length memory ≡ addresses → Nibbles memory → Valid (fresh_chip part memory)
fresh_chip_valid part memory size nibbles =
    record { port = record { size = size; nibbles = nibbles; frame = (refl, refl) }; settings = power_on_valid part }
