-- What each call returns and leaves, by what it was answered. Assumes nothing.
use Rattle.std.specs.Prelude.{Result, Ok, Err}
use mathlib.Core.Path.{◌≡◌, ◌∙◌, refl, sym, ap}
use mathlib.Core.Bool.{Bool, true, false, cond, not}
use mathlib.Core.List.{List, [], ◌∷◌}
use Prim.Native.Nat.{ℕ, ◌≤◌, ◌<◌}
use native.Mathlib.Omega.{arith}
use lib.Dec.{eqb, ltb}
use lib.ListN.{length, replicate}
use borrow.Author.Tests.{ltb-false, eqb-true}
use Rattle.ground.proofs.ChoiceLaws.{by_cases, of_choice}
use Rattle.ground.proofs.OutcomesLaws.{refuses}
use Rattle.ground.proofs.PlacesLaws.{none_above}
use Rattle.ground.specs.declared.Refusal.{Refusal}
use Rattle.ground.specs.declared.Part.{Part}
use Rattle.ground.specs.declared.Part.TheVariants.{Ht}
use Rattle.ground.specs.Parts.{is_part, part_of}
use Rattle.ground.specs.Sizes.{addresses, record_length}
use Rattle.ground.specs.Outcomes.{Outcome, left, ComesTo, Rung, ladder, written_as}
use Rattle.ground.specs.Places.{lowest, somewhere}
use Rattle.power.specs.PowerOn.{fresh_chip, empty_chip, chip_on, power_on_refusals, powered_on}
use Rattle.chip.specs.declared.Chip.{Chip}
use Rattle.chip.specs.Valid.{Valid}
use Rattle.port.proofs.ValidLaws.{nibbles_from}
use Rattle.power.proofs.PowerOnLaws.{fresh_chip_valid}
use Rattle.state.specs.Record.{record_valid, record_of}
use Rattle.state.proofs.TripLaws.{valid_has}
use Rattle.state.proofs.ChipLaws.{chip_valid}
use Rattle.host.specs.Host.{host_code, power_on_record, record_refusals, power_on_answer}
use Rattle.host.proofs.CodesLaws.{Small, ladder_small, answer_held, place_within}

-- what a call comes to is what its code tells, and what it leaves
pub comes_told : {due r : Outcome} {stream before after : List ℕ} {code : ℕ} → ComesTo due stream before r after → code ≡ host_code r
    → (code ≡ host_code due) × (after ≡ left due stream before)
comes_told comes e = (e ∙ ap host_code comes.answer, comes.bytes)

-- ---- power-on

fresh_valid : (part : Part) (memory : List ℕ) → length memory ≡ addresses → length memory ≤ lowest (ltb 15) memory
    → Valid (fresh_chip part memory)
fresh_valid part memory size low = fresh_chip_valid part memory size (nibbles_from memory (none_above 15 memory low))

-- a memory that is not refused with 29
counted : (memory : List ℕ) → not (eqb (length memory) addresses) ≡ false → length memory ≡ addresses
counted memory e = eqb-true (length memory) addresses (by (eqb (length memory) addresses) e)
  where
    by : (b : Bool) → not b ≡ false → b ≡ true
    by true e = refl
    by false e = sym e

-- the chip that is on is valid, and so is the one that stands for it where power-on was refused
on_valid : (part : ℕ) (memory : List ℕ) → Valid (chip_on (powered_on part memory))
unfolding powered_on empty_chip
on_valid part memory =
    let Right = λ (powered : Result Chip Refusal). Valid (chip_on powered) in
    let empty : Valid (fresh_chip Ht (replicate addresses 0)) = fresh_valid Ht (replicate addresses 0) refl (omega arith) in
    by_cases Right (not (is_part part)) (λ unknown. empty)
    (λ known.
    by_cases Right (not (eqb (length memory) addresses)) (λ other. empty)
    (λ long.
    by_cases Right (somewhere (ltb 15) memory) (λ above. empty)
    (λ low. fresh_valid (part_of part) memory (counted memory long) (ltb-false _ _ low))))

-- so what is written is a valid record, and its 64 bytes
pub power_on_answer_valid : (part : ℕ) (memory : List ℕ) → record_valid (power_on_record part memory) ≡ true
unfolding power_on_record
power_on_answer_valid part memory = chip_valid (chip_on (powered_on part memory)) (on_valid part memory)

pub power_on_size : (part : ℕ) (memory : List ℕ) → length (power_on_record part memory) ≡ record_length
power_on_size part memory = (valid_has (power_on_record part memory) (power_on_answer_valid part memory)).long

-- power-on decides first, and only where a chip is on the room
abbrev where_on : Result Chip Refusal → Outcome → Outcome
where_on (Ok chip) then = then
where_on (Err why) then = Err why

rungs_due : (rungs : List Rung) (chip : Chip) (then : Outcome) → ladder Err rungs then ≡ where_on (ladder Err rungs (Ok chip)) then
rungs_due [] chip then = refl
rungs_due (rung ∷ rungs) chip then =
    ap (cond rung.holds (Err rung.why)) (rungs_due rungs chip then)
    ∙ sym (of_choice (λ (powered : Result Chip Refusal). where_on powered then) rung.holds (Err rung.why) (ladder Err rungs (Ok chip)))

module _ (part : ℕ) (memory bytes : List ℕ) where
  due : {powered : Result Chip Refusal} → powered ≡ powered_on part memory
      → power_on_answer part memory (length bytes) ≡ where_on powered (written_as record_length bytes)
  unfolding power_on_answer powered_on written_as
  due e =
      rungs_due (power_on_refusals part memory) (fresh_chip (part_of part) memory) (written_as record_length bytes)
      ∙ rw e refl

  pub power_on_refused : {why : Refusal} → Err why ≡ powered_on part memory
      → ComesTo (power_on_answer part memory (length bytes)) (power_on_record part memory) bytes (Err why) bytes
  power_on_refused e = refuses (due e)

  pub power_on_done : {chip : Chip} → Ok chip ≡ powered_on part memory
      → (power_on_answer part memory (length bytes) ≡ written_as record_length bytes) × (power_on_record part memory ≡ record_of chip)
  unfolding power_on_record
  power_on_done e = (due e, rw (sym e) refl)

-- the code of every answer of power-on tells, too, and 32 bits hold it
pub power_on_small : (part : ℕ) (memory : List ℕ) (room : ℕ) → Small (power_on_answer part memory room)
unfolding power_on_answer
power_on_small part memory room =
    ladder_small (record_refusals part memory room) record_length (
      omega arith,
      λ known. (
        omega arith,
        λ long.
            (omega (arith, counted memory long, place_within (ltb 15) memory), λ clean. (omega arith, λ fits. omega arith)),
      ),
    )

pub power_on_held : (part : ℕ) (memory : List ℕ) (room : ℕ) → host_code (power_on_answer part memory room) < 4294967296
power_on_held part memory room = answer_held _ (power_on_small part memory room)
