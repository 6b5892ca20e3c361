-- RULES "State record and simulator": what each exported call returns, and the bytes that it leaves, for every list of bytes.
-- Assumes nothing.
use Rattle.std.specs.Prelude.{ℕ, ◌+◌, ◌*◌, not, List, [], ◌∷◌, ltb, length, Result, Ok, Err}
use Rattle.ground.specs.Sizes.{addresses}
use Rattle.ground.specs.Bits.{bit_number}
use Rattle.ground.specs.declared.Refusal.{Refusal}
use Rattle.ground.specs.declared.Refusal.TheVariants.{SampleAbove, OutputShort, Malformed}
use Rattle.ground.specs.Outcomes.{Rung, refused_if, ladder}
use Rattle.ground.specs.Refusals.{refusal_number}
use Rattle.ground.specs.Written.{over}
use Rattle.answers.specs.declared.Answer.{Answer}
use Rattle.phases.specs.Phases.{line_number}
use Rattle.answers.specs.Answers.{answer_number, first_detail, second_detail}
use Rattle.pins.specs.declared.Pins.{Pins}
use Rattle.chip.specs.Chip.{stepped, advanced}
use Rattle.pins.specs.Pins.{pins_shown}
use Rattle.state.specs.Record.{record_valid, record_of, chip_of}

-- An answer and its two details as one number, a byte each, the answer lowest.
unfoldable pub answer_code : Answer → ℕ
answer_code answer = answer_number answer + 256 * first_detail answer + 65536 * second_detail answer

-- IRQ low, BZ high, its partner high, and byte 39.
unfoldable pub pins_code : Pins → ℕ
pins_code pins = bit_number pins.irq + 2 * bit_number pins.bz + 4 * bit_number pins.partner + 8 * line_number pins.line

-- A call returns its number, and a refusal by the refusal's.
abbrev pub returned : Result ℕ Refusal → ℕ
returned (Ok number) = number
returned (Err why) = refusal_number why

-- Before all else a malformed record is refused.
abbrev pub malformed : List ℕ → Rung
malformed b = refused_if (not (record_valid b)) Malformed

-- Step: 28, then 20; a refused call leaves the record as it was.
abbrev pub step_refusals : List ℕ → ℕ → List Rung
step_refusals b sample = malformed b ∷ refused_if (ltb 15 sample) SampleAbove ∷ []

unfoldable pub step_returns : List ℕ → ℕ → ℕ
step_returns b sample = ladder refusal_number (step_refusals b sample) (answer_code (stepped (chip_of b) sample).answer)

unfoldable pub step_bytes : List ℕ → ℕ → List ℕ
step_bytes b sample = ladder (λ why. b) (step_refusals b sample) (record_of (stepped (chip_of b) sample).chip)

-- Advance: 28, or the record so many single ticks later.
unfoldable pub advance_returns : List ℕ → ℕ
advance_returns b = ladder refusal_number (malformed b ∷ []) 0

unfoldable pub advance_bytes : List ℕ → ℕ → List ℕ
advance_bytes b n = ladder (λ why. b) (malformed b ∷ []) (record_of (advanced n (chip_of b)))

-- Pins: 28, then 25; the cells shown over the first 32 bytes of the buffer, and no byte after them.
abbrev pub pins_refusals : List ℕ → List ℕ → List Rung
pins_refusals b out = malformed b ∷ refused_if (ltb (length out) addresses) OutputShort ∷ []

unfoldable pub pins_returns : List ℕ → List ℕ → ℕ
pins_returns b out = ladder refusal_number (pins_refusals b out) (pins_code (pins_shown (chip_of b)))

unfoldable pub pins_bytes : List ℕ → List ℕ → List ℕ
pins_bytes b out = ladder (λ why. out) (pins_refusals b out) (over out 0 (pins_shown (chip_of b)).cells)
