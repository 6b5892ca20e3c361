-- What each call leaves; one on a record by its refusals, of which no other number that it returns is one. Assumes nothing.
use mathlib.Core.Path.{◌≡◌, ◌∙◌, refl, sym, ap}
use mathlib.Core.Bool.{Bool, true, false, not, ◌&&◌}
use mathlib.Core.List.{List}
use mathlib.Core.Logic.{⊎_elim}
use Prim.Native.Nat.{ℕ, ◌≤◌}
use native.Mathlib.Omega.{arith}
use lib.Dec.{ltb}
use lib.ListN.{length}
use borrow.Author.Tests.{ltb-false}
use Rattle.ground.proofs.BitsLaws.{bit_number_small}
use Rattle.phases.proofs.FrameLaws.{fits_has}
use Rattle.chip.specs.declared.Chip.{Chip}
use Rattle.chip.specs.Chip.{stepped, advanced}
use Rattle.chip.specs.Valid.{Valid}
use Rattle.chip.proofs.ValidLaws.{stepped_valid, advanced_valid}
use Rattle.state.specs.Record.{record_valid, record_of, chip_of}
use Rattle.state.proofs.ChipLaws.{valid_chip, chip_valid}
use Rattle.state.proofs.TripLaws.{valid_has}
use Rattle.simulator.specs.Simulator.{answer_code, step_returns, step_bytes, advance_returns, advance_bytes, pins_returns, pins_bytes}
use Rattle.sheet.specs.Pins.{irq_is_low, sounds, tone_is_high}
use Rattle.sheet.specs.Left.{Keeps, StepRefused, PinsRefused, LeftSheet}
use Rattle.sheet.proofs.AnswerLaws.{answer_low}
use Rattle.sheet.proofs.BufferLaws.{write_leaves, read_leaves, commands_leave, decode_leaves, power_on_leaves}
use Rattle.sheet.proofs.Pins.{pins_sheet}

-- the record of a valid chip is as long as every valid record
same_size : (b : List ℕ) (c : Chip) → record_valid b ≡ true → Valid c → length (record_of c) ≡ length b
same_size b c valid v = (valid_has (record_of c) (chip_valid c v)).long ∙ sym (valid_has b valid).long

unchanged : {refused : Type 0} {before after : List ℕ} → after ≡ before → Keeps refused before after
unchanged e = record { size = ap length e; kept = λ r. e }

step_keeps : (b : List ℕ) (sample : ℕ) → Keeps (StepRefused b sample) b (step_bytes b sample)
unfolding step_returns step_bytes
step_keeps b sample = by (record_valid b) (ltb 15 sample) refl refl
  where
    by : (valid above : Bool) → record_valid b ≡ valid → ltb 15 sample ≡ above
        → Keeps (StepRefused b sample) b (step_bytes b sample)
    by false above e f = unchanged (rw e)
    by true true e f = unchanged (rw (e, f))
    by true false e f =
        let code : step_returns b sample ≡ answer_code (stepped (chip_of b) sample).answer = rw (e, f) in
        let bytes : step_bytes b sample ≡ record_of (stepped (chip_of b) sample).chip = rw (e, f) in
        let low = answer_low (chip_of b) sample f in
        record {
          size = ap length bytes ∙ same_size b _ e (stepped_valid (chip_of b) sample (valid_chip b e));
          kept = ⊎_elim (λ n. absurd (low _ (omega arith) (omega arith) (sym code ∙ n))) (λ n. absurd (low _ (omega arith) (omega arith) (sym code ∙ n)));
        }

advance_keeps : (b : List ℕ) (n : ℕ) → Keeps (advance_returns b ≡ 28) b (advance_bytes b n)
unfolding advance_returns advance_bytes
advance_keeps b n = by (record_valid b) refl
  where
    by : (valid : Bool) → record_valid b ≡ valid → Keeps (advance_returns b ≡ 28) b (advance_bytes b n)
    by false e = unchanged (rw e)
    by true e =
        let code : advance_returns b ≡ 0 = rw e in
        let bytes : advance_bytes b n ≡ record_of (advanced n (chip_of b)) = rw e in
        record {
          size = ap length bytes ∙ same_size b _ e (advanced_valid n (chip_of b) (valid_chip b e));
          kept = λ r. let no : ⊥ = omega (arith, code, r) in absurd no;
        }

-- the highest number of pins that show is 23
pins_keep : (b out : List ℕ) → Keeps (PinsRefused b out) out (pins_bytes b out)
unfolding pins_bytes
pins_keep b out = by (record_valid b) (ltb (length out) 32) refl refl
  where
    by : (valid short : Bool) → record_valid b ≡ valid → ltb (length out) 32 ≡ short
        → Keeps (PinsRefused b out) out (pins_bytes b out)
    by false short e f = unchanged (rw e)
    by true true e f = unchanged (rw (e, f))
    by true false e f =
        let told = pins_sheet.calls b out e (ltb-false (length out) 32 f) in
        let line = (fits_has b (valid_has b e).frame).data_low in
        let few : pins_returns b out ≤ 23 =
        omega (arith, told.returned, line, bit_number_small (irq_is_low b), bit_number_small (sounds b && tone_is_high b), bit_number_small (sounds b && not (tone_is_high b))) in
        record {
          size = told.size;
          kept = ⊎_elim (λ n. let no : ⊥ = omega (arith, few, n) in absurd no) (λ n. let no : ⊥ = omega (arith, few, n) in absurd no);
        }

pub left_sheet : LeftSheet
left_sheet =
    record {
      write = write_leaves;
      read = read_leaves;
      commands = commands_leave;
      decode = decode_leaves;
      power_on = power_on_leaves;
      step = step_keeps;
      advance = advance_keeps;
      pins = pins_keep;
    }
